use Rattle.redis_model.specs.StripesLaws.{same_stripes}
use Rattle.redis_model.proofs.laws.sets_of_the_same_stripes_are_equal.Goals as goal

pub returns : goal.returns
returns c = same_stripes
