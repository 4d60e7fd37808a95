use Rattle.redis_model.specs.StripesLaws.{touched_has_stripe}
use Rattle.redis_model.proofs.laws.touched_keys_have_their_stripes.Goals as goal

pub returns : goal.returns
returns c = touched_has_stripe
