use Rattle.redis_model.specs.MachineLaws.{moments_never_fall}
use Rattle.redis_model.proofs.laws.moments_never_fall.Goals as goal

pub returns : goal.returns
returns c = moments_never_fall
