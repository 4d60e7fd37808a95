use Rattle.redis_model.specs.TouchedLaws.{untouched_stays}
use Rattle.redis_model.proofs.laws.untouched_keys_stay.Goals as goal

pub returns : goal.returns
returns c = untouched_stays
