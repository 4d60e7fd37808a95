use Rattle.redis_model.specs.TouchedLaws.{touched_is_distinct}
use Rattle.redis_model.proofs.laws.touched_keys_stand_once.Goals as goal

pub returns : goal.returns
returns c = touched_is_distinct
