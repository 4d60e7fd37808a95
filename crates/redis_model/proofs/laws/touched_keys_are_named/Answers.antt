use Rattle.redis_model.specs.TouchedLaws.{touched_is_named}
use Rattle.redis_model.proofs.laws.touched_keys_are_named.Goals as goal

pub returns : goal.returns
returns c = touched_is_named
