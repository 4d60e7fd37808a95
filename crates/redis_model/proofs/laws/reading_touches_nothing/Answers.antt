use Rattle.redis_model.specs.TouchedLaws.{reading_touches_nothing}
use Rattle.redis_model.proofs.laws.reading_touches_nothing.Goals as goal

pub returns : goal.returns
returns c = reading_touches_nothing
