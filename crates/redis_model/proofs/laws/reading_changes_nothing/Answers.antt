use Rattle.redis_model.specs.ReadingLaws.{reading_keeps}
use Rattle.redis_model.proofs.laws.reading_changes_nothing.Goals as goal

pub returns : goal.returns
returns c = reading_keeps
