use Rattle.core_events.specs.FlushingLaws.{fail_stands}
use Rattle.core_events.proofs.laws.failed_calls_change_nothing.Goals as goal

pub returns : goal.returns
returns c = fail_stands
