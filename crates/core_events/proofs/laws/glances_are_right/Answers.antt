use Rattle.core_events.specs.RaisingLaws.{glance_stands}
use Rattle.core_events.proofs.laws.glances_are_right.Goals as goal

pub returns : goal.returns
returns c = glance_stands
