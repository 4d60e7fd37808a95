use Rattle.core_events.specs.PinningLaws.{read_stands}
use Rattle.core_events.proofs.laws.readings_are_right.Goals as goal

pub returns : goal.returns
returns c = read_stands
