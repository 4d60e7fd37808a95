use Rattle.filter_laws.specs.FilteredLaws.{dead_with_same_rows, dead_with_pin, dead_with_fewer_pins}
use Rattle.filter_laws.proofs.laws.other_events_keep_the_dead_dead.Goals as goal

pub returns-clause-rows : goal.returns-clause-rows
returns-clause-rows c = dead_with_same_rows

pub returns-clause-pin : goal.returns-clause-pin
returns-clause-pin c = dead_with_pin

pub returns-clause-unpin : goal.returns-clause-unpin
returns-clause-unpin c = dead_with_fewer_pins
