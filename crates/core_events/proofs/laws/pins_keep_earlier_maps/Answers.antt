use Rattle.core_events.specs.PinningLaws.{pin_stands, unpin_stands, look_stands, refuse_stands}
use Rattle.core_events.proofs.laws.pins_keep_earlier_maps.Goals as goal

pub returns-clause-pin : goal.returns-clause-pin
returns-clause-pin c = pin_stands

pub returns-clause-unpin : goal.returns-clause-unpin
returns-clause-unpin c = unpin_stands

pub returns-clause-look : goal.returns-clause-look
returns-clause-look c = look_stands

pub returns-clause-refused : goal.returns-clause-refused
returns-clause-refused c = refuse_stands
