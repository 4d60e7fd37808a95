use Rattle.turn_hall.specs.Places.{by_of}
use Rattle.turn_hall.proofs.Calls.{hands_out_at}
use Rattle.turn_hall.proofs.steps.hand_out.Goals as goal

pub split_seat-requires : goal.split_seat-requires
split_seat-requires c = (c.requires.table.0, c.requires.table.1, hands_out_at by_of _ _ c.requires.pass c.requires.free)
