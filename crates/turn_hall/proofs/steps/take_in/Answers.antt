use Rattle.turn_hall.specs.Places.{by_of}
use Rattle.turn_hall.proofs.Moves.{joins}
use Rattle.turn_hall.proofs.steps.take_in.Goals as goal

pub join_seat-requires : goal.join_seat-requires
join_seat-requires c = (c.requires.table.0, c.requires.table.1, c.requires.slots, c.requires.table.2, joins by_of _ _ _ _)
