use Rattle.turn_hall.specs.Places.{by_of}
use Rattle.turn_hall.proofs.Moves.{splits_first}
use Rattle.turn_hall.proofs.steps.split_first.Goals as goal

pub split_seat-requires : goal.split_seat-requires
split_seat-requires c = (c.requires.0, c.requires.1, splits_first by_of _ _)
