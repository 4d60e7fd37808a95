use Rattle.turn_hall.specs.Places.{by_of}
use Rattle.turn_hall.proofs.Calls.{catches_up_at}
use Rattle.turn_hall.proofs.steps.catch_up.Goals as goal

pub load-requires : goal.load-requires
load-requires c = (c.requires.table.0, c.requires.table.1, catches_up_at by_of _ _ _ _ c.requires.both)
