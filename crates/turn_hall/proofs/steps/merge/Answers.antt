use Rattle.turn_hall.specs.Places.{by_of}
use Rattle.turn_hall.proofs.Calls.{merges_at}
use Rattle.turn_hall.proofs.steps.merge.Goals as goal

pub load-requires : goal.load-requires
load-requires c = (c.requires.table.0, c.requires.table.1, merges_at by_of _ _ _ _ c.requires.two)
