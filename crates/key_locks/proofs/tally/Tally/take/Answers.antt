use Rattle.std.proofs.Common.{◌∙◌}
use Rattle.key_locks.proofs.Places.{own_row}
use Rattle.key_locks.proofs.tally.Tally.take.Goals as goal

pub of-requires : goal.of-requires
of-requires c = own_row _ _ _ _ c.split_all.ensures.shares (c.split_all.ensures.table ∙ c.self.invariant.table) c.self.invariant.sixteen
