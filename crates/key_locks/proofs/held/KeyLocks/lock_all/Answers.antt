use Rattle.std.proofs.Common.{◌∙◌}
use Rattle.key_locks.proofs.Rows.{is_below}
use Rattle.key_locks.proofs.held.KeyLocks.lock_all.Goals as goal

pub returns : goal.returns
returns g c = λ k lt. c.lock.ensures k lt ∙ (c.all.ensures k ∙ is_below k 16 lt)
