use Rattle.key_locks.proofs.Steps.{compares}
use Rattle.key_locks.proofs.ledger.compare.Goals as goal

pub load-requires : goal.load-requires
load-requires c = (c.requires.0, c.requires.1, compares _ _ _)
