use Rattle.key_locks.proofs.Steps.{raises}
use Rattle.key_locks.proofs.ledger.raise.Goals as goal

pub load-requires : goal.load-requires
load-requires c = (c.requires.table.0, c.requires.table.1, raises _ _ _ _ c.requires.pair)
