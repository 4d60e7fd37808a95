use Rattle.key_locks.proofs.Steps.{joins}
use Rattle.key_locks.proofs.ledger.take_in.Goals as goal

pub join_seat-requires : goal.join_seat-requires
join_seat-requires c = (c.requires.table.0, c.requires.table.1, c.requires.slots, c.requires.table.2, joins _ _ _ _)
