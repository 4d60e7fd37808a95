use Rattle.key_locks.proofs.Steps.{splits}
use Rattle.key_locks.proofs.ledger.split_first.Goals as goal

pub split_seat-requires : goal.split_seat-requires
split_seat-requires c = (c.requires.0, c.requires.1, splits _ _)
