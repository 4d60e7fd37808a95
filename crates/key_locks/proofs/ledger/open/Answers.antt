use Rattle.key_locks.proofs.Steps.{opens}
use Rattle.key_locks.proofs.ledger.open.Goals as goal

pub of_words-requires : goal.of_words-requires
of_words-requires c = opens
