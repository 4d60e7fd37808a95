use Rattle.key_locality.specs.FoldLocal.{fold_elsewhere}
use Rattle.key_locality.proofs.laws.transactions_leave_other_keys.Goals as goal

pub returns : goal.returns
returns c = λ m t cs k other. fold_elsewhere cs m t k other
