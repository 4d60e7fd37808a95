use Rattle.key_locality.specs.FoldLocal.{fold_replies, fold_agrees}
use Rattle.key_locality.proofs.laws.transactions_stay_right_until_a_deadline.Goals as goal

pub returns-clause-reply : goal.returns-clause-reply
returns-clause-reply c = fold_replies

pub returns-clause-keys : goal.returns-clause-keys
returns-clause-keys c = fold_agrees
