use Rattle.batch_codec.specs.BatchLaws.{get-joined}
use Rattle.batch_codec.proofs.laws.later_batches_win.Goals as goal

pub returns : goal.returns
returns c = λ batch later raw. get-joined batch later raw
