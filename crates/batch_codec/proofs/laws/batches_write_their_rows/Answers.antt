use Rattle.batch_codec.specs.BatchLaws.{get-after}
use Rattle.batch_codec.proofs.laws.batches_write_their_rows.Goals as goal

pub returns : goal.returns
returns c = λ rows batch raw. get-after rows batch raw
