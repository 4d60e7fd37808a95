use Rattle.row_model.specs.RowOrderLaws.{same_merged}
use Rattle.row_model.proofs.laws.rows_put_among_others_are_there.Goals as goal

pub returns : goal.returns
returns c = λ rows more. same_merged rows more
