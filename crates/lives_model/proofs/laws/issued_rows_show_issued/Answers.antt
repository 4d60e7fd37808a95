use Rattle.lives_model.specs.IssuedRowLaws.{shown_is_issued}
use Rattle.lives_model.proofs.laws.issued_rows_show_issued.Goals as goal

pub returns : goal.returns
returns c = shown_is_issued
