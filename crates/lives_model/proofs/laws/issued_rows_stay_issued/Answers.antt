use Rattle.lives_model.specs.IssuedRowLaws.{issued_later}
use Rattle.lives_model.proofs.laws.issued_rows_stay_issued.Goals as goal

pub returns : goal.returns
returns c = issued_later
