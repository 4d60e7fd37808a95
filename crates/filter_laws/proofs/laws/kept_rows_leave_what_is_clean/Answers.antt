use Rattle.filter_laws.specs.KeptCleanLaws.{kept_is_clean}
use Rattle.filter_laws.proofs.laws.kept_rows_leave_what_is_clean.Goals as goal

pub returns : goal.returns
returns c = kept_is_clean
