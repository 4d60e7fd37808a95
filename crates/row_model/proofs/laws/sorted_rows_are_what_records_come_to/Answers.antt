use Rattle.row_model.specs.ReplayLaws.{sorted_replayed}
use Rattle.row_model.proofs.laws.sorted_rows_are_what_records_come_to.Goals as goal

pub returns : goal.returns
returns c = sorted_replayed
