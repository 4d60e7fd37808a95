use Rattle.lives_model.specs.IssuedRowLaws.{committed_rows_issued, merged_issued}
use Rattle.lives_model.proofs.laws.plans_write_issued_rows.Goals as goal

pub returns-clause-written : goal.returns-clause-written
returns-clause-written c = committed_rows_issued

pub returns-clause-kept : goal.returns-clause-kept
returns-clause-kept c = merged_issued
