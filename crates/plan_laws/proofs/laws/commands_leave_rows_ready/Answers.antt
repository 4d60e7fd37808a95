use Rattle.plan_laws.specs.TransactionLaws.{first_ready, rest_ready}
use Rattle.plan_laws.proofs.laws.commands_leave_rows_ready.Goals as goal

pub returns-clause-first : goal.returns-clause-first
returns-clause-first c = first_ready

pub returns-clause-others : goal.returns-clause-others
returns-clause-others c = rest_ready
