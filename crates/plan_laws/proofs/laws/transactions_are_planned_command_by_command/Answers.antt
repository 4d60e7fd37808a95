use Rattle.plan_laws.specs.TransactionLaws.{begun_none, begun_then, begun_is_planned}
use Rattle.plan_laws.proofs.laws.transactions_are_planned_command_by_command.Goals as goal

pub returns-clause-none : goal.returns-clause-none
returns-clause-none c = begun_none

pub returns-clause-next : goal.returns-clause-next
returns-clause-next c = begun_then

pub returns-clause-all : goal.returns-clause-all
returns-clause-all c = begun_is_planned
