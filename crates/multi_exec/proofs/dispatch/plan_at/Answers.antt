use Rattle.multi_exec.proofs.Planning.{planned_nowhere}
use Rattle.multi_exec.proofs.dispatch.plan_at.Goals as goal

pub returns-then-is_keyless-clause-plan : goal.returns-then-is_keyless-clause-plan
returns-then-is_keyless-clause-plan g c = planned_nowhere (g.V.RawView.told c.args.view.now).rows c.args.moment c.args.version c.args.command.now c.in_ok-plan_no_keys.field-0 c.in_ok-plan_no_keys.ensures
