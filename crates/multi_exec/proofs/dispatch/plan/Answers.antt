use Rattle.multi_exec.proofs.Planning.{planned_first}
use Rattle.multi_exec.proofs.dispatch.plan.Goals as goal

pub returns-clause-plan : goal.returns-clause-plan
returns-clause-plan g c =
    planned_first c.plan_at.result (g.V.RawView.told c.args.view.now).rows c.args.moment c.args.base c.version-version.result c.args.command.now c.version-version.ensures.version c.plan_at.ensures.plan
