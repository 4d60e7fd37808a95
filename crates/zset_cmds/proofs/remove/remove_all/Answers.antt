use Rattle.std.proofs.Common.{refl}
use Rattle.zset_cmds.specs.ScoreLaws.{removes_all}
use Rattle.zset_cmds.proofs.remove.remove_all.Goals as goal

pub returns-clause-plan : goal.returns-clause-plan
returns-clause-plan g c =
    removes_all (g.V.RawView.told c.args.view.now).rows (g.V.RawView.told c.args.view.now).rows c.args.key.now c.args.found c.args.members.now _ c.in_ok-plan.plan refl
    c.in_ok-scorings.ensures.removes (rw c.as_slice.ensures.value at c.in_ok-plan.ensures)
