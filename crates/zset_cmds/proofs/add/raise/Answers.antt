use Rattle.std.proofs.Common.{refl, rules, w64}
use Rattle.std.proofs.lemmas.Int.{to_z-of_z}
use Rattle.std.specs.Prelude.{FitsSigned}
use Rattle.zset_cmds.specs.ScoreLaws.{raises_found}
use Rattle.zset_cmds.proofs.add.raise.Goals as goal

pub returns-clause-plan : goal.returns-clause-plan
returns-clause-plan g c =
    let fits : FitsSigned w64 c.args.score = search rules in
    raises_found (g.V.RawView.told c.args.view.now).rows (g.V.RawView.told c.args.view.now).rows c.args.key.now c.args.found c.args.when c.args.member.now c.args.score c.in_ok-before.before c.in_ok-plan.plan refl
    (rw c.bytes.ensures at c.in_ok-before.ensures.score) (simp to_z-of_z at c.in_ok-plan.ensures)
