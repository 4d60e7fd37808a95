use Rattle.std.proofs.Common.{refl, rules, w64}
use Rattle.std.proofs.lemmas.Int.{to_z-of_z}
use Rattle.std.specs.Prelude.{FitsSigned}
use Rattle.zset_cmds.specs.ScoreLaws.{adds_all}
use Rattle.zset_cmds.proofs.add.add_all.Goals as goal

pub returns-clause-plan : goal.returns-clause-plan
returns-clause-plan g c =
    let fits : FitsSigned w64 c.counted-count.result = search rules in
    adds_all (g.V.RawView.told c.args.view.now).rows (g.V.RawView.told c.args.view.now).rows c.args.key.now c.args.found c.args.how.when _ c.args.how.changed c.in_ok-set.set _ c.in_ok-plan.plan refl
    c.in_ok-set.ensures.sets c.counted-count.ensures (simp to_z-of_z at (rw c.as_slice.ensures.value at c.in_ok-plan.ensures))
