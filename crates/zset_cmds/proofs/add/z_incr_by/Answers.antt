use Rattle.std.proofs.Common.{refl, rules, w64}
use Rattle.std.proofs.lemmas.Int.{to_z-of_z}
use Rattle.std.specs.Prelude.{FitsSigned}
use Rattle.zset_cmds.specs.PlannedLaws.{plans_then, refused_then}
use Rattle.zset_cmds.proofs.add.z_incr_by.Goals as goal

pub returns-in-Err-clause-plan : goal.returns-in-Err-clause-plan
returns-in-Err-clause-plan g c = refused_then (g.V.RawView.told c.args.view.now).rows c.args.moment c.args.key.now c.args.fresh c.in_ok-found.field-0 _ c.in-Err.plan c.in_ok-found.ensures.found c.in-Err.is

pub returns-clause-plan : goal.returns-clause-plan
returns-clause-plan g c =
    let fits : FitsSigned w64 c.args.score = search rules in
    plans_then (g.V.RawView.told c.args.view.now).rows (g.V.RawView.told c.find_scores.new.view).rows c.args.moment c.args.key.now c.args.fresh c.in_ok-found.field-0 c.in-Ok.found _ _ c.in_ok-plan.plan
    c.in_ok-found.ensures.reads.rows c.in_ok-found.ensures.found c.in-Ok.is (simp to_z-of_z at c.in_ok-plan.ensures.plan) (λ z. refl)
