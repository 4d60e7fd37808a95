use Rattle.std.proofs.Common.{refl}
use Rattle.zset_cmds.specs.PlannedLaws.{plans_then, refused_then}
use Rattle.zset_cmds.proofs.take.z_take.Goals as goal

pub returns-in-Err-clause-plan : goal.returns-in-Err-clause-plan
returns-in-Err-clause-plan g c = refused_then (g.V.RawView.told c.args.view.now).rows c.args.moment c.args.key.now c.args.fresh c.in_ok-found.field-0 _ c.in-Err.plan c.in_ok-found.ensures.found c.in-Err.is

pub returns-clause-plan : goal.returns-clause-plan
returns-clause-plan g c =
    plans_then (g.V.RawView.told c.args.view.now).rows (g.V.RawView.told c.find_scores.new.view).rows c.args.moment c.args.key.now c.args.fresh c.in_ok-found.field-0 c.in-Ok.found _ _ c.in_ok-plan.plan
    c.in_ok-found.ensures.reads.rows c.in_ok-found.ensures.found c.in-Ok.is c.in_ok-plan.ensures.plan (λ z. refl)
