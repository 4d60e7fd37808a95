use Rattle.std.proofs.Common.{rules, w64}
use Rattle.std.specs.Prelude.{FitsSigned}
use Rattle.std.proofs.lemmas.Int.{to_z-of_z}
use Rattle.plan_base.specs.PlannedLaws.{planned}
use Rattle.list_cmds.specs.PushPlanLaws.{l_push_carries, r_push_carries, l_push_x_carries, r_push_x_carries}
use Rattle.list_cmds.specs.PopPlanLaws.{l_pop_carries, r_pop_carries}
use Rattle.list_cmds.specs.SetPlanLaws.{l_set_carries}
use Rattle.list_cmds.specs.TrimPlanLaws.{l_trim_carries}
use Rattle.list_cmds.proofs.plan.plan_changes.Goals as goal

pub returns-in-LPush-clause-plan : goal.returns-in-LPush-clause-plan
returns-in-LPush-clause-plan g c = planned _ _ _ c.args.moment c.args.version _ _ c.in-LPush.is c.requires.within (rw c.as_slice.ensures at c.push.ensures.plan) (λ within rows. l_push_carries rows c.args.moment c.args.version _ _ _ within)

pub returns-in-RPush-clause-plan : goal.returns-in-RPush-clause-plan
returns-in-RPush-clause-plan g c = planned _ _ _ c.args.moment c.args.version _ _ c.in-RPush.is c.requires.within (rw c.as_slice-in-RPush.ensures at c.push-in-RPush.ensures.plan) (λ within rows. r_push_carries rows c.args.moment c.args.version _ _ _ within)

pub returns-in-LPushX-clause-plan : goal.returns-in-LPushX-clause-plan
returns-in-LPushX-clause-plan g c = planned _ _ _ c.args.moment c.args.version _ _ c.in-LPushX.is c.requires.within (rw c.as_slice-in-LPushX.ensures at c.push_x.ensures.plan) (λ within rows. l_push_x_carries rows c.args.moment c.args.version _ _ _ within)

pub returns-in-RPushX-clause-plan : goal.returns-in-RPushX-clause-plan
returns-in-RPushX-clause-plan g c = planned _ _ _ c.args.moment c.args.version _ _ c.in-RPushX.is c.requires.within (rw c.as_slice-in-RPushX.ensures at c.push_x-in-RPushX.ensures.plan) (λ within rows. r_push_x_carries rows c.args.moment c.args.version _ _ _ within)

pub returns-in-LPop-clause-plan : goal.returns-in-LPop-clause-plan
returns-in-LPop-clause-plan g c = planned _ _ _ c.args.moment c.args.version _ _ c.in-LPop.is c.requires.within c.pop.ensures.plan (λ within rows. l_pop_carries rows c.args.moment c.args.version _ _ within)

pub returns-in-RPop-clause-plan : goal.returns-in-RPop-clause-plan
returns-in-RPop-clause-plan g c = planned _ _ _ c.args.moment c.args.version _ _ c.in-RPop.is c.requires.within c.pop-in-RPop.ensures.plan (λ within rows. r_pop_carries rows c.args.moment c.args.version _ _ within)

pub returns-in-LSet-clause-plan : goal.returns-in-LSet-clause-plan
returns-in-LSet-clause-plan g c =
    let fits : FitsSigned w64 c.in-LSet.at = search rules in
    planned _ _ _ c.args.moment c.args.version _ _ c.in-LSet.is c.requires.within (simp to_z-of_z at c.l_set.ensures.plan) (λ within rows. l_set_carries rows c.args.moment c.args.version _ _ _ _ within)

pub returns-in-LTrim-clause-plan : goal.returns-in-LTrim-clause-plan
returns-in-LTrim-clause-plan g c =
    let fits : FitsSigned w64 c.in-LTrim.first = search rules in
    let ends : FitsSigned w64 c.in-LTrim.last = search rules in
    planned _ _ _ c.args.moment c.args.version _ _ c.in-LTrim.is c.requires.within (simp to_z-of_z at c.l_trim.ensures.plan) (λ within rows. l_trim_carries rows c.args.moment c.args.version _ _ _ _ within)
