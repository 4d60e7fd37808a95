use Rattle.std.proofs.Common.{rules, w64}
use Rattle.std.specs.Prelude.{FitsSigned}
use Rattle.std.proofs.lemmas.Int.{to_z-of_z}
use Rattle.plan_base.specs.PlannedLaws.{planned}
use Rattle.hash_cmds.specs.FieldsPlanLaws.{h_set_carries, h_del_carries}
use Rattle.hash_cmds.specs.FieldPlanLaws.{h_set_nx_carries, h_incr_by_carries}
use Rattle.hash_cmds.proofs.plan.plan_changes.Goals as goal

pub returns-in-HSet-clause-plan : goal.returns-in-HSet-clause-plan
returns-in-HSet-clause-plan g c = planned _ _ _ c.args.moment c.args.version _ _ c.in-HSet.is c.requires.within (rw (c.as_slice.ensures, c.as_slice-in-HSet.ensures) at c.h_set.ensures.plan) (λ within rows. h_set_carries rows c.args.moment c.args.version _ _ _ _ within)

pub returns-in-HSetNx-clause-plan : goal.returns-in-HSetNx-clause-plan
returns-in-HSetNx-clause-plan g c = planned _ _ _ c.args.moment c.args.version _ _ c.in-HSetNx.is c.requires.within c.h_set_nx.ensures.plan (λ within rows. h_set_nx_carries rows c.args.moment c.args.version _ _ _ _ within)

pub returns-in-HDel-clause-plan : goal.returns-in-HDel-clause-plan
returns-in-HDel-clause-plan g c = planned _ _ _ c.args.moment c.args.version _ _ c.in-HDel.is c.requires.within (rw c.as_slice-in-HDel.ensures at c.h_del.ensures.plan) (λ within rows. h_del_carries rows c.args.moment c.args.version _ _ _ within)

pub returns-in-HIncrBy-clause-plan : goal.returns-in-HIncrBy-clause-plan
returns-in-HIncrBy-clause-plan g c =
    let fits : FitsSigned w64 c.in-HIncrBy.amount = search rules in
    planned _ _ _ c.args.moment c.args.version _ _ c.in-HIncrBy.is c.requires.within (simp to_z-of_z at c.h_incr_by.ensures.plan) (λ within rows. h_incr_by_carries rows c.args.moment c.args.version _ _ _ _ within)
