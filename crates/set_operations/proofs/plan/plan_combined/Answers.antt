use Rattle.plan_base.specs.PlannedLaws.{planned}
use Rattle.set_operations.specs.CombinedLaws.{s_inter_carries, s_union_carries, s_diff_carries}
use Rattle.set_operations.proofs.plan.plan_combined.Goals as goal

pub returns-in-SInter-clause-plan : goal.returns-in-SInter-clause-plan
returns-in-SInter-clause-plan g c = planned _ _ _ c.args.moment c.args.version _ _ c.in-SInter.is c.requires.within (rw c.as_slice.ensures at c.combine.ensures.plan) (λ within rows. s_inter_carries rows c.args.moment c.args.version _ _)

pub returns-in-SUnion-clause-plan : goal.returns-in-SUnion-clause-plan
returns-in-SUnion-clause-plan g c = planned _ _ _ c.args.moment c.args.version _ _ c.in-SUnion.is c.requires.within (rw c.as_slice-in-SUnion.ensures at c.combine-in-SUnion.ensures.plan) (λ within rows. s_union_carries rows c.args.moment c.args.version _ _)

pub returns-in-SDiff-clause-plan : goal.returns-in-SDiff-clause-plan
returns-in-SDiff-clause-plan g c = planned _ _ _ c.args.moment c.args.version _ _ c.in-SDiff.is c.requires.within (rw c.as_slice-in-SDiff.ensures at c.combine-in-SDiff.ensures.plan) (λ within rows. s_diff_carries rows c.args.moment c.args.version _ _)
