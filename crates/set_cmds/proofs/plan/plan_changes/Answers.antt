use Rattle.plan_base.specs.PlannedLaws.{planned}
use Rattle.set_cmds.specs.MembersPlanLaws.{s_add_carries, s_rem_carries}
use Rattle.set_cmds.specs.MovePlanLaws.{s_move_carries}
use Rattle.set_cmds.proofs.plan.plan_changes.Goals as goal

pub returns-in-SAdd-clause-plan : goal.returns-in-SAdd-clause-plan
returns-in-SAdd-clause-plan g c = planned _ _ _ c.args.moment c.args.version _ _ c.in-SAdd.is c.requires.within (rw c.as_slice.ensures at c.s_add.ensures.plan) (λ within rows. s_add_carries rows c.args.moment c.args.version _ _ _ within)

pub returns-in-SRem-clause-plan : goal.returns-in-SRem-clause-plan
returns-in-SRem-clause-plan g c = planned _ _ _ c.args.moment c.args.version _ _ c.in-SRem.is c.requires.within (rw c.as_slice-in-SRem.ensures at c.s_rem.ensures.plan) (λ within rows. s_rem_carries rows c.args.moment c.args.version _ _ _ within)

pub returns-in-SMove-clause-plan : goal.returns-in-SMove-clause-plan
returns-in-SMove-clause-plan g c = planned _ _ _ c.args.moment c.args.version _ _ c.in-SMove.is c.requires.within c.s_move.ensures.plan (λ within rows. s_move_carries rows c.args.moment c.args.version _ _ _ _ within)
