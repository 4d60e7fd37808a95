use Rattle.plan_base.specs.PlannedLaws.{planned}
use Rattle.life_pages.specs.WholeLaws.{s_members_carries}
use Rattle.set_cmds.specs.ReadPlanLaws.{s_card_carries, s_is_member_carries, s_m_is_member_carries}
use Rattle.set_cmds.proofs.plan.plan_set.Goals as goal

pub returns-in-SIsMember-clause-plan : goal.returns-in-SIsMember-clause-plan
returns-in-SIsMember-clause-plan g c = planned _ _ _ c.args.moment c.args.version _ _ c.in-SIsMember.is c.requires.within c.s_is_member.ensures.plan (λ within rows. s_is_member_carries rows c.args.moment c.args.version _ _ _)

pub returns-in-SMIsMember-clause-plan : goal.returns-in-SMIsMember-clause-plan
returns-in-SMIsMember-clause-plan g c =
    planned _ _ _ c.args.moment c.args.version _ _ c.in-SMIsMember.is c.requires.within (rw c.as_slice.ensures at c.s_m_is_member.ensures.plan) (λ within rows. s_m_is_member_carries rows c.args.moment c.args.version _ _ _)

pub returns-in-SCard-clause-plan : goal.returns-in-SCard-clause-plan
returns-in-SCard-clause-plan g c = planned _ _ _ c.args.moment c.args.version _ _ c.in-SCard.is c.requires.within c.s_card.ensures.plan (λ within rows. s_card_carries rows c.args.moment c.args.version _ _)

pub returns-in-SMembers-clause-plan : goal.returns-in-SMembers-clause-plan
returns-in-SMembers-clause-plan g c = planned _ _ _ c.args.moment c.args.version _ _ c.in-SMembers.is c.requires.within c.whole_plan.ensures.plan (λ within rows. s_members_carries rows c.args.moment c.args.version _ _)
