use Rattle.plan_base.specs.PlannedLaws.{planned}
use Rattle.life_pages.specs.WholeLaws.{h_get_all_carries, h_keys_carries, h_vals_carries}
use Rattle.hash_cmds.specs.ReadPlanLaws.{h_get_carries, h_m_get_carries, h_len_carries, h_exists_carries, h_str_len_carries}
use Rattle.hash_cmds.proofs.plan.plan_hash.Goals as goal

pub returns-in-HGet-clause-plan : goal.returns-in-HGet-clause-plan
returns-in-HGet-clause-plan g c = planned _ _ _ c.args.moment c.args.version _ _ c.in-HGet.is c.requires.within c.h_get.ensures.plan (λ within rows. h_get_carries rows c.args.moment c.args.version _ _ _)

pub returns-in-HMGet-clause-plan : goal.returns-in-HMGet-clause-plan
returns-in-HMGet-clause-plan g c = planned _ _ _ c.args.moment c.args.version _ _ c.in-HMGet.is c.requires.within (rw c.as_slice.ensures at c.h_m_get.ensures.plan) (λ within rows. h_m_get_carries rows c.args.moment c.args.version _ _ _)

pub returns-in-HLen-clause-plan : goal.returns-in-HLen-clause-plan
returns-in-HLen-clause-plan g c = planned _ _ _ c.args.moment c.args.version _ _ c.in-HLen.is c.requires.within c.h_len.ensures.plan (λ within rows. h_len_carries rows c.args.moment c.args.version _ _)

pub returns-in-HExists-clause-plan : goal.returns-in-HExists-clause-plan
returns-in-HExists-clause-plan g c = planned _ _ _ c.args.moment c.args.version _ _ c.in-HExists.is c.requires.within c.h_exists.ensures.plan (λ within rows. h_exists_carries rows c.args.moment c.args.version _ _ _)

pub returns-in-HStrLen-clause-plan : goal.returns-in-HStrLen-clause-plan
returns-in-HStrLen-clause-plan g c = planned _ _ _ c.args.moment c.args.version _ _ c.in-HStrLen.is c.requires.within c.h_str_len.ensures.plan (λ within rows. h_str_len_carries rows c.args.moment c.args.version _ _ _)

pub returns-in-HGetAll-clause-plan : goal.returns-in-HGetAll-clause-plan
returns-in-HGetAll-clause-plan g c = planned _ _ _ c.args.moment c.args.version _ _ c.in-HGetAll.is c.requires.within c.whole_plan.ensures.plan (λ within rows. h_get_all_carries rows c.args.moment c.args.version _ _)

pub returns-in-HKeys-clause-plan : goal.returns-in-HKeys-clause-plan
returns-in-HKeys-clause-plan g c = planned _ _ _ c.args.moment c.args.version _ _ c.in-HKeys.is c.requires.within c.whole_plan-in-HKeys.ensures.plan (λ within rows. h_keys_carries rows c.args.moment c.args.version _ _)

pub returns-in-HVals-clause-plan : goal.returns-in-HVals-clause-plan
returns-in-HVals-clause-plan g c = planned _ _ _ c.args.moment c.args.version _ _ c.in-HVals.is c.requires.within c.whole_plan-in-HVals.ensures.plan (λ within rows. h_vals_carries rows c.args.moment c.args.version _ _)
