use Rattle.std.proofs.Common.{rules, w64}
use Rattle.std.specs.Prelude.{FitsSigned}
use Rattle.std.proofs.lemmas.Int.{to_z-of_z}
use Rattle.plan_base.specs.PlannedLaws.{planned}
use Rattle.list_cmds.specs.ReadPlanLaws.{l_len_carries, l_index_carries, l_range_carries}
use Rattle.list_cmds.proofs.plan.plan_reading.Goals as goal

pub returns-in-LLen-clause-plan : goal.returns-in-LLen-clause-plan
returns-in-LLen-clause-plan g c = planned _ _ _ c.args.moment c.args.version _ _ c.in-LLen.is c.requires.within c.l_len.ensures.plan (λ within rows. l_len_carries rows c.args.moment c.args.version _ _)

pub returns-in-LIndex-clause-plan : goal.returns-in-LIndex-clause-plan
returns-in-LIndex-clause-plan g c =
    let fits : FitsSigned w64 c.in-LIndex.at = search rules in
    planned _ _ _ c.args.moment c.args.version _ _ c.in-LIndex.is c.requires.within (simp to_z-of_z at c.l_index.ensures.plan) (λ within rows. l_index_carries rows c.args.moment c.args.version _ _ _)

pub returns-in-LRange-clause-plan : goal.returns-in-LRange-clause-plan
returns-in-LRange-clause-plan g c =
    let fits : FitsSigned w64 c.in-LRange.first = search rules in
    let ends : FitsSigned w64 c.in-LRange.last = search rules in
    planned _ _ _ c.args.moment c.args.version _ _ c.in-LRange.is c.requires.within (simp to_z-of_z at c.l_range.ensures.plan) (λ within rows. l_range_carries rows c.args.moment c.args.version _ _ _ _)
