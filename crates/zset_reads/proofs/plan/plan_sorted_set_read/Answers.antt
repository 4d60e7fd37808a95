use Rattle.std.proofs.Common.{rules, w64}
use Rattle.std.specs.Prelude.{FitsSigned}
use Rattle.std.proofs.lemmas.Int.{to_z-of_z}
use Rattle.zset_reads.specs.ReadPlanLaws.{z_score_carries, z_card_carries, z_count_carries, z_rank_carries, z_rev_rank_carries, z_range_carries, z_rev_range_carries, z_range_by_score_carries}
use Rattle.zset_reads.proofs.Planned.{planned_read}
use Rattle.zset_reads.proofs.plan.plan_sorted_set_read.Goals as goal

pub returns-in-ZScore-clause-plan : goal.returns-in-ZScore-clause-plan
returns-in-ZScore-clause-plan g c = planned_read _ _ _ c.args.moment _ _ c.in-ZScore.is c.requires.within c.z_score.ensures.plan (λ within rows fresh. z_score_carries rows c.args.moment fresh _ _ _)

pub returns-in-ZCard-clause-plan : goal.returns-in-ZCard-clause-plan
returns-in-ZCard-clause-plan g c = planned_read _ _ _ c.args.moment _ _ c.in-ZCard.is c.requires.within c.z_card.ensures.plan (λ within rows fresh. z_card_carries rows c.args.moment fresh _ _)

pub returns-in-ZCount-clause-plan : goal.returns-in-ZCount-clause-plan
returns-in-ZCount-clause-plan g c = planned_read _ _ _ c.args.moment _ _ c.in-ZCount.is c.requires.within c.z_count.ensures.plan (λ within rows fresh. z_count_carries rows c.args.moment fresh _ _ _ _ within.fields.0 within.fields.1)

pub returns-in-ZRank-clause-plan : goal.returns-in-ZRank-clause-plan
returns-in-ZRank-clause-plan g c = planned_read _ _ _ c.args.moment _ _ c.in-ZRank.is c.requires.within c.z_rank.ensures.plan (λ within rows fresh. z_rank_carries rows c.args.moment fresh _ _ _)

pub returns-in-ZRevRank-clause-plan : goal.returns-in-ZRevRank-clause-plan
returns-in-ZRevRank-clause-plan g c = planned_read _ _ _ c.args.moment _ _ c.in-ZRevRank.is c.requires.within c.z_rank-in-ZRevRank.ensures.plan (λ within rows fresh. z_rev_rank_carries rows c.args.moment fresh _ _ _)

pub returns-in-ZRange-clause-plan : goal.returns-in-ZRange-clause-plan
returns-in-ZRange-clause-plan g c =
    let fits : FitsSigned w64 c.in-ZRange.first = search rules in
    let ends : FitsSigned w64 c.in-ZRange.last = search rules in
    planned_read _ _ _ c.args.moment _ _ c.in-ZRange.is c.requires.within (simp to_z-of_z at c.z_range.ensures.plan) (λ within rows fresh. z_range_carries rows c.args.moment fresh _ _ _ _ _)

pub returns-in-ZRevRange-clause-plan : goal.returns-in-ZRevRange-clause-plan
returns-in-ZRevRange-clause-plan g c =
    let fits : FitsSigned w64 c.in-ZRevRange.first = search rules in
    let ends : FitsSigned w64 c.in-ZRevRange.last = search rules in
    planned_read _ _ _ c.args.moment _ _ c.in-ZRevRange.is c.requires.within (simp to_z-of_z at c.z_rev_range.ensures.plan) (λ within rows fresh. z_rev_range_carries rows c.args.moment fresh _ _ _ _ _)

pub returns-in-ZRangeByScore-clause-plan : goal.returns-in-ZRangeByScore-clause-plan
returns-in-ZRangeByScore-clause-plan g c = planned_read _ _ _ c.args.moment _ _ c.in-ZRangeByScore.is c.requires.within c.z_range_by_score.ensures.plan (λ within rows fresh. z_range_by_score_carries rows c.args.moment fresh _ _ _ _ _ _ within.fields.0 within.fields.1)
