use Rattle.std.proofs.Common.{rules, subst, w64}
use Rattle.std.proofs.lemmas.Int.{to_z-of_z}
use Rattle.std.specs.Prelude.{FitsSigned}
use Rattle.redis_model.specs.Limits.{IsWithin}
use Rattle.zset_plans.specs.ScorePlanLaws.{plans_command}
use Rattle.zset_cmds.specs.CommandLaws.{z_add_changes, z_incr_by_changes, z_pop_max_changes, z_pop_min_changes, z_rem_changes, z_rem_range_by_rank_changes, z_rem_range_by_score_changes}
use Rattle.zset_cmds.proofs.plan.plan_zset.Goals as goal

pub returns-in-ZAdd-clause-plan : goal.returns-in-ZAdd-clause-plan
returns-in-ZAdd-clause-plan g c =
    plans_command c.z_add.result (g.V.RawView.told c.args.view.now).rows c.args.moment c.args.version c.args.command.now _ _ _ c.in-ZAdd.is
    (z_add_changes c.args.moment _ _ _ _ _ (subst IsWithin c.in-ZAdd.is c.requires.within)) (rw (c.as_slice.ensures, c.as_slice-in-ZAdd.ensures) at c.z_add.ensures.plan)

pub returns-in-ZIncrBy-clause-plan : goal.returns-in-ZIncrBy-clause-plan
returns-in-ZIncrBy-clause-plan g c =
    let fits : FitsSigned w64 c.in-ZIncrBy.score = search rules in
    plans_command c.z_incr_by.result (g.V.RawView.told c.args.view.now).rows c.args.moment c.args.version c.args.command.now _ _ _ c.in-ZIncrBy.is
    (z_incr_by_changes c.args.moment _ _ _ _ (subst IsWithin c.in-ZIncrBy.is c.requires.within)) (simp to_z-of_z at c.z_incr_by.ensures.plan)

pub returns-in-ZRem-clause-plan : goal.returns-in-ZRem-clause-plan
returns-in-ZRem-clause-plan g c =
    plans_command c.z_rem.result (g.V.RawView.told c.args.view.now).rows c.args.moment c.args.version c.args.command.now _ _ _ c.in-ZRem.is
    (z_rem_changes c.args.moment _ _ _ (subst IsWithin c.in-ZRem.is c.requires.within)) (rw c.as_slice-in-ZRem.ensures at c.z_rem.ensures.plan)

pub returns-in-ZRemRangeByRank-clause-plan : goal.returns-in-ZRemRangeByRank-clause-plan
returns-in-ZRemRangeByRank-clause-plan g c =
    let first : FitsSigned w64 c.in-ZRemRangeByRank.first = search rules in
    let last : FitsSigned w64 c.in-ZRemRangeByRank.last = search rules in
    plans_command c.z_take.result (g.V.RawView.told c.args.view.now).rows c.args.moment c.args.version c.args.command.now _ _ _ c.in-ZRemRangeByRank.is
    (z_rem_range_by_rank_changes c.args.moment _ _ _ _ (subst IsWithin c.in-ZRemRangeByRank.is c.requires.within)) (simp to_z-of_z at c.z_take.ensures.plan)

pub returns-in-ZRemRangeByScore-clause-plan : goal.returns-in-ZRemRangeByScore-clause-plan
returns-in-ZRemRangeByScore-clause-plan g c =
    plans_command c.z_take-in-ZRemRangeByScore.result (g.V.RawView.told c.args.view.now).rows c.args.moment c.args.version c.args.command.now _ _ _ c.in-ZRemRangeByScore.is
    (z_rem_range_by_score_changes c.args.moment _ _ _ _ (subst IsWithin c.in-ZRemRangeByScore.is c.requires.within)) c.z_take-in-ZRemRangeByScore.ensures.plan

pub returns-in-ZPopMin-clause-plan : goal.returns-in-ZPopMin-clause-plan
returns-in-ZPopMin-clause-plan g c =
    plans_command c.z_take-in-ZPopMin.result (g.V.RawView.told c.args.view.now).rows c.args.moment c.args.version c.args.command.now _ _ _ c.in-ZPopMin.is
    (z_pop_min_changes c.args.moment _ _ _ (subst IsWithin c.in-ZPopMin.is c.requires.within)) (rw c.how_many.ensures at c.z_take-in-ZPopMin.ensures.plan)

pub returns-in-ZPopMax-clause-plan : goal.returns-in-ZPopMax-clause-plan
returns-in-ZPopMax-clause-plan g c =
    plans_command c.z_take-in-ZPopMax.result (g.V.RawView.told c.args.view.now).rows c.args.moment c.args.version c.args.command.now _ _ _ c.in-ZPopMax.is
    (z_pop_max_changes c.args.moment _ _ _ (subst IsWithin c.in-ZPopMax.is c.requires.within)) (rw c.how_many-in-ZPopMax.ensures at c.z_take-in-ZPopMax.ensures.plan)
