use Rattle.std.proofs.Common.{◌∙◌, ◌++◌, ◌∷◌, [], sym, ap, rules, w64}
use Rattle.std.proofs.lemmas.Int.{to_z-of_z}
use Rattle.std.specs.Prelude.{FitsSigned, Some}
use Rattle.redis_model.specs.Strings.{allowed}
use Rattle.zset_cmds.specs.ScoreLaws.{raises_then}
use Rattle.zset_cmds.proofs.add.raised.Goals as goal

pub returns : goal.returns
returns c =
    let fits : FitsSigned w64 c.args.score = search rules in
    let high : FitsSigned w64 c.score_after-after.result = search rules in
    raises_then c.args.key.now c.args.found c.args.when c.args.member.now c.args.score c.args.before c.score_after-after.result c.as_slice-2.result.now _ c.scoring_plan-2.result
    (ap (allowed c.args.when) (sym c.is_some.ensures) ∙ sym c.if-not-allowed.ensures) (simp to_z-of_z at c.score_after-after.ensures) (sym (simp to_z-of_z at c.if-not-is_score.ensures)) c.requires.member
    (c.as_slice-2.ensures.value ∙ (simp to_z-of_z at c.in_ok-push.ensures.items)
    ∙ (λ i. c.new-scorings.ensures.items i ++ record { member = c.in_ok-try_copy.ensures i; before = c.args.before; after = Some c.score_after-after.result } ∷ []))
    (simp to_z-of_z at c.in_ok-reply.ensures) c.scoring_plan-2.ensures
