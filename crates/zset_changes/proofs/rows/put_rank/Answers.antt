use Rattle.std.proofs.Common.{◌∙◌, rules, w64, subst}
use Rattle.std.proofs.lemmas.Int.{to_z-of_z}
use Rattle.std.specs.Prelude.{FitsSigned, IfSome, Option, ℤ}
use Rattle.redis_model.specs.Limits.{IsWholeScore}
use Rattle.zset_changes.proofs.Values.{rank_fits}
use Rattle.zset_changes.proofs.rows.put_rank.Goals as goal

pub put-requires : goal.put-requires
put-requires c =
    let fits : FitsSigned w64 c.in-Some.score = search rules in
    rank_fits c.args.key.now c.args.version c.in-Some.score c.args.member.now c.in_ok-raw.raw c.from_vec.result c.requires.key c.requires.version
    (subst (λ (o : Option ℤ). IfSome o IsWholeScore) c.in-Some.is c.requires.score)
    c.requires.member (simp to_z-of_z at c.in_ok-raw.ensures.bytes) (c.from_vec.ensures ∙ c.new.ensures.items)
