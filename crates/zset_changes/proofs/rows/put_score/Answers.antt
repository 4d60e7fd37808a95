use Rattle.zset_changes.proofs.Values.{score_value_fits}
use Rattle.zset_changes.proofs.rows.put_score.Goals as goal

pub put-requires : goal.put-requires
put-requires c =
    score_value_fits c.args.key.now c.args.version c.args.member.now c.in_ok-raw.raw c.in_ok-score_value-in-Some.field-0 _ c.requires.key c.requires.version c.requires.member
    c.in_ok-raw.ensures.bytes c.in_ok-score_value-in-Some.ensures
