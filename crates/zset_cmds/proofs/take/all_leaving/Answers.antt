use Rattle.zset_cmds.proofs.Leaving.{leaving_next, stand_next}
use Rattle.zset_cmds.proofs.take.all_leaving.Goals as goal

pub loop-rank-preserved : goal.loop-rank-preserved
loop-rank-preserved c = record {
  scorings = leaving_next c.args.ranks.now c.loop-rank.rank-index c.rank-item.result c.in_ok-scoring.scoring _ _ c.loop-rank-test.true c.rank-item.is c.loop-rank.invariant.scorings c.in_ok-scoring.ensures.leaving c.in_ok-push.ensures.items;
  stand = stand_next c.in_ok-scoring.scoring _ _ c.loop-rank.invariant.stand c.in_ok-scoring.ensures.stands c.in_ok-push.ensures.items;
}
