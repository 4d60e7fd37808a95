use Rattle.std.proofs.Common.{refl, arith}
use Rattle.zset_changes.proofs.Loops.{scored_none, scored_next, stands_there}
use Rattle.zset_changes.proofs.rows.scoring_rows.Goals as goal

pub loop-scoring-init : goal.loop-scoring-init
loop-scoring-init c = record { scored = scored_none c.args.key.now c.args.version _ c.new.ensures refl refl; few = omega arith }

pub take_scoring-requires-clause-stands : goal.take_scoring-requires-clause-stands
take_scoring-requires-clause-stands c = stands_there c.args.scorings.now c.loop-scoring.scoring-index c.scoring-item.result c.loop-scoring-test.true c.scoring-item.is c.requires.stand

pub loop-scoring-preserved : goal.loop-scoring-preserved
loop-scoring-preserved c =
    let few = c.loop-scoring.invariant.few in
    let one = c.in_ok-take_scoring.ensures.few in
    record {
      scored = scored_next c.args.key.now c.args.version c.args.scorings.now c.loop-scoring.scoring-index c.scoring-item.result c.loop-scoring.now c.take_scoring.new.now c.loop-scoring-test.true c.scoring-item.is c.loop-scoring.invariant.scored c.in_ok-take_scoring.ensures.takes;
      few = omega (arith, few, one);
    }
