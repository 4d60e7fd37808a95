use Rattle.std.proofs.Common.{◌+◌, ◌≤◌}
use Rattle.std.specs.Prelude.{IfSome, None, ℤ}
use Rattle.kv_base.specs.Map.{Map}
use Rattle.redis_model.specs.SortedSets.{all_set}
use Rattle.lives_model.specs.Views.{ReadsOnly}
use Rattle.zset_changes.specs.SeenScores.{TellsScores}
use Rattle.zset_changes.specs.ScoreTables.{IsScoreTable, TalliesTo, tracks_in}
use Rattle.zset_changes.specs.ScoreTableLaws.{pairs_to}
use Rattle.zset_changes.proofs.add.add_scores.Given as goal

-- the pairs so far are tallied, each of which counts once at most
abbrev pub invariant-loop-at : goal.invariant-loop-at
invariant-loop-at g l = record {
  tallied : IfSome (g.V.RawView.told l.fn.view).rows (λ c. (z : Map ℤ) → TellsScores c l.key l.life z → TalliesTo (all_set l.when z (pairs_to l.scores l.members l.at)) z l.tally);
  table : IsScoreTable (tracks_in l.tally.table);
  few : l.tally.added + l.tally.changed ≤ l.at;
  reads : ReadsOnly (g.V.RawView.told l.fn.view) (g.V.RawView.told l.view) None;
}
