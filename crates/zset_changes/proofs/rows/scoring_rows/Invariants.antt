use Rattle.std.proofs.Common.{◌+◌, ◌≤◌, take}
use Rattle.zset_changes.specs.ScoreRows.{AreScored}
use Rattle.zset_changes.proofs.rows.scoring_rows.Given as goal

-- the scorings so far, each of which counts once at most
abbrev pub invariant-loop-scoring : goal.invariant-loop-scoring
invariant-loop-scoring l = record {
  scored : AreScored l.key l.version (take l.scoring-index l.scorings) l.now;
  few : l.now.added + l.now.removed ≤ l.scoring-index;
}
