use Rattle.std.specs.Prelude.{◌≡◌, ◌++◌, length}
use Rattle.zset_changes.specs.ScoreTables.{scorings_of, tracks_in}
use Rattle.zset_changes.proofs.table.ScoreTable.into_scorings.Given as goal

-- the scorings so far, and those of the tracks that are left
abbrev pub invariant-loop-member : goal.invariant-loop-member
invariant-loop-member l = l.scorings.items ++ scorings_of l.tracks.entries ≡ scorings_of (tracks_in l.fn.self)

abbrev pub decreases-loop-member : goal.decreases-loop-member
decreases-loop-member l = length l.tracks.entries
