-- Rows of scorings, as a loop over them meets them.
use Rattle.std.specs.Prelude.{◌≡◌, ℕ, ◌+◌, if◌then◌else◌, List}
use Rattle.kv_base.specs.Map.{Bytes}
use Rattle.life_changes.specs.declared.change.LifeChange.{LifeChange}
use Rattle.zset_plans.specs.declared.scoring.Scoring.{Scoring}
use Rattle.zset_plans.specs.Scorings.{is_coming, is_going, coming, going, with_scoring, scored_rows}
use Rattle.zset_changes.specs.declared.rows.ScoringRows.{ScoringRows}

-- One scoring more.
pub record TakesScoring (k : Bytes) (version : ℕ) (s : Scoring) (old new : ScoringRows) : Type 0 where
  pub rows : new.rows ≡ with_scoring k version old.rows s
  pub added : new.added ≡ old.added + (if is_coming s then 1 else 0)
  pub removed : new.removed ≡ old.removed + (if is_going s then 1 else 0)

-- These scorings so far.
pub record AreScored (k : Bytes) (version : ℕ) (ss : List Scoring) (now : ScoringRows) : Type 0 where
  pub rows : now.rows ≡ scored_rows k version ss
  pub added : now.added ≡ coming ss
  pub removed : now.removed ≡ going ss
