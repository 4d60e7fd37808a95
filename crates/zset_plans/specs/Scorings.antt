-- What a command makes of the scores of members: the sorted set that it leaves, and the rows that come and go.
use Rattle.std.specs.Prelude.{ℕ, ◌≡◌, Bool, true, false, not, ◌&&◌, if◌then◌else◌, List, [], ◌∷◌, map, fold, count_by, Option, Some, None, option_map, is_some, IfSome, IsTrue, IsFalse, ℤ}
use Rattle.std.specs.Ordering.{int_eq}
use Rattle.kv_base.specs.Map.{Bytes, Map, get, empty, insert, remove}
use Rattle.kv_base.specs.RawKeys.{is_key}
use Rattle.batch_codec.specs.Batches.{Batch}
use Rattle.redis_model.specs.Limits.{IsWholeScore}
use Rattle.redis_model.specs.Keys.{among}
use Rattle.lives_model.specs.Rows.{Elements, Scores, row_key}
use Rattle.lives_model.specs.Means.{score_text}
use Rattle.lives_model.specs.LifeRows.{rank_key}
use Rattle.zset_plans.specs.declared.scoring.Scoring.{Scoring}

-- ---- the sorted set

-- with this score for a member, or without the member
abbrev pub scored_as : Map ℤ → Bytes → Option ℤ → Map ℤ
scored_as z x None = remove z x
scored_as z x (Some score) = insert z x score

abbrev pub rescored : Map ℤ → Scoring → Map ℤ
rescored z s = scored_as z s.member s.after

abbrev pub all_rescored : Map ℤ → List Scoring → Map ℤ
all_rescored z ss = fold rescored z ss

-- a member, with the score that it has in a sorted set, may have the other one there
pub record IsScoring (z : Map ℤ) (s : Scoring) : Type 0 where
  pub before : s.before ≡ get z s.member
  pub key : IsTrue (is_key s.member)
  pub whole : IfSome s.after IsWholeScore

-- members in scorings
abbrev pub scored_members : List Scoring → List Bytes
scored_members ss = map (λ s. s.member) ss

-- so may all of these, and no two of them are of one member
abbrev pub AreScorings : Map ℤ → List Scoring → Type 0
AreScorings z [] = Unit {0}
AreScorings z (s ∷ ss) = IsScoring z s × IsFalse (among (scored_members ss) s.member) × AreScorings z ss

-- ---- how many

-- a member that comes, and one that goes
abbrev pub is_coming : Scoring → Bool
is_coming s = is_some s.after && not (is_some s.before)

abbrev pub is_going : Scoring → Bool
is_going s = not (is_some s.after) && is_some s.before

abbrev pub coming : List Scoring → ℕ
coming ss = count_by is_coming ss

abbrev pub going : List Scoring → ℕ
going ss = count_by is_going ss

-- ---- the rows

-- is it the same score, or none both times?
abbrev pub same_score : Option ℤ → Option ℤ → Bool
same_score None None = true
same_score (Some a) (Some b) = int_eq a b
same_score _ _ = false

-- a batch that has this for the row of a member under a score
abbrev pub with_rank : Bytes → ℕ → Bytes → Option ℤ → Option Bytes → Batch → Batch
with_rank k version x None row b = b
with_rank k version x (Some score) row b = insert b (row_key Scores k version (rank_key (x, score))) row

-- The rows of a member whose score changes: its score, the row under the score that it had, and the one under the score
-- that it is to have.
abbrev pub with_scoring : Bytes → ℕ → Batch → Scoring → Batch
with_scoring k version b s =
    if same_score s.before s.after then b
    else with_rank k version s.member s.after (Some []) (with_rank k version s.member s.before None (insert b (row_key Elements k version s.member) (option_map score_text s.after)))

-- and of all of them
unfoldable pub scored_rows : Bytes → ℕ → List Scoring → Batch
scored_rows k version ss = fold (with_scoring k version) empty ss
