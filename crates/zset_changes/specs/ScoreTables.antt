-- What became of the scores of members so far.
use Rattle.std.specs.Prelude.{ℕ, ◌≡◌, ◌+◌, Bool, not, ◌&&◌, if◌then◌else◌, List, [], ◌∷◌, map, Option, Some, None, is_some, IfSome, ℤ}
use Rattle.std.specs.BTreeMap.{is_at, insert_entry}
use Rattle.std.specs.List.Sorted.{IsStrictlySortedBy}
use Rattle.std.specs.Map.{lookup, keys_of}
use Rattle.kv_base.specs.Map.{Bytes, Map, byte_cmp, get, keep}
use Rattle.redis_model.specs.declared.command.When.{When}
use Rattle.redis_model.specs.Limits.{IsName, IsWholeScore}
use Rattle.redis_model.specs.Strings.{allowed}
use Rattle.redis_model.specs.Keys.{among}
use Rattle.redis_model.specs.SortedSets.{Scored, ZaddTally, all_set}
use Rattle.lives_model.specs.Rows.{Rows}
use Rattle.plan_base.specs.declared.life.LifeSight.{LifeSight}
use Rattle.zset_plans.specs.declared.scoring.Scoring.{Scoring}
use Rattle.zset_plans.specs.Scorings.{all_rescored, AreScorings, same_score}
use Rattle.zset_changes.specs.declared.table.Track.{Track}
use Rattle.zset_changes.specs.declared.table.ScoreTable.{ScoreTable}
use Rattle.zset_changes.specs.declared.add.Tally.{Tally}
use Rattle.zset_changes.specs.declared.add.ScoresAdded.{ScoresAdded}
use Rattle.zset_changes.specs.SeenScores.{member_score}

-- ---- members that can have rows

-- the member is short, and its scores are in their range
pub record CanStand (s : Scoring) : Type 0 where
  pub name : IsName s.member
  pub before : IfSome s.before IsWholeScore
  pub after : IfSome s.after IsWholeScore

abbrev pub AllStand : List Scoring → Type 0
AllStand [] = Unit {0}
AllStand (s ∷ ss) = CanStand s × AllStand ss

-- ---- tracks

-- a member that a command came to, with its score before, and its score so far
abbrev pub Tracked : Type 0
Tracked = Bytes × Track

abbrev pub tracks_in : ScoreTable → List Tracked
tracks_in table = table.tracks.entries

-- the scorings that they are
abbrev pub scoring_of : Tracked → Scoring
scoring_of e = record { member = e.0; before = e.1.before; after = e.1.now }

abbrev pub scorings_of : List Tracked → List Scoring
scorings_of es = map scoring_of es

-- Each member is there once, in order, and can have rows.
pub record IsScoreTable (es : List Tracked) : Type 0 where
  pub ordered : IsStrictlySortedBy byte_cmp (keys_of es)
  pub stand : AllStand (scorings_of es)

-- the track of a member
abbrev pub track_of : List Tracked → Bytes → Option Track
track_of es x = lookup (is_at (byte_cmp x)) es

-- its score so far, which is this one where the command did not come to it
abbrev pub score_now : Option Track → Option ℤ → Option ℤ
score_now None score = score
score_now (Some track) score = track.now

-- the members had these scores
abbrev pub AreBefore : Map ℤ → List Tracked → Type 0
AreBefore z [] = Unit {0}
AreBefore z (e ∷ es) = (e.1.before ≡ get z e.0) × AreBefore z es

-- The tracks lead from one sorted set to another one.
pub record Leads (z now : Map ℤ) (es : List Tracked) : Type 0 where
  pub before : AreBefore z es
  pub scores : (x : Bytes) → get now x ≡ score_now (track_of es x) (get z x)

-- the track of a member, which begins with the score in the life that is found
abbrev pub track_or : Option Track → Option ℤ → Track
track_or None score = record { before = score; now = score }
track_or (Some track) score = track

abbrev pub track_in : Rows → Bytes → Option LifeSight → List Tracked → Bytes → Track
track_in c k found es x = track_or (track_of es x) (member_score c k found x)

-- ---- ZADD

-- it sets a score where the options allow it and the score is another one
abbrev pub sets_score : When → Option ℤ → ℤ → Bool
sets_score w now score = allowed w (is_some now) && not (same_score now (Some score))

-- One pair more.
pub record AddsScore (w : When) (x : Bytes) (score : ℤ) (track : Track) (old new : Tally) : Type 0 where
  pub tracks : tracks_in new.table ≡ (if sets_score w track.now score then insert_entry byte_cmp (tracks_in old.table) x (record { before = track.before; now = Some score }) else tracks_in old.table)
  pub added : new.added ≡ old.added + (if sets_score w track.now score && not (is_some track.now) then 1 else 0)
  pub changed : new.changed ≡ old.changed + (if sets_score w track.now score && is_some track.now then 1 else 0)

-- The pairs so far come to this.
pub record TalliesTo (n : ZaddTally) (z : Map ℤ) (tally : Tally) : Type 0 where
  pub leads : Leads z n.scores (tracks_in tally.table)
  pub added : tally.added ≡ n.added
  pub changed : tally.changed ≡ n.changed

-- What all pairs come to.
pub record SetsScores (w : When) (z : Map ℤ) (pairs : List Scored) (set : ScoresAdded) : Type 0 where
  pub are : AreScorings z set.scorings.items
  pub leave : all_rescored z set.scorings.items ≡ (all_set w z pairs).scores
  pub added : set.added ≡ (all_set w z pairs).added
  pub changed : set.changed ≡ (all_set w z pairs).changed

-- ---- ZREM

-- a sorted set without these members
abbrev pub rest_of : Map ℤ → List Bytes → Map ℤ
rest_of z xs = keep (λ x _. not (among xs x)) z

-- one member more, which goes where it is there
abbrev pub TakesMember : Bytes → Track → List Tracked → List Tracked → Type 0
TakesMember x track old new = new ≡ (if is_some track.now then insert_entry byte_cmp old x (record { before = track.before; now = None }) else old)

-- These scorings leave it.
pub record Removes (z : Map ℤ) (xs : List Bytes) (ss : List Scoring) : Type 0 where
  pub are : AreScorings z ss
  pub leave : all_rescored z ss ≡ rest_of z xs
