-- The second relation: which finite map of rows a core keeps, so that a crash may leave other rows than the newest ones, but none
-- that count otherwise.
use Rattle.std.specs.Prelude.{◌≡◌, ℕ, ◌≤◌, ◌<◌, ◌+◌, if◌then◌else◌, is_some, List, [], ◌∷◌, IsTrue, IfSome}
use Rattle.std.specs.List.{Contains}
use Rattle.kv_base.specs.Map.{Bytes}
use Rattle.kv_base.specs.Hash.{stripe}
use Rattle.kv_base.specs.RawKeys.{is_key}
use Rattle.batch_codec.specs.Batches.{after, are_rows}
use Rattle.kv_base.specs.declared.row.Row.{Row}
use Rattle.row_model.specs.Rows.{at, are_row_texts, batch_rows}
use Rattle.redis_model.specs.Desk.{last_sequence}
use Rattle.redis_model.specs.Machine.{State, step}
use Rattle.lives_model.specs.Rows.{Rows, IsOnGrammar}
use Rattle.lives_model.specs.Clean.{clean}
use Rattle.lives_model.specs.Means.{IsSound}
use Rattle.lives_model.specs.Plans.{IsFresh, version}
use Rattle.core_model.specs.Sources.{Sources, rows_in, HasRowAt}
use Rattle.core_model.specs.Places.{sequences_of}
use Rattle.redis_model.specs.declared.history.Place.{Place}
use Rattle.redis_model.specs.Places.{appended_by, Opening}
use Rattle.core_model.specs.Core.{Attempt, TriedEdit, CoreState, newest_rows}
use Rattle.lives_model.specs.Issued.{AreIssued}

-- the moment of the last batch of a history, and this one where there is none
abbrev pub last_written : ℕ → State → List Place → ℕ
last_written f s [] = f
last_written f s (p ∷ ps) = last_written (if is_some (appended_by p.what p.note) then (step s p.what).1.floor else f) (step s p.what).1 ps

-- the moment of the last batch since the opening, and that of the opening where there is none
abbrev pub written_at : Opening → List Place → ℕ
written_at opening seen = last_written opening.state.floor opening.state seen

-- the last of these numbers, and this one where there is none
abbrev pub last_sequence_of : ℕ → List ℕ → ℕ
last_sequence_of q [] = q
last_sequence_of q (n ∷ ns) = last_sequence_of n ns

-- the last batch of a stripe
abbrev pub last_at : Opening → List Place → ℕ → ℕ
last_at opening seen b = last_sequence_of opening.last (sequences_of b seen)

-- The core keeps the map c: at every moment from the manifest's floor on the same counts of it and of the newest rows. It means keys
-- at every moment from the last batch on, and its versions were issued by the last batch of their keys' stripes.
pub record KeepsCore (opening : Opening) (core : CoreState) (seen : List Place) (c : Rows) : Type 0 where
  pub floor : core.manifest_floor ≤ core.floor
  pub grammar : IsOnGrammar c
  pub sound : (t : ℕ) → written_at opening seen ≤ t → IsSound c t
  pub same : (t : ℕ) → core.manifest_floor ≤ t → clean (newest_rows core) t ≡ clean c t
  pub fresh : (k : Bytes) → IsTrue (is_key k) → IsFresh c (version (last_at opening seen (stripe k)) 0) k

-- ---- what waits to be mended

-- A batch that was tried may be there after a crash: then the core would keep the map after it.
pub record KeepsAttempt (opening : Opening) (core : CoreState) (seen : List Place) (c : Rows) (a : Attempt) : Type 0 where
  pub room : core.last < last_sequence
  pub texts : IsTrue (are_rows a.batch.entries)
  pub later : written_at opening seen ≤ a.moment
  pub past : a.moment ≤ core.floor
  pub issued : AreIssued (batch_rows (core.last + 1) a.batch)
  pub sound : (t : ℕ) → a.moment ≤ t → IsSound (after c a.batch) t
  pub same : (t : ℕ) → core.manifest_floor ≤ t → a.moment ≤ t → clean (after (newest_rows core) a.batch) t ≡ clean (after c a.batch) t

-- the sources with an edit carried out
abbrev pub with_edit : Sources → TriedEdit → Sources
with_edit s e = record s { levels = e.levels }

-- all rows with the edit carried out
abbrev pub edited : CoreState → TriedEdit → List Row
edited core e = rows_in (with_edit core.sources e)

-- The edit of a compaction that was tried may be there: each row with it has its place among the rows, and from the edit's floor on
-- the same counts of them as of the map, also behind a batch that was tried.
pub record KeepsTried (core : CoreState) (c : Rows) (e : TriedEdit) : Type 0 where
  pub past : e.floor ≤ core.floor
  pub texts : IsTrue (are_row_texts (edited core e))
  pub issued : AreIssued (edited core e)
  pub placed : (row : Row) → Contains (edited core e) row → HasRowAt (rows_in core.sources) row
  pub same : (t : ℕ) → core.manifest_floor ≤ t → e.floor ≤ t → clean (at (edited core e) core.last) t ≡ clean c t
  pub attempt : IfSome core.attempt (λ a. (t : ℕ) → core.manifest_floor ≤ t → e.floor ≤ t → a.moment ≤ t → clean (after (at (edited core e) core.last) a.batch) t ≡ clean (after c a.batch) t)

-- The core keeps the map, also behind what was tried.
pub record KeepsAll (opening : Opening) (core : CoreState) (seen : List Place) (c : Rows) : Type 0 where
  pub keeps : KeepsCore opening core seen c
  pub attempt : IfSome core.attempt (KeepsAttempt opening core seen c)
  pub tried : IfSome core.tried (KeepsTried core c)
