-- What becomes of one row, by notes on it: so that a compaction can look at one row at a time.
use Rattle.std.specs.Prelude.{◌≡◌, ℕ, ◌<◌, ◌≤◌, nat_lt, nat_le, Bool, true, false, not, ◌&&◌, ◌||◌, if◌then◌else◌, List, map, Option, Some, None, option_and_then, is_none}
use Rattle.std.specs.List.{list_any, list_all, Contains}
use Rattle.kv_base.specs.Map.{Bytes, same}
use Rattle.kv_base.specs.RawKeys.{RawKey, read_raw}
use Rattle.kv_base.specs.declared.row.Row.{Row}
use Rattle.row_model.specs.Rows.{at}
use Rattle.lives_model.specs.RowKeys.{key_of}
use Rattle.kv_base.specs.MetaValues.{version_of}
use Rattle.lives_model.specs.Clean.{live_at, is_version_of}
use Rattle.filter_laws.specs.Watchers.{Watcher}
use Rattle.filter_laws.specs.declared.verdict.Verdict.{Verdict}
use Rattle.filter_laws.specs.declared.verdict.Verdict.TheVariants.{Keep, Bury, Drop}
use Rattle.filter_laws.specs.Kept.{has_expired, buried, row_life, has_raw}

-- The sequence of the next newer row of its raw key among the inputs; for each watcher the version that its key has; and
-- whether deeper levels hold a row of its raw key.
pub record Notes : Type 0 where
  pub newer : Option ℕ
  pub lives : List (Option ℕ)
  pub deeper : Bool

-- ---- the verdict

-- a sequence is below that of the next newer row, if there is one
abbrev pub is_before_next : ℕ → Option ℕ → Bool
is_before_next s None = true
is_before_next s (Some n) = nat_lt s n

-- a watcher sees the row that is not above its sequence, where the next newer one is
abbrev pub shows : Row → Option ℕ → Watcher → Bool
shows row newer w = nat_le row.seq w.seq && is_before_next w.seq newer

-- some watcher sees the row
abbrev pub is_shown : Row → List Watcher → Option ℕ → Bool
is_shown row watch newer = list_any (shows row newer) watch

-- it puts metadata that is expired for each watcher that sees it
abbrev pub has_ended : Row → List Watcher → Option ℕ → Bool
has_ended row watch newer = list_all (λ w. not (shows row newer w) || has_expired w.moment row) watch

-- it is a row of a life that the key has for no watcher
abbrev pub has_no_life : List (Option ℕ) → Option (Bytes × ℕ) → Bool
has_no_life lives None = false
has_no_life lives (Some life) = not (list_any (λ version. is_version_of version life.1) lives)

-- it is a delete, or becomes one
abbrev pub is_delete : Row → List Watcher → Option ℕ → Bool
is_delete row watch newer = is_none row.value || has_ended row watch newer

-- it is taken away
abbrev pub goes : Row → List Watcher → Notes → Bool
goes row watch notes =
    not (is_shown row watch notes.newer)
    || has_no_life notes.lives (row_life (read_raw row.raw))
    || (is_delete row watch notes.newer && list_all (shows row notes.newer) watch && not notes.deeper)

-- the verdict of a row, by the watchers and the notes on it
unfoldable pub verdict : Row → List Watcher → Notes → Verdict
verdict row watch notes = if goes row watch notes then Drop else if has_ended row watch notes.newer then Bury else Keep

-- what is left of a row by its verdict
abbrev pub after_verdict : Verdict → Row → Option Row
after_verdict Keep row = Some row
after_verdict Bury row = Some (buried row)
after_verdict Drop row = None

-- ---- true notes

-- this is the sequence of the next newer row of the row's raw key, and there is none where it is none
abbrev pub IsNextNewer : List Row → Row → Option ℕ → Type 0
IsNextNewer inputs row None = (other : Row) → Contains inputs other → other.raw ≡ row.raw → other.seq ≤ row.seq
IsNextNewer inputs row (Some n) =
    (row.seq < n) × ((other : Row) × Contains inputs other × (other.raw ≡ row.raw) × (other.seq ≡ n))
    × ((other : Row) → Contains inputs other → other.raw ≡ row.raw → row.seq < other.seq → n ≤ other.seq)

-- in inputs in order, what is noted on a row behind another
abbrev pub newer_note : Row → Row → Option ℕ
newer_note before row = if same before.raw row.raw then Some before.seq else None

-- the version of the metadata that a watcher finds unexpired at a raw key's key
abbrev pub version_seen : List Row → Option RawKey → Watcher → Option ℕ
version_seen all None w = None
version_seen all (Some raw) w = option_and_then version_of (live_at (at all w.seq) w.moment (key_of raw))

-- The notes on a row say what is so.
pub record AreTrue (watch : List Watcher) (inputs deeper all : List Row) (row : Row) (notes : Notes) : Type 0 where
  pub next : IsNextNewer inputs row notes.newer
  pub versions : notes.lives ≡ map (version_seen all (read_raw row.raw)) watch
  pub deep : notes.deeper ≡ has_raw row.raw deeper
