-- What the rows round the inputs of a compaction have to be, so that what the rules leave can stand in their place.
use Rattle.std.specs.Prelude.{◌≡◌, ◌⊎◌, ℕ, ◌<◌, ◌≤◌, List, IsTrue, IsFalse, IfSome}
use Rattle.std.specs.List.{Contains}
use Rattle.kv_base.specs.Map.{Bytes}
use Rattle.kv_base.specs.RawKeys.{read_raw}
use Rattle.kv_base.specs.declared.row.Row.{Row}
use Rattle.row_model.specs.Rows.{are_upto, AreApart}
use Rattle.lives_model.specs.Rows.{Rows}
use Rattle.lives_model.specs.Clean.{is_current}
use Rattle.filter_laws.specs.Watchers.{Watcher}
use Rattle.filter_laws.specs.Kept.{row_life, is_orphan, has_raw}

-- of each raw key the rows of the first list are newer than those of the second
abbrev pub AreNewer : List Row → List Row → Type 0
AreNewer rows others = (row other : Row) → Contains rows row → Contains others other → row.raw ≡ other.raw → other.seq < row.seq

-- Of each raw key, rows that are no inputs are newer than those that are, or older where deeper levels hold the raw key.
abbrev pub ArePlaced : List Row → List Row → List Row → Type 0
ArePlaced others inputs deeper =
    (other row : Row) → Contains others other → Contains inputs row → other.raw ≡ row.raw
    → (row.seq < other.seq) ⊎ ((other.seq < row.seq) × IsTrue (has_raw row.raw deeper))

-- The watcher of the newest rows is one of those that watch, and no input is above its sequence. No two inputs have raw key
-- and sequence equal.
pub record CanReplace (watch : List Watcher) (now : Watcher) (others inputs deeper : List Row) : Type 0 where
  pub present : Contains watch now
  pub upto : IsTrue (are_upto now.seq inputs)
  pub apart : AreApart inputs
  pub placed : ArePlaced others inputs deeper

-- no unexpired metadata of the key has this version
abbrev pub IsDead : Rows → ℕ → Bytes × ℕ → Type 0
IsDead c t life = IsFalse (is_current c t life.0 life.1)

-- nor will it at any later moment
abbrev pub IsDeadFrom : Rows → ℕ → Bytes × ℕ → Type 0
IsDeadFrom c t life = (later : ℕ) → t ≤ later → IsDead c later life

-- the rows of lives that the rules take away are of dead ones
abbrev pub AreDead : List Watcher → List Row → List Row → Rows → ℕ → Type 0
AreDead watch inputs all c t = (row : Row) → Contains inputs row → IsTrue (is_orphan watch all row) → IfSome (row_life (read_raw row.raw)) (IsDead c t)
