-- What holds of an open compaction between any two events: the rows that it takes away are dead, for whoever watches and for
-- the newest rows from its moment on, until it is installed.
use Rattle.std.specs.Prelude.{◌⊎◌, ℕ, ◌<◌, ◌≤◌, List, [], ◌∷◌, ◌++◌, IsTrue, IfSome}
use Rattle.std.specs.List.{Contains}
use Rattle.kv_base.specs.declared.row.Row.{Row}
use Rattle.kv_base.specs.RawKeys.{read_raw}
use Rattle.redis_model.specs.declared.command.Cmds.{Cmds}
use Rattle.redis_model.specs.Keys.{among}
use Rattle.row_model.specs.Rows.{at, are_upto, AreApart, HaveSameRows}
use Rattle.lives_model.specs.Plans.{version, keys_in}
use Rattle.filter_laws.specs.Watchers.{Watcher, IsWatched}
use Rattle.filter_laws.specs.Kept as rules
use Rattle.filter_laws.specs.Kept.{row_life}
use Rattle.filter_laws.specs.Replaced.{ArePlaced, AreDead}

-- a compaction: who watched at its beginning, of these the watcher of the newest rows, its inputs, and all rows then
pub record Filtering : Type 0 where
  pub watch : List Watcher
  pub now : Watcher
  pub inputs : List Row
  pub all : List Row

-- one that begins now, with all pins and the newest rows as watchers
abbrev pub begun : List Row → ℕ → ℕ → List Watcher → List Row → Filtering
begun rows last floor pins inputs = record {
  watch = pins ++ record { seq = last; moment = floor } ∷ [];
  now = record { seq = last; moment = floor };
  inputs = inputs;
  all = rows;
}

-- The newest rows are watched, and no input is above their sequence. Each pin was there at the beginning, or is later.
pub record IsWatching (last : ℕ) (pins : List Watcher) (job : Filtering) : Type 0 where
  pub present : Contains job.watch job.now
  pub upto : IsTrue (are_upto job.now.seq job.inputs)
  pub written : (v : Watcher) → Contains job.watch v → v.seq ≤ last
  pub pinned : (v : Watcher) → Contains pins v → v.seq ≤ last
  pub watched : (v : Watcher) → Contains pins v → IsWatched job.watch job.now v

-- The lives whose rows it takes away are dead for each watcher of its beginning and for each pin, and in the newest rows at
-- its moment and every later one.
pub record StaysDead (rows : List Row) (last : ℕ) (pins : List Watcher) (job : Filtering) : Type 0 where
  pub watching : IsWatching last pins job
  pub for_each : (v : Watcher) → Contains job.watch v ⊎ Contains pins v → AreDead job.watch job.inputs job.all (at rows v.seq) v.moment
  pub from_now : (t : ℕ) → job.now.moment ≤ t → AreDead job.watch job.inputs job.all (at rows last) t

-- ---- what events need

-- the versions that inputs have for keys of these commands are below those that a plan on this base gives to new lives
abbrev pub AreIssuedBefore : List Row → Cmds → ℕ → Type 0
AreIssuedBefore inputs ds base = (row : Row) → Contains inputs row → IfSome (row_life (read_raw row.raw)) (λ life. IsTrue (among (keys_in ds) life.0) → life.1 < version base 0)

-- What the rules leave stands in the place of the inputs, and the other rows are as before.
pub record IsPutInPlace (rows new others deeper : List Row) (job : Filtering) : Type 0 where
  pub before : HaveSameRows (others ++ job.inputs) rows
  pub after_ : HaveSameRows (others ++ rules.kept_rows job.watch job.inputs deeper job.all) new
  pub apart : AreApart (others ++ job.inputs)
  pub placed : ArePlaced others job.inputs deeper
