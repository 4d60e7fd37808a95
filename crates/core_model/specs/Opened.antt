-- The beginning: a core as an opening gives it.
use Rattle.std.specs.Prelude.{◌≡◌, ℕ, ◌≤◌, ◌^◌, [], ◌∷◌, None}
use Rattle.redis_model.specs.Desk.{last_sequence}
use Rattle.redis_model.specs.Machine.{start}
use Rattle.redis_model.specs.Places.{Opening}
use Rattle.lives_model.specs.Means.{Means}
use Rattle.core_model.specs.Core.{CoreState, newest_rows}
use Rattle.core_model.specs.Stands.{AreKept}

-- What was recovered: rows in their sources, which mean these keys at the floor. Nothing is open, counted, pinned or to be mended.
pub record IsOpenedCore (core : CoreState) (opening : Opening) : Type 0 where
  pub rows : AreKept core.sources core.last
  pub limit : core.last ≤ last_sequence
  pub early : core.floor ≤ 2 ^ 61
  pub means : Means (newest_rows core) core.floor opening.state.keys
  pub floor : opening.state.floor ≡ core.floor
  pub free : opening.state.pins ≡ []
  pub last : opening.last ≡ core.last
  pub pins : core.pins ≡ []
  pub books : (b : ℕ) → core.books b ≡ 0
  pub flush : core.flush ≡ None
  pub compact : core.compact ≡ None
  pub attempt : core.attempt ≡ None
  pub tried : core.tried ≡ None

-- ---- a new store

-- no rows, and nothing that was done
abbrev pub new_core : CoreState
new_core = record {
  sources = record { memory = []; frozen = None; levels = [] ∷ [] ∷ [] ∷ [] ∷ [] ∷ [] };
  last = 0;
  floor = 0;
  pins = [];
  books = λ b. 0;
  flush = None;
  compact = None;
  attempt = None;
  tried = None;
  log = 1;
  manifest_floor = 0;
  next_run = 1;
}

-- which an opening gives with no keys
abbrev pub new_opening : Opening
new_opening = record { state = start; last = 0 }
