-- Rows for a map of keys: the metadata of each key and, for a collection, the rows of one life.
use Rattle.std.specs.Prelude.{ℕ, ◌+◌, ◌^◌, ◌<◌, ◌≤◌, ◌==◌, if◌then◌else◌, List, [], ◌∷◌, ◌++◌, map, Option, Some, None, option_map, option_and_then, IfSome, All}
use Rattle.std.specs.List.{flat_map}
use Rattle.kv_base.specs.Map.{Bytes, get, keys}
use Rattle.kv_base.specs.Fields.{u64}
use Rattle.kv_base.specs.RawKeys.{RawKey, MetaKey, ElementKey, ScoreKey, score_number, read_raw}
use Rattle.kv_base.specs.MetaValues.{meta_text}
use Rattle.redis_model.specs.Value.{Value, Str, Hash, ListOf, SetOf, ZSet, Entry, RedisMap}
use Rattle.redis_model.specs.Limits.{IsName, IsShort}
use Rattle.redis_model.specs.Valid.{IsValue}
use Rattle.lives_model.specs.Rows.{Rows, Side, Elements, Scores, meta_key, row_key}
use Rattle.lives_model.specs.Means.{LifeAt, HasWholeScores, meta_for, row_of}
use Rattle.plan_laws.specs.Tabulated.{tabulated}

-- ---- what a user can have

-- the fields, members and elements of a collection are within their limits
abbrev pub HasShortParts : Value → Type 0
HasShortParts (Str v) = Unit {0}
HasShortParts (Hash h) = (field : Bytes) → IfSome (get h field) (λ v. IsName field × IsShort v)
HasShortParts (ListOf l) = All IsShort l
HasShortParts (SetOf s) = (member : Bytes) → IfSome (get s member) (λ _. IsName member)
HasShortParts (ZSet z) = (member : Bytes) → IfSome (get z member) (λ _. IsName member)

-- a key and its entry are within the limits on requests and values, and it has not expired
pub record IsKeptAt (t : ℕ) (k : Bytes) (e : Entry) : Type 0 where
  pub key : IsName k
  pub value : IsValue e.value
  pub parts : HasShortParts e.value
  pub scores : HasWholeScores e.value
  pub deadline : IfSome e.deadline (λ d. (t < d) × (d ≤ 2 ^ 62))

-- a map of keys that a user can have at a moment
pub record CanBeKept (m : RedisMap) (t : ℕ) : Type 0 where
  pub entries : (k : Bytes) → IfSome (get m k) (IsKeptAt t k)

-- ---- what stands at a raw key

-- the first version that there is, and the index from which a new list starts
abbrev pub first_life : LifeAt
first_life = record { version = 2048; head = 2 ^ 63 }

-- a deadline in metadata, where 0 stands for none
abbrev pub expire_from : Option ℕ → ℕ
expire_from None = 0
expire_from (Some deadline) = deadline

abbrev pub meta_row : Entry → Bytes
meta_row e = meta_text (meta_for e.value first_life (expire_from e.deadline))

-- the row of a key's first life under a subkey
abbrev pub life_row : RedisMap → Bytes → ℕ → Side → Bytes → Option Bytes
life_row m k version side subkey = if version == first_life.version then option_and_then (λ e. row_of e.value first_life.head side subkey) (get m k) else None

abbrev pub row_for : RedisMap → Option RawKey → Option Bytes
row_for m None = None
row_for m (Some (MetaKey k)) = option_map meta_row (get m k)
row_for m (Some (ElementKey k version subkey)) = life_row m k version Elements subkey
row_for m (Some (ScoreKey k version score member)) = life_row m k version Scores (u64 (score_number score) ++ member)

-- ---- the raw keys at which something stands

-- the indices of a list, from its first item on
abbrev pub indices : ℕ → List Bytes → List Bytes
indices head [] = []
indices head (v ∷ vs) = u64 head ∷ indices (head + 1) vs

abbrev pub subkeys : Value → Side → List Bytes
subkeys (Hash h) Elements = keys h
subkeys (ListOf l) Elements = indices first_life.head l
subkeys (SetOf s) Elements = keys s
subkeys (ZSet z) Elements = keys z
subkeys (ZSet z) Scores = map (λ e. u64 (score_number e.1) ++ e.0) z.entries
subkeys _ side = []

-- the raw keys of one key
abbrev pub raws_of : Bytes × Entry → List Bytes
raws_of e = meta_key e.0 ∷ (map (row_key Elements e.0 first_life.version) (subkeys e.1.value Elements) ++ map (row_key Scores e.0 first_life.version) (subkeys e.1.value Scores))

-- ---- all rows

unfoldable pub rows_for : RedisMap → Rows
rows_for m = tabulated (λ raw. row_for m (read_raw raw)) (flat_map raws_of m.entries)
