-- The raw keys under which a store keeps its rows, after the Kvrocks design: the metadata of a key, the elements of one
-- life of a collection, and the members of a sorted set by score.
use Rattle.std.specs.Prelude.{◌≡◌, ℕ, ◌+◌, ◌-◌, ◌^◌, nat_lt, nat_le, Bool, if◌then◌else◌, ◌&&◌, ◌==◌, [], ◌∷◌, ◌++◌, length, Option, Some, None, option_map, option_and_then, is_some, ℤ, pos, negsuc}
use Rattle.kv_base.specs.Map.{Bytes, kept}
use Rattle.kv_base.specs.Number.{fits}
use Rattle.kv_base.specs.Fields.{u64, text, read_u64, read_text}

-- a raw key by its parts: a key; a key, the version of its life and a subkey; a key, a version, a score and a member
pub data RawKey : Type 0 where
  MetaKey : Bytes → RawKey
  ElementKey : Bytes → ℕ → Bytes → RawKey
  ScoreKey : Bytes → ℕ → ℤ → Bytes → RawKey

-- ---- the limits

abbrev pub max_key : ℕ
max_key = 65535

abbrev pub is_key : Bytes → Bool
is_key key = nat_le (length key) max_key

abbrev pub is_version : ℕ → Bool
is_version version = nat_lt version (2 ^ 53)

unfoldable pub is_raw_within : RawKey → Bool
is_raw_within (MetaKey key) = is_key key
is_raw_within (ElementKey key version subkey) = is_key key && is_version version && is_key subkey
is_raw_within (ScoreKey key version score member) = is_key key && is_version version && fits score && is_key member

-- ---- the bytes

-- what is in front of a raw key: its space `m`, `s` or `z`, and the length of a namespace, which is empty
abbrev pub meta_space : ℕ
meta_space = 109

abbrev pub element_space : ℕ
element_space = 115

abbrev pub score_space : ℕ
score_space = 122

-- what the raw keys of one life of a key begin with, in one space
abbrev pub life_prefix : ℕ → Bytes → ℕ → Bytes
life_prefix space key version = space ∷ 0 ∷ (text key ++ u64 version)

-- a score and 2 ^ 63, so that the bytes have the order of the scores
abbrev pub score_number : ℤ → ℕ
score_number (pos n) = 2 ^ 63 + n
score_number (negsuc n) = 2 ^ 63 - (n + 1)

unfoldable pub raw_text : RawKey → Bytes
raw_text (MetaKey key) = meta_space ∷ 0 ∷ key
raw_text (ElementKey key version subkey) = life_prefix element_space key version ++ subkey
raw_text (ScoreKey key version score member) = life_prefix score_space key version ++ (u64 (score_number score) ++ member)

-- ---- back

-- a key, a version, and what is behind them
pub record LifeAndRest : Type 0 where
  pub key : Bytes
  pub version : ℕ
  pub behind : Bytes

abbrev pub version_behind : Bytes × Bytes → Option LifeAndRest
version_behind front = option_map (λ number. record { key = front.0; version = number.0; behind = number.1 }) (read_u64 front.1)

unfoldable pub read_life : Bytes → Option LifeAndRest
read_life bytes = option_and_then version_behind (read_text bytes)

abbrev pub score_from : ℕ → ℤ
score_from n = if nat_le (2 ^ 63) n then pos (n - 2 ^ 63) else negsuc (2 ^ 63 - 1 - n)

abbrev pub element_of : LifeAndRest → RawKey
element_of life = ElementKey life.key life.version life.behind

abbrev pub score_of : LifeAndRest → Option RawKey
score_of life = option_map (λ number. ScoreKey life.key life.version (score_from number.0) number.1) (read_u64 life.behind)

unfoldable pub raw_parts : ℕ → Bytes → Option RawKey
raw_parts space bytes =
    if space == meta_space then Some (MetaKey bytes)
    else if space == element_space then option_map element_of (read_life bytes)
    else if space == score_space then option_and_then score_of (read_life bytes)
    else None

-- the raw key that these bytes are, if they are one
unfoldable pub read_raw : Bytes → Option RawKey
read_raw [] = None
read_raw (space ∷ []) = None
read_raw (space ∷ namespace ∷ bytes) = if namespace == 0 then kept is_raw_within (raw_parts space bytes) else None

abbrev pub is_raw_text : Bytes → Bool
is_raw_text bytes = is_some (read_raw bytes)

-- one of the rows of a life, in its space
abbrev pub IsOfLife : ℕ → Bytes → ℕ → RawKey → Type 0
IsOfLife space key version (MetaKey k) = ⊥
IsOfLife space key version (ElementKey k v subkey) = (space ≡ element_space) × (key ≡ k) × (version ≡ v)
IsOfLife space key version (ScoreKey k v score member) = (space ≡ score_space) × (key ≡ k) × (version ≡ v)
