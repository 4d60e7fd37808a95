-- How the raw key of a row is read, whatever its subkey is.
use Rattle.std.proofs.Common.{◌≡◌, ℕ, ◌<◌, ◌^◌, refl, ap, ◌∙◌, true, cond, length, arith}
use Rattle.std.proofs.lemmas.Bool.{and_from}
use Rattle.std.proofs.lemmas.Bool.Decides.{nat_tests}
use Rattle.std.specs.Prelude.{◌&&◌, if◌then◌else◌, Option, Some, None, IsTrue, option_map, option_and_then}
use Rattle.kv_base.specs.Map.{Bytes, kept}
use Rattle.kv_base.specs.Number.{fits}
use Rattle.kv_base.specs.Fields.{read_u64}
use Rattle.kv_base.specs.RawKeys.{RawKey, MetaKey, ElementKey, ScoreKey, is_key, is_version, is_raw_within, raw_text, element_of, score_of, score_from, raw_parts, read_raw}
use Rattle.kv_base.specs.RawKeyLaws.{life_is_read}
use Rattle.lives_model.specs.Rows.{Elements, Scores, meta_key, row_key}

-- a key's length fits four bytes
short_key : (key : Bytes) → is_key key ≡ true → length key < 2 ^ 32
short_key key h = grind (arith, nat_tests)

-- and a version eight
low_version : (version : ℕ) → is_version version ≡ true → version < 2 ^ 64
low_version version h = grind (arith, nat_tests)

-- the place of metadata
pub meta_key_by : (k : Bytes) → read_raw (meta_key k) ≡ (if is_key k then Some (MetaKey k) else None)
unfolding meta_key raw_text read_raw raw_parts is_raw_within
meta_key_by k = refl

-- a row among the elements
pub element_key_by : (k : Bytes) (version : ℕ) (subkey : Bytes) → IsTrue (is_key k) → IsTrue (is_version version)
    → read_raw (row_key Elements k version subkey) ≡ (if is_key subkey then Some (ElementKey k version subkey) else None)
unfolding row_key read_raw raw_parts is_raw_within
element_key_by k version subkey key low =
    ap (λ l. kept is_raw_within (option_map element_of l)) (life_is_read k version subkey (short_key k key) (low_version version low))
    ∙ ap (λ b. cond (b && is_key subkey) (Some (ElementKey k version subkey)) None) (and_from (is_key k) (is_version version) key low)

-- a member and its score behind a life
abbrev pub score_at : Bytes → ℕ → ℕ × Bytes → Option RawKey
score_at k version part = if fits (score_from part.0) && is_key part.1 then Some (ScoreKey k version (score_from part.0) part.1) else None

-- what is behind the life decides
score_key_at : (k : Bytes) (version : ℕ) (o : Option (ℕ × Bytes)) → (is_key k && is_version version) ≡ true
    → kept is_raw_within (option_map (λ number. ScoreKey k version (score_from number.0) number.1) o) ≡ option_and_then (score_at k version) o
unfolding is_raw_within
score_key_at k version None life = refl
score_key_at k version (Some part) life = ap (λ b. cond (b && fits (score_from part.0) && is_key part.1) (Some (ScoreKey k version (score_from part.0) part.1)) None) life

-- a row among the scores
pub score_key_by : (k : Bytes) (version : ℕ) (subkey : Bytes) → IsTrue (is_key k) → IsTrue (is_version version)
    → read_raw (row_key Scores k version subkey) ≡ option_and_then (score_at k version) (read_u64 subkey)
unfolding row_key read_raw raw_parts
score_key_by k version subkey key low =
    ap (λ l. kept is_raw_within (option_and_then score_of l)) (life_is_read k version subkey (short_key k key) (low_version version low))
    ∙ score_key_at k version (read_u64 subkey) (and_from (is_key k) (is_version version) key low)
