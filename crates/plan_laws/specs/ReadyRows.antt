-- The rows for a map are as a plan needs them: its lists have room at both ends, and each later version is free.
use Rattle.std.proofs.Common.{◌≡◌, ℕ, ◌<◌, ◌≤◌, ◌^◌, refl, sym, ap, subst, ◌∙◌, Bool, true, false, cond, arith}
use Rattle.std.proofs.lemmas.Bool.Decides.{nat_tests}
use Rattle.std.specs.Prelude.{◌==◌, ◌&&◌, Option, Some, None, option_and_then, IfSome, IsTrue}
use Rattle.std.specs.List.{flat_map}
use Rattle.kv_base.specs.Map.{Bytes, get}
use Rattle.kv_base.specs.Number.{fits}
use Rattle.kv_base.specs.Fields.{read_u64}
use Rattle.kv_base.specs.RawKeys.{ElementKey, ScoreKey, is_key, is_version, score_from, read_raw}
use Rattle.redis_model.specs.Value.{Value, Str, Hash, ListOf, SetOf, ZSet, Entry, RedisMap}
use Rattle.redis_model.specs.Keys.{among}
use Rattle.redis_model.specs.declared.command.Cmds.{Cmds}
use Rattle.redis_model.specs.Valid.{IsValue}
use Rattle.lives_model.specs.Rows.{Side, Elements, Scores, row_key}
use Rattle.lives_model.specs.Clean.{live_at}
use Rattle.lives_model.specs.Means.{meta_for, row_of}
use Rattle.lives_model.specs.Plans.{HasRoom, IsFresh, IsReady, AreAsked, words_in}
use Rattle.lives_model.specs.AskedKeyLaws.{asked_keys}
use Rattle.lives_model.specs.IssuedLaws.{asked_words}
use Rattle.plan_laws.specs.RowsFor.{IsKeptAt, CanBeKept, first_life, expire_from, life_row, row_for, raws_of, rows_for}
use Rattle.plan_laws.specs.RawKeysRead.{element_key_by, score_at, score_key_by}
use Rattle.plan_laws.specs.EveryMap.{row_at, live_is, live_none}

-- ---- lists

-- a list of any size that starts in the middle has room at both ends
value_room : (n : ℕ) (v : Value) (x : ℕ) → n ≤ 2 ^ 20 → IsValue v → HasRoom n (Some (meta_for v first_life x))
value_room n (Str v) x low h = tt
value_room n (Hash v) x low h = tt
value_room n (ListOf v) x low h = let few = h.1 in (omega arith, omega arith)
value_room n (SetOf v) x low h = tt
value_room n (ZSet v) x low h = tt

-- so has each list of a map
key_room : (m : RedisMap) (t n : ℕ) (k : Bytes) (o : Option Entry) → n ≤ 2 ^ 20 → get m k ≡ o → IfSome o (IsKeptAt t k) → HasRoom n (live_at (rows_for m) t k)
key_room m t n k None low none fit = subst (HasRoom n) (sym (live_none m t k none)) tt
key_room m t n k (Some e) low is fit = subst (HasRoom n) (sym (live_is m t k e is fit)) (value_room n e.value (expire_from e.deadline) low fit.value)

-- ---- versions

module _ (m : RedisMap) (k : Bytes) (version : ℕ) (later : first_life.version < version) where
  -- a later version has no row
  no_row : (side : Side) (subkey : Bytes) → life_row m k version side subkey ≡ None
  no_row side subkey = ap (λ b. cond b (option_and_then (λ (e : Entry). row_of e.value first_life.head side subkey) (get m k)) None) other
    where
      other : (version == first_life.version) ≡ false
      other = grind (arith, nat_tests)

  -- not among the elements
  no_element : (subkey : Bytes) (b : Bool) → row_for m (cond b (Some (ElementKey k version subkey)) None) ≡ None
  no_element subkey true = no_row Elements subkey
  no_element subkey false = refl

  -- nor among the scores
  no_score_at : (part : ℕ × Bytes) (b : Bool) → row_for m (cond b (Some (ScoreKey k version (score_from part.0) part.1)) None) ≡ None
  no_score_at part true = no_row Scores _
  no_score_at part false = refl

  -- whatever is read there
  no_score : (o : Option (ℕ × Bytes)) → row_for m (option_and_then (score_at k version) o) ≡ None
  no_score None = refl
  no_score (Some part) = no_score_at part (fits (score_from part.0) && is_key part.1)

  -- so nothing is meant to stand at its raw keys
  none_read : (side : Side) (subkey : Bytes) → IsTrue (is_key k) → IsTrue (is_version version) → row_for m (read_raw (row_key side k version subkey)) ≡ None
  none_read Elements subkey key low = ap (row_for m) (element_key_by k version subkey key low) ∙ no_element subkey (is_key subkey)
  none_read Scores subkey key low = ap (row_for m) (score_key_by k version subkey key low) ∙ no_score (read_u64 subkey)

-- and nothing stands there
either_none : (b : Bool) (o : Option Bytes) → o ≡ None → cond b o None ≡ None
either_none true o e = e
either_none false o e = refl

-- a version above the first one is free
version_free : (m : RedisMap) (fresh : ℕ) (k : Bytes) → first_life.version < fresh → IsTrue (is_key k) → IsFresh (rows_for m) fresh k
version_free m fresh k above key side version subkey high low =
    let later : first_life.version < version = omega arith in
    row_at m (row_key side k version subkey)
    ∙ either_none (among (flat_map raws_of m.entries) (row_key side k version subkey)) (row_for m (read_raw (row_key side k version subkey))) (none_read m k version later side subkey key low)

-- so a plan can be asked of them, of any commands
pub rows_for_ready : (m : RedisMap) (t fresh : ℕ) (ds : Cmds) → CanBeKept m t → AreAsked ds → first_life.version < fresh → IsTrue (is_version fresh) → IsReady (rows_for m) t fresh ds
rows_for_ready m t fresh ds can asked above low = record {
  fits = low;
  room = λ k named. key_room m t (words_in ds) k (get m k) (asked_words ds asked) refl (can.entries k);
  above = λ k named. version_free m fresh k above (asked_keys ds k asked named);
}
