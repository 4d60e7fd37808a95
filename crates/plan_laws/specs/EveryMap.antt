-- Every map of keys that a user can have has rows that mean it.
use Rattle.std.proofs.Common.{◌≡◌, ℕ, ◌+◌, ◌-◌, ◌<◌, ◌≤◌, ◌^◌, refl, sym, ap, ◌∙◌, Bool, true, false, cond, ◌&&◌, [], ◌++◌, length, arith}
use Rattle.std.proofs.lemmas.Bool.{or_left, and_from}
use Rattle.std.proofs.lemmas.Bool.Decides.{nat_tests}
use Rattle.std.specs.Prelude.{◌==◌, nat_lt, Option, Some, None, option_map, option_and_then, IfSome}
use Rattle.std.specs.List.{flat_map}
use Rattle.kv_base.specs.Map.{Bytes, same, same_itself, kept, get, size}
use Rattle.kv_base.specs.Number.{fits}
use Rattle.kv_base.specs.Fields.{u64, read_u64}
use Rattle.kv_base.specs.FieldLaws.{length-u64, only_u64_is_read}
use Rattle.kv_base.specs.InversionLaws.{same_some, map_is}
use Rattle.kv_base.specs.RawKeys.{MetaKey, ElementKey, ScoreKey, is_key, is_version, score_number, score_from, read_raw}
use Rattle.kv_base.specs.RawKeyLaws.{score_is_read, score_is_written}
use Rattle.kv_base.specs.MetaValues.{is_deadline, is_size, is_meta_within, is_payload, read_meta}
use Rattle.kv_base.specs.MetaValueLaws.{meta_is_read}
use Rattle.redis_model.specs.Value.{Value, Str, Hash, ListOf, SetOf, ZSet, Entry, RedisMap, lives, max_size}
use Rattle.redis_model.specs.Keys.{among}
use Rattle.redis_model.specs.Limits.{IsName, IsShort, IsWholeScore}
use Rattle.redis_model.specs.Valid.{IsValue}
use Rattle.lives_model.specs.Rows.{Side, Elements, Scores, meta_key, row_key}
use Rattle.lives_model.specs.Clean.{deadline_from, is_live, live_at}
use Rattle.lives_model.specs.Means.{HasWholeScores, Means, MeansAt, meta_for, row_of, item_row, member_row}
use Rattle.lives_model.specs.StepLaws.{expire_for, kept_some}
use Rattle.plan_laws.specs.Tabulated.{get-tabulated}
use Rattle.plan_laws.specs.RowsFor.{HasShortParts, IsKeptAt, CanBeKept, first_life, expire_from, meta_row, life_row, row_for, raws_of, rows_for}
use Rattle.plan_laws.specs.RawKeysRead.{meta_key_by, element_key_by, score_at, score_key_by}
use Rattle.plan_laws.specs.RowsForLaws.{if_some, none_if, name_is_key, whole_fits, in_entries, item_is, member_is, row_among, row_in_raws}

-- ---- what stands at a row's raw key

-- what stands at a raw key
pub row_at : (m : RedisMap) (raw : Bytes) → get (rows_for m) raw ≡ cond (among (flat_map raws_of m.entries) raw) (row_for m (read_raw raw)) None
unfolding rows_for
row_at m raw = get-tabulated (λ raw. row_for m (read_raw raw)) (flat_map raws_of m.entries) raw

-- the raw keys of an entry are among all
entry_among : (m : RedisMap) (k raw : Bytes) (e : Entry) → get m k ≡ Some e → among (raws_of (k, e)) raw ≡ true → among (flat_map raws_of m.entries) raw ≡ true
unfolding get
entry_among m k raw e is h = in_entries raws_of raw k e m.entries is h

-- a number in eight bytes is a short name
index_is_key : (n : ℕ) → is_key (u64 n) ≡ true
index_is_key n = let eight = length-u64 n in grind (arith, nat_tests)

-- no element has a subkey that is too long
long_has_none : (v : Value) (subkey : Bytes) → HasShortParts v → is_key subkey ≡ false → row_of v first_life.head Elements subkey ≡ None
long_has_none (Str v) subkey parts long = refl
long_has_none (Hash h) subkey parts long =
    none_if (get h subkey) (λ v e. let name = name_is_key subkey (if_some (λ v. IsName subkey × IsShort v) (get h subkey) v e (parts subkey)).0 in cc)
long_has_none (ListOf l) subkey parts long =
    none_if (item_row l first_life.head (read_u64 subkey)) (λ v e.
    let item = item_is l first_life.head subkey v e in
    let name : is_key subkey ≡ true = ap is_key item.spelled ∙ index_is_key item.index in cc)
long_has_none (SetOf s) subkey parts long =
    none_if (option_map (λ _. []) (get s subkey)) (λ v e.
    let there = map_is (λ _. []) (get s subkey) v e in
    let name = name_is_key subkey (if_some (λ _. IsName subkey) (get s subkey) there.0 there.1 (parts subkey)) in cc)
long_has_none (ZSet z) subkey parts long =
    none_if (option_map (λ score. u64 (score_number score)) (get z subkey)) (λ v e.
    let there = map_is (λ score. u64 (score_number score)) (get z subkey) v e in
    let name = name_is_key subkey (if_some (λ _. IsName subkey) (get z subkey) there.0 there.1 (parts subkey)) in cc)

-- nothing stands on the side of scores under what begins with no number
no_number_has_none : (v : Value) (subkey : Bytes) → read_u64 subkey ≡ None → row_of v first_life.head Scores subkey ≡ None
no_number_has_none (Str v) subkey e = refl
no_number_has_none (Hash h) subkey e = refl
no_number_has_none (ListOf l) subkey e = refl
no_number_has_none (SetOf s) subkey e = refl
no_number_has_none (ZSet z) subkey e = ap (member_row z) e

-- nor under a score that is too large, or a member that is too long
wide_has_none : (v : Value) (subkey : Bytes) (part : ℕ × Bytes) → HasShortParts v → HasWholeScores v → read_u64 subkey ≡ Some part → (fits (score_from part.0) && is_key part.1) ≡ false
    → row_of v first_life.head Scores subkey ≡ None
wide_has_none (Str v) subkey part parts whole e wide = refl
wide_has_none (Hash h) subkey part parts whole e wide = refl
wide_has_none (ListOf l) subkey part parts whole e wide = refl
wide_has_none (SetOf s) subkey part parts whole e wide = refl
wide_has_none (ZSet z) subkey part parts whole e wide =
    none_if (member_row z (read_u64 subkey)) (λ row h.
    let m = member_is z (read_u64 subkey) row h in
    let same : part ≡ (score_number m.score, m.member) = same_some part (score_number m.score, m.member) (sym e ∙ m.spelled) in
    let low = whole_fits m.score (if_some IsWholeScore (get z m.member) m.score m.has (whole m.member)) in
    let name = name_is_key m.member (if_some (λ _. IsName m.member) (get z m.member) m.score m.has (parts m.member)) in
    let within : (fits (score_from (score_number m.score)) && is_key m.member) ≡ true =
    and_from (fits (score_from (score_number m.score))) (is_key m.member) (ap fits (score_is_read m.score low) ∙ low) name in
    let wide' : (fits (score_from (score_number m.score)) && is_key m.member) ≡ false = ap (λ (p : ℕ × Bytes). fits (score_from p.0) && is_key p.1) (sym same) ∙ wide in
    cc)

module _ (m : RedisMap) (t : ℕ) (k : Bytes) (e : Entry) (is : get m k ≡ Some e) (fit : IsKeptAt t k e) where
  -- its key is short
  short : is_key k ≡ true
  short = name_is_key k fit.key

  -- a row of its life is a row of its value
  first_row : (side : Side) (subkey : Bytes) → life_row m k first_life.version side subkey ≡ row_of e.value first_life.head side subkey
  first_row side subkey = ap (option_and_then (λ (e : Entry). row_of e.value first_life.head side subkey)) is

  -- among the elements
  element_read : (subkey : Bytes) (b : Bool) → is_key subkey ≡ b → row_for m (cond b (Some (ElementKey k first_life.version subkey)) None) ≡ row_of e.value first_life.head Elements subkey
  element_read subkey true name = first_row Elements subkey
  element_read subkey false long = sym (long_has_none e.value subkey fit.parts long)

  -- among the scores, where a number and a member are read
  part_read : (subkey : Bytes) (part : ℕ × Bytes) (b : Bool) → read_u64 subkey ≡ Some part → (fits (score_from part.0) && is_key part.1) ≡ b
      → row_for m (cond b (Some (ScoreKey k first_life.version (score_from part.0) part.1)) None) ≡ row_of e.value first_life.head Scores subkey
  part_read subkey part true read within =
      let spelled : u64 (score_number (score_from part.0)) ++ part.1 ≡ subkey = ap (λ n. u64 n ++ part.1) (score_is_written part.0) ∙ sym (only_u64_is_read subkey part.0 part.1 read).0 in
      first_row Scores (u64 (score_number (score_from part.0)) ++ part.1) ∙ ap (row_of e.value first_life.head Scores) spelled
  part_read subkey part false read wide = sym (wide_has_none e.value subkey part fit.parts fit.scores read wide)

  -- and whatever is read there
  score_read : (subkey : Bytes) (o : Option (ℕ × Bytes)) → read_u64 subkey ≡ o → row_for m (option_and_then (score_at k first_life.version) o) ≡ row_of e.value first_life.head Scores subkey
  score_read subkey None read = sym (no_number_has_none e.value subkey read)
  score_read subkey (Some part) read = part_read subkey part (fits (score_from part.0) && is_key part.1) read refl

  -- what is meant to stand at a row is the row of the value
  row_read : (side : Side) (subkey : Bytes) → row_for m (read_raw (row_key side k first_life.version subkey)) ≡ row_of e.value first_life.head side subkey
  row_read Elements subkey = ap (row_for m) (element_key_by k first_life.version subkey short refl) ∙ element_read subkey (is_key subkey) refl
  row_read Scores subkey = ap (row_for m) (score_key_by k first_life.version subkey short refl) ∙ score_read subkey (read_u64 subkey) refl

  -- a row that the value has stands at one of the raw keys
  row_stands : (side : Side) (subkey : Bytes) (o : Option Bytes) → row_of e.value first_life.head side subkey ≡ o
      → cond (among (flat_map raws_of m.entries) (row_key side k first_life.version subkey)) (row_of e.value first_life.head side subkey) None ≡ row_of e.value first_life.head side subkey
  row_stands side subkey None none =
      ap (λ o. cond (among (flat_map raws_of m.entries) (row_key side k first_life.version subkey)) o None) none ∙ either (among (flat_map raws_of m.entries) (row_key side k first_life.version subkey)) ∙ sym none
    where
      either : (b : Bool) → cond {A = Option Bytes} b None None ≡ None
      either true = refl
      either false = refl
  row_stands side subkey (Some row) some =
      ap (λ b. cond b (row_of e.value first_life.head side subkey) None) (entry_among m k (row_key side k first_life.version subkey) e is (row_in_raws k e side subkey (row_among e.value side subkey row some)))

  -- so the row of the value stands there
  pub row_is : (side : Side) (subkey : Bytes) → get (rows_for m) (row_key side k first_life.version subkey) ≡ row_of e.value first_life.head side subkey
  row_is side subkey =
      row_at m (row_key side k first_life.version subkey)
      ∙ ap (λ o. cond (among (flat_map raws_of m.entries) (row_key side k first_life.version subkey)) o None) (row_read side subkey)
      ∙ row_stands side subkey (row_of e.value first_life.head side subkey) refl

-- ---- metadata

-- metadata is there for the keys of the map alone
meta_none : (m : RedisMap) (k : Bytes) (a b : Bool) → get m k ≡ None → cond a (row_for m (cond b (Some (MetaKey k)) None)) None ≡ None
meta_none m k true true none = ap (option_map meta_row) none
meta_none m k true false none = refl
meta_none m k false b none = refl

-- and says what is needed of their entries
meta_some : (m : RedisMap) (k : Bytes) (e : Entry) (a b : Bool) → get m k ≡ Some e → a ≡ true → b ≡ true → cond a (row_for m (cond b (Some (MetaKey k)) None)) None ≡ Some (meta_row e)
meta_some m k e a b is here name =
    (λ i. cond (here i) (row_for m (cond (name i) (Some (MetaKey k)) None)) None) ∙ ap (option_map meta_row) is

-- so metadata stands for what the map has
meta_at : (m : RedisMap) (k : Bytes) → get (rows_for m) (meta_key k) ≡ cond (among (flat_map raws_of m.entries) (meta_key k)) (row_for m (cond (is_key k) (Some (MetaKey k)) None)) None
meta_at m k = row_at m (meta_key k) ∙ ap (λ o. cond (among (flat_map raws_of m.entries) (meta_key k)) (row_for m o) None) (meta_key_by k)

-- none for a key that is not there
no_meta : (m : RedisMap) (k : Bytes) → get m k ≡ None → get (rows_for m) (meta_key k) ≡ None
no_meta m k none = meta_at m k ∙ meta_none m k (among (flat_map raws_of m.entries) (meta_key k)) (is_key k) none

-- and that of its entry for a key that is
meta_is : (m : RedisMap) (t : ℕ) (k : Bytes) (e : Entry) → get m k ≡ Some e → IsKeptAt t k e → get (rows_for m) (meta_key k) ≡ Some (meta_row e)
meta_is m t k e is fit =
    meta_at m k
    ∙ meta_some m k e (among (flat_map raws_of m.entries) (meta_key k)) (is_key k) is
    (entry_among m k (meta_key k) e is (or_left (same (meta_key k) (meta_key k)) _ (same_itself (meta_key k)))) (name_is_key k fit.key)

-- ---- metadata is within its limits, and has not expired

-- the deadline
deadline_within : (t : ℕ) (o : Option ℕ) → IfSome o (λ d. (t < d) × (d ≤ 2 ^ 62)) → is_deadline (expire_from o) ≡ true
deadline_within t None h = refl
deadline_within t (Some d) h = let high = h.1 in grind (arith, nat_tests)

-- which is told from none
deadline_back : (t : ℕ) (o : Option ℕ) → IfSome o (λ d. (t < d) × (d ≤ 2 ^ 62)) → o ≡ deadline_from (expire_from o)
deadline_back t None h = refl
deadline_back t (Some d) h =
    let above = h.0 in
    let some : (d == 0) ≡ false = grind (arith, nat_tests) in
    ap (λ b. cond b None (Some d)) (sym some)

-- and has not come
deadline_lives : (t : ℕ) (o : Option ℕ) → IfSome o (λ d. (t < d) × (d ≤ 2 ^ 62)) → lives t o ≡ true
deadline_lives t None h = refl
deadline_lives t (Some d) h = let above = h.0 in grind (arith, nat_tests)

-- the size
size_within : (n : ℕ) → (0 < n) × (n ≤ max_size) → is_size n ≡ true
size_within n h = let low = h.0 in let high = h.1 in grind (arith, nat_tests)

-- a string
pub payload_within : (v : Bytes) → IsShort v → is_payload v ≡ true
payload_within v h = grind (arith, nat_tests)

-- a collection
life_within : (x n : ℕ) → is_deadline x ≡ true → is_size n ≡ true → (is_deadline x && is_version first_life.version && is_size n) ≡ true
life_within x n deadline size = and_from (is_deadline x && is_version first_life.version) (is_size n) (and_from (is_deadline x) (is_version first_life.version) deadline refl) size

-- and the places of a list
places_within : (x n : ℕ) → is_deadline x ≡ true → (0 < n) × (n ≤ max_size) → ((is_deadline x && is_version first_life.version && is_size ((2 ^ 63 + n) - 2 ^ 63)) && nat_lt (2 ^ 63 + n) (2 ^ 64)) ≡ true
places_within x n deadline h =
    let high = h.1 in
    let low : nat_lt (2 ^ 63 + n) (2 ^ 64) ≡ true = grind (arith, nat_tests) in
    let count : (2 ^ 63 + n) - 2 ^ 63 ≡ n = omega arith in
    and_from (is_deadline x && is_version first_life.version && is_size ((2 ^ 63 + n) - 2 ^ 63)) _ (life_within x ((2 ^ 63 + n) - 2 ^ 63) deadline (ap is_size count ∙ size_within n h)) low

-- each value
value_within : (v : Value) (x : ℕ) → IsValue v → is_deadline x ≡ true → is_meta_within (meta_for v first_life x) ≡ true
unfolding is_meta_within
value_within (Str v) x h deadline = and_from (is_deadline x) (is_payload v) deadline (payload_within v h)
value_within (Hash v) x h deadline = life_within x (size v) deadline (size_within (size v) h)
value_within (ListOf v) x h deadline = places_within x (length v) deadline h
value_within (SetOf v) x h deadline = life_within x (size v) deadline (size_within (size v) h)
value_within (ZSet v) x h deadline = life_within x (size v) deadline (size_within (size v) h)

-- and so the metadata of each entry
pub meta_within : (t : ℕ) (k : Bytes) (e : Entry) → IsKeptAt t k e → is_meta_within (meta_for e.value first_life (expire_from e.deadline)) ≡ true
meta_within t k e fit = value_within e.value (expire_from e.deadline) fit.value (deadline_within t e.deadline fit.deadline)

-- which is live
meta_live : (t : ℕ) (k : Bytes) (e : Entry) → IsKeptAt t k e → is_live t (meta_for e.value first_life (expire_from e.deadline)) ≡ true
meta_live t k e fit =
    ap (λ x. lives t (deadline_from x)) (expire_for e.value first_life (expire_from e.deadline))
    ∙ ap (lives t) (sym (deadline_back t e.deadline fit.deadline))
    ∙ deadline_lives t e.deadline fit.deadline

-- ---- the rows mean the map

-- the live metadata of a key is that of its entry
pub live_is : (m : RedisMap) (t : ℕ) (k : Bytes) (e : Entry) → get m k ≡ Some e → IsKeptAt t k e → live_at (rows_for m) t k ≡ Some (meta_for e.value first_life (expire_from e.deadline))
unfolding live_at
live_is m t k e is fit =
    ap (λ o. kept (is_live t) (option_and_then read_meta o)) (meta_is m t k e is fit)
    ∙ ap (kept (is_live t)) (meta_is_read (meta_for e.value first_life (expire_from e.deadline)) (meta_within t k e fit))
    ∙ kept_some (is_live t) (meta_for e.value first_life (expire_from e.deadline)) (meta_live t k e fit)

-- and it has none where it has no entry
pub live_none : (m : RedisMap) (t : ℕ) (k : Bytes) → get m k ≡ None → live_at (rows_for m) t k ≡ None
unfolding live_at
live_none m t k none = ap (λ o. kept (is_live t) (option_and_then read_meta o)) (no_meta m k none)

-- so its rows stand for its entry
key_stands : (m : RedisMap) (t : ℕ) (k : Bytes) (o : Option Entry) → get m k ≡ o → IfSome o (IsKeptAt t k) → MeansAt (rows_for m) t k o
key_stands m t k None none fit = live_none m t k none
key_stands m t k (Some e) is fit = record {
  life = first_life;
  expire = expire_from e.deadline;
  deadline = deadline_back t e.deadline fit.deadline;
  key = name_is_key k fit.key;
  scores = fit.scores;
  meta = live_is m t k e is fit;
  rows = λ h side subkey. row_is m t k e is fit side subkey;
}

-- the rows for a map mean it
pub rows_for_means : (m : RedisMap) (t : ℕ) → CanBeKept m t → Means (rows_for m) t m
rows_for_means m t can = record { stands = λ k. key_stands m t k (get m k) refl (can.entries k) }
