-- The rows for a map are on their grammar.
use Rattle.std.proofs.Common.{◌≡◌, ℕ, zero, suc, ◌-◌, refl, sym, ap, subst, ◌∙◌, Bool, true, false, cond, ◌&&◌, List, [], ◌∷◌, ◌++◌, arith}
use Rattle.std.proofs.lemmas.Bool.{and_from}
use Rattle.std.proofs.lemmas.Bool.Decides.{nat_tests}
use Rattle.std.proofs.lemmas.Int.{ints}
use Rattle.std.specs.Prelude.{◌==◌, slice_get, Option, Some, None, option_map, option_and_then, is_some, IfSome, IsTrue, All, ℤ}
use Rattle.std.proofs.lemmas.List.Elements.{All-head, All-tail}
use Rattle.std.specs.List.{flat_map}
use Rattle.kv_base.specs.Map.{Bytes, get}
use Rattle.kv_base.specs.Number.{fits}
use Rattle.kv_base.specs.Fields.{u64, read_u64}
use Rattle.kv_base.specs.FieldLaws.{length-u64, u64_is_read}
use Rattle.kv_base.specs.InversionLaws.{same_some, map_is, if_is, and_then_is, both_first, both_second}
use Rattle.kv_base.specs.RawKeys.{RawKey, MetaKey, ElementKey, ScoreKey, is_key, is_version, score_number, score_from, is_raw_within, read_raw}
use Rattle.kv_base.specs.RawKeyLaws.{score_number_low, score_is_read, only_raw_is_read}
use Rattle.kv_base.specs.MetaValues.{is_payload, is_score, is_empty, read_meta, is_value_of, is_value_at, is_value_text}
use Rattle.kv_base.specs.MetaValueLaws.{meta_is_read}
use Rattle.redis_model.specs.Value.{Value, Str, Hash, ListOf, SetOf, ZSet, Entry, RedisMap}
use Rattle.redis_model.specs.Keys.{among}
use Rattle.redis_model.specs.Limits.{IsName, IsShort, IsWholeScore}
use Rattle.lives_model.specs.Rows.{IsOnGrammar, Side, Elements, Scores}
use Rattle.lives_model.specs.Means.{HasWholeScores, meta_for, row_of}
use Rattle.plan_laws.specs.RowsFor.{HasShortParts, IsKeptAt, CanBeKept, first_life, expire_from, meta_row, life_row, row_for, raws_of, rows_for}
use Rattle.plan_laws.specs.RowsForLaws.{if_some, whole_fits, item_is, member_is}
use Rattle.plan_laws.specs.EveryMap.{row_at, payload_within, meta_within}

-- ---- the values of rows

-- a whole score is one that a row may have
whole_is_score : (s : ℤ) → IsWholeScore s → is_score s ≡ true
whole_is_score s h = grind (arith, nat_tests, ints)

-- the items of a list are within their limit, each at its place
item_short : (l : List Bytes) (i : ℕ) (item : Bytes) → All IsShort l → slice_get l i ≡ Some item → IsShort item
item_short [] i item h e = cc
item_short (v ∷ l) zero item h e = subst IsShort (same_some v item e) (All-head IsShort v l h)
item_short (v ∷ l) (suc i) item h e = item_short l i item (All-tail IsShort v l h) e

-- a number in eight bytes is a short element
index_is_payload : (n : ℕ) → is_payload (u64 n) ≡ true
index_is_payload n = let eight = length-u64 n in grind (arith, nat_tests)

-- what stands among the elements is as short as an element
element_within : (v : Value) (subkey row : Bytes) → HasShortParts v → row_of v first_life.head Elements subkey ≡ Some row → is_payload row ≡ true
element_within (Str v) subkey row parts e = cc
element_within (Hash h) subkey row parts e = payload_within row (if_some (λ v. IsName subkey × IsShort v) (get h subkey) row e (parts subkey)).1
element_within (ListOf l) subkey row parts e =
    let item = item_is l first_life.head subkey row e in
    payload_within row (item_short l (item.index - first_life.head) row parts item.is)
element_within (SetOf s) subkey row parts e = let there = map_is (λ _. []) (get s subkey) row e in subst (λ (r : Bytes). is_payload r ≡ true) there.2 refl
element_within (ZSet z) subkey row parts e =
    let there = map_is (λ score. u64 (score_number score)) (get z subkey) row e in
    subst (λ (r : Bytes). is_payload r ≡ true) there.2 (index_is_payload (score_number there.0))

-- what stands among the scores is empty, and its score is a whole one
score_within : (v : Value) (score : ℤ) (member row : Bytes) → HasWholeScores v → fits score ≡ true → row_of v first_life.head Scores (u64 (score_number score) ++ member) ≡ Some row → (is_score score && is_empty row) ≡ true
score_within (Str v) score member row whole low e = cc
score_within (Hash h) score member row whole low e = cc
score_within (ListOf l) score member row whole low e = cc
score_within (SetOf s) score member row whole low e = cc
score_within (ZSet z) score member row whole low e =
    let m = member_is z (read_u64 (u64 (score_number score) ++ member)) row e in
    let read = u64_is_read (score_number score) (score_number_low score low) member in
    let pair : (score_number score, member) ≡ (score_number m.score, m.member) = same_some (score_number score, member) (score_number m.score, m.member) (sym read ∙ m.spelled) in
    let fine = if_some IsWholeScore (get z m.member) m.score m.has (whole m.member) in
    let is : m.score ≡ score = sym (score_is_read m.score (whole_fits m.score fine)) ∙ ap (λ (p : ℕ × Bytes). score_from p.0) (sym pair) ∙ score_is_read score low in
    and_from (is_score score) (is_empty row) (ap is_score (sym is) ∙ whole_is_score m.score fine) (subst (λ (r : Bytes). is_empty r ≡ true) m.is refl)

module _ (m : RedisMap) (t : ℕ) (can : CanBeKept m t) where
  -- a row of a life belongs to an entry
  pub record IsOfEntry (k : Bytes) (version : ℕ) (side : Side) (subkey row : Bytes) : Type 0 where
    pub entry : Entry
    pub fit : IsKeptAt t k entry
    pub is : row_of entry.value first_life.head side subkey ≡ Some row

  -- of the entry that the key has
  life_row_is : (k : Bytes) (version : ℕ) (side : Side) (subkey row : Bytes) → life_row m k version side subkey ≡ Some row → IsOfEntry k version side subkey row
  life_row_is k version side subkey row e =
      let current = if_is (version == first_life.version) (option_and_then (λ e. row_of e.value first_life.head side subkey) (get m k)) row e in
      let there = and_then_is (λ (e : Entry). row_of e.value first_life.head side subkey) (get m k) row current.1 in
      record { entry = there.0; fit = if_some (IsKeptAt t k) (get m k) there.0 there.1 (can.entries k); is = there.2 }

  -- metadata is read as such
  meta_value : (k row : Bytes) → option_map meta_row (get m k) ≡ Some row → is_some (read_meta row) ≡ true
  meta_value k row e =
      let there = map_is meta_row (get m k) row e in
      let fit = if_some (IsKeptAt t k) (get m k) there.0 there.1 (can.entries k) in
      subst (λ (r : Bytes). is_some (read_meta r) ≡ true) there.2 (ap is_some (meta_is_read (meta_for there.0.value first_life (expire_from there.0.deadline)) (meta_within t k there.0 fit)))

  -- what is meant to stand at a raw key is a value for it
  value_fits : (r : RawKey) (row : Bytes) → is_raw_within r ≡ true → row_for m (Some r) ≡ Some row → is_value_at r row ≡ true
  unfolding is_raw_within
  value_fits (MetaKey k) row within e = meta_value k row e
  value_fits (ElementKey k version subkey) row within e =
      let of = life_row_is k version Elements subkey row e in
      element_within of.entry.value subkey row of.fit.parts of.is
  value_fits (ScoreKey k version score member) row within e =
      let of = life_row_is k version Scores (u64 (score_number score) ++ member) row e in
      let low = both_second (is_key k && is_version version) (fits score) (both_first (is_key k && is_version version && fits score) (is_key member) within) in
      score_within of.entry.value score member row of.fit.scores low of.is

  -- by what is read of the raw key
  row_fits : (raw row : Bytes) (o : Option RawKey) → read_raw raw ≡ o → row_for m o ≡ Some row → is_value_of o row ≡ true
  row_fits raw row None read e = cc
  row_fits raw row (Some r) read e = value_fits r row (only_raw_is_read raw r read).1 e

  -- and so is what stands there, if anything does
  there_fits : (raw : Bytes) (b : Bool) (o : Option Bytes) → row_for m (read_raw raw) ≡ o → IfSome (cond b o None) (λ row. IsTrue (is_value_text raw row))
  unfolding is_value_text
  there_fits raw false o e = tt
  there_fits raw true None e = tt
  there_fits raw true (Some row) e = row_fits raw row (read_raw raw) refl e

  -- the rows for a map are on their grammar
  pub rows_for_on_grammar : IsOnGrammar (rows_for m)
  rows_for_on_grammar = record {
    at = λ raw. subst (λ (o : Option Bytes). IfSome o (λ row. IsTrue (is_value_text raw row))) (sym (row_at m raw))
        (there_fits raw (among (flat_map raws_of m.entries) raw) (row_for m (read_raw raw)) refl);
  }
