-- A life that goes on has a row, so it is older than a version that is free.
use Rattle.std.proofs.Common.{◌≡◌, ℕ, ◌+◌, ◌-◌, ◌<◌, ◌≤◌, ◌^◌, refl, sym, ap, ◌∙◌, Bool, true, false, cond, ◌&&◌, List, [], ◌∷◌, ◌++◌, length, arith}
use Rattle.std.proofs.lemmas.Bool.Decides.{nat_tests}
use Rattle.std.specs.Prelude.{nat_le, nat_lt, option_map, Some, None}
use Rattle.std.specs.FinMap.Entries.{find}
use Rattle.kv_base.specs.Map.{Bytes, Map, byte_cmp, same_itself, get, size}
use Rattle.kv_base.specs.Fields.{u64}
use Rattle.kv_base.specs.InversionLaws.{both_first, both_second}
use Rattle.kv_base.specs.RawKeys.{is_version}
use Rattle.kv_base.specs.MetaValues.{is_deadline, is_size, is_life, is_meta_within}
use Rattle.redis_model.specs.Value.{Value, Str, Hash, ListOf, SetOf, ZSet, Entry}
use Rattle.lives_model.specs.Rows.{Rows, Elements}
use Rattle.lives_model.specs.Means.{StandsForEntry, LifeAt, meta_for, row_of, has_life, score_text}
use Rattle.lives_model.specs.Plans.{IsFresh}
use Rattle.lives_model.specs.StepLaws.{live_fits, version_fits}
use Rattle.lives_model.specs.MeansOneLaws.{item_at, tail_fits}

-- a map that is not empty has an entry
pub record HasEntry {X : Type 0} (m : Map X) : Type 0 where
  pub key : Bytes
  pub value : X
  pub is : get m key ≡ Some value

-- whose first one is there
has_entry : {X : Type 0} (m : Map X) → 0 < size m → HasEntry m
unfolding size get
has_entry {X} m some = by_entries m.entries refl
  where
    by_entries : (es : List (Bytes × X)) → m.entries ≡ es → HasEntry m
    by_entries [] is = let none : length m.entries ≡ 0 = ap length is in absurd (omega arith)
    by_entries (e ∷ es) is = record {
      key = e.0;
      value = e.1;
      is = ap (find byte_cmp e.0) is ∙ ap (λ b. cond b (Some e.1) (find byte_cmp e.0 es)) (same_itself e.0);
    }

-- a value has a row
pub record HasRow (v : Value) (head : ℕ) : Type 0 where
  pub subkey : Bytes
  pub row : Bytes
  pub is : row_of v head Elements subkey ≡ Some row

-- a size within its limits is above 0
above_none : (n : ℕ) → is_size n ≡ true → 0 < n
above_none n h = let low = both_first (nat_le 1 n) (nat_lt n (2 ^ 32)) h in grind (arith, nat_tests)

-- the first item of a list
first_item : (l : List Bytes) (life : LifeAt) (x : ℕ) → is_meta_within (meta_for (ListOf l) life x) ≡ true → 0 < length l → HasRow (ListOf l) life.head
first_item [] life x fits some = absurd (omega arith)
first_item (v ∷ l) life x fits some =
    let low = tail_fits (v ∷ l) life x fits in
    record { subkey = u64 (life.head + 0) ++ []; row = v; is = item_at (v ∷ l) life.head 0 (omega arith) }

-- a list within its limits has one
list_size : (n head : ℕ) → is_size ((head + n) - head) ≡ true → 0 < n
list_size n head h = let some = above_none ((head + n) - head) h in omega arith

-- a collection within its limits has a row
has_row : (v : Value) (life : LifeAt) (x : ℕ) → has_life v ≡ true → is_meta_within (meta_for v life x) ≡ true → HasRow v life.head
unfolding is_meta_within
has_row (Str v) life x h fits = absurd (cc)
has_row (Hash v) life x h fits =
    let e = has_entry v (above_none (size v) (both_second (is_deadline x && is_version life.version) (is_size (size v)) fits)) in
    record { subkey = e.key; row = e.value; is = e.is }
has_row (ListOf v) life x h fits =
    let size = both_second (is_deadline x && is_version life.version) _ (both_first (is_life x life.version ((life.head + length v) - life.head)) (nat_lt (life.head + length v) (2 ^ 64)) fits) in
    first_item v life x fits (list_size (length v) life.head size)
has_row (SetOf v) life x h fits =
    let e = has_entry v (above_none (size v) (both_second (is_deadline x && is_version life.version) (is_size (size v)) fits)) in
    record { subkey = e.key; row = []; is = ap (option_map (λ _. [])) e.is }
has_row (ZSet v) life x h fits =
    let e = has_entry v (above_none (size v) (both_second (is_deadline x && is_version life.version) (is_size (size v)) fits)) in
    record { subkey = e.key; row = score_text e.value; is = ap (option_map score_text) e.is }

-- so its version is below one from which on no row stands
pub life_is_older : (c : Rows) (t fresh : ℕ) (k : Bytes) (e : Entry) (s : StandsForEntry c t k e) → has_life e.value ≡ true → IsFresh c fresh k → s.life.version < fresh
life_is_older c t fresh k e s h none = below (nat_lt s.life.version fresh) refl
  where
    there : (version : ℕ) → version ≡ s.life.version → fresh ≤ version → ⊥
    there version is high =
        let within = live_fits c t k _ s.meta in
        let r = has_row e.value s.life s.expire h within in
        let stands = s.rows h Elements r.subkey ∙ r.is in
        let empty = none Elements s.life.version r.subkey (omega arith) (version_fits e.value s.life s.expire h within) in
        let no : Some r.row ≡ None = sym stands ∙ empty in
        cc

    below : (b : Bool) → nat_lt s.life.version fresh ≡ b → s.life.version < fresh
    below true is = grind (arith, nat_tests)
    below false is = absurd (there s.life.version refl (grind (arith, nat_tests)))
