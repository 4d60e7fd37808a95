-- What the plans of lists need of their batches.
use Rattle.std.proofs.Common.{ℕ, zero, suc, ◌≡◌, ◌+◌, ◌-◌, ◌<◌, ◌≤◌, ◌^◌, refl, sym, ap, ◌∙◌, Bool, true, false, cond, List, [], ◌∷◌, ◌++◌, length, take, get_or, arith}
use Rattle.std.proofs.lemmas.Bool.{and_from}
use Rattle.std.proofs.lemmas.Bool.Decides.{nat_tests}
use Rattle.std.specs.Prelude.{Option, Some, None, option_map, is_some, IsTrue, ◌&&◌, nat_lt, nat_le, fold}
use Rattle.kv_base.specs.Map.{Bytes, kept, insert}
use Rattle.kv_base.specs.Fields.{u64, text}
use Rattle.kv_base.specs.RawKeys.{LifeAndRest, element_of, is_raw_within, is_raw_text, is_version, raw_parts, read_life, read_raw}
use Rattle.kv_base.specs.MetaValues.{ListValue, is_deadline, is_payload, is_size, is_life, is_meta_within, is_value_of, is_value_text}
use Rattle.batch_codec.specs.Batches.{Batch}
use Rattle.redis_model.specs.Limits.{IsShort}
use Rattle.lives_model.specs.Rows.{Elements, row_key}
use Rattle.plan_base.specs.KeyLimitLaws.{short_is_payload}
use Rattle.life_plans.specs.WantedRows.{with_wish}
use Rattle.list_plans.specs.declared.sight.ListSight.{ListSight}
use Rattle.list_plans.specs.ListLives.{IsSightWithin}
use Rattle.list_plans.specs.ListRowLaws.{fold-append}
use Rattle.list_plans.specs.ListRows.{puts_before, puts_from, cuts_from, cuts_before, trims}
use Rattle.list_changes.specs.Found.{item_raw}

size_of : (n : ℕ) → 0 < n → n < 2 ^ 32 → is_size n ≡ true
size_of n some few = grind (arith, nat_tests)

below : (a b : ℕ) → a < b → nat_lt a b ≡ true
below a b h = grind (arith, nat_tests)

-- a list within its limits has metadata within its own
pub sight_fits : (x : ℕ) (list : ListSight) → IsTrue (is_deadline x) → IsSightWithin list → IsTrue (is_meta_within (ListValue x list.version list.head list.tail))
unfolding is_meta_within
sight_fits x list dl within =
    let some = within.some in
    and_from (is_life x list.version (list.tail - list.head)) (nat_lt list.tail (2 ^ 64))
    (and_from (is_deadline x && is_version list.version) (is_size (list.tail - list.head)) (and_from (is_deadline x) (is_version list.version) dl within.version) (size_of (list.tail - list.head) (omega (arith, some)) within.few))
    (below list.tail (2 ^ 64) within.low)

-- an element takes any value that is a payload
element_takes : (o : Option LifeAndRest) (item : Bytes) → is_some (kept is_raw_within (option_map element_of o)) ≡ true → is_value_of (kept is_raw_within (option_map element_of o)) item ≡ is_payload item
element_takes None item h = absurd (cc)
element_takes (Some life) item h = by_test (is_raw_within (element_of life)) h
  where
    by_test : (b : Bool) → is_some (cond b (Some (element_of life)) None) ≡ true → is_value_of (cond b (Some (element_of life)) None) item ≡ is_payload item
    by_test true h = refl
    by_test false h = absurd (cc)

-- an item is a value for its raw key
pub item_is_value : (k : Bytes) (list : ListSight) (index : ℕ) (raw item : Bytes) → raw ≡ item_raw k list index → IsTrue (is_raw_text raw) → IsShort item → IsTrue (is_value_text raw item)
unfolding is_value_text read_raw raw_parts row_key
item_is_value k list index raw item is read low =
    ap (λ raw. is_value_text raw item) is ∙ element_takes (read_life (text k ++ u64 list.version ++ u64 index)) item (sym (ap is_raw_text is) ∙ read) ∙ short_is_payload item low

-- what the tests of room say
pub room_before : (n head : ℕ) → nat_le n head ≡ true → n ≤ head
room_before n head h = grind (arith, nat_tests)

pub room_behind : (n tail : ℕ) → nat_lt (tail + n) (2 ^ 64) ≡ true → tail + n < 2 ^ 64
room_behind n tail h = grind (arith, nat_tests)

-- a trim is two cuts
pub trims_fold : (k : Bytes) (b : Batch) (list : ListSight) (from end : ℕ)
    → fold (with_wish k list.version) (fold (with_wish k list.version) b (cuts_from list.head from)) (cuts_before list.tail ((list.tail - list.head) - end)) ≡ fold (with_wish k list.version) b (trims list from end)
trims_fold k b list from end = sym (fold-append (with_wish k list.version) b (cuts_from list.head from) (cuts_before list.tail ((list.tail - list.head) - end)))

-- ---- one item more

next_is : (n : ℕ) → n + 1 ≡ suc n
next_is n = omega arith

module _ (k : Bytes) (version : ℕ) where
  -- one that goes from a head on, and one before a tail
  cuts_from_more : (n head : ℕ) (b : Batch) → fold (with_wish k version) b (cuts_from head (suc n)) ≡ insert (fold (with_wish k version) b (cuts_from head n)) (row_key Elements k version (u64 (head + n))) None
  cuts_from_more zero head b =
      let here : head ≡ head + 0 = omega arith in
      ap (λ (h : ℕ). insert b (row_key Elements k version (u64 h)) None) here
  cuts_from_more (suc n) head b =
      let here : (head + 1) + n ≡ head + suc n = omega arith in
      cuts_from_more n (head + 1) (insert b (row_key Elements k version (u64 head)) None)
      ∙ ap (λ (h : ℕ). insert (fold (with_wish k version) b (cuts_from head (suc n))) (row_key Elements k version (u64 h)) None) here

  pub cuts_from_next : (n head : ℕ) (b : Batch) → fold (with_wish k version) b (cuts_from head (n + 1)) ≡ insert (fold (with_wish k version) b (cuts_from head n)) (row_key Elements k version (u64 (head + n))) None
  cuts_from_next n head b = ap (λ (m : ℕ). fold (with_wish k version) b (cuts_from head m)) (next_is n) ∙ cuts_from_more n head b

  cuts_before_more : (n tail : ℕ) (b : Batch) → fold (with_wish k version) b (cuts_before tail (suc n)) ≡ insert (fold (with_wish k version) b (cuts_before tail n)) (row_key Elements k version (u64 (tail - 1 - n))) None
  cuts_before_more zero tail b =
      let here : tail - 1 ≡ tail - 1 - 0 = omega arith in
      ap (λ (h : ℕ). insert b (row_key Elements k version (u64 h)) None) here
  cuts_before_more (suc n) tail b =
      let here : (tail - 1) - 1 - n ≡ tail - 1 - suc n = omega arith in
      cuts_before_more n (tail - 1) (insert b (row_key Elements k version (u64 (tail - 1))) None)
      ∙ ap (λ (h : ℕ). insert (fold (with_wish k version) b (cuts_before tail (suc n))) (row_key Elements k version (u64 h)) None) here

  pub cuts_before_next : (n tail : ℕ) (b : Batch) → fold (with_wish k version) b (cuts_before tail (n + 1)) ≡ insert (fold (with_wish k version) b (cuts_before tail n)) (row_key Elements k version (u64 (tail - 1 - n))) None
  cuts_before_next n tail b = ap (λ (m : ℕ). fold (with_wish k version) b (cuts_before tail m)) (next_is n) ∙ cuts_before_more n tail b

  -- one that is put before a head, and one behind a tail
  puts_before_more : (vs : List Bytes) (n head : ℕ) (v d : Bytes) (b : Batch) → n < length vs → v ≡ get_or vs n d
      → fold (with_wish k version) b (puts_before head (take (suc n) vs)) ≡ insert (fold (with_wish k version) b (puts_before head (take n vs))) (row_key Elements k version (u64 (head - 1 - n))) (Some v)
  puts_before_more [] n head v d b low is = absurd (omega arith)
  puts_before_more (x ∷ vs) zero head v d b low is =
      let here : head - 1 ≡ head - 1 - 0 = omega arith in
      ap (λ (h : ℕ). insert b (row_key Elements k version (u64 h)) (Some x)) here ∙ ap (λ y. insert b (row_key Elements k version (u64 (head - 1 - 0))) (Some y)) (sym is)
  puts_before_more (x ∷ vs) (suc n) head v d b low is =
      let here : (head - 1) - 1 - n ≡ head - 1 - suc n = omega arith in
      puts_before_more vs n (head - 1) v d (insert b (row_key Elements k version (u64 (head - 1))) (Some x)) (omega arith) is
      ∙ ap (λ (h : ℕ). insert (fold (with_wish k version) b (puts_before head (take (suc n) (x ∷ vs)))) (row_key Elements k version (u64 h)) (Some v)) here

  pub puts_before_next : (vs : List Bytes) (n head : ℕ) (v d : Bytes) (b : Batch) → n < length vs → v ≡ get_or vs n d
      → fold (with_wish k version) b (puts_before head (take (n + 1) vs)) ≡ insert (fold (with_wish k version) b (puts_before head (take n vs))) (row_key Elements k version (u64 (head - 1 - n))) (Some v)
  puts_before_next vs n head v d b low is = ap (λ (m : ℕ). fold (with_wish k version) b (puts_before head (take m vs))) (next_is n) ∙ puts_before_more vs n head v d b low is

  puts_from_more : (vs : List Bytes) (n tail : ℕ) (v d : Bytes) (b : Batch) → n < length vs → v ≡ get_or vs n d
      → fold (with_wish k version) b (puts_from tail (take (suc n) vs)) ≡ insert (fold (with_wish k version) b (puts_from tail (take n vs))) (row_key Elements k version (u64 (tail + n))) (Some v)
  puts_from_more [] n tail v d b low is = absurd (omega arith)
  puts_from_more (x ∷ vs) zero tail v d b low is =
      let here : tail ≡ tail + 0 = omega arith in
      ap (λ (h : ℕ). insert b (row_key Elements k version (u64 h)) (Some x)) here ∙ ap (λ y. insert b (row_key Elements k version (u64 (tail + 0))) (Some y)) (sym is)
  puts_from_more (x ∷ vs) (suc n) tail v d b low is =
      let here : (tail + 1) + n ≡ tail + suc n = omega arith in
      puts_from_more vs n (tail + 1) v d (insert b (row_key Elements k version (u64 tail)) (Some x)) (omega arith) is
      ∙ ap (λ (h : ℕ). insert (fold (with_wish k version) b (puts_from tail (take (suc n) (x ∷ vs)))) (row_key Elements k version (u64 h)) (Some v)) here

  pub puts_from_next : (vs : List Bytes) (n tail : ℕ) (v d : Bytes) (b : Batch) → n < length vs → v ≡ get_or vs n d
      → fold (with_wish k version) b (puts_from tail (take (n + 1) vs)) ≡ insert (fold (with_wish k version) b (puts_from tail (take n vs))) (row_key Elements k version (u64 (tail + n))) (Some v)
  puts_from_next vs n tail v d b low is = ap (λ (m : ℕ). fold (with_wish k version) b (puts_from tail (take m vs))) (next_is n) ∙ puts_from_more vs n tail v d b low is
