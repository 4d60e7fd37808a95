-- What stands at the indices of a list after an item more, an item less, or another item in the place of one.
use Rattle.std.proofs.Common.{ℕ, zero, suc, ◌≡◌, ◌≢◌, ◌+◌, ◌-◌, ◌<◌, ◌≤◌, ◌^◌, refl, sym, ap, subst, ◌∙◌, Bool, true, false, cond, List, [], ◌∷◌, ◌++◌, length, take, drop, append-nil, arith}
use Rattle.std.proofs.lemmas.Bool.Decides.{nat_tests}
use Rattle.std.proofs.lemmas.Option.{slice_get_past, slice_get-get_or}
use Rattle.std.specs.Prelude.{Option, Some, None, IsTrue, ◌==◌, nat_le, slice_get, slice_set, get_or}
use Rattle.kv_base.specs.Map.{Bytes, same, same_is, same_itself}
use Rattle.kv_base.specs.Fields.{u64, read_u64}
use Rattle.kv_base.specs.FieldLaws.{length-u64, u64_is_read, only_u64_is_read}
use Rattle.kv_base.specs.InversionLaws.{same_some, number_is}
use Rattle.kv_base.specs.RawKeys.{is_key}
use Rattle.lives_model.specs.Means.{item_row}
use Rattle.plan_base.specs.LifeChangeLaws.{with_element}
use Rattle.list_plans.specs.ListLives.{item_rows}

-- ---- indices as subkeys

short_number : (n : ℕ) → n ≡ 8 → nat_le n 65535 ≡ true
short_number n h = grind (arith, nat_tests)

-- an index is short
pub index_is_key : (n : ℕ) → IsTrue (is_key (u64 n))
index_is_key n = short_number (length (u64 n)) (length-u64 n)

-- an index is read back
pub index_bytes_are_read : (n : ℕ) → n < 2 ^ 64 → read_u64 (u64 n) ≡ Some (n, [])
index_bytes_are_read n low = ap read_u64 (sym (append-nil (u64 n))) ∙ u64_is_read n low []

-- the same bytes are the same index
same_index : (a b : ℕ) → a < 2 ^ 64 → b < 2 ^ 64 → same (u64 a) (u64 b) ≡ (a == b)
same_index a b low high = by_test (a == b) refl (same (u64 a) (u64 b)) refl
  where
    by_test : (t : Bool) → (a == b) ≡ t → (s : Bool) → same (u64 a) (u64 b) ≡ s → s ≡ t
    by_test true e s is = sym is ∙ ap (λ (n : ℕ). same (u64 n) (u64 b)) (number_is a b e) ∙ same_itself (u64 b)
    by_test false e true is =
        let read = same_some (a, []) (b, []) (sym (index_bytes_are_read a low) ∙ ap read_u64 (same_is (u64 a) (u64 b) is) ∙ index_bytes_are_read b high) in
        let here : a ≡ b = ap (λ p. p.0) read in
        let yes : (a == b) ≡ true = grind (arith, nat_tests, here) in
        absurd (cc)
    by_test false e false is = refl

-- ---- one row

-- what stands at an index
abbrev pub at_index : List Bytes → ℕ → ℕ → Option Bytes
at_index items head n = cond (nat_le head n) (slice_get items (n - head)) None

-- under the index as a subkey
pub index_row : (items : List Bytes) (head n : ℕ) → n < 2 ^ 64 → item_rows items head (u64 n) ≡ at_index items head n
index_row items head n low = ap (item_row items head) (index_bytes_are_read n low)

-- Two lists that differ at one index have rows that differ under one subkey.
pub one_row : (items changed : List Bytes) (head new i : ℕ) (row : Option Bytes) → i < 2 ^ 64
    → ((n : ℕ) → at_index changed new n ≡ cond (n == i) row (at_index items head n)) → (subkey : Bytes) → item_rows changed new subkey ≡ with_element (u64 i) row (item_rows items head) subkey
one_row items changed head new i row low at subkey = by_read (read_u64 subkey) refl
  where
    apart : (o : Option (ℕ × Bytes)) → read_u64 subkey ≡ o → Some (i, []) ≢ o → same subkey (u64 i) ≡ false
    apart o e other = by_test (same subkey (u64 i)) refl
      where
        by_test : (s : Bool) → same subkey (u64 i) ≡ s → s ≡ false
        by_test true is = absurd (other (sym (index_bytes_are_read i low) ∙ ap read_u64 (sym (same_is subkey (u64 i) is)) ∙ e))
        by_test false is = refl

    by_read : (o : Option (ℕ × Bytes)) → read_u64 subkey ≡ o → item_row changed new o ≡ cond (same subkey (u64 i)) row (item_row items head o)
    by_read None e = ap (λ s. cond s row None) (sym (apart None e (λ h. let no : Some (i, []) ≡ None = h in cc)))
    by_read (Some (n, [])) e =
        let parts = only_u64_is_read subkey n [] e in
        let here : same subkey (u64 i) ≡ (n == i) = ap (λ x. same x (u64 i)) (parts.0 ∙ append-nil (u64 n)) ∙ same_index n i parts.1 low in
        at n ∙ ap (λ s. cond s row (at_index items head n)) (sym here)
    by_read (Some (n, b ∷ rest)) e = ap (λ s. cond s row None) (sym (apart (Some (n, b ∷ rest)) e (λ h. let rests : [] ≡ b ∷ rest = ap (λ p. p.1) (same_some (i, []) (n, b ∷ rest) h) in absurd (cc))))

-- ---- what stands at an index, and what not

-- nothing before the head
pub before_head : (items : List Bytes) (head n : ℕ) → n < head → at_index items head n ≡ None
before_head items head n h = let fact : nat_le head n ≡ false = grind (arith, nat_tests, h) in ap (λ b. cond b (slice_get items (n - head)) None) fact

-- nothing from the tail on
pub from_tail : (items : List Bytes) (head n : ℕ) → head + length items ≤ n → at_index items head n ≡ None
from_tail items head n h = by_test (nat_le head n)
  where
    past : slice_get items (n - head) ≡ None
    past = slice_get_past items (n - head) (omega (arith, h))

    by_test : (b : Bool) → cond b (slice_get items (n - head)) None ≡ None
    by_test true = past
    by_test false = refl

-- an item between them
pub at_list_place : (items : List Bytes) (head i : ℕ) → at_index items head (head + i) ≡ slice_get items i
at_list_place items head i =
    let low : nat_le head (head + i) ≡ true = grind (arith, nat_tests) in
    let place : (head + i) - head ≡ i = omega arith in
    ap (λ b. cond b (slice_get items ((head + i) - head)) None) low ∙ ap (slice_get items) place

pub item_there : (items : List Bytes) (i : ℕ) → i < length items → (v : Bytes) × (slice_get items i ≡ Some v)
item_there items i h = (get_or items i [], slice_get-get_or items i [] h)

-- ---- an item more, and an item less

-- in front of a head
one_more : (v : Bytes) (items : List Bytes) (head n : ℕ) → at_index (v ∷ items) head n ≡ cond (n == head) (Some v) (at_index items (head + 1) n)
one_more v items head n = by_tests (nat_le head n) refl (n == head) refl
  where
    place : (i : ℕ) → n - head ≡ suc i → slice_get (v ∷ items) (n - head) ≡ slice_get items (n - (head + 1))
    place i e =
        let less : i ≡ n - (head + 1) = omega (arith, e) in
        ap (slice_get (v ∷ items)) e ∙ ap (slice_get items) less

    behind : (i : ℕ) → n - head ≡ i → nat_le head n ≡ true → (n == head) ≡ false → slice_get (v ∷ items) (n - head) ≡ cond (nat_le (head + 1) n) (slice_get items (n - (head + 1))) None
    behind zero e low other = absurd (grind (arith, nat_tests, e, low, other))
    behind (suc i) e low other =
        let above : true ≡ nat_le (head + 1) n = grind (arith, nat_tests, e) in
        place i e ∙ ap (λ b. cond b (slice_get items (n - (head + 1))) None) above

    by_tests : (a : Bool) → nat_le head n ≡ a → (b : Bool) → (n == head) ≡ b → cond a (slice_get (v ∷ items) (n - head)) None ≡ cond b (Some v) (cond (nat_le (head + 1) n) (slice_get items (n - (head + 1))) None)
    by_tests true low true here =
        let first : n - head ≡ 0 = grind (arith, nat_tests, here) in
        ap (slice_get (v ∷ items)) first
    by_tests true low false here = behind (n - head) refl low here
    by_tests false low true here = absurd (grind (arith, nat_tests, low, here))
    by_tests false low false here =
        let below : false ≡ nat_le (head + 1) n = grind (arith, nat_tests, low) in
        ap (λ b. cond b (slice_get items (n - (head + 1))) None) below

-- at the head
pub one_before : (v : Bytes) (items : List Bytes) (head n : ℕ) → 0 < head → at_index (v ∷ items) (head - 1) n ≡ cond (n == head - 1) (Some v) (at_index items head n)
one_before v items head n some =
    let back : (head - 1) + 1 ≡ head = omega (arith, some) in
    one_more v items (head - 1) n ∙ ap (λ (h : ℕ). cond (n == head - 1) (Some v) (at_index items h n)) back

-- a place in a list with an item more at its end
last_place : (v : Bytes) (items : List Bytes) (i : ℕ) → slice_get (items ++ v ∷ []) i ≡ cond (i == length items) (Some v) (slice_get items i)
last_place v [] zero = refl
last_place v [] (suc i) = let fact : false ≡ (suc i == 0) = grind (arith, nat_tests) in ap (λ b. cond b (Some v) None) fact
last_place v (x ∷ items) zero = let fact : false ≡ (0 == suc (length items)) = grind (arith, nat_tests) in ap (λ b. cond b (Some v) (Some x)) fact
last_place v (x ∷ items) (suc i) = let fact : (i == length items) ≡ (suc i == suc (length items)) = grind (arith, nat_tests) in last_place v items i ∙ ap (λ b. cond b (Some v) (slice_get items i)) fact

-- at the tail
pub one_behind : (v : Bytes) (items : List Bytes) (head n : ℕ) → at_index (items ++ v ∷ []) head n ≡ cond (n == head + length items) (Some v) (at_index items head n)
one_behind v items head n = by_test (nat_le head n) refl
  where
    by_test : (a : Bool) → nat_le head n ≡ a → cond a (slice_get (items ++ v ∷ []) (n - head)) None ≡ cond (n == head + length items) (Some v) (cond a (slice_get items (n - head)) None)
    by_test true low = let fact : (n - head == length items) ≡ (n == head + length items) = grind (arith, nat_tests, low) in last_place v items (n - head) ∙ ap (λ b. cond b (Some v) (slice_get items (n - head))) fact
    by_test false low = let fact : false ≡ (n == head + length items) = grind (arith, nat_tests, low) in ap (λ b. cond b (Some v) None) fact

-- where one more item stands at an index, without it nothing stands there
taken_back : (n i : ℕ) (v : Bytes) (more less : Option Bytes) → ((n == i) ≡ true → less ≡ None) → more ≡ cond (n == i) (Some v) less → less ≡ cond (n == i) None more
taken_back n i v more less none is = by_test (n == i) refl is
  where
    by_test : (b : Bool) → (n == i) ≡ b → more ≡ cond b (Some v) less → less ≡ cond b None more
    by_test true e h = none e
    by_test false e h = sym h

below_next : (n head : ℕ) → (n == head) ≡ true → n < head + 1
below_next n head e = grind (arith, nat_tests, e)

not_below_itself : (n i : ℕ) → (n == i) ≡ true → i ≤ n
not_below_itself n i e = grind (arith, nat_tests, e)

-- the first item goes
pub first_gone : (v : Bytes) (items : List Bytes) (head n : ℕ) → at_index items (head + 1) n ≡ cond (n == head) None (at_index (v ∷ items) head n)
first_gone v items head n = taken_back n head v _ _ (λ e. before_head items (head + 1) n (below_next n head e)) (one_more v items head n)

-- the last one goes
pub last_gone : (v : Bytes) (items : List Bytes) (head n : ℕ) → at_index items head n ≡ cond (n == head + length items) None (at_index (items ++ v ∷ []) head n)
last_gone v items head n =
    taken_back n (head + length items) v _ _ (λ e. from_tail items head n (not_below_itself n (head + length items) e)) (one_behind v items head n)

-- ---- another item in the place of one

set_place : (items : List Bytes) (i : ℕ) (v : Bytes) (j : ℕ) → i < length items → slice_get (slice_set items i v) j ≡ cond (j == i) (Some v) (slice_get items j)
set_place [] i v j low = absurd (omega arith)
set_place (x ∷ items) zero v zero low = refl
set_place (x ∷ items) zero v (suc j) low = let fact : false ≡ (suc j == 0) = grind (arith, nat_tests) in ap (λ b. cond b (Some v) (slice_get items j)) fact
set_place (x ∷ items) (suc i) v zero low = let fact : false ≡ (0 == suc i) = grind (arith, nat_tests) in ap (λ b. cond b (Some v) (Some x)) fact
set_place (x ∷ items) (suc i) v (suc j) low = let fact : (j == i) ≡ (suc j == suc i) = grind (arith, nat_tests) in set_place items i v j (omega arith) ∙ ap (λ b. cond b (Some v) (slice_get items j)) fact

pub one_set : (items : List Bytes) (i : ℕ) (v : Bytes) (head n : ℕ) → i < length items → at_index (slice_set items i v) head n ≡ cond (n == head + i) (Some v) (at_index items head n)
one_set items i v head n within = by_test (nat_le head n) refl
  where
    by_test : (a : Bool) → nat_le head n ≡ a → cond a (slice_get (slice_set items i v) (n - head)) None ≡ cond (n == head + i) (Some v) (cond a (slice_get items (n - head)) None)
    by_test true low = let fact : (n - head == i) ≡ (n == head + i) = grind (arith, nat_tests, low) in set_place items i v (n - head) within ∙ ap (λ b. cond b (Some v) (slice_get items (n - head))) fact
    by_test false low = let fact : false ≡ (n == head + i) = grind (arith, nat_tests, low) in ap (λ b. cond b (Some v) None) fact
