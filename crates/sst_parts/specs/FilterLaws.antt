-- A filter knows each key that it was given, and nothing that it does not know was given.
use Rattle.std.proofs.Common.{◌≡◌, ◌≢◌, ℕ, zero, suc, ◌*◌, ◌/◌, ◌%◌, ◌^◌, max, ◌<◌, ◌≤◌, List, [], ◌∷◌, refl, sym, ap, subst, ◌∙◌, Bool, true, length, get_or, arith, inl, inr}
use Rattle.std.specs.Prelude.{◌==◌, ◌&&◌, IsTrue, map, fold, bit_or}
use Rattle.std.specs.List.{list_all, Contains}
use Rattle.std.specs.Int.{bit_at}
use Rattle.std.proofs.Math.ListN.{set, replicate}
use Rattle.std.proofs.lemmas.List.{length-replicate}
use Rattle.std.proofs.lemmas.Nat.Bits.{bit_at_or, bit_at-pow_same}
use Rattle.std.proofs.lemmas.Bool.{cases_eq, cases_lt}
use Rattle.std.proofs.lemmas.Bool.Decides.{nat_tests}
use Rattle.kv_base.specs.InversionLaws.{both_first, both_second}
use Rattle.kv_base.specs.Map.{Bytes}
use Rattle.sst_parts.specs.declared.key_hash.KeyHash.{KeyHash}
use Rattle.sst_parts.specs.Filter.{bit_count, hash_of, bit_place, bit_places, has_bit, set_bit, with_key, no_bits, filter_of, filter_bits, holds_key, may_hold}

-- ---- lengths

length-set : (xs : List ℕ) (i v : ℕ) → length (set xs i v) ≡ length xs
length-set [] i v = refl
length-set (x ∷ xs) zero v = refl
length-set (x ∷ xs) (suc i) v = ap suc (length-set xs i v)

length-set_bit : (bytes : Bytes) (b : ℕ) → length (set_bit bytes b) ≡ length bytes
length-set_bit bytes b = length-set bytes (b / 8) (bit_or (get_or bytes (b / 8) 0) (2 ^ (b % 8)))

length-set_bits : (places : List ℕ) (bytes : Bytes) → length (fold set_bit bytes places) ≡ length bytes
length-set_bits [] bytes = refl
length-set_bits (b ∷ places) bytes = length-set_bits places (set_bit bytes b) ∙ length-set_bit bytes b

pub length-with_key : (bytes : Bytes) (key : KeyHash) → length (with_key bytes key) ≡ length bytes
unfolding with_key
length-with_key bytes key = length-set_bits (bit_places (8 * length bytes) key) bytes

length-with_keys : (keys : List KeyHash) (bytes : Bytes) → length (fold with_key bytes keys) ≡ length bytes
length-with_keys [] bytes = refl
length-with_keys (key ∷ keys) bytes = length-with_keys keys (with_key bytes key) ∙ length-with_key bytes key

pub length-filter_of : (keys : List KeyHash) → length (filter_of keys) ≡ bit_count (length keys) / 8
unfolding filter_of
length-filter_of keys = length-with_keys keys (no_bits (length keys)) ∙ length-replicate {A = ℕ} (bit_count (length keys) / 8) 0

-- ---- a bit that is set stays set

get-set_same : (xs : List ℕ) (i v : ℕ) → i < length xs → get_or (set xs i v) i 0 ≡ v
get-set_same [] i v low = let never : ⊥ = omega arith in absurd never
get-set_same (x ∷ xs) zero v low = refl
get-set_same (x ∷ xs) (suc i) v low = get-set_same xs i v (omega arith)

get-set_other : (xs : List ℕ) (i j v : ℕ) → i ≢ j → get_or (set xs i v) j 0 ≡ get_or xs j 0
get-set_other [] i j v other = refl
get-set_other (x ∷ xs) zero zero v other = absurd (other refl)
get-set_other (x ∷ xs) zero (suc j) v other = refl
get-set_other (x ∷ xs) (suc i) zero v other = refl
get-set_other (x ∷ xs) (suc i) (suc j) v other = get-set_other xs i j v (λ e. other (ap suc e))

set_past : (xs : List ℕ) (i v : ℕ) → length xs ≤ i → set xs i v ≡ xs
set_past [] i v high = refl
set_past (x ∷ xs) zero v high = let never : ⊥ = omega arith in absurd never
set_past (x ∷ xs) (suc i) v high = ap (λ l. x ∷ l) (set_past xs i v (omega arith))

one : (n i : ℕ) → (bit_at n i == 1) ≡ true → bit_at n i ≡ 1
one n i h = grind (arith, nat_tests)

is_one : (n i : ℕ) → bit_at n i ≡ 1 → (bit_at n i == 1) ≡ true
is_one n i h = grind (arith, nat_tests)

-- with more bits beside it
or_kept : (n m i : ℕ) → bit_at n i ≡ 1 → bit_at (bit_or n m) i ≡ 1
or_kept n m i h = bit_at_or n m i ∙ at_most (bit_at n i) (bit_at m i) h (omega arith)
  where
    at_most : (a b : ℕ) → a ≡ 1 → b < 2 → max a b ≡ 1
    at_most a b e low = omega arith

or_set : (n i : ℕ) → bit_at (bit_or n (2 ^ i)) i ≡ 1
or_set n i = bit_at_or n (2 ^ i) i ∙ at_least (bit_at n i) (bit_at (2 ^ i) i) (bit_at-pow_same i) (omega arith)
  where
    at_least : (a b : ℕ) → b ≡ 1 → a < 2 → max a b ≡ 1
    at_least a b e low = omega arith

kept_bit : (bytes : Bytes) (b p : ℕ) → has_bit bytes p ≡ true → has_bit (set_bit bytes b) p ≡ true
kept_bit bytes b p h =
    elim (cases_eq (b / 8) (p / 8)) [
      | inl same ↦
          elim (cases_lt (b / 8) (length bytes)) [
            | inl low ↦
                let n = get_or bytes (b / 8) 0 in
                let v = bit_or n (2 ^ (b % 8)) in
                let now : get_or (set bytes (b / 8) v) (p / 8) 0 ≡ v = subst (λ (k : ℕ). get_or (set bytes (b / 8) v) k 0 ≡ v) same (get-set_same bytes (b / 8) v low) in
                let was : bit_at n (p % 8) ≡ 1 = subst (λ (k : ℕ). bit_at (get_or bytes k 0) (p % 8) ≡ 1) (sym same) (one (get_or bytes (p / 8) 0) (p % 8) h) in
                is_one (get_or (set bytes (b / 8) v) (p / 8) 0) (p % 8) (ap (λ (k : ℕ). bit_at k (p % 8)) now ∙ or_kept n (2 ^ (b % 8)) (p % 8) was)
            | inr high ↦ subst (λ (l : Bytes). has_bit l p ≡ true) (sym (set_past bytes (b / 8) (bit_or (get_or bytes (b / 8) 0) (2 ^ (b % 8))) high)) h
          ]
      | inr other ↦
          let v = bit_or (get_or bytes (b / 8) 0) (2 ^ (b % 8)) in
          subst (λ (k : ℕ). (bit_at k (p % 8) == 1) ≡ true) (sym (get-set_other bytes (b / 8) (p / 8) v other)) h
    ]

now_set : (bytes : Bytes) (b : ℕ) → b / 8 < length bytes → has_bit (set_bit bytes b) b ≡ true
now_set bytes b low =
    let n = get_or bytes (b / 8) 0 in
    let v = bit_or n (2 ^ (b % 8)) in
    is_one (get_or (set bytes (b / 8) v) (b / 8) 0) (b % 8) (ap (λ (k : ℕ). bit_at k (b % 8)) (get-set_same bytes (b / 8) v low) ∙ or_set n (b % 8))

kept_bits : (places : List ℕ) (bytes : Bytes) (p : ℕ) → has_bit bytes p ≡ true → has_bit (fold set_bit bytes places) p ≡ true
kept_bits [] bytes p h = h
kept_bits (b ∷ places) bytes p h = kept_bits places (set_bit bytes b) p (kept_bit bytes b p h)

both : (a b : Bool) → a ≡ true → b ≡ true → (a && b) ≡ true
both a b e f = rw (e, f) refl

abbrev pub AreWithin : ℕ → List ℕ → Type 0
AreWithin n [] = Unit {0}
AreWithin n (p ∷ ps) = (p / 8 < n) × AreWithin n ps

within_same : (n m : ℕ) (ps : List ℕ) → n ≡ m → AreWithin n ps → AreWithin m ps
within_same n m ps e h = subst (λ (k : ℕ). AreWithin k ps) e h

all_set : (places : List ℕ) (bytes : Bytes) → AreWithin (length bytes) places → list_all (has_bit (fold set_bit bytes places)) places ≡ true
all_set [] bytes within = refl
all_set (b ∷ places) bytes within =
    both (has_bit (fold set_bit (set_bit bytes b) places) b) (list_all (has_bit (fold set_bit (set_bit bytes b) places)) places)
    (kept_bits places (set_bit bytes b) b (now_set bytes b within.0))
    (all_set places (set_bit bytes b) (within_same (length bytes) (length (set_bit bytes b)) places (sym (length-set_bit bytes b)) within.1))

place_within : (n : ℕ) (key : KeyHash) (j : ℕ) → 0 < n → bit_place (8 * n) key j / 8 < n
place_within n key j some = let low : bit_place (8 * n) key j < 8 * n = omega arith in omega arith

places_within : (n : ℕ) (key : KeyHash) → 0 < n → AreWithin n (bit_places (8 * n) key)
places_within n key some =
    (place_within n key 0 some, (place_within n key 1 some, (place_within n key 2 some, (place_within n key 3 some, (place_within n key 4 some, (place_within n key 5 some, tt))))))

-- the key that was given is held
holds_given : (bytes : Bytes) (key : KeyHash) → 0 < length bytes → holds_key (with_key bytes key) key ≡ true
unfolding with_key
holds_given bytes key some =
    let places = bit_places (8 * length bytes) key in
    let new = fold set_bit bytes places in
    subst (λ (n : ℕ). list_all (has_bit new) (bit_places (8 * n) key) ≡ true) (sym (length-set_bits places bytes)) (all_set places bytes (places_within (length bytes) key some))

keep_all : (ps places : List ℕ) (bytes : Bytes) → list_all (has_bit bytes) ps ≡ true → list_all (has_bit (fold set_bit bytes places)) ps ≡ true
keep_all [] places bytes h = refl
keep_all (p ∷ ps) places bytes h =
    both (has_bit (fold set_bit bytes places) p) (list_all (has_bit (fold set_bit bytes places)) ps)
    (kept_bits places bytes p (both_first (has_bit bytes p) (list_all (has_bit bytes) ps) h)) (keep_all ps places bytes (both_second (has_bit bytes p) (list_all (has_bit bytes) ps) h))

holds_still : (bytes : Bytes) (key other : KeyHash) → holds_key bytes key ≡ true → holds_key (with_key bytes other) key ≡ true
unfolding with_key
holds_still bytes key other h =
    let places = bit_places (8 * length bytes) other in
    let new = fold set_bit bytes places in
    subst (λ (n : ℕ). list_all (has_bit new) (bit_places (8 * n) key) ≡ true) (sym (length-set_bits places bytes)) (keep_all (bit_places (8 * length bytes) key) places bytes h)

still_all : (keys : List KeyHash) (bytes : Bytes) (key : KeyHash) → holds_key bytes key ≡ true → holds_key (fold with_key bytes keys) key ≡ true
still_all [] bytes key h = h
still_all (other ∷ keys) bytes key h = still_all keys (with_key bytes other) key (holds_still bytes key other h)

holds_among : (keys : List Bytes) (bytes : Bytes) (key : Bytes) → 0 < length bytes → Contains keys key → holds_key (fold with_key bytes (map hash_of keys)) (hash_of key) ≡ true
holds_among [] bytes key some (i, low, is) = let never : ⊥ = omega arith in absurd never
holds_among (k ∷ keys) bytes key some (zero, low, is) =
    still_all (map hash_of keys) (with_key bytes (hash_of k)) (hash_of key)
    (subst (λ (q : Bytes). holds_key (with_key bytes (hash_of k)) (hash_of q) ≡ true) is (holds_given bytes (hash_of k) some))
holds_among (k ∷ keys) bytes key some (suc i, low, is) =
    holds_among keys (with_key bytes (hash_of k)) key (let same = length-with_key bytes (hash_of k) in omega (arith, same, some)) (i, omega arith, is)

-- a filter tells of no key that was given that it is not there
pub held_if_given : (keys : List Bytes) (key : Bytes) → Contains keys key → IsTrue (may_hold (filter_bits keys) key)
unfolding may_hold filter_bits filter_of
held_if_given keys key there =
    let n = bit_count (length (map hash_of keys)) / 8 in
    let some : 0 < length (no_bits (length (map hash_of keys))) = (let long = length-replicate {A = ℕ} n 0 in let least : 8 ≤ n = omega arith in omega (arith, long, least)) in
    holds_among keys (no_bits (length (map hash_of keys))) key some there

-- ---- where a filter begins

pub filter_begins : (keys : List KeyHash) (bytes : Bytes) (n : ℕ) → bytes ≡ replicate n 0 → 8 * n ≡ bit_count (length keys) → fold with_key bytes keys ≡ filter_of keys
unfolding filter_of
filter_begins keys bytes n is count =
    let same : n ≡ bit_count (length keys) / 8 = omega (arith, count) in
    ap (λ (b : Bytes). fold with_key b keys) (is ∙ ap (λ (k : ℕ). replicate k 0) same)
