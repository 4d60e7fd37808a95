-- Lists of which some come first.
use Rattle.std.proofs.Common.{◌≡◌, ℕ, zero, suc, ◌-◌, refl, sym, ap, ◌∙◌, Bool, true, false, cond, List, [], ◌∷◌, ◌++◌, length, take, drop, map, arith}
use Rattle.std.proofs.lemmas.Bool.Decides.{nat_tests}
use Rattle.std.proofs.lemmas.List.Sums.{take_while-cons}
use Rattle.std.specs.Prelude.{T, ◌==◌, filter}
use Rattle.std.specs.List.{take_while}
use Rattle.std.specs.Ordering.{is_lt}
use Rattle.std.specs.Cmp.Lexicographic.{nat_list_cmp_total}
use Rattle.std.specs.declared.cmp.Ordering.TheVariants.{Less}
use Rattle.std.specs.FinMap.Entries.{is_sorted, below_all}
use Rattle.kv_base.specs.Map.{Bytes, byte_cmp}
use Rattle.kv_base.specs.TestLaws.{first, second, less, less_is}

-- ---- taking while a test holds

module _ {X : Type 0} (p : X → Bool) where
  -- of two lists: the first one's, and where these are all of it the second one's too
  pub take_while-append : (xs ys : List X) → take_while p (xs ++ ys) ≡ take_while p xs ++ cond (length (take_while p xs) == length xs) (take_while p ys) []
  take_while-append [] ys = refl
  take_while-append (x ∷ xs) ys =
      take_while-cons p x (xs ++ ys)
      ∙ by_test (p x) (take_while-append xs ys)
      ∙ sym (ap (λ t. t ++ cond (length t == length (x ∷ xs)) (take_while p ys) []) (take_while-cons p x xs))
    where
      both_more : (a b : ℕ) → (suc a == suc b) ≡ (a == b)
      both_more a b = grind (arith, nat_tests)

      none_of_some : (b : ℕ) → (zero == suc b) ≡ false
      none_of_some b = grind (arith, nat_tests)

      by_test : (b : Bool) → take_while p (xs ++ ys) ≡ take_while p xs ++ cond (length (take_while p xs) == length xs) (take_while p ys) []
          → cond b (x ∷ take_while p (xs ++ ys)) [] ≡ cond b (x ∷ take_while p xs) [] ++ cond (length (cond b (x ∷ take_while p xs) []) == length (x ∷ xs)) (take_while p ys) []
      by_test true rest = ap (λ t. x ∷ t) rest ∙ ap (λ b. x ∷ (take_while p xs ++ cond b (take_while p ys) [])) (sym (both_more (length (take_while p xs)) (length xs)))
      by_test false rest = ap (λ b. cond b (take_while p ys) []) (sym (none_of_some (length xs)))

  -- all where the test always holds
  pub take_while-all : (xs : List X) → ((x : X) → p x ≡ true) → take_while p xs ≡ xs
  take_while-all [] all = refl
  take_while-all (x ∷ xs) all = take_while-cons p x xs ∙ (λ i. cond (all x i) (x ∷ take_while-all xs all i) [])

pub take_while-map : {X Y : Type 0} (p : Y → Bool) (f : X → Y) (xs : List X) → take_while p (map f xs) ≡ map f (take_while (λ x. p (f x)) xs)
take_while-map p f [] = refl
take_while-map p f (x ∷ xs) =
    take_while-cons p (f x) (map f xs) ∙ by_test (p (f x)) (take_while-map p f xs) ∙ sym (ap (map f) (take_while-cons (λ x. p (f x)) x xs))
  where
    by_test : (b : Bool) → take_while p (map f xs) ≡ map f (take_while (λ x. p (f x)) xs) → cond b (f x ∷ take_while p (map f xs)) [] ≡ map f (cond b (x ∷ take_while (λ x. p (f x)) xs) [])
    by_test true rest = ap (λ ys. f x ∷ ys) rest
    by_test false rest = refl

-- ---- some passed over, and some taken

pub none_kept : {X : Type 0} (left skip : ℕ) → take {A = X} left (drop skip []) ≡ []
none_kept zero skip = refl
none_kept (suc left) zero = refl
none_kept (suc left) (suc skip) = refl

-- of two lists: the first one's, and of the second one's what is then still wanted
pub kept-append : {X : Type 0} (left skip : ℕ) (xs ys : List X)
    → take left (drop skip (xs ++ ys)) ≡ take left (drop skip xs) ++ take (left - (length xs - skip)) (drop (skip - length xs) ys)
kept-append left zero [] ys =
    let all : left ≡ left - (0 - 0) = omega arith in
    let from : 0 ≡ 0 - 0 = omega arith in
    (λ i. take (all i) (drop (from i) ys)) ∙ sym (ap (λ zs. zs ++ take (left - (0 - 0)) (drop (0 - 0) ys)) (none_kept left 0))
kept-append left (suc skip) [] ys =
    let all : left ≡ left - (0 - suc skip) = omega arith in
    let from : suc skip ≡ suc skip - 0 = omega arith in
    (λ i. take (all i) (drop (from i) ys)) ∙ sym (ap (λ zs. zs ++ take (left - (0 - suc skip)) (drop (suc skip - 0) ys)) (none_kept left (suc skip)))
kept-append zero zero (x ∷ xs) ys =
    let none : 0 ≡ 0 - (suc (length xs) - 0) = omega arith in
    ap (λ n. take n (drop (0 - suc (length xs)) ys)) none
kept-append (suc left) zero (x ∷ xs) ys =
    let fewer : left - (length xs - 0) ≡ suc left - (suc (length xs) - 0) = omega arith in
    let from : 0 - length xs ≡ 0 - suc (length xs) = omega arith in
    ap (λ zs. x ∷ zs) (kept-append left zero xs ys ∙ (λ i. take left xs ++ take (fewer i) (drop (from i) ys)))
kept-append left (suc skip) (x ∷ xs) ys =
    let same_left : left - (length xs - skip) ≡ left - (suc (length xs) - suc skip) = omega arith in
    let from : skip - length xs ≡ suc skip - suc (length xs) = omega arith in
    kept-append left skip xs ys ∙ (λ i. take left (drop skip xs) ++ take (same_left i) (drop (from i) ys))

-- ---- a list in order

-- none is below what the first one is not below
none_below : {X : Type 0} (u k : Bytes) (rows : List (Bytes × X)) → is_lt (byte_cmp k u) ≡ false → T (below_all byte_cmp k rows) → filter (λ row. is_lt (byte_cmp row.0 u)) rows ≡ []
none_below u k [] above h = refl
none_below {X} u k (row ∷ rows) above h = by_test (is_lt (byte_cmp row.0 u)) refl (none_below u k rows above (second (is_lt (byte_cmp k row.0)) (below_all byte_cmp k rows) h))
  where
    by_test : (b : Bool) → is_lt (byte_cmp row.0 u) ≡ b → filter (λ (row : Bytes × X). is_lt (byte_cmp row.0 u)) rows ≡ [] → cond b (row ∷ filter (λ (row : Bytes × X). is_lt (byte_cmp row.0 u)) rows) (filter (λ (row : Bytes × X). is_lt (byte_cmp row.0 u)) rows) ≡ []
    by_test true is rest =
        let far : byte_cmp k u ≡ Less = nat_list_cmp_total.trans k row.0 u (less _ (first (is_lt (byte_cmp k row.0)) (below_all byte_cmp k rows) h)) (less_is _ is) in
        let yes_too : is_lt (byte_cmp k u) ≡ true = ap is_lt far in
        absurd (cc)
    by_test false is rest = rest

-- of a list in order those below come first
pub below_first : {X : Type 0} (u : Bytes) (rows : List (Bytes × X)) → T (is_sorted byte_cmp rows) → take_while (λ row. is_lt (byte_cmp row.0 u)) rows ≡ filter (λ row. is_lt (byte_cmp row.0 u)) rows
below_first u [] h = refl
below_first {X} u (row ∷ rows) h =
    take_while-cons below row rows ∙ by_test (below row) refl (below_first u rows (second (below_all byte_cmp row.0 rows) (is_sorted byte_cmp rows) h))
  where
    below : Bytes × X → Bool
    below r = is_lt (byte_cmp r.0 u)

    by_test : (b : Bool) → is_lt (byte_cmp row.0 u) ≡ b → take_while below rows ≡ filter below rows → cond b (row ∷ take_while below rows) [] ≡ cond b (row ∷ filter below rows) (filter below rows)
    by_test true is rest = ap (λ rs. row ∷ rs) rest
    by_test false is rest = sym (none_below u row.0 rows is (first (below_all byte_cmp row.0 rows) (is_sorted byte_cmp rows) h))
