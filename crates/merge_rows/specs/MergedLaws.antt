-- What several lists come to in order, and that their own order decides nothing.
use Rattle.std.proofs.Common.{◌≡◌, ℕ, zero, suc, ◌+◌, ◌≤◌, List, [], ◌∷◌, ◌++◌, refl, sym, ap, subst, ◌∙◌, Bool, true, false, cond, append-nil, Option, Some, None, arith, inl, inr}
use Rattle.std.specs.Prelude.{not, ◌&&◌}
use Rattle.std.specs.List.{list_all, list_any, Contains, count_by, sum_by, AllByRecursion}
use Rattle.std.specs.List.Sorted.{IsPermutation}
use Rattle.std.specs.declared.cmp.Ordering.{Ordering}
use Rattle.std.specs.declared.cmp.Ordering.TheVariants.{Less, Equal, Greater}
use Rattle.std.specs.Ordering.{is_lt, is_le, is_eq, ordering_reverse}
use Rattle.std.specs.Cmp.{tied_itself}
use Rattle.std.proofs.lemmas.List.Sums.{sum_by-append, sum_by-cons}
use Rattle.std.proofs.lemmas.List.Elements.{Contains-append_left, Contains-append_right, Contains-append_cases}
use Rattle.std.proofs.lemmas.List.Sorted.{IsPermutation-sym, Contains-permutation, sum_by-IsPermutation, list_any-IsPermutation}
use Rattle.std.proofs.Props.{props}
use Rattle.kv_base.specs.InversionLaws.{both_first, both_second}
use Rattle.kv_base.specs.TestLaws.{less_is}
use Rattle.kv_base.specs.declared.row.Row.{Row}
use Rattle.row_model.specs.Rows.{is_row_text, are_row_texts, HaveSameRows}
use Rattle.row_model.specs.RowOrder.{row_cmp, leads, is_ordered, placed, merged}
use Rattle.row_model.specs.RowOrderLaws.{row_total, all_more, all_merged, is_untied, ordered_placed, same_merged}
use Rattle.row_model.specs.ReplayLaws.{one_order}
use Rattle.merge_rows.specs.Cursors.{Takes, with_held}
use Rattle.merge_rows.specs.Merged.{AreDistinct, rows_in_order, told_rows, is_untold, all_told_rows, merged_rows}
use Rattle.merge_rows.specs.Heads.{head_cmp, IsHead}

pub AreDistinct-prop : (rows : List Row) → IsProp (AreDistinct rows)
AreDistinct-prop rows = Prim.hlevel props

both : (a b : Bool) → a ≡ true → b ≡ true → (a && b) ≡ true
both a b e f = rw (e, f) refl

-- ---- rows of which no two tie

abbrev ties : Row → Row → Bool
ties row other = is_eq (row_cmp row other)

counted : {X : Type 0} (p : X → Bool) (x : X) (xs : List X) → (count_by p xs ≤ 0 → list_all (λ y. not (p y)) xs ≡ true) → (b : Bool) → p x ≡ b → cond b 1 0 + count_by p xs ≤ 0 → list_all (λ y. not (p y)) (x ∷ xs) ≡ true
counted p x xs behind true t h = absurd (omega (arith, h))
counted p x xs behind false t h = both (not (p x)) (list_all (λ y. not (p y)) xs) (ap not t) (behind (omega (arith, h)))

none_counted : {X : Type 0} (p : X → Bool) (xs : List X) → count_by p xs ≤ 0 → list_all (λ x. not (p x)) xs ≡ true
none_counted p [] h = refl
none_counted p (x ∷ xs) h = counted p x xs (none_counted p xs) (p x) refl (subst (λ (n : ℕ). n ≤ 0) (sum_by-cons (λ y. cond (p y) 1 0) x xs) h)

-- the first ties with none of the others
pub first_untied : (row : Row) (rows : List Row) → AreDistinct (row ∷ rows) → is_untied row rows ≡ true
first_untied row rows h =
    let here : ties row row ≡ true = ap is_eq (tied_itself row_total row) in
    let sum : cond (ties row row) 1 0 + count_by (ties row) rows ≤ 1 = subst (λ (n : ℕ). n ≤ 1) (sum_by-cons (λ x. cond (ties row x) 1 0) row rows) (h row) in
    let one : 1 + count_by (ties row) rows ≤ 1 = subst (λ b. cond b 1 0 + count_by (ties row) rows ≤ 1) here sum in
    none_counted (ties row) rows (omega (arith, one))

pub distinct_behind : (row : Row) (rows : List Row) → AreDistinct (row ∷ rows) → AreDistinct rows
distinct_behind row rows h = λ other. let sum = sum_by-cons (λ x. cond (ties other x) 1 0) row rows in let whole = h other in omega (arith, sum, whole)

-- then they stand in order
pub ordered_in_order : (rows : List Row) → AreDistinct rows → is_ordered (rows_in_order rows) ≡ true
unfolding merged is_ordered
ordered_in_order [] h = refl
ordered_in_order (row ∷ rows) h =
    ordered_placed row (merged [] rows) (all_merged (λ r. not (is_eq (row_cmp row r))) [] rows refl (first_untied row rows h)) (ordered_in_order rows (distinct_behind row rows h))

pub same_in_order : (rows : List Row) → HaveSameRows rows (rows_in_order rows)
same_in_order rows = subst (λ (rs : List Row). HaveSameRows rs (rows_in_order rows)) (append-nil rows) (same_merged [] rows)

pub texts_in_order : (rows : List Row) → are_row_texts rows ≡ true → are_row_texts (rows_in_order rows) ≡ true
texts_in_order rows h = all_merged is_row_text [] rows refl h

-- the same rows come to the same list
pub one_in_order : (rows others : List Row) → AreDistinct rows → AreDistinct others → HaveSameRows rows others → rows_in_order rows ≡ rows_in_order others
one_in_order rows others h k same =
    let here = same_in_order rows in
    let there = same_in_order others in
    one_order (rows_in_order rows) (rows_in_order others) (ordered_in_order rows h) (ordered_in_order others k)
    ((λ r t. there.0 r (same.0 r (here.1 r t))), (λ r t. here.0 r (same.1 r (there.1 r t))))

-- rows that stand in order come to themselves
pub ordered_stay : (rows : List Row) → AreDistinct rows → is_ordered rows ≡ true → rows_in_order rows ≡ rows
ordered_stay rows h order = let here = same_in_order rows in one_order (rows_in_order rows) rows (ordered_in_order rows h) order (here.1, here.0)

-- ---- rows of several lists

count-all : (p : Row → Bool) (lists : List (Option (List Row))) → count_by p (all_told_rows lists) ≡ sum_by (λ l. count_by p (told_rows l)) lists
count-all p [] = refl
count-all p (l ∷ lists) = sum_by-append (λ x. cond (p x) 1 0) (told_rows l) (all_told_rows lists) ∙ ap (λ (n : ℕ). count_by p (told_rows l) + n) (count-all p lists) ∙ sym (sum_by-cons (λ m. count_by p (told_rows m)) l lists)

pub distinct_permuted : (lists others : List (Option (List Row))) → IsPermutation lists others → AreDistinct (all_told_rows lists) → AreDistinct (all_told_rows others)
distinct_permuted lists others moved h = λ row.
    let old = count-all (ties row) lists in
    let new = count-all (ties row) others in
    let same = sum_by-IsPermutation (λ l. count_by (ties row) (told_rows l)) lists others moved in
    let few = h row in
    omega (arith, old, new, same, few)

-- a row of them all is one of one of them
in_one : (lists : List (Option (List Row))) (row : Row) → Contains (all_told_rows lists) row → (l : Option (List Row)) × Contains lists l × Contains (told_rows l) row
in_one [] row (k, low, is) = absurd (omega (arith, low))
in_one (l ∷ lists) row there =
    elim (Contains-append_cases (told_rows l) (all_told_rows lists) row there) [
      | inl here ↦ (l, (0, omega arith, refl), here)
      | inr more ↦ let one = in_one lists row more in (one.0, (suc one.1.0, omega (arith, one.1.1), one.1.2), one.2)
    ]

in_all : (lists : List (Option (List Row))) (l : Option (List Row)) (row : Row) → Contains lists l → Contains (told_rows l) row → Contains (all_told_rows lists) row
in_all [] l row (k, low, is) there = absurd (omega (arith, low))
in_all (m ∷ lists) l row (zero, low, is) there = Contains-append_left (told_rows m) (all_told_rows lists) row (subst (λ (o : Option (List Row)). Contains (told_rows o) row) (sym is) there)
in_all (m ∷ lists) l row (suc k, low, is) there = Contains-append_right (told_rows m) (all_told_rows lists) row (in_all lists l row (k, omega (arith, low), is) there)

pub same_permuted : (lists others : List (Option (List Row))) → IsPermutation lists others → HaveSameRows (all_told_rows lists) (all_told_rows others)
same_permuted lists others moved = (
  (λ row there. let one = in_one lists row there in in_all others one.0 row (Contains-permutation lists others one.0 moved one.1) one.2),
  (λ row there. let one = in_one others row there in in_all lists one.0 row (Contains-permutation others lists one.0 (IsPermutation-sym lists others moved) one.1) one.2),
)

-- their own order decides nothing
pub merged_permuted : (lists others : List (Option (List Row))) → IsPermutation lists others → AreDistinct (all_told_rows lists) → merged_rows lists ≡ merged_rows others
merged_permuted lists others moved h =
    (λ i. cond (list_any-IsPermutation is_untold lists others moved i) None (Some (one_in_order (all_told_rows lists) (all_told_rows others) h (distinct_permuted lists others moved h) (same_permuted lists others moved) i)))

-- ---- the first row of all

front_placed : (row : Row) (rows : List Row) → leads row rows ≡ true → placed row rows ≡ row ∷ rows
unfolding placed
front_placed row [] h = refl
front_placed row (other ∷ rows) h =
    let order = less_is (row_cmp row other) (both_first (is_lt (row_cmp row other)) (leads row rows) h) in
    ap (λ o. cond (is_le o) (row ∷ other ∷ rows) (other ∷ placed row rows)) order

leads_on : (row other : Row) (rows : List Row) → row_cmp row other ≡ Less → leads other rows ≡ true → leads row rows ≡ true
leads_on row other rows e = all_more (λ r. is_lt (row_cmp other r)) (λ r. is_lt (row_cmp row r)) (λ r h. ap is_lt (row_total.trans row other r e (less_is (row_cmp other r) h))) rows

pub leads-append : (row : Row) (rows others : List Row) → leads row rows ≡ true → leads row others ≡ true → leads row (rows ++ others) ≡ true
leads-append row [] others h k = k
leads-append row (r ∷ rows) others h k =
    both (is_lt (row_cmp row r)) (leads row (rows ++ others)) (both_first (is_lt (row_cmp row r)) (leads row rows) h) (leads-append row rows others (both_second (is_lt (row_cmp row r)) (leads row rows) h) k)

pub untied_front : (row : Row) (rows others : List Row) → is_untied row (rows ++ others) ≡ true → is_untied row rows ≡ true
untied_front row [] others h = refl
untied_front row (r ∷ rows) others h =
    both (not (ties row r)) (is_untied row rows) (both_first (not (ties row r)) (is_untied row (rows ++ others)) h) (untied_front row rows others (both_second (not (ties row r)) (is_untied row (rows ++ others)) h))

pub untied_back : (row : Row) (rows others : List Row) → is_untied row (rows ++ others) ≡ true → is_untied row others ≡ true
untied_back row [] others h = h
untied_back row (r ∷ rows) others h = untied_back row rows others (both_second (not (ties row r)) (is_untied row (rows ++ others)) h)

-- the one that no head is greater than leads the rows of them all
module _ {X : Type 0} (row_of : X → Option Row) (rest_of : X → Option (List Row)) (good : (x : X) → IsHead (row_of x) (rest_of x)) where
  abbrev pub lists_of : List X → List (Option (List Row))
  lists_of [] = []
  lists_of (x ∷ xs) = with_held (row_of x) (rest_of x) ∷ lists_of xs

  one_led : (row : Row) (o : Option Row) (rows : Option (List Row)) → IsHead o rows → is_lt (head_cmp (Some row) o) ≡ false → is_untied row (told_rows (with_held o rows)) ≡ true → leads row (told_rows (with_held o rows)) ≡ true
  unfolding is_ordered
  one_led row None None head top apart = refl
  one_led row None (Some []) head top apart = refl
  one_led row None (Some (r ∷ rest)) head top apart = absurd (omega (arith, head))
  one_led row (Some y) None head top apart = refl
  one_led row (Some y) (Some rest) head top apart = by_order (row_cmp row y) refl
    where
      by_order : (o : Ordering) → row_cmp row y ≡ o → leads row (y ∷ rest) ≡ true
      by_order Less e = both (is_lt (row_cmp row y)) (leads row rest) (ap is_lt e) (leads_on row y rest e (both_first (leads y rest) (is_ordered rest) head.0))
      by_order Equal e = let never : false ≡ true = sym (ap (λ o. not (is_eq o)) e) ∙ both_first (not (ties row y)) (is_untied row rest) apart in absurd (cc)
      by_order Greater e = let never : true ≡ false = sym (ap is_lt (row_total.antisymm y row ∙ ap ordering_reverse e)) ∙ top in absurd (cc)

  pub all_led : (row : Row) (xs : List X) → AllByRecursion (λ x. is_lt (head_cmp (Some row) (row_of x)) ≡ false) xs → is_untied row (all_told_rows (lists_of xs)) ≡ true → leads row (all_told_rows (lists_of xs)) ≡ true
  all_led row [] top apart = refl
  all_led row (x ∷ xs) top apart =
      let own = told_rows (with_held (row_of x) (rest_of x)) in
      leads-append row own (all_told_rows (lists_of xs))
      (one_led row (row_of x) (rest_of x) (good x) top.0 (untied_front row own (all_told_rows (lists_of xs)) apart))
      (all_led row xs top.1 (untied_back row own (all_told_rows (lists_of xs)) apart))

  -- where the greatest is at its end, no row is left
  pub none_left : (xs : List X) → AllByRecursion (λ x. is_lt (head_cmp None (row_of x)) ≡ false) xs → all_told_rows (lists_of xs) ≡ []
  none_left [] top = refl
  none_left (x ∷ xs) top = ap (λ (rows : List Row). rows ++ all_told_rows (lists_of xs)) (one (row_of x) (rest_of x) (good x) top.0) ∙ none_left xs top.1
    where
      one : (o : Option Row) (rows : Option (List Row)) → IsHead o rows → is_lt (head_cmp None o) ≡ false → told_rows (with_held o rows) ≡ []
      one None None head t = refl
      one None (Some []) head t = refl
      one None (Some (r ∷ rest)) head t = absurd (omega (arith, head))
      one (Some y) rows head t = absurd (cc)

-- a row that leads all others is taken first
pub takes_first : (row : Row) (rest : Option (List Row)) (others : List (Option (List Row))) → leads row (told_rows rest ++ all_told_rows others) ≡ true
    → Takes (merged_rows (with_held (Some row) rest ∷ others)) (Some row) (merged_rows (rest ∷ others))
unfolding merged
takes_first row None others lead = refl
takes_first row (Some rest) others lead =
    let front : placed row (merged [] (rest ++ all_told_rows others)) ≡ row ∷ merged [] (rest ++ all_told_rows others) =
    front_placed row (merged [] (rest ++ all_told_rows others)) (all_merged (λ r. is_lt (row_cmp row r)) [] (rest ++ all_told_rows others) refl lead) in
    elim (list_any is_untold others) as (λ b. Takes (cond b None (Some (placed row (merged [] (rest ++ all_told_rows others))))) (Some row) (cond b None (Some (merged [] (rest ++ all_told_rows others))))) [
      | true ↦ refl
      | false ↦ subst (λ (rows : List Row). Takes (Some rows) (Some row) (Some (merged [] (rest ++ all_told_rows others)))) (sym front) (refl, refl)
    ]

pub merge_takes_none : (rest : Option (List Row)) (others : List (Option (List Row))) → all_told_rows (rest ∷ others) ≡ [] → Takes (merged_rows (rest ∷ others)) None (merged_rows (rest ∷ others))
unfolding merged
merge_takes_none rest others none =
    elim (list_any is_untold (rest ∷ others)) as (λ b. Takes (cond b None (Some (rows_in_order (all_told_rows (rest ∷ others))))) None (cond b None (Some (rows_in_order (all_told_rows (rest ∷ others)))))) [
      | true ↦ refl
      | false ↦ subst (λ (rows : List Row). Takes (Some (rows_in_order rows)) None (Some (rows_in_order rows))) (sym none) (refl, refl)
    ]
