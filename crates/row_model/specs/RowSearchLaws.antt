-- Where a raw key stands in ordered rows, and what shows there.
use Rattle.std.proofs.Common.{◌≡◌, ℕ, zero, suc, ◌<◌, ◌≤◌, List, [], ◌∷◌, refl, sym, ap, subst, ◌∙◌, Bool, true, false, cond, length, get_or, Option, Some, None, arith, inl, inr}
use Rattle.std.specs.Prelude.{nat_lt, nat_le, ◌&&◌, IsTrue}
use Rattle.std.specs.List.{Contains, slice_get}
use Rattle.std.specs.List.Sorted.{IsPartitionPoint, IsPartitionedBy}
use Rattle.std.specs.declared.cmp.Ordering.{Ordering}
use Rattle.std.specs.declared.cmp.Ordering.TheVariants.{Less, Equal, Greater}
use Rattle.std.specs.Ordering.{nat_cmp, is_lt, is_eq, ordering_then}
use Rattle.std.specs.Cmp.{tied_itself, eq_by_cmp_equiv}
use Rattle.std.specs.Cmp.Lexicographic.{nat_list_cmp_total}
use Rattle.std.proofs.lemmas.Bool.Decides.{nat_tests}
use Rattle.kv_base.specs.InversionLaws.{both_first, both_second}
use Rattle.kv_base.specs.Map.{Bytes, byte_cmp, same, same_is, kept}
use Rattle.kv_base.specs.declared.row.Row.{Row}
use Rattle.row_model.specs.Rows.{shown_at, newer, seen_at}
use Rattle.row_model.specs.RowOrder.{row_cmp, leads, is_ordered, is_before, is_below}
use Rattle.row_model.specs.RowLaws.{as_row, seen_is, shown_where, there_cases, there_never}
use Rattle.row_model.specs.RowOrderLaws.{row_total}
use Rattle.kv_base.specs.TestLaws.{less_is as less}

-- a row that leads others stands in front of each of them
pub leads_each : (row : Row) (rows : List Row) (other : Row) → leads row rows ≡ true → Contains rows other → row_cmp row other ≡ Less
leads_each row [] other h there = absurd (there_never other there)
leads_each row (r ∷ rows) other h there =
    elim (there_cases rows other r there) [
      | inl e ↦ subst (λ (o : Row). row_cmp row o ≡ Less) e (less (row_cmp row r) (both_first (is_lt (row_cmp row r)) (leads row rows) h))
      | inr k ↦ leads_each row rows other (both_second (is_lt (row_cmp row r)) (leads row rows) h) k
    ]

leads_at : (row : Row) (rows : List Row) (i : ℕ) (d : Row) → leads row rows ≡ true → i < length rows → row_cmp row (get_or rows i d) ≡ Less
leads_at row [] i d h low = let never : ⊥ = omega arith in absurd never
leads_at row (r ∷ rows) zero d h low = less (row_cmp row r) (both_first (is_lt (row_cmp row r)) (leads row rows) h)
leads_at row (r ∷ rows) (suc i) d h low = leads_at row rows i d (both_second (is_lt (row_cmp row r)) (leads row rows) h) (omega arith)

-- of two places the row at the first stands in front
pub ordered_at : (rows : List Row) (i j : ℕ) (d : Row) → is_ordered rows ≡ true → i < j → j < length rows → row_cmp (get_or rows i d) (get_or rows j d) ≡ Less
unfolding is_ordered
ordered_at [] i j d h low high = let never : ⊥ = omega arith in absurd never
ordered_at (r ∷ rows) i zero d h low high = let never : ⊥ = omega arith in absurd never
ordered_at (r ∷ rows) zero (suc j) d h low high = leads_at r rows j d (both_first (leads r rows) (is_ordered rows) h) (omega arith)
ordered_at (r ∷ rows) (suc i) (suc j) d h low high = ordered_at rows i j d (both_second (leads r rows) (is_ordered rows) h) (omega arith) (omega arith)

-- a test that holds of a row holds of all rows in front of it, so a binary search finds where it ends
falls_once : (p : Row → Bool) → ((row other : Row) → row_cmp row other ≡ Less → p other ≡ true → p row ≡ true) → (rows : List Row) → is_ordered rows ≡ true → IsPartitionedBy p rows
falls_once p step rows h i j d low high is =
    elim (nat_lt i j) as (λ b. nat_lt i j ≡ b → p (get_or rows i d) ≡ true) [
      | true ↦ λ t. step (get_or rows i d) (get_or rows j d) (ordered_at rows i j d h (grind (arith, nat_tests)) high) is
      | false ↦ λ t. let one : i ≡ j = grind (arith, nat_tests) in subst (λ (n : ℕ). p (get_or rows n d) ≡ true) (sym one) is
    ] refl

pub before_once : (raw : Bytes) (s : ℕ) (rows : List Row) → IsTrue (is_ordered rows) → IsPartitionedBy (is_before raw s) rows
before_once raw s = falls_once (is_before raw s) (λ row other e h. ap is_lt (row_total.trans row other (as_row s raw None) e (less (row_cmp other (as_row s raw None)) h)))

pub below_once : (raw : Bytes) (rows : List Row) → IsTrue (is_ordered rows) → IsPartitionedBy (is_below raw) rows
below_once raw = falls_once (is_below raw) (λ row other e h. below row other e (less (byte_cmp other.raw raw) h))
  where
    below : (row other : Row) → row_cmp row other ≡ Less → byte_cmp other.raw raw ≡ Less → is_lt (byte_cmp row.raw raw) ≡ true
    below row other e h = by_key (byte_cmp row.raw other.raw) refl
      where
        by_key : (o : Ordering) → byte_cmp row.raw other.raw ≡ o → is_lt (byte_cmp row.raw raw) ≡ true
        by_key Less f = ap is_lt (nat_list_cmp_total.trans row.raw other.raw raw f h)
        by_key Equal f = ap is_lt (nat_list_cmp_total.congr row.raw other.raw raw f ∙ h)
        by_key Greater f = let never : Greater ≡ Less = sym (ap (λ o. ordering_then o (nat_cmp other.seq row.seq)) f) ∙ e in absurd (cc)

-- ---- what shows

-- the order of a row and of a raw key at a sequence, where the raw keys are the same
same_order : (row : Row) (raw : Bytes) (s : ℕ) → row.raw ≡ raw → row_cmp row (as_row s raw None) ≡ nat_cmp s row.seq
same_order row raw s is = ap (λ o. ordering_then o (nat_cmp s row.seq)) (ap (λ (k : Bytes). byte_cmp k raw) is ∙ tied_itself nat_list_cmp_total raw)

-- a row in front of the place does not show
before_hides : (row : Row) (raw : Bytes) (s : ℕ) → is_before raw s row ≡ true → shown_at s raw row ≡ None
before_hides row raw s h = by_key (same raw row.raw) refl
  where
    by_key : (b : Bool) → same raw row.raw ≡ b → cond (b && nat_le row.seq s) (Some row) None ≡ None
    by_key true t =
        let is : row.raw ≡ raw = sym (same_is raw row.raw t) in
        let order : nat_cmp s row.seq ≡ Less = sym (same_order row raw s is) ∙ less (row_cmp row (as_row s raw None)) h in
        let test : nat_le row.seq s ≡ false = grind (arith, nat_tests) in
        ap (λ b. cond b (Some row) None) test
    by_key false t = refl

-- the first row behind the place shows, where it has the raw key
first_shows : (row : Row) (rows : List Row) (raw : Bytes) (s : ℕ) → leads row rows ≡ true → is_before raw s row ≡ false → row.raw ≡ raw → newer (shown_at s raw row) (seen_at rows s raw) ≡ Some row
first_shows row rows raw s lead h is =
    let order : is_lt (nat_cmp s row.seq) ≡ false = ap is_lt (sym (same_order row raw s is)) ∙ h in
    let low : row.seq ≤ s = grind (arith, nat_tests) in
    ap (λ o. newer o (seen_at rows s raw)) (shown_where s raw row is low) ∙ by_seen (seen_at rows s raw) refl
  where
    by_seen : (o : Option Row) → seen_at rows s raw ≡ o → newer (Some row) o ≡ Some row
    by_seen None e = refl
    by_seen (Some seen) e =
        let it = seen_is rows s raw seen e in
        let order : row_cmp row seen ≡ Less = leads_each row rows seen lead it.0 in
        let older : nat_cmp seen.seq row.seq ≡ Less = sym (ap (λ o. ordering_then o (nat_cmp seen.seq row.seq)) (ap (byte_cmp row.raw) (it.1 ∙ sym is) ∙ tied_itself nat_list_cmp_total row.raw)) ∙ order in
        let test : nat_lt row.seq seen.seq ≡ false = grind (arith, nat_tests) in
        ap (λ b. cond b (Some seen) (Some row)) test

-- and where it has not, none does
none_shows : (row : Row) (rows : List Row) (raw : Bytes) (s : ℕ) → leads row rows ≡ true → is_before raw s row ≡ false → same raw row.raw ≡ false → newer (shown_at s raw row) (seen_at rows s raw) ≡ None
none_shows row rows raw s lead h other =
    ap (λ b. newer (cond (b && nat_le row.seq s) (Some row) None) (seen_at rows s raw)) other ∙ by_seen (seen_at rows s raw) refl
  where
    above : (o : Ordering) (p : Ordering) → is_lt (ordering_then o p) ≡ false → is_eq o ≡ false → o ≡ Greater
    above Less p f e = absurd (cc)
    above Equal p f e = absurd (cc)
    above Greater p f e = refl

    turned : is_eq (byte_cmp row.raw raw) ≡ false
    turned = (eq_by_cmp_equiv nat_list_cmp_total).symm row.raw raw ∙ other

    by_seen : (o : Option Row) → seen_at rows s raw ≡ o → o ≡ None
    by_seen None e = refl
    by_seen (Some seen) e =
        let it = seen_is rows s raw seen e in
        let order : row_cmp row seen ≡ Less = leads_each row rows seen lead it.0 in
        let key : byte_cmp row.raw seen.raw ≡ Greater = ap (byte_cmp row.raw) it.1 ∙ above (byte_cmp row.raw raw) (nat_cmp s row.seq) h turned in
        let never : Greater ≡ Less = sym (ap (λ o. ordering_then o (nat_cmp seen.seq row.seq)) key) ∙ order in
        absurd (cc)

-- what shows stands at the place of the raw key at the sequence, or nowhere
pub seen_from : (rows : List Row) (place : ℕ) (raw : Bytes) (s : ℕ) → IsTrue (is_ordered rows)
    → IsPartitionPoint (λ row. is_before raw s row ≡ true) (λ row. is_before raw s row ≡ false) rows place → seen_at rows s raw ≡ kept (λ row. same raw row.raw) (slice_get rows place)
unfolding seen_at is_ordered
seen_from [] place raw s h split = refl
seen_from (row ∷ rows) (suc place) raw s h split =
    ap (λ o. newer o (seen_at rows s raw)) (before_hides row raw s (split.0 0 row (omega arith) (omega arith)))
    ∙ seen_from rows place raw s (both_second (leads row rows) (is_ordered rows) h) ((λ k d low high. split.0 (suc k) d (omega arith) (omega arith)), (λ k d low high. split.1 (suc k) d (omega arith) (omega arith)))
seen_from (row ∷ rows) zero raw s h split =
    let behind = split.1 0 row (omega arith) (omega arith) in
    let lead = both_first (leads row rows) (is_ordered rows) h in
    elim (same raw row.raw) as (λ b. same raw row.raw ≡ b → newer (shown_at s raw row) (seen_at rows s raw) ≡ cond b (Some row) None) [
      | true ↦ λ t. first_shows row rows raw s lead behind (sym (same_is raw row.raw t))
      | false ↦ λ t. none_shows row rows raw s lead behind t
    ] refl
