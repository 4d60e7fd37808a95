-- Rows stay in order when rows are put among them, and none is lost.
use Rattle.std.proofs.Common.{◌≡◌, ℕ, ◌+◌, ◌<◌, ◌≤◌, List, [], ◌∷◌, ◌++◌, refl, sym, ap, subst, ◌∙◌, Bool, true, false, cond, length, arith, inl, inr}
use Rattle.std.specs.Prelude.{nat_eq, nat_le, nat_lt, not, ◌&&◌, IsTrue, T, map}
use Rattle.std.specs.List.{list_all, Contains}
use Rattle.std.specs.declared.cmp.Ordering.{Ordering}
use Rattle.std.specs.declared.cmp.Ordering.TheVariants.{Less, Equal, Greater}
use Rattle.std.specs.Ordering.{nat_cmp, is_lt, is_le, is_eq, ordering_then, ordering_reverse}
use Rattle.std.specs.Cmp.{IsTotalOrder, nat_cmp_total, on_total, then_total, back_total}
use Rattle.std.specs.Cmp.Lexicographic.{nat_list_cmp_total}
use Rattle.std.specs.FinMap.Entries.{below_all, is_sorted}
use Rattle.std.proofs.lemmas.Bool.Decides.{nat_tests}
use Rattle.kv_base.specs.InversionLaws.{both_first, both_second}
use Rattle.kv_base.specs.Map.{byte_cmp}
use Rattle.batch_codec.specs.Batches.{BatchEntry, Batch, is_row, are_rows}
use Rattle.kv_base.specs.declared.row.Row.{Row}
use Rattle.row_model.specs.Rows.{are_below, are_upto, are_row_texts, entry_row, batch_rows, HaveSameRows}
use Rattle.row_model.specs.RowOrder.{row_cmp, leads, is_ordered, placed, merged}
use Rattle.row_model.specs.RowLaws.{there_first, there_behind, there_cases}
use Rattle.kv_base.specs.TestLaws.{less_is as less}

-- the order of rows is a total one
pub row_total : IsTotalOrder row_cmp
row_total = then_total (on_total (λ row. row.raw) nat_list_cmp_total) (on_total (λ row. row.seq) (back_total nat_cmp_total))

both : (a b : Bool) → a ≡ true → b ≡ true → (a && b) ≡ true
both a b e f = rw (e, f) refl

true_is : (b : Bool) → T b → b ≡ true
true_is true t = refl
true_is false t = absurd t

-- ---- what holds of each row

pub all_more : {X : Type 0} (p q : X → Bool) → ((x : X) → p x ≡ true → q x ≡ true) → (xs : List X) → list_all p xs ≡ true → list_all q xs ≡ true
all_more p q step [] h = refl
all_more p q step (x ∷ xs) h = both (q x) (list_all q xs) (step x (both_first (p x) (list_all p xs) h)) (all_more p q step xs (both_second (p x) (list_all p xs) h))

pub all_placed : (p : Row → Bool) (row : Row) (rows : List Row) → p row ≡ true → list_all p rows ≡ true → list_all p (placed row rows) ≡ true
unfolding placed
all_placed p row [] e h = both (p row) true e refl
all_placed p row (other ∷ rows) e h =
    elim (is_le (row_cmp row other)) as (λ b. list_all p (cond b (row ∷ other ∷ rows) (other ∷ placed row rows)) ≡ true) [
      | true ↦ both (p row) (list_all p (other ∷ rows)) e h
      | false ↦ both (p other) (list_all p (placed row rows)) (both_first (p other) (list_all p rows) h) (all_placed p row rows e (both_second (p other) (list_all p rows) h))
    ]

pub all_merged : (p : Row → Bool) (rows more : List Row) → list_all p rows ≡ true → list_all p more ≡ true → list_all p (merged rows more) ≡ true
unfolding merged
all_merged p rows [] h e = h
all_merged p rows (row ∷ more) h e = all_placed p row (merged rows more) (both_first (p row) (list_all p more) e) (all_merged p rows more h (both_second (p row) (list_all p more) e))

-- ---- the order

-- the row has the place of none of these
abbrev pub is_untied : Row → List Row → Bool
is_untied row = list_all (λ other. not (is_eq (row_cmp row other)))

abbrev pub are_untied : List Row → List Row → Bool
are_untied more rows = list_all (λ row. is_untied row rows) more

leads_on : (row other : Row) (rows : List Row) → row_cmp row other ≡ Less → leads other rows ≡ true → leads row rows ≡ true
leads_on row other rows e = all_more (λ r. is_lt (row_cmp other r)) (λ r. is_lt (row_cmp row r)) (λ r h. ap is_lt (row_total.trans row other r e (less (row_cmp other r) h))) rows

untied_behind : (row : Row) (rows : List Row) → leads row rows ≡ true → is_untied row rows ≡ true
untied_behind row rows = all_more (λ r. is_lt (row_cmp row r)) (λ r. not (is_eq (row_cmp row r))) (λ r h. ap (λ o. not (is_eq o)) (less (row_cmp row r) h)) rows

pub ordered_placed : (row : Row) (rows : List Row) → is_untied row rows ≡ true → is_ordered rows ≡ true → is_ordered (placed row rows) ≡ true
unfolding placed is_ordered
ordered_placed row [] u h = refl
ordered_placed row (other ∷ rows) u h =
    let behind = ordered_placed row rows (both_second (not (is_eq (row_cmp row other))) (is_untied row rows) u) (both_second (leads other rows) (is_ordered rows) h) in
    let front = both_first (leads other rows) (is_ordered rows) h in
    let apart = both_first (not (is_eq (row_cmp row other))) (is_untied row rows) u in
    elim (row_cmp row other) as (λ o. row_cmp row other ≡ o → is_ordered (cond (is_le o) (row ∷ other ∷ rows) (other ∷ placed row rows)) ≡ true) [
      | Less ↦ λ e. both (leads row (other ∷ rows)) (is_ordered (other ∷ rows)) (both (is_lt (row_cmp row other)) (leads row rows) (ap is_lt e) (leads_on row other rows e front)) h
      | Equal ↦ λ e. let never : false ≡ true = sym (ap (λ o. not (is_eq o)) e) ∙ apart in absurd (cc)
      | Greater ↦ λ e.
          let turned : row_cmp other row ≡ Less = row_total.antisymm other row ∙ ap ordering_reverse e in
          both (leads other (placed row rows)) (is_ordered (placed row rows)) (all_placed (λ r. is_lt (row_cmp other r)) row rows (ap is_lt turned) front) behind
    ] refl

pub ordered_merged : (rows more : List Row) → are_untied more rows ≡ true → is_ordered rows ≡ true → is_ordered more ≡ true → is_ordered (merged rows more) ≡ true
unfolding merged is_ordered
ordered_merged rows [] u h e = h
ordered_merged rows (row ∷ more) u h e =
    ordered_placed row (merged rows more)
    (all_merged (λ r. not (is_eq (row_cmp row r))) rows more (both_first (is_untied row rows) (are_untied more rows) u) (untied_behind row more (both_first (leads row more) (is_ordered more) e)))
    (ordered_merged rows more (both_second (is_untied row rows) (are_untied more rows) u) h (both_second (leads row more) (is_ordered more) e))

-- ---- the rows of a batch

leads_entries : (seq : ℕ) (e : BatchEntry) (es : List BatchEntry) → T (below_all byte_cmp e.0 es) → leads (entry_row seq e) (map (entry_row seq) es) ≡ true
leads_entries seq e [] h = refl
leads_entries seq e (f ∷ es) h =
    both (is_lt (row_cmp (entry_row seq e) (entry_row seq f))) (leads (entry_row seq e) (map (entry_row seq) es))
    (ap (λ o. is_lt (ordering_then o (nat_cmp seq seq))) (less (byte_cmp e.0 f.0) (both_first (is_lt (byte_cmp e.0 f.0)) (below_all byte_cmp e.0 es) (true_is _ h))))
    (leads_entries seq e es (subst T (sym (both_second (is_lt (byte_cmp e.0 f.0)) (below_all byte_cmp e.0 es) (true_is _ h))) tt))

ordered_entries : (seq : ℕ) (es : List BatchEntry) → T (is_sorted byte_cmp es) → is_ordered (map (entry_row seq) es) ≡ true
unfolding is_ordered
ordered_entries seq [] h = refl
ordered_entries seq (e ∷ es) h =
    both (leads (entry_row seq e) (map (entry_row seq) es)) (is_ordered (map (entry_row seq) es))
    (leads_entries seq e es (subst T (sym (both_first (below_all byte_cmp e.0 es) (is_sorted byte_cmp es) (true_is _ h))) tt))
    (ordered_entries seq es (subst T (sym (both_second (below_all byte_cmp e.0 es) (is_sorted byte_cmp es) (true_is _ h))) tt))

pub ordered_batch : (seq : ℕ) (batch : Batch) → is_ordered (batch_rows seq batch) ≡ true
unfolding batch_rows
ordered_batch seq batch = ordered_entries seq batch.entries batch.sorted

-- a row that is newer than these has the place of none
pub newer_untied : (row : Row) (rows : List Row) → are_below row.seq rows ≡ true → is_untied row rows ≡ true
newer_untied row rows = all_more (λ r. nat_lt r.seq row.seq) (λ r. not (is_eq (row_cmp row r))) untied rows
  where
    by_key : (o : Ordering) → not (is_eq (ordering_then o Less)) ≡ true
    by_key Less = refl
    by_key Equal = refl
    by_key Greater = refl

    untied : (r : Row) → nat_lt r.seq row.seq ≡ true → not (is_eq (row_cmp row r)) ≡ true
    untied r h = ap (λ b. not (is_eq (ordering_then (byte_cmp row.raw r.raw) (cond b Less (cond (nat_eq r.seq row.seq) Equal Greater))))) h ∙ by_key (byte_cmp row.raw r.raw)

pub untied_batch : (seq : ℕ) (batch : Batch) (rows : List Row) → are_below seq rows ≡ true → are_untied (batch_rows seq batch) rows ≡ true
unfolding batch_rows
untied_batch seq batch rows h = each batch.entries
  where
    each : (es : List BatchEntry) → are_untied (map (entry_row seq) es) rows ≡ true
    each [] = refl
    each (e ∷ es) = both (is_untied (entry_row seq e) rows) (are_untied (map (entry_row seq) es) rows) (newer_untied (entry_row seq e) rows h) (each es)

-- with the rows of a batch above all others, rows stay in order
pub ordered_with_batch : (rows : List Row) (seq : ℕ) (batch : Batch) → IsTrue (are_below seq rows) → IsTrue (is_ordered rows) → IsTrue (is_ordered (merged rows (batch_rows seq batch)))
ordered_with_batch rows seq batch low h = ordered_merged rows (batch_rows seq batch) (untied_batch seq batch rows low) h (ordered_batch seq batch)

pub texts_of_batch : (seq : ℕ) (batch : Batch) → IsTrue (are_rows batch.entries) → IsTrue (are_row_texts (batch_rows seq batch))
unfolding batch_rows
texts_of_batch seq batch h = each batch.entries h
  where
    each : (es : List BatchEntry) → are_rows es ≡ true → are_row_texts (map (entry_row seq) es) ≡ true
    each [] h = refl
    each (e ∷ es) h = both (is_row e) (are_row_texts (map (entry_row seq) es)) (both_first (is_row e) (are_rows es) h) (each es (both_second (is_row e) (are_rows es) h))

-- ---- the greatest sequence

-- what is not above a sequence is below those above it
pub below_from_upto : (last seq : ℕ) (rows : List Row) → IsTrue (are_upto last rows) → last < seq → IsTrue (are_below seq rows)
below_from_upto last seq rows h low = all_more (λ r. nat_le r.seq last) (λ r. nat_lt r.seq seq) (λ r t. grind (arith, nat_tests)) rows h

pub upto_on : (last seq : ℕ) (rows : List Row) → IsTrue (are_upto last rows) → last ≤ seq → IsTrue (are_upto seq rows)
upto_on last seq rows h low = all_more (λ r. nat_le r.seq last) (λ r. nat_le r.seq seq) (λ r t. grind (arith, nat_tests)) rows h

-- with a batch above all others, its sequence is the greatest
pub upto_with_batch : (rows : List Row) (seq : ℕ) (batch : Batch) → IsTrue (are_below seq rows) → IsTrue (are_upto seq (merged rows (batch_rows seq batch)))
unfolding batch_rows
upto_with_batch rows seq batch low =
    all_merged (λ r. nat_le r.seq seq) rows (map (entry_row seq) batch.entries) (all_more (λ r. nat_lt r.seq seq) (λ r. nat_le r.seq seq) (λ r t. grind (arith, nat_tests)) rows low) (each batch.entries)
  where
    reached : nat_le seq seq ≡ true
    reached = grind (arith, nat_tests)

    each : (es : List BatchEntry) → are_upto seq (map (entry_row seq) es) ≡ true
    each [] = refl
    each (e ∷ es) = both (nat_le seq seq) (are_upto seq (map (entry_row seq) es)) reached (each es)

-- ---- the rows that are there

turn : (row other : Row) (rows : List Row) (r : Row) → Contains (row ∷ other ∷ rows) r → Contains (other ∷ row ∷ rows) r
turn row other rows r there =
    elim (there_cases (other ∷ rows) r row there) [
      | inl e ↦ there_behind (row ∷ rows) r other (subst (λ (x : Row). Contains (row ∷ rows) x) e (there_first rows row))
      | inr h ↦ elim (there_cases rows r other h) [
        | inl e ↦ subst (λ (x : Row). Contains (other ∷ row ∷ rows) x) e (there_first (row ∷ rows) other)
        | inr k ↦ there_behind (row ∷ rows) r other (there_behind rows r row k)
      ]
    ]

behind_too : (row : Row) (rows others : List Row) → ((r : Row) → Contains rows r → Contains others r) → (r : Row) → Contains (row ∷ rows) r → Contains (row ∷ others) r
behind_too row rows others step r there =
    elim (there_cases rows r row there) [
      | inl e ↦ subst (λ (x : Row). Contains (row ∷ others) x) e (there_first others row)
      | inr h ↦ there_behind others r row (step r h)
    ]

pub same_placed : (row : Row) (rows : List Row) → HaveSameRows (row ∷ rows) (placed row rows)
unfolding placed
same_placed row [] = ((λ r h. h), (λ r h. h))
same_placed row (other ∷ rows) =
    let behind = same_placed row rows in
    elim (is_le (row_cmp row other)) as (λ b. HaveSameRows (row ∷ other ∷ rows) (cond b (row ∷ other ∷ rows) (other ∷ placed row rows))) [
      | true ↦ ((λ r h. h), (λ r h. h))
      | false ↦ (
        (λ r h. behind_too other (row ∷ rows) (placed row rows) behind.0 r (turn row other rows r h)),
        (λ r h. turn other row rows r (behind_too other (placed row rows) (row ∷ rows) behind.1 r h)),
      )
    ]

pub same_merged : (rows more : List Row) → HaveSameRows (more ++ rows) (merged rows more)
unfolding merged
same_merged rows [] = ((λ r h. h), (λ r h. h))
same_merged rows (row ∷ more) =
    let behind = same_merged rows more in
    let here = same_placed row (merged rows more) in (
      (λ r h. here.0 r (behind_too row (more ++ rows) (merged rows more) behind.0 r h)),
      (λ r h. behind_too row (merged rows more) (more ++ rows) behind.1 r (here.1 r h)),
    )

pub length-placed : (row : Row) (rows : List Row) → length (placed row rows) ≡ length rows + 1
unfolding placed
length-placed row [] = refl
length-placed row (other ∷ rows) =
    let behind = length-placed row rows in
    elim (is_le (row_cmp row other)) as (λ b. length (cond b (row ∷ other ∷ rows) (other ∷ placed row rows)) ≡ length (other ∷ rows) + 1) [
      | true ↦ omega arith
      | false ↦ omega (arith, behind)
    ]

pub length-merged : (rows more : List Row) → length (merged rows more) ≡ length rows + length more
unfolding merged
length-merged rows [] = omega arith
length-merged rows (row ∷ more) = let behind = length-merged rows more in let here = length-placed row (merged rows more) in omega (arith, behind, here)
