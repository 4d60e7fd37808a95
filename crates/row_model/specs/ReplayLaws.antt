-- What the rows of records show, and how they stand in order.
use Rattle.std.proofs.Common.{◌≡◌, ℕ, ◌<◌, List, [], ◌∷◌, ◌++◌, refl, sym, ap, subst, ◌∙◌, Bool, true, false, cond, Option, Some, None, ◌+◌, length, get_or, append_assoc, append-nil, arith, inl, inr}
use Rattle.std.specs.Prelude.{nat_lt, ◌&&◌, ◌⊎◌, IsTrue, option_map}
use Rattle.std.specs.List.{Contains, IsDistinct, AllByRecursion}
use Rattle.std.specs.List.Sorted.{IsPermutation, IsSorted, IsStrictlySortedBy}
use Rattle.std.specs.declared.cmp.Ordering.{Ordering}
use Rattle.std.specs.declared.cmp.Ordering.TheVariants.{Less, Equal, Greater}
use Rattle.std.specs.Ordering.{is_lt, is_le, is_eq, eq_by_cmp, ordering_reverse}
use Rattle.std.specs.Cmp.{tied_itself, eq_by_cmp_equiv}
use Rattle.std.proofs.lemmas.Bool.Decides.{nat_tests}
use Rattle.std.proofs.lemmas.List.Sorted.{IsPermutation-refl, IsPermutation-sym, IsPermutation-cons, IsPermutation-trans, IsPermutation-middle, IsPermutation-append_left, IsPermutation-append_comm, Contains-permutation}
use Rattle.std.proofs.lemmas.Map.Keys.{IsDistinct-from_sorted, IsDistinct-IsPermutation, apart_from_distinct, sorted_from_all_adjacent}
use Rattle.kv_base.specs.InversionLaws.{both_first, both_second}
use Rattle.kv_base.specs.Map.{Bytes, Map, empty, get, get-empty, same_map}
use Rattle.batch_codec.specs.Batches.{Batch, after, over}
use Rattle.batch_codec.specs.BatchLaws.{get-after}
use Rattle.batch_codec.specs.declared.record.Record.{Record}
use Rattle.kv_base.specs.declared.row.Row.{Row}
use Rattle.row_model.specs.Rows.{are_upto, are_below, seen_at, at, batch_rows, HaveSameRows}
use Rattle.row_model.specs.RowOrder.{row_cmp, leads, is_ordered, placed, merged}
use Rattle.row_model.specs.RowLaws.{there_first, there_behind, there_cases, there_never, as_row, batch_shows}
use Rattle.row_model.specs.RowMaps.{value_seen}
use Rattle.row_model.specs.RowMapLaws.{get_at, at_merged, at_batch}
use Rattle.row_model.specs.RowOrderLaws.{row_total, ordered_with_batch, below_from_upto, upto_with_batch}
use Rattle.kv_base.specs.TestLaws.{less_is as less}
use Rattle.row_model.specs.RowSearchLaws.{leads_each}
use Rattle.row_model.specs.Replays.{rise_above, do_rise, last_from, rows_after, record_rows, replayed}

both : (a b : Bool) → a ≡ true → b ≡ true → (a && b) ≡ true
both a b e f = rw (e, f) refl

-- ---- the first batch

-- no rows are the empty map
pub at_none : (s : ℕ) → at [] s ≡ empty
unfolding seen_at
at_none s = same_map (at [] s) empty (λ raw. get_at [] s raw ∙ sym (get-empty raw))

pub at_first : (seq : ℕ) (batch : Batch) → at (batch_rows seq batch ++ []) seq ≡ after empty batch
at_first seq batch =
    same_map (at (batch_rows seq batch ++ []) seq) (after empty batch) (λ raw.
    get_at (batch_rows seq batch ++ []) seq raw ∙ ap value_seen (shows raw) ∙ values raw (get batch raw) ∙ sym (get-after empty batch raw))
  where
    shows : (raw : Bytes) → seen_at (batch_rows seq batch ++ []) seq raw ≡ option_map (as_row seq raw) (get batch raw)
    shows raw = ap (λ rows. seen_at rows seq raw) (append-nil (batch_rows seq batch)) ∙ batch_shows seq seq batch raw (omega arith)

    values : (raw : Bytes) (o : Option (Option Bytes)) → value_seen (option_map (as_row seq raw) o) ≡ over o (get empty raw)
    values raw None = sym (get-empty raw)
    values raw (Some value) = refl

-- ---- one batch after the other

above : (last seq : ℕ) → nat_lt last seq ≡ true → last < seq
above last seq t = grind (arith, nat_tests)

below : (held : List Row) (last : ℕ) (r : Record) (rs : List Record) → are_upto last held ≡ true → rise_above last (r ∷ rs) ≡ true → are_below r.seq held ≡ true
below held last r rs h rise = below_from_upto last r.seq held h (above last r.seq (both_first (nat_lt last r.seq) (rise_above r.seq rs) rise))

upto_from : (held : List Row) (last : ℕ) (rs : List Record) → are_upto last held ≡ true → rise_above last rs ≡ true → are_upto (last_from last rs) (replayed held rs) ≡ true
unfolding replayed
upto_from held last [] h rise = h
upto_from held last (r ∷ rs) h rise =
    upto_from (merged held (batch_rows r.seq r.batch)) r.seq rs (upto_with_batch held r.seq r.batch (below held last r rs h rise)) (both_second (nat_lt last r.seq) (rise_above r.seq rs) rise)

ordered_from : (held : List Row) (last : ℕ) (rs : List Record) → are_upto last held ≡ true → is_ordered held ≡ true → rise_above last rs ≡ true → is_ordered (replayed held rs) ≡ true
unfolding replayed
ordered_from held last [] h order rise = order
ordered_from held last (r ∷ rs) h order rise =
    let low = below held last r rs h rise in
    ordered_from (merged held (batch_rows r.seq r.batch)) r.seq rs (upto_with_batch held r.seq r.batch low) (ordered_with_batch held r.seq r.batch low order)
    (both_second (nat_lt last r.seq) (rise_above r.seq rs) rise)

at_from : (held : List Row) (last : ℕ) (before : Map Bytes) (rs : List Record) → are_upto last held ≡ true → at held last ≡ before → rise_above last rs ≡ true
    → at (replayed held rs) (last_from last rs) ≡ rows_after before rs
unfolding replayed
at_from held last before [] h is rise = is
at_from held last before (r ∷ rs) h is rise =
    at_from (merged held (batch_rows r.seq r.batch)) r.seq (after before r.batch) rs (upto_with_batch held r.seq r.batch (below held last r rs h rise))
    (at_merged held (batch_rows r.seq r.batch) r.seq ∙ at_batch held last r.seq r.batch h (above last r.seq (both_first (nat_lt last r.seq) (rise_above r.seq rs) rise)) ∙ ap (λ rows. after rows r.batch) is)
    (both_second (nat_lt last r.seq) (rise_above r.seq rs) rise)

-- no sequence is above the last record's
pub upto_replayed : (rs : List Record) → IsTrue (do_rise rs) → IsTrue (are_upto (last_from 0 rs) (replayed [] rs))
unfolding replayed
upto_replayed [] rise = refl
upto_replayed (r ∷ rs) rise = upto_from (merged [] (batch_rows r.seq r.batch)) r.seq rs (upto_with_batch [] r.seq r.batch refl) rise

pub ordered_replayed : (rs : List Record) → IsTrue (do_rise rs) → IsTrue (is_ordered (replayed [] rs))
unfolding replayed is_ordered
ordered_replayed [] rise = refl
ordered_replayed (r ∷ rs) rise = ordered_from (merged [] (batch_rows r.seq r.batch)) r.seq rs (upto_with_batch [] r.seq r.batch refl) (ordered_with_batch [] r.seq r.batch refl refl) rise

-- at the last sequence the map is what the batches come to, one after the other
pub at_replayed : (rs : List Record) → IsTrue (do_rise rs) → at (replayed [] rs) (last_from 0 rs) ≡ rows_after empty rs
unfolding replayed
at_replayed [] rise = at_none 0
at_replayed (r ∷ rs) rise =
    at_from (merged [] (batch_rows r.seq r.batch)) r.seq (after empty r.batch) rs (upto_with_batch [] r.seq r.batch refl) (at_merged [] (batch_rows r.seq r.batch) r.seq ∙ at_first r.seq r.batch) rise

-- ---- the same rows in another order

permuted_placed : (row : Row) (rows : List Row) → IsPermutation (row ∷ rows) (placed row rows)
unfolding placed
permuted_placed row [] = IsPermutation-refl (row ∷ [])
permuted_placed row (other ∷ rows) =
    let behind = permuted_placed row rows in
    elim (is_le (row_cmp row other)) as (λ b. IsPermutation (row ∷ other ∷ rows) (cond b (row ∷ other ∷ rows) (other ∷ placed row rows))) [
      | true ↦ IsPermutation-refl (row ∷ other ∷ rows)
      | false ↦ IsPermutation-trans (row ∷ other ∷ rows) (other ∷ row ∷ rows) (other ∷ placed row rows) (IsPermutation-middle (row ∷ []) other rows) (IsPermutation-cons other (row ∷ rows) (placed row rows) behind)
    ]

permuted_merged : (rows more : List Row) → IsPermutation (more ++ rows) (merged rows more)
unfolding merged
permuted_merged rows [] = IsPermutation-refl rows
permuted_merged rows (row ∷ more) =
    IsPermutation-trans (row ∷ (more ++ rows)) (row ∷ merged rows more) (placed row (merged rows more)) (IsPermutation-cons row (more ++ rows) (merged rows more) (permuted_merged rows more))
    (permuted_placed row (merged rows more))

permuted_from : (held : List Row) (rs : List Record) → IsPermutation (held ++ record_rows rs) (replayed held rs)
unfolding replayed
permuted_from held [] = subst (λ (rows : List Row). IsPermutation rows held) (sym (append-nil held)) (IsPermutation-refl held)
permuted_from held (r ∷ rs) =
    let more = batch_rows r.seq r.batch in
    let whole = merged held more in
    let put = IsPermutation-trans (held ++ more) (more ++ held) whole (IsPermutation-append_comm held more) (permuted_merged held more) in
    subst (λ (rows : List Row). IsPermutation rows (replayed whole rs)) (append_assoc held more (record_rows rs))
    (IsPermutation-trans ((held ++ more) ++ record_rows rs) (whole ++ record_rows rs) (replayed whole rs) (IsPermutation-append_left (record_rows rs) (held ++ more) whole put) (permuted_from whole rs))

-- they are the rows of all batches, in another order
pub permuted_replayed : (rs : List Record) → IsPermutation (record_rows rs) (replayed [] rs)
permuted_replayed rs = permuted_from [] rs

-- ---- rows in order stand in one order only

strictly_from : (row : Row) (rows : List Row) → leads row rows ≡ true → AllByRecursion (λ y. row_cmp row y ≡ Less) rows
strictly_from row [] h = tt
strictly_from row (r ∷ rows) h = (less (row_cmp row r) (both_first (is_lt (row_cmp row r)) (leads row rows) h), strictly_from row rows (both_second (is_lt (row_cmp row r)) (leads row rows) h))

strictly : (rows : List Row) → is_ordered rows ≡ true → IsStrictlySortedBy row_cmp rows
unfolding is_ordered IsStrictlySortedBy
strictly [] h = tt
strictly (row ∷ rows) h = (strictly_from row rows (both_first (leads row rows) (is_ordered rows) h), strictly rows (both_second (leads row rows) (is_ordered rows) h))

leads_from : (row : Row) (rows : List Row) → AllByRecursion (λ y. row_cmp row y ≡ Less) rows → leads row rows ≡ true
leads_from row [] h = refl
leads_from row (r ∷ rows) h = both (is_lt (row_cmp row r)) (leads row rows) (ap is_lt h.0) (leads_from row rows h.1)

ordered_by : (rows : List Row) → IsStrictlySortedBy row_cmp rows → is_ordered rows ≡ true
unfolding is_ordered IsStrictlySortedBy
ordered_by [] h = refl
ordered_by (row ∷ rows) h = both (leads row rows) (is_ordered rows) (leads_from row rows h.0) (ordered_by rows h.1)

-- of two rows that do not tie, and of which the second is not in front, the first is
in_front : (o p : Ordering) → o ≡ ordering_reverse p → is_lt p ≡ false → is_eq o ≡ false → o ≡ Less
in_front Less p e f g = refl
in_front Equal p e f g = absurd (cc)
in_front Greater Less e f g = absurd (cc)
in_front Greater Equal e f g = absurd (cc)
in_front Greater Greater e f g = absurd (cc)

-- sorted rows of which no two tie are in order
ordered_sorted : (rows : List Row) → IsSorted row_cmp rows → IsDistinct (eq_by_cmp row_cmp) rows → is_ordered rows ≡ true
ordered_sorted rows sorted apart = ordered_by rows (sorted_from_all_adjacent row_total rows nobody step)
  where
    nobody : Row
    nobody = as_row 0 [] None

    step : (k : ℕ) → k + 1 < length rows → row_cmp (get_or rows k nobody) (get_or rows (k + 1) nobody) ≡ Less
    step k low =
        in_front (row_cmp (get_or rows k nobody) (get_or rows (k + 1) nobody)) (row_cmp (get_or rows (k + 1) nobody) (get_or rows k nobody))
        (row_total.antisymm (get_or rows k nobody) (get_or rows (k + 1) nobody)) (sorted k nobody (omega arith) low)
        (apart_from_distinct (eq_by_cmp row_cmp) rows k (k + 1) nobody apart (omega arith) low)

-- two lists of the same rows, both in order, are one
pub one_order : (xs ys : List Row) → is_ordered xs ≡ true → is_ordered ys ≡ true → HaveSameRows xs ys → xs ≡ ys
unfolding is_ordered
one_order [] [] h k same = refl
one_order [] (y ∷ ys) h k same = absurd (there_never y (same.1 y (there_first ys y)))
one_order (x ∷ xs) [] h k same = absurd (there_never x (same.0 x (there_first xs x)))
one_order (x ∷ xs) (y ∷ ys) h k same =
    let lead = both_first (leads x xs) (is_ordered xs) h in
    let other_lead = both_first (leads y ys) (is_ordered ys) k in
    let first = heads lead other_lead (there_cases ys x y (same.0 x (there_first xs x))) (there_cases xs y x (same.1 y (there_first ys y))) in
    let rest = one_order xs ys (both_second (leads x xs) (is_ordered xs) h) (both_second (leads y ys) (is_ordered ys) k)
    ((λ r t. tails x y xs ys r lead first t (there_cases ys r y (same.0 r (there_behind xs r x t)))), (λ r t. tails y x ys xs r other_lead (sym first) t (there_cases xs r x (same.1 r (there_behind ys r y t))))) in
    (λ i. first i ∷ rest i)
  where
    heads : leads x xs ≡ true → leads y ys ≡ true → (y ≡ x) ⊎ Contains ys x → (x ≡ y) ⊎ Contains xs y → x ≡ y
    heads lead other (inl e) t = sym e
    heads lead other (inr s) (inl e) = e
    heads lead other (inr s) (inr t) =
        let never : Less ≡ Greater = sym (leads_each x xs y lead t) ∙ row_total.antisymm x y ∙ ap ordering_reverse (leads_each y ys x other s) in
        absurd (cc)

    tails : (a b : Row) (xs ys : List Row) (r : Row) → leads a xs ≡ true → a ≡ b → Contains xs r → (b ≡ r) ⊎ Contains ys r → Contains ys r
    tails a b xs ys r lead e t (inr s) = s
    tails a b xs ys r lead e t (inl f) =
        let never : Less ≡ Equal = sym (leads_each a xs r lead t) ∙ ap (λ (o : Row). row_cmp o r) (e ∙ f) ∙ tied_itself row_total r in
        absurd (cc)

-- sorted, the rows of all batches are what they come to one after the other
pub sorted_replayed : (rs : List Record) (rows : List Row) → IsTrue (do_rise rs) → IsPermutation (record_rows rs) rows → IsSorted row_cmp rows → rows ≡ replayed [] rs
sorted_replayed rs rows rise moved sorted =
    let order = ordered_replayed rs rise in
    let whole = permuted_replayed rs in
    let back = IsPermutation-trans (replayed [] rs) (record_rows rs) rows (IsPermutation-sym (record_rows rs) (replayed [] rs) whole) moved in
    let apart = IsDistinct-IsPermutation (eq_by_cmp row_cmp) (eq_by_cmp_equiv row_total).symm (replayed [] rs) rows back (IsDistinct-from_sorted row_cmp (replayed [] rs) (strictly (replayed [] rs) order)) in
    one_order rows (replayed [] rs) (ordered_sorted rows sorted apart) order
    ((λ r t. Contains-permutation rows (replayed [] rs) r (IsPermutation-sym (replayed [] rs) rows back) t), (λ r t. Contains-permutation (replayed [] rs) rows r back t))

-- records that rise above a sequence rise
pub rises_too : (sequence : ℕ) (rs : List Record) → IsTrue (rise_above sequence rs) → IsTrue (do_rise rs)
rises_too sequence [] rise = refl
rises_too sequence (r ∷ rs) rise = both_second (nat_lt sequence r.seq) (rise_above r.seq rs) rise
