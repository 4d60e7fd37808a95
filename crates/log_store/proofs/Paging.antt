-- A page of the map at a sequence, read row by row.
use Rattle.std.proofs.Common.{◌≡◌, ℕ, zero, suc, ◌+◌, ◌<◌, ◌≤◌, List, [], ◌∷◌, ◌++◌, refl, sym, ap, subst, ◌∙◌, Bool, true, false, cond, length, take, drop, append_assoc, append-nil, Option, Some, None, arith, inl, inr}
use Rattle.std.specs.Prelude.{nat_le, nat_eq, not, ◌&&◌, IsTrue, filter}
use Rattle.std.proofs.lemmas.List.{length-append, take-append-le, take_all}
use Rattle.std.specs.Cmp.Lexicographic.{nat_list_cmp_total}
use Rattle.batch_codec.specs.EntryListLaws.{is_under}
use Rattle.std.specs.List.{Contains, list_all, prefix_len, slice_get, starts_with}
use Rattle.std.specs.List.Sorted.{IsPartitionPoint}
use Rattle.std.specs.declared.cmp.Ordering.{Ordering}
use Rattle.std.specs.declared.cmp.Ordering.TheVariants.{Less, Equal, Greater}
use Rattle.std.specs.Ordering.{nat_cmp, is_lt, ordering_then}
use Rattle.std.proofs.lemmas.Bool.Decides.{nat_tests}
use Rattle.kv_base.specs.InversionLaws.{both_first, both_second}
use Rattle.kv_base.specs.Map.{Bytes, byte_cmp, exact, same, same_is}
use Rattle.kv_base.specs.declared.row.Row.{Row}
use Rattle.row_model.specs.Rows.{at}
use Rattle.row_model.specs.RowOrder.{is_below, is_ordered, leads}
use Rattle.row_model.specs.RowLaws.{there_behind, there_cases, there_first}
use Rattle.row_model.specs.RowSearchLaws.{leads_each}
use Rattle.lives_model.specs.declared.view.LiveRow.{LiveRow}
use Rattle.lives_model.specs.LiveRowLists.{pairs}
use Rattle.lives_model.specs.Page.{is_in_page, page}
use Rattle.view_read.specs.Walk.{greater, hides, value_shown, listed, walked}
use Rattle.mem_table.specs.Search.{rows_from}
use Rattle.mem_table.specs.SearchLaws.{start_of}
use Rattle.view_read.specs.PageWalkLaws.{IsNotUnder, IsBelowStart, filter-listed, filter-unlisted, not_hidden, not_less, never_less, not_under, past_prefix, under_page}
use Rattle.view_read.specs.WalkLaws.{entries_walked, raw_order}

-- rows below where the page begins give nothing
skipped : (p : Bytes × Bytes → Bool) (s : ℕ) (start : Bytes) → ((raw value : Bytes) → is_lt (byte_cmp raw start) ≡ true → p (raw, value) ≡ false) → (rows : List Row) (place : ℕ) (front : Option Row) → IsBelowStart start front
    → IsPartitionPoint (λ row. is_below start row ≡ true) (λ row. is_below start row ≡ false) rows place → filter p (walked s front rows) ≡ filter p (walked s None (drop place rows))
unfolding walked
skipped p s start below [] zero front low split = refl
skipped p s start below [] (suc place) front low split = refl
skipped p s start below (row ∷ rows) zero front low split =
    ap (λ h. filter p (listed row.raw (cond (nat_le row.seq s && not h) row.value None) (walked s (Some row) rows))) (not_hidden s start front row low (split.1 0 row (omega arith) (omega arith)))
skipped p s start below (row ∷ rows) (suc place) front low split =
    let here = split.0 0 row (omega arith) (omega arith) in
    filter-unlisted p row.raw (value_shown s front row) (walked s (Some row) rows) (λ value. below row.raw value here)
    ∙ skipped p s start below rows place (Some row) here ((λ k d low high. split.0 (suc k) d (omega arith) (omega arith)), (λ k d low high. split.1 (suc k) d (omega arith) (omega arith)))

-- rows of which none is in the page give nothing
nothing_more : (p : Bytes × Bytes → Bool) (s : ℕ) (rows : List Row) (front : Option Row) → ((row : Row) → Contains rows row → (value : Bytes) → p (row.raw, value) ≡ false) → filter p (walked s front rows) ≡ []
unfolding walked
nothing_more p s [] front is = refl
nothing_more p s (row ∷ rows) front is =
    filter-unlisted p row.raw (value_shown s front row) (walked s (Some row) rows) (is row (there_first rows row))
    ∙ nothing_more p s rows (Some row) (λ other there. is other (there_behind rows other row there))

-- ---- a page that is read

length-pairs : (rows : List LiveRow) → length (pairs rows) ≡ length rows
length-pairs [] = refl
length-pairs (row ∷ rows) = let behind = length-pairs rows in omega (arith, behind)

-- With what is in the page of the rows still to come, the rows that were found come to the page.
pub record IsRead (rows : List Row) (s : ℕ) (from prefix : Bytes) (limit : ℕ) (found : List LiveRow) (front : Option Row) (rest : List Row) : Type 0 where
  pub room : length found ≤ limit
  pub ordered : IsTrue (is_ordered rest)
  pub above : IsTrue (list_all (λ row. not (is_below (greater from prefix) row)) rest)
  pub comes_to : take limit (pairs found ++ filter (is_in_page from prefix) (walked s front rest)) ≡ page (at rows s) from prefix limit

ordered_behind : (rows : List Row) (place : ℕ) → is_ordered rows ≡ true → is_ordered (drop place rows) ≡ true
unfolding is_ordered
ordered_behind [] zero h = h
ordered_behind [] (suc place) h = h
ordered_behind (row ∷ rows) zero h = h
ordered_behind (row ∷ rows) (suc place) h = ordered_behind rows place (both_second (leads row rows) (is_ordered rows) h)

above_start : (start : Bytes) (rows : List Row) → list_all (λ row. not (is_below start row)) (rows_from start rows) ≡ true
above_start start [] = refl
above_start start (row ∷ rows) = by_test (above_start start rows) (not (is_below start row)) refl
  where
    by_test : list_all (λ row. not (is_below start row)) (rows_from start rows) ≡ true → (b : Bool) → not (is_below start row) ≡ b → list_all (λ row. not (is_below start row)) (cond b (row ∷ rows_from start rows) (rows_from start rows)) ≡ true
    by_test rest true e = ap (λ b. b && list_all (λ row. not (is_below start row)) (rows_from start rows)) e ∙ rest
    by_test rest false e = rest

pub page_begins : (rows : List Row) (s : ℕ) (from prefix start : Bytes) (limit : ℕ) (found : List LiveRow) (rest : List Row) → found ≡ [] → IsTrue (is_ordered rows) → start ≡ greater from prefix
    → rest ≡ rows_from start rows → IsRead rows s from prefix limit found None rest
unfolding page
page_begins rows s from prefix start limit found rest none ordered is begins =
    let p = is_in_page from prefix in
    let place = prefix_len (is_below start) rows in
    let at_start = start_of start rows ordered in
    let left : rest ≡ drop place rows = begins ∙ sym at_start.rest in
    record {
      room = let long = ap length none in omega arith;
      ordered = ap is_ordered left ∙ ordered_behind rows place ordered;
      above = (λ i. list_all (λ row. not (is_below (sym is i) row)) (begins i)) ∙ above_start start rows;
      comes_to = (λ i. take limit (pairs (none i) ++ filter p (walked s None (left i))))
          ∙ ap (take limit) (sym (skipped p s start (λ raw value low. under_page from prefix raw value (ap (λ (k : Bytes). is_lt (byte_cmp raw k)) (sym is) ∙ low)) rows place None tt at_start.split))
          ∙ ap (λ (es : List (Bytes × Bytes)). take limit (filter p es)) (sym (entries_walked rows s ordered));
    }

-- the first of the rows still to come, and the others
pub taken : {X : Type 0} (rest more : List X) (row : X) → Some row ≡ slice_get rest 0 → more ≡ drop 1 rest → rest ≡ row ∷ more
taken [] more row is behind = absurd (cc)
taken (x ∷ rest) more row is behind = let first : row ≡ x = cc in λ i. sym first i ∷ sym behind i

pub none_to_come : {X : Type 0} (rest : List X) → None ≡ slice_get rest 0 → rest ≡ []
none_to_come [] is = refl
none_to_come (x ∷ rest) is = absurd (cc)

-- a row still to come is not below where the page begins
pub not_under_next : (from prefix : Bytes) (rest more : List Row) (row : Row) → rest ≡ row ∷ more → IsTrue (list_all (λ row. not (is_below (greater from prefix) row)) rest) → IsNotUnder from prefix row.raw
not_under_next from prefix rest more row is above =
    not_under from prefix row.raw (denied (is_below (greater from prefix) row)
    (both_first (not (is_below (greater from prefix) row)) (list_all (λ r. not (is_below (greater from prefix) r)) more) (ap (list_all (λ r. not (is_below (greater from prefix) r))) (sym is) ∙ above)))
  where
    denied : (b : Bool) → not b ≡ true → b ≡ false
    denied false e = refl
    denied true e = absurd (cc)

pub page_goes_on : (rows : List Row) (s : ℕ) (from prefix : Bytes) (limit : ℕ) (found new : List LiveRow) (front : Option Row) (rest more : List Row) (row : Row) → IsRead rows s from prefix limit found front rest
    → rest ≡ row ∷ more → length found < limit → starts_with nat_eq row.raw prefix ≡ true → pairs new ≡ pairs found ++ listed row.raw (value_shown s front row) [] → IsRead rows s from prefix limit new (Some row) more
unfolding walked is_ordered
page_goes_on rows s from prefix limit found new front rest more row was here room starts is =
    let p = is_in_page from prefix in
    let left : List (Bytes × Bytes) = filter p (walked s (Some row) more) in
    let o : Option Bytes = value_shown s front row in
    let low = (not_under_next from prefix rest more row here was.above).from_is in
    record {
      room = omega (arith, length-pairs new, length-pairs found, ap length is, length-append (pairs found) (listed row.raw o []), few o);
      ordered = both_second (leads row more) (is_ordered more) (ap is_ordered (sym here) ∙ was.ordered);
      above = both_second (not (is_below (greater from prefix) row)) (list_all (λ r. not (is_below (greater from prefix) r)) more) (ap (list_all (λ r. not (is_below (greater from prefix) r))) (sym here) ∙ was.above);
      comes_to = ap (λ (es : List (Bytes × Bytes)). take limit (es ++ left)) is
          ∙ ap (take limit) (append_assoc (pairs found) (listed row.raw o []) left ∙ ap (λ es. pairs found ++ es) (listed-append o left))
          ∙ ap (λ (es : List (Bytes × Bytes)). take limit (pairs found ++ es))
          (sym (ap (λ (rs : List Row). filter p (walked s front rs)) here
          ∙ filter-listed p row.raw o (walked s (Some row) more) (λ value. ap (λ b. b && not (is_lt (byte_cmp row.raw from))) starts ∙ ap not low)))
          ∙ was.comes_to;
    }
  where
    few : (o : Option Bytes) → length (listed row.raw o []) ≤ 1
    few None = omega arith
    few (Some value) = omega arith

    listed-append : (o : Option Bytes) (rest : List (Bytes × Bytes)) → listed row.raw o [] ++ rest ≡ listed row.raw o rest
    listed-append None rest = refl
    listed-append (Some value) rest = refl

-- what was found is the page: it is full, or no row is left, or none that is left is in it
with_rest : (limit : ℕ) (found : List LiveRow) (rest : List (Bytes × Bytes)) → length found ≤ limit → rest ≡ [] → take limit (pairs found ++ rest) ≡ pairs found
with_rest limit found rest room none =
    ap (λ (es : List (Bytes × Bytes)). take limit (pairs found ++ es)) none ∙ ap (take limit) (append-nil (pairs found))
    ∙ take_all limit (pairs found) (omega (arith, length-pairs found))

pub page_is_full : (rows : List Row) (s : ℕ) (from prefix : Bytes) (limit : ℕ) (found : List LiveRow) (front : Option Row) (rest : List Row) → IsRead rows s from prefix limit found front rest
    → limit ≤ length found → pairs found ≡ page (at rows s) from prefix limit
page_is_full rows s from prefix limit found front rest was full =
    let long = length-pairs found in
    sym (take-append-le limit (pairs found) (filter (is_in_page from prefix) (walked s front rest)) (omega (arith, long))
    ∙ take_all limit (pairs found) (omega (arith, long, was.room))) ∙ was.comes_to

pub page_ends : (rows : List Row) (s : ℕ) (from prefix : Bytes) (limit : ℕ) (found : List LiveRow) (front : Option Row) (rest : List Row) → IsRead rows s from prefix limit found front rest
    → rest ≡ [] → pairs found ≡ page (at rows s) from prefix limit
unfolding walked
page_ends rows s from prefix limit found front rest was none =
    sym (with_rest limit found (filter (is_in_page from prefix) (walked s front rest)) was.room
    (ap (λ (rs : List Row). filter (is_in_page from prefix) (walked s front rs)) none)) ∙ was.comes_to

pub page_is_past : (rows : List Row) (s : ℕ) (from prefix : Bytes) (limit : ℕ) (found : List LiveRow) (front : Option Row) (rest more : List Row) (row : Row) → IsRead rows s from prefix limit found front rest
    → rest ≡ row ∷ more → starts_with nat_eq row.raw prefix ≡ false → pairs found ≡ page (at rows s) from prefix limit
unfolding is_ordered
page_is_past rows s from prefix limit found front rest more row was here past =
    sym (with_rest limit found (filter p (walked s front rest)) was.room (ap (λ (rs : List Row). filter p (walked s front rs)) here ∙ nothing_more p s (row ∷ more) front each)) ∙ was.comes_to
  where
    p : Bytes × Bytes → Bool
    p = is_in_page from prefix

    low : byte_cmp row.raw prefix ≡ Less → ⊥
    low = (not_under_next from prefix rest more row here was.above).prefix_is

    lead : leads row more ≡ true
    lead = both_first (leads row more) (is_ordered more) (ap is_ordered (sym here) ∙ was.ordered)

    each : (other : Row) → Contains (row ∷ more) other → (value : Bytes) → p (other.raw, value) ≡ false
    each other there value =
        ap (λ b. b && not (is_lt (byte_cmp other.raw from))) (elim (there_cases more other row there) [
          | inl e ↦ subst (λ (r : Row). starts_with nat_eq r.raw prefix ≡ false) e past
          | inr k ↦ past_prefix prefix row.raw other.raw past low (raw_order row other (leads_each row more other lead k))
        ])
