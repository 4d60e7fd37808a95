-- A page of the map at a sequence, read row by row.
use Rattle.std.proofs.Common.{◌≡◌, ℕ, ◌<◌, ◌≤◌, List, [], ◌∷◌, ◌++◌, refl, sym, ap, subst, ◌∙◌, Bool, true, false, cond, length, take, drop, append_assoc, append-nil, Option, Some, None, arith}
use Rattle.std.specs.Prelude.{nat_le, nat_eq, not, ◌&&◌, IfSome, filter}
use Rattle.std.proofs.lemmas.List.{length-append, take-append-le, take_all}
use Rattle.std.specs.Cmp.Lexicographic.{nat_list_cmp_total}
use Rattle.std.specs.List.{slice_get, starts_with, list_all}
use Rattle.std.specs.declared.cmp.Ordering.{Ordering}
use Rattle.std.specs.declared.cmp.Ordering.TheVariants.{Less, Equal, Greater}
use Rattle.std.specs.Ordering.{is_lt}
use Rattle.kv_base.specs.TestLaws.{less_is}
use Rattle.kv_base.specs.InversionLaws.{both_first, both_second}
use Rattle.kv_base.specs.Map.{Bytes, byte_cmp, exact, same}
use Rattle.kv_base.specs.declared.row.Row.{Row}
use Rattle.row_model.specs.Rows.{at}
use Rattle.row_model.specs.RowOrder.{row_cmp, is_below, is_ordered, leads}
use Rattle.lives_model.specs.declared.view.LiveRow.{LiveRow}
use Rattle.lives_model.specs.LiveRowLists.{pairs}
use Rattle.lives_model.specs.Page.{is_in_page, page}
use Rattle.mem_table.specs.Search.{rows_from}
use Rattle.merge_rows.specs.Cursors.{AreInOrder, Takes}
use Rattle.view_read.specs.Walk.{greater, value_shown, listed, walked}
use Rattle.view_read.specs.PageWalkLaws.{IsBelowStart, filter-listed, filter-unlisted, not_hidden, not_less, never_less, not_under, past_prefix, under_page}
use Rattle.view_read.specs.WalkLaws.{entries_walked, raw_order}

-- ---- rows from where a page begins on

both : (a b : Bool) → a ≡ true → b ≡ true → (a && b) ≡ true
both a b e f = rw (e, f) refl

not_true : (b : Bool) → not b ≡ true → b ≡ false
not_true true e = absurd (cc)
not_true false e = refl

-- behind a row that is not below, none is
above_start : (start : Bytes) (row other : Row) → row_cmp row other ≡ Less → is_below start row ≡ false → is_below start other ≡ false
above_start start row other order h = not_less (byte_cmp other.raw start) (λ low. by_keys (byte_cmp row.raw other.raw) refl low)
  where
    by_keys : (o : Ordering) → byte_cmp row.raw other.raw ≡ o → byte_cmp other.raw start ≡ Less → ⊥
    by_keys Less e low = never_less (byte_cmp row.raw start) h (nat_list_cmp_total.trans row.raw other.raw start e low)
    by_keys Equal e low = never_less (byte_cmp row.raw start) h (subst (λ (k : Bytes). byte_cmp k start ≡ Less) (sym (exact row.raw other.raw e)) low)
    by_keys Greater e low = raw_order row other order e

kept_all : (start : Bytes) (row : Row) (rows : List Row) → leads row rows ≡ true → is_below start row ≡ false → rows_from start rows ≡ rows
kept_all start row [] lead h = refl
kept_all start row (r ∷ rows) lead h =
    let here = above_start start row r (less_is (row_cmp row r) (both_first (is_lt (row_cmp row r)) (leads row rows) lead)) h in
    ap (λ b. cond (not b) (r ∷ rows_from start rows) (rows_from start rows)) here ∙ ap (λ (rs : List Row). r ∷ rs) (kept_all start row rows (both_second (is_lt (row_cmp row r)) (leads row rows) lead) h)

-- rows below where the page begins give nothing
skipped : (p : Bytes × Bytes → Bool) (s : ℕ) (start : Bytes) → ((raw value : Bytes) → is_lt (byte_cmp raw start) ≡ true → p (raw, value) ≡ false) → (rows : List Row) (front : Option Row) → is_ordered rows ≡ true → IsBelowStart start front
    → filter p (walked s front rows) ≡ filter p (walked s None (rows_from start rows))
unfolding walked is_ordered
skipped p s start below [] front order low = refl
skipped p s start below (row ∷ rows) front order low = by_place (is_below start row) refl (skipped p s start below rows (Some row) (both_second (leads row rows) (is_ordered rows) order))
  where
    by_place : (b : Bool) → is_below start row ≡ b → (is_below start row ≡ true → filter p (walked s (Some row) rows) ≡ filter p (walked s None (rows_from start rows)))
        → filter p (listed row.raw (value_shown s front row) (walked s (Some row) rows)) ≡ filter p (walked s None (cond (not b) (row ∷ rows_from start rows) (rows_from start rows)))
    by_place true t behind = filter-unlisted p row.raw (value_shown s front row) (walked s (Some row) rows) (λ value. below row.raw value t) ∙ behind t
    by_place false t behind =
        ap (λ h. filter p (listed row.raw (cond (nat_le row.seq s && not h) row.value None) (walked s (Some row) rows))) (not_hidden s start front row low t)
        ∙ ap (λ (rs : List Row). filter p (listed row.raw (value_shown s None row) (walked s (Some row) rs))) (sym (kept_all start row rows (both_first (leads row rows) (is_ordered rows) order) t))

-- a row that begins with the prefix
abbrev pub starts : Bytes → Bytes × Bytes → Bool
starts prefix entry = starts_with nat_eq entry.0 prefix

-- of rows that are not below where the page begins, those with the prefix are in it
in_page : (s : ℕ) (from prefix start : Bytes) (rows : List Row) (front : Option Row) → start ≡ greater from prefix → list_all (λ row. not (is_below start row)) rows ≡ true
    → filter (is_in_page from prefix) (walked s front rows) ≡ filter (starts prefix) (walked s front rows)
unfolding walked
in_page s from prefix start [] front is all = refl
in_page s from prefix start (row ∷ rows) front is all = one (value_shown s front row) (in_page s from prefix start rows (Some row) is (both_second (not (is_below start row)) (list_all (λ r. not (is_below start r)) rows) all))
  where
    there : is_lt (byte_cmp row.raw (greater from prefix)) ≡ false
    there = ap (λ (k : Bytes). is_lt (byte_cmp row.raw k)) (sym is) ∙ not_true (is_below start row) (both_first (not (is_below start row)) (list_all (λ r. not (is_below start r)) rows) all)

    tests : (value : Bytes) → is_in_page from prefix (row.raw, value) ≡ starts prefix (row.raw, value)
    tests value = ap (λ b. starts_with nat_eq row.raw prefix && not b) (not_under from prefix row.raw there).from_is ∙ always (starts_with nat_eq row.raw prefix)
      where
        always : (b : Bool) → (b && true) ≡ b
        always true = refl
        always false = refl

    one : (o : Option Bytes) → filter (is_in_page from prefix) (walked s (Some row) rows) ≡ filter (starts prefix) (walked s (Some row) rows)
        → filter (is_in_page from prefix) (listed row.raw o (walked s (Some row) rows)) ≡ filter (starts prefix) (listed row.raw o (walked s (Some row) rows))
    one None rest = rest
    one (Some value) rest = (λ i. cond (tests value i) ((row.raw, value) ∷ rest i) (rest i))

all_from : (start : Bytes) (rows : List Row) → list_all (λ row. not (is_below start row)) (rows_from start rows) ≡ true
all_from start [] = refl
all_from start (row ∷ rows) = by (not (is_below start row)) refl (all_from start rows)
  where
    by : (b : Bool) → not (is_below start row) ≡ b → list_all (λ r. not (is_below start r)) (rows_from start rows) ≡ true → list_all (λ r. not (is_below start r)) (cond b (row ∷ rows_from start rows) (rows_from start rows)) ≡ true
    by true t rest = both (not (is_below start row)) (list_all (λ r. not (is_below start r)) (rows_from start rows)) t rest
    by false t rest = rest

-- a page is what shows of the rows from where it begins on
pub page_from : (rows : List Row) (s : ℕ) (from prefix start : Bytes) (limit : ℕ) → is_ordered rows ≡ true → start ≡ greater from prefix
    → page (at rows s) from prefix limit ≡ take limit (filter (starts prefix) (walked s None (rows_from start rows)))
unfolding page
page_from rows s from prefix start limit order is =
    ap (λ es. take limit (filter (is_in_page from prefix) es)) (entries_walked rows s order)
    ∙ ap (take limit) (skipped (is_in_page from prefix) s start (λ raw value low. under_page from prefix raw value (ap (λ (k : Bytes). is_lt (byte_cmp raw k)) (sym is) ∙ low)) rows None order tt
    ∙ in_page s from prefix start (rows_from start rows) None is (all_from start rows))

-- and none of these is below the prefix
pub from_prefix : (from prefix start : Bytes) (rows : List Row) → start ≡ greater from prefix → list_all (λ row. not (is_below prefix row)) (rows_from start rows) ≡ true
from_prefix from prefix start rows is = each (rows_from start rows) (all_from start rows)
  where
    each : (rs : List Row) → list_all (λ row. not (is_below start row)) rs ≡ true → list_all (λ row. not (is_below prefix row)) rs ≡ true
    each [] h = refl
    each (r ∷ rs) h =
        let there : is_lt (byte_cmp r.raw (greater from prefix)) ≡ false = ap (λ (k : Bytes). is_lt (byte_cmp r.raw k)) (sym is) ∙ not_true (is_below start r) (both_first (not (is_below start r)) (list_all (λ x. not (is_below start x)) rs) h) in
        both (not (is_below prefix r)) (list_all (λ x. not (is_below prefix x)) rs) (ap not (not_less (byte_cmp r.raw prefix) (not_under from prefix r.raw there).prefix_is))
        (each rs (both_second (not (is_below start r)) (list_all (λ x. not (is_below start x)) rs) h))

-- ---- one row after the other

length-pairs : (rows : List LiveRow) → length (pairs rows) ≡ length rows
length-pairs [] = refl
length-pairs (row ∷ rows) = let rest = length-pairs rows in omega (arith, rest)

-- what was found, with what is still to come, is the whole
pub record IsReading (s : ℕ) (prefix : Bytes) (limit : ℕ) (whole : List (Bytes × Bytes)) (found : List LiveRow) (front : Option Row) (rest : List Row) : Type 0 where
  pub room : length found ≤ limit
  pub comes_to : take limit (pairs found ++ filter (starts prefix) (walked s front rest)) ≡ whole
  pub from : list_all (λ row. not (is_below prefix row)) rest ≡ true

abbrev pub whole_of : ℕ → Bytes → ℕ → List Row → List (Bytes × Bytes)
whole_of s prefix limit all = take limit (filter (starts prefix) (walked s None all))

-- where the rows were told, those that are left are told
abbrev pub Reads : ℕ → Bytes → ℕ → Option (List Row) → List LiveRow → Option Row → Option (List Row) → Type 0
Reads s prefix limit first found front now = IfSome first (λ all. (rest : List Row) × (now ≡ Some rest) × IsReading s prefix limit (whole_of s prefix limit all) found front rest)

pub reads_first : (s : ℕ) (prefix : Bytes) (limit : ℕ) (first : Option (List Row)) (found : List LiveRow) → found ≡ [] → IfSome first (λ all. list_all (λ row. not (is_below prefix row)) all ≡ true) → Reads s prefix limit first found None first
reads_first s prefix limit None found none all = tt
reads_first s prefix limit (Some rows) found none all = (
  rows,
  refl,
  record {
    room = let long = ap length none in omega (arith, long);
    comes_to = ap (λ (fs : List LiveRow). take limit (pairs fs ++ filter (starts prefix) (walked s None rows))) none;
    from = all;
  },
)

-- it is full
pub read_full : (s : ℕ) (prefix : Bytes) (limit : ℕ) (first now : Option (List Row)) (found : List LiveRow) (front : Option Row) → Reads s prefix limit first found front now → limit ≤ length found
    → IfSome first (λ all. pairs found ≡ whole_of s prefix limit all)
read_full s prefix limit None now found front was full = tt
read_full s prefix limit (Some all) now found front was full =
    let long = length-pairs found in
    sym (take-append-le limit (pairs found) (filter (starts prefix) (walked s front was.0)) (omega (arith, long, full)) ∙ take_all limit (pairs found) (omega (arith, long, was.2.room))) ∙ was.2.comes_to

with_rest : (limit : ℕ) (found : List LiveRow) (rest : List (Bytes × Bytes)) → length found ≤ limit → rest ≡ [] → take limit (pairs found ++ rest) ≡ pairs found
with_rest limit found rest room none =
    ap (λ (es : List (Bytes × Bytes)). take limit (pairs found ++ es)) none ∙ ap (take limit) (append-nil (pairs found))
    ∙ take_all limit (pairs found) (omega (arith, length-pairs found, room))

-- no row is left
pub read_ends : (s : ℕ) (prefix : Bytes) (limit : ℕ) (first now next : Option (List Row)) (found : List LiveRow) (front : Option Row) → Reads s prefix limit first found front now → Takes now None next
    → IfSome first (λ all. pairs found ≡ whole_of s prefix limit all)
unfolding walked
read_ends s prefix limit None now next found front was step = tt
read_ends s prefix limit (Some all) now next found front was step =
    let taken : Takes (Some was.0) None next = subst (λ o. Takes o None next) was.1 step in
    sym (with_rest limit found (filter (starts prefix) (walked s front was.0)) was.2.room (nothing was.0 taken.0)) ∙ was.2.comes_to
  where
    nothing : (rest : List Row) → None ≡ slice_get rest 0 → filter (starts prefix) (walked s front rest) ≡ []
    nothing [] is = refl
    nothing (r ∷ rest) is = absurd (cc)

-- no row that is left begins with the prefix
past_all : (s : ℕ) (prefix : Bytes) (row : Row) (rows : List Row) (front : Option Row) → starts_with nat_eq row.raw prefix ≡ false → (byte_cmp row.raw prefix ≡ Less → ⊥) → leads row rows ≡ true
    → filter (starts prefix) (walked s front rows) ≡ []
unfolding walked
past_all s prefix row [] front past low lead = refl
past_all s prefix row (r ∷ rows) front past low lead =
    let order = less_is (row_cmp row r) (both_first (is_lt (row_cmp row r)) (leads row rows) lead) in
    let here = past_prefix prefix row.raw r.raw past low (raw_order row r order) in
    filter-unlisted (starts prefix) r.raw (value_shown s front r) (walked s (Some r) rows) (λ value. here)
    ∙ past_all s prefix row rows (Some r) past low (both_second (is_lt (row_cmp row r)) (leads row rows) lead)

pub read_past : (s : ℕ) (prefix : Bytes) (limit : ℕ) (first now next : Option (List Row)) (found : List LiveRow) (front : Option Row) (row : Row) → Reads s prefix limit first found front now → Takes now (Some row) next
    → IfSome now AreInOrder → starts_with nat_eq row.raw prefix ≡ false → IfSome first (λ all. pairs found ≡ whole_of s prefix limit all)
unfolding walked is_ordered
read_past s prefix limit None now next found front row was step order past = tt
read_past s prefix limit (Some all) now next found front row was step order past =
    let taken : Takes (Some was.0) (Some row) next = subst (λ o. Takes o (Some row) next) was.1 step in
    let told : AreInOrder was.0 = subst (λ o. IfSome o AreInOrder) was.1 order in
    sym (with_rest limit found (filter (starts prefix) (walked s front was.0)) was.2.room (nothing was.0 taken.0 told.0 was.2.from)) ∙ was.2.comes_to
  where
    nothing : (rest : List Row) → Some row ≡ slice_get rest 0 → is_ordered rest ≡ true → list_all (λ r. not (is_below prefix r)) rest ≡ true → filter (starts prefix) (walked s front rest) ≡ []
    nothing [] is ord from = absurd (cc)
    nothing (r ∷ rest) is ord from =
        let same : row ≡ r = cc in
        let here : starts_with nat_eq r.raw prefix ≡ false = subst (λ (x : Row). starts_with nat_eq x.raw prefix ≡ false) same past in
        let low = never_less (byte_cmp r.raw prefix) (not_true (is_below prefix r) (both_first (not (is_below prefix r)) (list_all (λ x. not (is_below prefix x)) rest) from)) in
        filter-unlisted (starts prefix) r.raw (value_shown s front r) (walked s (Some r) rest) (λ value. here)
        ∙ past_all s prefix r rest (Some r) here low (both_first (leads r rest) (is_ordered rest) ord)

-- a row in front hides by its raw key and its sequence alone
alike : (s : ℕ) (row other : Row) (rows : List Row) → other.raw ≡ row.raw → other.seq ≡ row.seq → walked s (Some other) rows ≡ walked s (Some row) rows
unfolding walked
alike s row other [] key seq = refl
alike s row other (r ∷ rows) key seq = (λ i. listed r.raw (cond (nat_le r.seq s && not (same r.raw (key i) && nat_le (seq i) s)) r.value None) (walked s (Some r) rows))

-- one row more
pub read_on : (s : ℕ) (prefix : Bytes) (limit : ℕ) (first now next : Option (List Row)) (found new : List LiveRow) (front : Option Row) (row left : Row) → Reads s prefix limit first found front now → Takes now (Some row) next
    → length found < limit → starts_with nat_eq row.raw prefix ≡ true → pairs new ≡ pairs found ++ listed row.raw (value_shown s front row) [] → left.raw ≡ row.raw → left.seq ≡ row.seq
    → Reads s prefix limit first new (Some left) next
unfolding walked
read_on s prefix limit None now next found new front row left was step room begins is key seq = tt
read_on s prefix limit (Some all) now next found new front row left was step room begins is key seq =
    let taken : Takes (Some was.0) (Some row) next = subst (λ o. Takes o (Some row) next) was.1 step in
    on was.0 taken.0 taken.1 was.2
  where
    few : (o : Option Bytes) → length (listed row.raw o []) ≤ 1
    few None = omega arith
    few (Some value) = omega arith

    listed-append : (o : Option Bytes) (rest : List (Bytes × Bytes)) → listed row.raw o [] ++ rest ≡ listed row.raw o rest
    listed-append None rest = refl
    listed-append (Some value) rest = refl

    on : (rest : List Row) → Some row ≡ slice_get rest 0 → next ≡ Some (drop 1 rest) → IsReading s prefix limit (whole_of s prefix limit all) found front rest
        → (rs : List Row) × (next ≡ Some rs) × IsReading s prefix limit (whole_of s prefix limit all) new (Some left) rs
    on [] here then held = absurd (cc)
    on (r ∷ rest) here then held =
        let same : row ≡ r = cc in
        let o : Option Bytes = value_shown s front row in
        let behind : List (Bytes × Bytes) = filter (starts prefix) (walked s (Some row) rest) in (
          rest,
          then,
          record {
            room = omega (arith, room, length-pairs new, length-pairs found, ap length is, length-append (pairs found) (listed row.raw o []), few o);
            comes_to = ap (λ ws. take limit (pairs new ++ filter (starts prefix) ws)) (alike s row left rest key seq)
                ∙ ap (λ (es : List (Bytes × Bytes)). take limit (es ++ behind)) is
                ∙ ap (take limit) (append_assoc (pairs found) (listed row.raw o []) behind ∙ ap (λ es. pairs found ++ es) (listed-append o behind))
                ∙ ap (λ (es : List (Bytes × Bytes)). take limit (pairs found ++ es)) (sym (filter-listed (starts prefix) row.raw o (walked s (Some row) rest) (λ value. begins)))
                ∙ ap (λ (x : Row). take limit (pairs found ++ filter (starts prefix) (walked s front (x ∷ rest)))) same
                ∙ held.comes_to;
            from = both_second (not (is_below prefix r)) (list_all (λ x. not (is_below prefix x)) rest) held.from;
          },
        )
