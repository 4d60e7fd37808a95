-- The walk over rows in order gives the entries of the map at a sequence.
use Rattle.std.proofs.Common.{◌≡◌, ℕ, ◌<◌, List, [], ◌∷◌, refl, sym, ap, subst, ◌∙◌, Bool, true, false, cond, T, Option, Some, None, arith}
use Rattle.std.specs.Prelude.{nat_lt, nat_le, ◌&&◌, not, IsTrue, is_some}
use Rattle.std.specs.declared.cmp.Ordering.{Ordering}
use Rattle.std.specs.declared.cmp.Ordering.TheVariants.{Less, Equal, Greater}
use Rattle.std.specs.Ordering.{nat_cmp, is_lt, is_eq, ordering_then}
use Rattle.std.specs.Cmp.{tied_itself}
use Rattle.std.specs.Cmp.Lexicographic.{nat_list_cmp_total}
use Rattle.std.proofs.lemmas.Bool.Decides.{nat_tests}
use Rattle.std.specs.FinMap.Entries.{find, below_all}
use Rattle.kv_base.specs.InversionLaws.{both_first, both_second}
use Rattle.kv_base.specs.Map.{Bytes, Map, byte_cmp, same, same_is, same_itself, empty, get, remove, get-empty, get-remove, same_map}
use Rattle.batch_codec.specs.EntryListLaws.{over, level}
use Rattle.kv_base.specs.declared.row.Row.{Row}
use Rattle.row_model.specs.Rows.{at, newer, seen_at}
use Rattle.row_model.specs.RowMaps.{value_seen}
use Rattle.row_model.specs.RowMapLaws.{get_at}
use Rattle.row_model.specs.RowOrder.{row_cmp, leads, is_ordered}
use Rattle.row_model.specs.RowLaws.{seen_is}
use Rattle.row_model.specs.RowSearchLaws.{leads_each}
use Rattle.view_read.specs.Walk.{hides, value_shown, listed, walked}

-- ---- the order of rows

-- the raw key of a row is not above that of one behind it
pub raw_order : (row other : Row) → row_cmp row other ≡ Less → byte_cmp row.raw other.raw ≡ Greater → ⊥
raw_order row other order is =
    let never : Greater ≡ Less = sym (ap (λ o. ordering_then o (nat_cmp other.seq row.seq)) is) ∙ order in
    absurd (cc)

-- and the sequence of one behind it is below, where they have one raw key
seq_order : (row other : Row) → row_cmp row other ≡ Less → row.raw ≡ other.raw → other.seq < row.seq
seq_order row other order is =
    let key : byte_cmp row.raw other.raw ≡ Equal = ap (byte_cmp row.raw) (sym is) ∙ tied_itself nat_list_cmp_total row.raw in
    let falls : nat_cmp other.seq row.seq ≡ Less = ap (λ o. ordering_then o (nat_cmp other.seq row.seq)) (sym key) ∙ order in
    grind (arith, nat_tests)

-- a raw key that is neither above nor the same is below
less_where : (a b : Bytes) → (byte_cmp a b ≡ Greater → ⊥) → same b a ≡ false → byte_cmp a b ≡ Less
less_where a b not_above other = by_order (byte_cmp a b) refl
  where
    by_order : (o : Ordering) → byte_cmp a b ≡ o → o ≡ Less
    by_order Less e = refl
    by_order Equal e = let never : true ≡ false = sym (ap is_eq (level a b e)) ∙ other in absurd (cc)
    by_order Greater e = absurd (not_above e)

-- ---- what is behind a row

-- the row in front stands in front of all of these
abbrev pub IsInFront : Option Row → List Row → Type 0
IsInFront None rows = Unit {0}
IsInFront (Some front) rows = leads front rows ≡ true

-- where a row shows, none of its raw key behind it does
newest_first : (row : Row) (rows : List Row) (s : ℕ) (q : Bytes) → leads row rows ≡ true → q ≡ row.raw → newer (Some row) (seen_at rows s q) ≡ Some row
newest_first row rows s q lead is = by_seen (seen_at rows s q) refl
  where
    by_seen : (o : Option Row) → seen_at rows s q ≡ o → newer (Some row) o ≡ Some row
    by_seen None e = refl
    by_seen (Some seen) e =
        let it = seen_is rows s q seen e in
        let older : seen.seq < row.seq = seq_order row seen (leads_each row rows seen lead it.0) (sym (it.1 ∙ is)) in
        let test : nat_lt row.seq seen.seq ≡ false = grind (arith, nat_tests) in
        ap (λ b. cond b (Some seen) (Some row)) test

-- a raw key that was passed does not come again
passed : (front row : Row) (rows : List Row) (s : ℕ) (q : Bytes) → leads row rows ≡ true → row_cmp front row ≡ Less → q ≡ front.raw → same q row.raw ≡ false → seen_at rows s q ≡ None
passed front row rows s q lead order is other = by_seen (seen_at rows s q) refl
  where
    low : byte_cmp q row.raw ≡ Greater → ⊥
    low e = raw_order front row order (ap (λ (k : Bytes). byte_cmp k row.raw) (sym is) ∙ e)

    by_order : (seen : Row) → row_cmp row seen ≡ Less → seen.raw ≡ q → (o : Ordering) → byte_cmp q row.raw ≡ o → ⊥
    by_order seen behind key Less e = raw_order row seen behind (ap (byte_cmp row.raw) key ∙ over q row.raw e)
    by_order seen behind key Equal e = let never : true ≡ false = sym (ap is_eq e) ∙ other in absurd (cc)
    by_order seen behind key Greater e = low e

    by_seen : (o : Option Row) → seen_at rows s q ≡ o → o ≡ None
    by_seen None e = refl
    by_seen (Some seen) e =
        let it = seen_is rows s q seen e in
        absurd (by_order seen (leads_each row rows seen lead it.0) it.1 (byte_cmp q row.raw) refl)

-- ---- what is left of the map behind a row

abbrev rest_map : ℕ → Option Row → List Row → Map Bytes
rest_map s None rows = at rows s
rest_map s (Some front) rows = cond (nat_le front.seq s) (remove (at rows s) front.raw) (at rows s)

get_rest : (s : ℕ) (front : Option Row) (rows : List Row) (q : Bytes) → get (rest_map s front rows) q ≡ cond (hides s front q) None (value_seen (seen_at rows s q))
get_rest s None rows q = get_at rows s q
get_rest s (Some front) rows q = by_low (nat_le front.seq s)
  where
    kept_so : (k : Bool) → cond k None (get (at rows s) q) ≡ cond (k && true) None (value_seen (seen_at rows s q))
    kept_so true = refl
    kept_so false = get_at rows s q

    all_so : (k : Bool) → get (at rows s) q ≡ cond (k && false) None (value_seen (seen_at rows s q))
    all_so true = get_at rows s q
    all_so false = get_at rows s q

    by_low : (b : Bool) → get (cond b (remove (at rows s) front.raw) (at rows s)) q ≡ cond (same q front.raw && b) None (value_seen (seen_at rows s q))
    by_low true = get-remove (at rows s) front.raw q ∙ kept_so (same q front.raw)
    by_low false = all_so (same q front.raw)

-- what is found with a row in front, whose value shows or not
abbrev found_by : Option Bytes → Bool → Option Bytes → Option Bytes
found_by None k rest = rest
found_by (Some v) k rest = cond k (Some v) rest

found_here : (o : Option Bytes) → found_by o true None ≡ o
found_here None = refl
found_here (Some v) = refl

found_there : (o rest : Option Bytes) → found_by o false rest ≡ rest
found_there None rest = refl
found_there (Some v) rest = refl

-- the row in front is in front of this row
abbrev Leads : Option Row → Row → Type 0
Leads None row = Unit {0}
Leads (Some front) row = row_cmp front row ≡ Less

-- a row that is hidden is not above s
hidden_low : (s : ℕ) (front : Option Row) (row : Row) → Leads front row → hides s front row.raw ≡ true → nat_le row.seq s ≡ true
hidden_low s None row order h = absurd (cc)
hidden_low s (Some front) row order h =
    let key = same_is row.raw front.raw (both_first (same row.raw front.raw) (nat_le front.seq s) h) in
    let low = both_second (same row.raw front.raw) (nat_le front.seq s) h in
    let older = seq_order front row order (sym key) in
    grind (arith, nat_tests)

hidden_gone : (s : ℕ) (front : Option Row) (row : Row) (rows : List Row) (q : Bytes) → Leads front row → leads row rows ≡ true → hides s front q ≡ true → same q row.raw ≡ false → seen_at rows s q ≡ None
hidden_gone s None row rows q order lead h other = absurd (cc)
hidden_gone s (Some front) row rows q order lead h other =
    passed front row rows s q lead order (same_is q front.raw (both_first (same q front.raw) (nat_le front.seq s) h)) other

-- the value at each raw key, with a row in front
found : (s : ℕ) (front : Option Row) (row : Row) (rows : List Row) (q : Bytes) (o : Option Bytes) → Leads front row → leads row rows ≡ true → value_shown s front row ≡ o
    → cond (hides s front q) None (value_seen (seen_at (row ∷ rows) s q)) ≡ found_by o (same q row.raw) (cond (hides s (Some row) q) None (value_seen (seen_at rows s q)))
unfolding seen_at
found s front row rows q o order lead shows = by_key (same q row.raw) refl
  where
    here : (b h : Bool) → q ≡ row.raw → nat_le row.seq s ≡ b → hides s front row.raw ≡ h → cond (b && not h) row.value None ≡ o
        → cond h None (value_seen (newer (cond b (Some row) None) (seen_at rows s q))) ≡ found_by o true (cond b None (value_seen (seen_at rows s q)))
    here true true is low hidden e = e ∙ sym (found_here o)
    here true false is low hidden e = ap value_seen (newest_first row rows s q lead is) ∙ e ∙ sym (found_here o)
    here false true is low hidden e = let never : true ≡ false = sym (hidden_low s front row order hidden) ∙ low in absurd (cc)
    here false false is low hidden e = ap (λ (o : Option Bytes). found_by o true (value_seen (seen_at rows s q))) e

    there : (h : Bool) → hides s front q ≡ h → same q row.raw ≡ false → cond h None (value_seen (seen_at rows s q)) ≡ value_seen (seen_at rows s q)
    there true hidden other = sym (ap value_seen (hidden_gone s front row rows q order lead hidden other))
    there false hidden other = refl

    by_key : (k : Bool) → same q row.raw ≡ k
        → cond (hides s front q) None (value_seen (newer (cond (k && nat_le row.seq s) (Some row) None) (seen_at rows s q))) ≡ found_by o k (cond (k && nat_le row.seq s) None (value_seen (seen_at rows s q)))
    by_key true t =
        let is = same_is q row.raw t in
        ap (λ (k : Bytes). cond (hides s front k) None (value_seen (newer (cond (nat_le row.seq s) (Some row) None) (seen_at rows s q)))) is
        ∙ here (nat_le row.seq s) (hides s front row.raw) is refl refl shows
    by_key false t = there (hides s front q) refl t ∙ sym (found_there o (value_seen (seen_at rows s q)))

-- ---- the entries

join_tests : (a b : Bool) → T a → T b → T (a && b)
join_tests true b p q = q
join_tests false b p q = p

is_less : (o : Ordering) → o ≡ Less → T (is_lt o)
is_less o e = subst (λ r. T (is_lt r)) (sym e) tt

-- what is below each key that is found is below all
below_found : (raw : Bytes) (es : List (Bytes × Bytes)) → ((q : Bytes) → is_some (find byte_cmp q es) ≡ true → byte_cmp raw q ≡ Less) → T (below_all byte_cmp raw es)
below_found raw [] low = tt
below_found raw (e ∷ es) low =
    join_tests (is_lt (byte_cmp raw e.0)) (below_all byte_cmp raw es)
    (is_less (byte_cmp raw e.0) (low e.0 (ap (λ b. is_some (cond b (Some e.1) (find byte_cmp e.0 es))) (same_itself e.0))))
    (below_found raw es (λ q some. low q (by_key q (same q e.0) some)))
  where
    by_key : (q : Bytes) (k : Bool) → is_some (find byte_cmp q es) ≡ true → is_some (cond k (Some e.1) (find byte_cmp q es)) ≡ true
    by_key q true some = refl
    by_key q false some = some

-- the keys behind a row that is not above s are above its own
below_rest : (s : ℕ) (row : Row) (rows : List Row) → leads row rows ≡ true → nat_le row.seq s ≡ true → T (below_all byte_cmp row.raw (rest_map s (Some row) rows).entries)
unfolding get
below_rest s row rows lead low = below_found row.raw (rest_map s (Some row) rows).entries (λ q some. by_key q (same q row.raw) refl (sym (ap is_some (get_rest s (Some row) rows q)) ∙ some))
  where
    by_seen : (q : Bytes) (o : Option Row) → seen_at rows s q ≡ o → same q row.raw ≡ false → is_some (value_seen o) ≡ true → byte_cmp row.raw q ≡ Less
    by_seen q None e other some = absurd (cc)
    by_seen q (Some seen) e other some =
        let it = seen_is rows s q seen e in
        less_where row.raw q (λ above. raw_order row seen (leads_each row rows seen lead it.0) (ap (byte_cmp row.raw) it.1 ∙ above)) other

    by_key : (q : Bytes) (k : Bool) → same q row.raw ≡ k → is_some (cond (same q row.raw && nat_le row.seq s) None (value_seen (seen_at rows s q))) ≡ true → byte_cmp row.raw q ≡ Less
    by_key q true t some =
        let never : false ≡ true = sym (ap (λ b. is_some (cond (b && nat_le row.seq s) None (value_seen (seen_at rows s q)))) t ∙ ap (λ b. is_some (cond b None (value_seen (seen_at rows s q)))) low) ∙ some in
        absurd (cc)
    by_key q false t some = by_seen q (seen_at rows s q) refl t (sym (ap (λ b. is_some (cond (b && nat_le row.seq s) None (value_seen (seen_at rows s q)))) t) ∙ some)

-- a value shows only where the row is not above s
shown_low : (s : ℕ) (front : Option Row) (row : Row) (v : Bytes) → value_shown s front row ≡ Some v → nat_le row.seq s ≡ true
shown_low s front row v is = by_test (nat_le row.seq s) is
  where
    by_test : (b : Bool) → cond (b && not (hides s front row.raw)) row.value None ≡ Some v → b ≡ true
    by_test true e = refl
    by_test false e = absurd (cc)

one_row : (s : ℕ) (front : Option Row) (row : Row) (rows : List Row) → Leads front row → leads row rows ≡ true
    → (rest_map s front (row ∷ rows)).entries ≡ listed row.raw (value_shown s front row) (rest_map s (Some row) rows).entries
unfolding get
one_row s front row rows order lead = by_value (value_shown s front row) refl
  where
    by_value : (o : Option Bytes) → value_shown s front row ≡ o → (rest_map s front (row ∷ rows)).entries ≡ listed row.raw o (rest_map s (Some row) rows).entries
    by_value None e = ap (λ (m : Map Bytes). m.entries) (same_map (rest_map s front (row ∷ rows)) (rest_map s (Some row) rows)
        (λ q. get_rest s front (row ∷ rows) q ∙ found s front row rows q None order lead e ∙ sym (get_rest s (Some row) rows q)))
    by_value (Some v) e =
        let rest = rest_map s (Some row) rows in
        let more : Map Bytes = record {
          entries = (row.raw, v) ∷ rest.entries;
          sorted = join_tests (below_all byte_cmp row.raw rest.entries) _ (below_rest s row rows lead (shown_low s front row v e)) rest.sorted;
        } in
        ap (λ (m : Map Bytes). m.entries) (same_map (rest_map s front (row ∷ rows)) more
        (λ q. get_rest s front (row ∷ rows) q ∙ found s front row rows q (Some v) order lead e ∙ ap (cond (same q row.raw) (Some v)) (sym (get_rest s (Some row) rows q))))

no_row : (s : ℕ) (front : Option Row) → (rest_map s front []).entries ≡ []
unfolding seen_at empty
no_row s front = ap (λ (m : Map Bytes). m.entries) (same_map (rest_map s front []) empty (λ q. get_rest s front [] q ∙ nothing (hides s front q) ∙ sym (get-empty q)))
  where
    nothing : (h : Bool) → cond {A = Option Bytes} h None None ≡ None
    nothing true = refl
    nothing false = refl

entries_behind : (s : ℕ) (front : Option Row) (rows : List Row) → is_ordered rows ≡ true → IsInFront front rows → (rest_map s front rows).entries ≡ walked s front rows
unfolding walked is_ordered
entries_behind s front [] ordered before = no_row s front
entries_behind s front (row ∷ rows) ordered before =
    let lead = both_first (leads row rows) (is_ordered rows) ordered in
    one_row s front row rows (first front before) lead
    ∙ ap (listed row.raw (value_shown s front row)) (entries_behind s (Some row) rows (both_second (leads row rows) (is_ordered rows) ordered) lead)
  where
    is_it : (o : Ordering) → is_lt o ≡ true → o ≡ Less
    is_it Less e = refl
    is_it Equal e = absurd (cc)
    is_it Greater e = absurd (cc)

    first : (front : Option Row) → IsInFront front (row ∷ rows) → Leads front row
    first None before = tt
    first (Some f) before = is_it (row_cmp f row) (both_first (is_lt (row_cmp f row)) (leads f rows) before)

-- the entries of the map at a sequence
pub entries_walked : (rows : List Row) (s : ℕ) → IsTrue (is_ordered rows) → (at rows s).entries ≡ walked s None rows
entries_walked rows s ordered = entries_behind s None rows ordered tt
