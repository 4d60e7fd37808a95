-- What a search through the blocks of a table comes to.
use Rattle.std.proofs.Common.{◌≡◌, inl, inr, ℕ, zero, suc, ◌<◌, List, [], ◌∷◌, ◌++◌, refl, sym, ap, subst, ◌∙◌, Bool, true, false, cond, length, get_or, Option, Some, None, option_and_then, arith}
use Rattle.std.specs.Prelude.{◌⊎◌, IsTrue}
use Rattle.std.specs.List.{Contains, slice_get, AllWithin}
use Rattle.std.specs.List.Sorted.{IsPartitionPoint}
use Rattle.std.specs.declared.cmp.Ordering.{Ordering}
use Rattle.std.specs.declared.cmp.Ordering.TheVariants.{Less, Equal, Greater}
use Rattle.std.specs.Ordering.{nat_cmp, is_lt, ordering_then}
use Rattle.std.specs.Cmp.Lexicographic.{nat_list_cmp_total}
use Rattle.kv_base.specs.Map.{Bytes, byte_cmp, same, same_is, kept}
use Rattle.kv_base.specs.InversionLaws.{both_first, both_second}
use Rattle.kv_base.specs.declared.row.Row.{Row}
use Rattle.row_model.specs.Rows.{seen_at}
use Rattle.row_model.specs.RowLaws.{seen_is, there_first, there_cases, there_never}
use Rattle.row_model.specs.RowOrder.{row_cmp, leads, is_ordered, is_before}
use Rattle.row_model.specs.RowSearchLaws.{before_once, seen_from, leads_each}
use Rattle.sst_parts.specs.Seeking.{first_from}
use Rattle.sst_parts.specs.Filter.{filter_bits, may_hold}
use Rattle.sst_parts.specs.FilterLaws.{held_if_given}
use Rattle.sst_parts.specs.Tables.{keys_behind, raw_keys_of}
use Rattle.sst_parts.specs.Index.{last_raw}
use Rattle.sst_file.specs.Searching.{with_raw_key}

-- ---- the first row from a place on shows

record IsPoint (raw : Bytes) (s : ℕ) (rows : List Row) : Type 0 where
  pub place : ℕ
  pub split : IsPartitionPoint (λ row. is_before raw s row ≡ true) (λ row. is_before raw s row ≡ false) rows place
  pub first : slice_get rows place ≡ first_from raw s rows

not_before : (b : Bool) → (b ≡ true → ⊥) → b ≡ false
not_before true h = absurd (h refl)
not_before false h = refl

point_behind : (raw : Bytes) (s : ℕ) (row : Row) (rows : List Row) → is_before raw s row ≡ true → IsPoint raw s rows → IsPoint raw s (row ∷ rows)
unfolding first_from
point_behind raw s row rows before point = record {
  place = suc point.place;
  split = (front, back);
  first = point.first ∙ sym (ap (λ b. cond b (first_from raw s rows) (Some row)) before);
}
  where
    front : AllWithin (λ r. is_before raw s r ≡ true) (row ∷ rows) 0 (suc point.place)
    front zero d low high = before
    front (suc k) d low high = point.split.0 k d (omega arith) (omega arith)

    back : AllWithin (λ r. is_before raw s r ≡ false) (row ∷ rows) (suc point.place) (length (row ∷ rows))
    back zero d low high = absurd (omega arith)
    back (suc k) d low high = point.split.1 k d (omega arith) (omega arith)

point_here : (raw : Bytes) (s : ℕ) (row : Row) (rows : List Row) → is_ordered (row ∷ rows) ≡ true → is_before raw s row ≡ false → IsPoint raw s (row ∷ rows)
unfolding first_from
point_here raw s row rows order behind = record {
  place = 0;
  split = ((λ k d low high. absurd (omega arith)), (λ k d low high. not_before (is_before raw s (get_or (row ∷ rows) k d)) (λ before. never k d high before)));
  first = sym (ap (λ b. cond b (first_from raw s rows) (Some row)) behind);
}
  where
    never : (k : ℕ) (d : Row) → k < length (row ∷ rows) → is_before raw s (get_or (row ∷ rows) k d) ≡ true → ⊥
    never k d high before =
        let here : is_before raw s row ≡ true = before_once raw s (row ∷ rows) order 0 k d (omega arith) high before in
        let clash : true ≡ false = sym here ∙ behind in
        absurd (cc)

point : (raw : Bytes) (s : ℕ) (rows : List Row) → is_ordered rows ≡ true → IsPoint raw s rows
unfolding first_from is_ordered
point raw s [] order = record { place = 0; split = ((λ k d low high. absurd (omega arith)), (λ k d low high. absurd (omega arith))); first = refl }
point raw s (row ∷ rows) order =
    by_test (point raw s rows (both_second (leads row rows) (is_ordered rows) order)) (is_before raw s row) refl
  where
    by_test : IsPoint raw s rows → (b : Bool) → is_before raw s row ≡ b → IsPoint raw s (row ∷ rows)
    by_test behind true t = point_behind raw s row rows t behind
    by_test behind false t = point_here raw s row rows order t

as_answer : (raw : Bytes) (o : Option Row) → kept (λ row. same raw row.raw) o ≡ option_and_then (with_raw_key raw) o
as_answer raw None = refl
as_answer raw (Some row) = refl

pub seen_first : (rows : List Row) (raw : Bytes) (s : ℕ) → IsTrue (is_ordered rows) → seen_at rows s raw ≡ option_and_then (with_raw_key raw) (first_from raw s rows)
seen_first rows raw s order =
    let p = point raw s rows order in
    seen_from rows p.place raw s order p.split ∙ ap (kept (λ row. same raw row.raw)) p.first ∙ as_answer raw (first_from raw s rows)

-- ---- block by block

abbrev pub first_or : Option Row → Option Row → Option Row
first_or None other = other
first_or (Some row) other = Some row

pub first_joined : (raw : Bytes) (s : ℕ) (rows more : List Row) → first_from raw s (rows ++ more) ≡ first_or (first_from raw s rows) (first_from raw s more)
unfolding first_from
first_joined raw s [] more = refl
first_joined raw s (row ∷ rows) more = by_test (first_joined raw s rows more) (is_before raw s row)
  where
    by_test : first_from raw s (rows ++ more) ≡ first_or (first_from raw s rows) (first_from raw s more)
        → (b : Bool) → cond b (first_from raw s (rows ++ more)) (Some row) ≡ first_or (cond b (first_from raw s rows) (Some row)) (first_from raw s more)
    by_test behind true = behind
    by_test behind false = refl

-- a row whose raw key is not above one that is below the raw key stands in front
below_before : (raw : Bytes) (s : ℕ) (row : Row) → byte_cmp row.raw raw ≡ Less → is_before raw s row ≡ true
below_before raw s row h = ap (λ o. is_lt (ordering_then o (nat_cmp s row.seq))) h

pub key_below : (row last : Row) (raw : Bytes) → row_cmp row last ≡ Less → byte_cmp last.raw raw ≡ Less → byte_cmp row.raw raw ≡ Less
key_below row last raw order low = by_key (byte_cmp row.raw last.raw) refl
  where
    by_key : (o : Ordering) → byte_cmp row.raw last.raw ≡ o → byte_cmp row.raw raw ≡ Less
    by_key Less h = nat_list_cmp_total.trans row.raw last.raw raw h low
    by_key Equal h = nat_list_cmp_total.congr row.raw last.raw raw h ∙ low
    by_key Greater h = let never : Greater ≡ Less = sym (ap (λ o. ordering_then o (nat_cmp last.seq row.seq)) h) ∙ order in absurd (cc)

-- in front of the last of some rows in order, each is below it
unfoldable pub last_of : (row : Row) (rows : List Row) → Row
last_of row [] = row
last_of row (r ∷ rows) = last_of r rows

pub last_raw_is : (raw : Bytes) (row : Row) (rows : List Row) → last_raw raw (row ∷ rows) ≡ (last_of row rows).raw
unfolding last_of
last_raw_is raw row [] = refl
last_raw_is raw row (r ∷ rows) = last_raw_is row.raw r rows

pub below_last : (row : Row) (rows : List Row) (raw : Bytes) → is_ordered (row ∷ rows) ≡ true → byte_cmp (last_of row rows).raw raw ≡ Less → byte_cmp row.raw raw ≡ Less
unfolding is_ordered last_of
below_last row [] raw order low = low
below_last row (r ∷ rows) raw order low =
    let next = below_last r rows raw (both_second (leads row (r ∷ rows)) (is_ordered (r ∷ rows)) order) low in
    key_below row r raw (leads_each row (r ∷ rows) r (both_first (leads row (r ∷ rows)) (is_ordered (r ∷ rows)) order) (there_first rows r)) next

none_from : (row : Row) (rows : List Row) (raw : Bytes) (s : ℕ) → is_ordered (row ∷ rows) ≡ true → byte_cmp (last_of row rows).raw raw ≡ Less → first_from raw s (row ∷ rows) ≡ None
unfolding first_from is_ordered last_of
none_from row [] raw s order low = ap (λ b. cond b None (Some row)) (below_before raw s row low)
none_from row (r ∷ rows) raw s order low =
    ap (λ b. cond b (first_from raw s (r ∷ rows)) (Some row)) (below_before raw s row (below_last row (r ∷ rows) raw order low))
    ∙ none_from r rows raw s (both_second (leads row (r ∷ rows)) (is_ordered (r ∷ rows)) order) low

-- a block whose last raw key is below the raw key has no row from the place on
pub block_in_front : (rows : List Row) (last raw : Bytes) (s : ℕ) → is_ordered rows ≡ true → last_raw [] rows ≡ last → is_lt (byte_cmp last raw) ≡ true → first_from raw s rows ≡ None
unfolding first_from
block_in_front [] last raw s order is low = refl
block_in_front (row ∷ rows) last raw s order is low =
    none_from row rows raw s order (ap (λ (k : Bytes). byte_cmp k raw) (sym (last_raw_is [] row rows) ∙ is) ∙ less (byte_cmp last raw) low)
  where
    less : (o : Ordering) → is_lt o ≡ true → o ≡ Less
    less Less h = refl
    less Equal h = absurd (cc)
    less Greater h = absurd (cc)

-- ---- a raw key that the filter does not know

key_first : (keys : List Bytes) (key other : Bytes) → other ≡ key → Contains (other ∷ keys) key
key_first keys key other is = (0, omega arith, is)

key_later : (keys : List Bytes) (key other : Bytes) → Contains keys key → Contains (other ∷ keys) key
key_later keys key other (k, low, is) = (suc k, omega arith, is)

key_behind : (last : Bytes) (rows : List Row) (row : Row) → Contains rows row → (last ≡ row.raw) ⊎ Contains (keys_behind last rows) row.raw
key_behind last [] row there = absurd (there_never row there)
key_behind last (r ∷ rows) row there =
    by_test (λ t. key_behind last rows row t) (λ t. key_behind r.raw rows row t) (same last r.raw) refl (there_cases rows row r there)
  where
    by_test : (Contains rows row → (last ≡ row.raw) ⊎ Contains (keys_behind last rows) row.raw) → (Contains rows row → (r.raw ≡ row.raw) ⊎ Contains (keys_behind r.raw rows) row.raw)
        → (b : Bool) → same last r.raw ≡ b → (r ≡ row) ⊎ Contains rows row → (last ≡ row.raw) ⊎ Contains (cond b (keys_behind last rows) (r.raw ∷ keys_behind r.raw rows)) row.raw
    by_test on from true t (inl is) = inl (same_is last r.raw t ∙ ap (λ (x : Row). x.raw) is)
    by_test on from true t (inr more) = on more
    by_test on from false t (inl is) = inr (key_first (keys_behind r.raw rows) row.raw r.raw (ap (λ (x : Row). x.raw) is))
    by_test on from false t (inr more) = elim (from more) [
      | inl is ↦ inr (key_first (keys_behind r.raw rows) row.raw r.raw is)
      | inr later ↦ inr (key_later (keys_behind r.raw rows) row.raw r.raw later)
    ]

pub key_of_row : (rows : List Row) (row : Row) → Contains rows row → Contains (raw_keys_of rows) row.raw
unfolding raw_keys_of
key_of_row [] row there = absurd (there_never row there)
key_of_row (r ∷ rows) row there = elim (there_cases rows row r there) [
  | inl is ↦ key_first (keys_behind r.raw rows) row.raw r.raw (ap (λ (x : Row). x.raw) is)
  | inr more ↦ elim (key_behind r.raw rows row more) [
    | inl is ↦ key_first (keys_behind r.raw rows) row.raw r.raw is
    | inr later ↦ key_later (keys_behind r.raw rows) row.raw r.raw later
  ]
]

pub none_unheld : (rows : List Row) (raw : Bytes) (s : ℕ) (bits : Bytes) → bits ≡ filter_bits (raw_keys_of rows) → may_hold bits raw ≡ false → seen_at rows s raw ≡ None
none_unheld rows raw s bits is unheld = by_seen (seen_at rows s raw) refl
  where
    by_seen : (o : Option Row) → seen_at rows s raw ≡ o → o ≡ None
    by_seen None h = refl
    by_seen (Some seen) h =
        let it = seen_is rows s raw seen h in
        let there = subst (Contains (raw_keys_of rows)) it.1 (key_of_row rows seen it.0) in
        let held : may_hold bits raw ≡ true = subst (λ (b : Bytes). may_hold b raw ≡ true) (sym is) (held_if_given (raw_keys_of rows) raw there) in
        let clash : true ≡ false = sym held ∙ unheld in
        absurd (cc)
