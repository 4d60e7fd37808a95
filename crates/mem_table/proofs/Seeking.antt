-- What a search over lists of rows passes, and what it finds.
use Rattle.std.proofs.Common.{◌≡◌, ℕ, zero, suc, ◌+◌, ◌<◌, ◌≤◌, List, [], ◌∷◌, ◌++◌, refl, sym, ap, ◌∙◌, Bool, true, false, cond, length, get_or, take, drop, append_assoc, append-nil, Option, Some, arith}
use Rattle.std.specs.Prelude.{not, IsTrue}
use Rattle.std.specs.List.{list_all, prefix_len, slice_get}
use Rattle.std.specs.Ordering.{is_lt}
use Rattle.std.specs.Arc.{arc_value}
use Rattle.std.specs.declared.sync.Arc.{Arc}
use Rattle.std.proofs.lemmas.List.{drop_more, take_more, drop_all, drop-drop, take-append-drop}
use Rattle.std.proofs.lemmas.List.Elements.{filter-append}
use Rattle.std.proofs.lemmas.List.Folds.{list_all-append}
use Rattle.kv_base.specs.InversionLaws.{both_first, both_second}
use Rattle.kv_base.specs.Map.{Bytes, same, kept}
use Rattle.kv_base.specs.declared.row.Row.{Row}
use Rattle.row_model.specs.Rows.{seen_at}
use Rattle.row_model.specs.RowOrder.{row_cmp, leads, is_ordered, is_before}
use Rattle.row_model.specs.RowOrderLaws.{all_more}
use Rattle.row_model.specs.RowSearchLaws.{seen_from}
use Rattle.mem_table.specs.Search.{is_short, rows_at}
use Rattle.mem_table.specs.SearchLaws.{short_once, short_split, from_place}
use Rattle.mem_table.specs.Tree.{leaf_rows, lead}
use Rattle.mem_table.proofs.Clones.{joined}
use Rattle.mem_table.proofs.Merges.{both}
use Rattle.mem_table.proofs.Spread.{ordered_front, ordered_back, ordered_lead}

-- ---- a test that falls once

-- what stands in front of a short row is short
short_in_front : (raw : Bytes) (seq : Option ℕ) (row other : Row) → is_lt (row_cmp row other) ≡ true → is_short raw seq other ≡ true → is_short raw seq row ≡ true
unfolding is_ordered
short_in_front raw seq row other order h = short_once raw seq (row ∷ other ∷ []) (both (leads row (other ∷ [])) (is_ordered (other ∷ [])) (both (is_lt (row_cmp row other)) true order refl) refl) 0 1 row (omega arith) (omega arith) h

module _ (raw : Bytes) (seq : Option ℕ) where
  -- rows that lead a short one are short
  short_before : (front : List Row) (row : Row) (rest : List Row) → lead front (row ∷ rest) ≡ true → is_short raw seq row ≡ true → list_all (is_short raw seq) front ≡ true
  short_before [] row rest h short = refl
  short_before (r ∷ front) row rest h short =
      both (is_short raw seq r) (list_all (is_short raw seq) front)
      (short_in_front raw seq r row (both_first (is_lt (row_cmp r row)) (leads r rest) (both_first (leads r (row ∷ rest)) (lead front (row ∷ rest)) h)) short)
      (short_before front row rest (both_second (leads r (row ∷ rest)) (lead front (row ∷ rest)) h) short)

  -- behind one that is not short none is
  none_behind : (row : Row) (rest : List Row) → leads row rest ≡ true → is_short raw seq row ≡ false → list_all (λ r. not (is_short raw seq r)) rest ≡ true
  none_behind row rest h long = all_more (λ r. is_lt (row_cmp row r)) (λ r. not (is_short raw seq r)) (λ r order. by_test r order (is_short raw seq r) refl) rest h
    where
      by_test : (r : Row) → is_lt (row_cmp row r) ≡ true → (b : Bool) → is_short raw seq r ≡ b → not b ≡ true
      by_test r order false e = refl
      by_test r order true e = let never : true ≡ false = sym (short_in_front raw seq row r order e) ∙ long in absurd (cc)

  all_joined : (p : Row → Bool) (xs ys : List Row) → list_all p xs ≡ true → list_all p ys ≡ true → list_all p (xs ++ ys) ≡ true
  all_joined p xs ys h k = list_all-append p xs ys ∙ both (list_all p xs) (list_all p ys) h k

  -- ---- parts of rows in order

  ends_short : (xs part ys front : List Row) (row : Row) → is_ordered (xs ++ (part ++ ys)) ≡ true → part ≡ front ++ row ∷ [] → is_short raw seq row ≡ true → list_all (is_short raw seq) (xs ++ part) ≡ true
  ends_short xs part ys front row order is short =
      let whole : xs ++ (part ++ ys) ≡ (xs ++ front) ++ (row ∷ ys) =
      ap (λ rows. xs ++ rows) (ap (λ rows. rows ++ ys) is ∙ append_assoc front (row ∷ []) ys) ∙ sym (append_assoc xs front (row ∷ ys)) in
      let over = ordered_lead (xs ++ front) (row ∷ ys) (ap is_ordered (sym whole) ∙ order) in
      let parts : xs ++ part ≡ (xs ++ front) ++ row ∷ [] = ap (λ rows. xs ++ rows) is ∙ sym (append_assoc xs front (row ∷ [])) in
      ap (list_all (is_short raw seq)) parts ∙ all_joined (is_short raw seq) (xs ++ front) (row ∷ []) (short_before (xs ++ front) row ys over short) (both (is_short raw seq row) true short refl)

  ends_long : (xs part ys front : List Row) (row : Row) → is_ordered (xs ++ (part ++ ys)) ≡ true → part ≡ front ++ row ∷ [] → is_short raw seq row ≡ false → list_all (λ r. not (is_short raw seq r)) ys ≡ true
  unfolding is_ordered
  ends_long xs part ys front row order is long =
      let behind : is_ordered (part ++ ys) ≡ true = ordered_back xs (part ++ ys) order in
      let whole : part ++ ys ≡ front ++ (row ∷ ys) = ap (λ rows. rows ++ ys) is ∙ append_assoc front (row ∷ []) ys in
      let last : is_ordered (row ∷ ys) ≡ true = ordered_back front (row ∷ ys) (ap is_ordered (sym whole) ∙ behind) in
      none_behind row ys (both_first (leads row ys) (is_ordered ys) last) long

  filter_short : (rows : List Row) → list_all (is_short raw seq) rows ≡ true → rows_at raw seq rows ≡ []
  filter_short [] h = refl
  filter_short (row ∷ rows) h =
      ap (λ b. cond (not b) (row ∷ rows_at raw seq rows) (rows_at raw seq rows)) (both_first (is_short raw seq row) (list_all (is_short raw seq) rows) h)
      ∙ filter_short rows (both_second (is_short raw seq row) (list_all (is_short raw seq) rows) h)

  filter_long : (rows : List Row) → list_all (λ r. not (is_short raw seq r)) rows ≡ true → rows_at raw seq rows ≡ rows
  filter_long [] h = refl
  filter_long (row ∷ rows) h =
      ap (λ b. cond b (row ∷ rows_at raw seq rows) (rows_at raw seq rows)) (both_first (not (is_short raw seq row)) (list_all (λ r. not (is_short raw seq r)) rows) h)
      ∙ ap (λ rs. row ∷ rs) (filter_long rows (both_second (not (is_short raw seq row)) (list_all (λ r. not (is_short raw seq r)) rows) h))

  -- ---- the binary search over parts

  module _ {Z : Type 0} where
    -- in front of `low` each row is short, behind `high` none is
    pub record IsBetween (parts : List (Arc (List Row) Z)) (low high : ℕ) : Type 0 where
      pub order : low ≤ high
      pub bound : high ≤ length parts
      pub front : IsTrue (list_all (is_short raw seq) (leaf_rows (take low parts)))
      pub behind : IsTrue (list_all (λ r. not (is_short raw seq r)) (leaf_rows (drop (high + 1) parts)))

    pub between_begins : (parts : List (Arc (List Row) Z)) → IsBetween parts 0 (length parts)
    between_begins parts = record {
      order = omega arith;
      bound = omega arith;
      front = refl;
      behind = ap (λ (xs : List (Arc (List Row) Z)). list_all (λ r. not (is_short raw seq r)) (leaf_rows xs)) (drop_all (length parts + 1) parts (omega arith));
    }

    split_at : (parts : List (Arc (List Row) Z)) (n : ℕ) → leaf_rows parts ≡ leaf_rows (take n parts) ++ leaf_rows (drop n parts)
    split_at parts n = ap leaf_rows (sym (take-append-drop n parts)) ∙ joined (take n parts) (drop n parts)

    cut_at : (parts : List (Arc (List Row) Z)) (m : ℕ) (part : Arc (List Row) Z) → m < length parts → part ≡ get_or parts m part
        → leaf_rows parts ≡ leaf_rows (take m parts) ++ (arc_value part ++ leaf_rows (drop (m + 1) parts))
    cut_at parts m part low is =
        split_at parts m
        ∙ ap (λ (xs : List (Arc (List Row) Z)). leaf_rows (take m parts) ++ leaf_rows xs) (drop_more parts m part low ∙ ap (λ (x : Arc (List Row) Z). x ∷ drop (m + 1) parts) (sym is))

    pub between_above : (parts : List (Arc (List Row) Z)) (low high m : ℕ) (part : Arc (List Row) Z) (front : List Row) (row : Row) → IsBetween parts low high → IsTrue (is_ordered (leaf_rows parts))
        → m < high → part ≡ get_or parts m part → arc_value part ≡ front ++ row ∷ [] → is_short raw seq row ≡ true → IsBetween parts (m + 1) high
    between_above parts low high m part front row h order below is last short =
        let inside : m < length parts = let b = h.bound in omega (arith, below, b) in
        let ordered = ap is_ordered (sym (cut_at parts m part inside is)) ∙ order in
        record {
          order = omega (arith, below);
          bound = h.bound;
          front =
              ap (λ (xs : List (Arc (List Row) Z)). list_all (is_short raw seq) (leaf_rows xs)) (take_more parts m part inside)
              ∙ ap (list_all (is_short raw seq)) (joined (take m parts) (get_or parts m part ∷ []) ∙ ap (λ rows. leaf_rows (take m parts) ++ rows) (append-nil (arc_value (get_or parts m part)) ∙ ap (λ (x : Arc (List Row) Z). arc_value x) (sym is)))
              ∙ ends_short (leaf_rows (take m parts)) (arc_value part) (leaf_rows (drop (m + 1) parts)) front row ordered last short;
          behind = h.behind;
        }

    pub between_below : (parts : List (Arc (List Row) Z)) (low high m : ℕ) (part : Arc (List Row) Z) (front : List Row) (row : Row) → IsBetween parts low high → IsTrue (is_ordered (leaf_rows parts))
        → low ≤ m → m < high → part ≡ get_or parts m part → arc_value part ≡ front ++ row ∷ [] → is_short raw seq row ≡ false → IsBetween parts low m
    between_below parts low high m part front row h order above below is last long =
        let inside : m < length parts = let b = h.bound in omega (arith, below, b) in
        let ordered = ap is_ordered (sym (cut_at parts m part inside is)) ∙ order in
        record {
          order = above;
          bound = omega (arith, inside);
          front = h.front;
          behind = ends_long (leaf_rows (take m parts)) (arc_value part) (leaf_rows (drop (m + 1) parts)) front row ordered last long;
        }

    -- the part at the end of the search is in order
    pub part_ordered : (parts others : List (Arc (List Row) Z)) (part : Arc (List Row) Z) (at : ℕ) → drop at parts ≡ part ∷ others → IsTrue (is_ordered (leaf_rows parts)) → IsTrue (is_ordered (arc_value part))
    part_ordered parts others part at is order =
        let whole = split_at parts at ∙ ap (λ (xs : List (Arc (List Row) Z)). leaf_rows (take at parts) ++ leaf_rows xs) is in
        ordered_front (arc_value part) (leaf_rows others) (ordered_back (leaf_rows (take at parts)) (arc_value part ++ leaf_rows others) (ap is_ordered (sym whole) ∙ order))

    -- what is found in the part at the end of the search, and all behind it, is what is not short
    pub found_in : (parts others : List (Arc (List Row) Z)) (part : Arc (List Row) Z) (at : ℕ) (found : List Row) → drop at parts ≡ part ∷ others → IsTrue (list_all (is_short raw seq) (leaf_rows (take at parts)))
        → IsTrue (list_all (λ r. not (is_short raw seq r)) (leaf_rows (drop (at + 1) parts))) → found ≡ rows_at raw seq (arc_value part) → found ++ leaf_rows others ≡ rows_at raw seq (leaf_rows parts)
    found_in parts others part at found is front behind here =
        let rest : drop (at + 1) parts ≡ others = sym (drop-drop 1 at parts) ∙ ap (drop 1) is in
        let long = filter_long (leaf_rows others) (ap (λ (xs : List (Arc (List Row) Z)). list_all (λ r. not (is_short raw seq r)) (leaf_rows xs)) (sym rest) ∙ behind) in
        sym (
        ap (rows_at raw seq) (split_at parts at ∙ ap (λ (xs : List (Arc (List Row) Z)). leaf_rows (take at parts) ++ leaf_rows xs) is)
        ∙ filter-append (λ r. not (is_short raw seq r)) (leaf_rows (take at parts)) (arc_value part ++ leaf_rows others)
        ∙ ap (λ rows. rows ++ rows_at raw seq (arc_value part ++ leaf_rows others)) (filter_short (leaf_rows (take at parts)) front)
        ∙ filter-append (λ r. not (is_short raw seq r)) (arc_value part) (leaf_rows others)
        ∙ (λ i. sym here i ++ long i)
        )

    pub found_nowhere : (parts : List (Arc (List Row) Z)) (at : ℕ) → drop at parts ≡ [] → IsTrue (list_all (is_short raw seq) (leaf_rows (take at parts))) → [] ≡ rows_at raw seq (leaf_rows parts)
    found_nowhere parts at none front =
        sym (ap (rows_at raw seq) (split_at parts at ∙ ap (λ (xs : List (Arc (List Row) Z)). leaf_rows (take at parts) ++ leaf_rows xs) none ∙ append-nil (leaf_rows (take at parts))) ∙ filter_short (leaf_rows (take at parts)) front)

-- ---- what shows

first_from : (rows : List Row) (at : ℕ) → slice_get (drop at rows) 0 ≡ slice_get rows at
first_from rows zero = refl
first_from [] (suc at) = refl
first_from (row ∷ rows) (suc at) = first_from rows at

-- what shows is the first row from the place on, where it has the raw key
pub seen_first : (rows : List Row) (raw : Bytes) (s : ℕ) → IsTrue (is_ordered rows) → seen_at rows s raw ≡ kept (λ row. same raw row.raw) (slice_get (rows_at raw (Some s) rows) 0)
seen_first rows raw s h =
    let place = prefix_len (is_before raw s) rows in
    let split = short_split raw (Some s) rows h in
    seen_from rows place raw s h split ∙ ap (kept (λ row. same raw row.raw)) (sym (first_from rows place) ∙ ap (λ rs. slice_get rs 0) (from_place raw (Some s) rows place split))
