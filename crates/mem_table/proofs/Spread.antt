-- Rows that are put among the parts of a list, each among the part that it belongs to.
use Rattle.std.proofs.Common.{◌≡◌, ℕ, ◌≤◌, List, [], ◌∷◌, ◌++◌, refl, sym, ap, ◌∙◌, Bool, true, false, cond, length, take, drop, append_assoc}
use Rattle.std.specs.Prelude.{not, IsTrue}
use Rattle.std.specs.List.{list_all}
use Rattle.std.specs.List.Sorted.{IsPartitionPoint}
use Rattle.std.specs.declared.cmp.Ordering.{Ordering}
use Rattle.std.specs.declared.cmp.Ordering.TheVariants.{Less, Equal, Greater}
use Rattle.std.specs.Ordering.{is_lt, is_le, is_eq, ordering_reverse}
use Rattle.std.proofs.lemmas.List.Folds.{list_all-append}
use Rattle.kv_base.specs.InversionLaws.{both_first, both_second}
use Rattle.kv_base.specs.declared.row.Row.{Row}
use Rattle.row_model.specs.RowOrder.{row_cmp, leads, is_ordered, is_before, placed, merged}
use Rattle.row_model.specs.RowOrderLaws.{row_total, all_more, all_merged, is_untied, are_untied}
use Rattle.kv_base.specs.TestLaws.{less_is as less}
use Rattle.mem_table.specs.Tree.{are_before, lead, are_behind}
use Rattle.mem_table.proofs.Merges.{both, IsMerging, merged_behind, placed_first, all_in_front, all_behind}

-- ---- parts in order

pub all_front : (p : Row → Bool) (xs ys : List Row) → list_all p (xs ++ ys) ≡ true → list_all p xs ≡ true
all_front p xs ys h = both_first (list_all p xs) (list_all p ys) (sym (list_all-append p xs ys) ∙ h)

all_back : (p : Row → Bool) (xs ys : List Row) → list_all p (xs ++ ys) ≡ true → list_all p ys ≡ true
all_back p xs ys h = both_second (list_all p xs) (list_all p ys) (sym (list_all-append p xs ys) ∙ h)

pub ordered_front : (xs ys : List Row) → is_ordered (xs ++ ys) ≡ true → is_ordered xs ≡ true
unfolding is_ordered
ordered_front [] ys h = refl
ordered_front (x ∷ xs) ys h =
    both (leads x xs) (is_ordered xs) (all_front (λ r. is_lt (row_cmp x r)) xs ys (both_first (leads x (xs ++ ys)) (is_ordered (xs ++ ys)) h)) (ordered_front xs ys (both_second (leads x (xs ++ ys)) (is_ordered (xs ++ ys)) h))

pub ordered_back : (xs ys : List Row) → is_ordered (xs ++ ys) ≡ true → is_ordered ys ≡ true
unfolding is_ordered
ordered_back [] ys h = h
ordered_back (x ∷ xs) ys h = ordered_back xs ys (both_second (leads x (xs ++ ys)) (is_ordered (xs ++ ys)) h)

-- of two parts in order each row of the first leads the second
pub ordered_lead : (xs ys : List Row) → is_ordered (xs ++ ys) ≡ true → lead xs ys ≡ true
unfolding is_ordered
ordered_lead [] ys h = refl
ordered_lead (x ∷ xs) ys h =
    both (leads x ys) (lead xs ys) (all_back (λ r. is_lt (row_cmp x r)) xs ys (both_first (leads x (xs ++ ys)) (is_ordered (xs ++ ys)) h)) (ordered_lead xs ys (both_second (leads x (xs ++ ys)) (is_ordered (xs ++ ys)) h))

pub untied_parts : (front behind xs ys : List Row) → are_untied (front ++ behind) (xs ++ ys) ≡ true → (are_untied front xs ≡ true) × (are_untied behind ys ≡ true)
untied_parts front behind xs ys h = (
  all_more (λ r. is_untied r (xs ++ ys)) (λ r. is_untied r xs) (λ r u. all_front (λ o. not (is_eq (row_cmp r o))) xs ys u) front (all_front (λ r. is_untied r (xs ++ ys)) front behind h),
  all_more (λ r. is_untied r (xs ++ ys)) (λ r. is_untied r ys) (λ r u. all_back (λ o. not (is_eq (row_cmp r o))) xs ys u) behind (all_back (λ r. is_untied r (xs ++ ys)) front behind h),
)

-- ---- rows in front of all that is behind

placed_ahead : (row : Row) (here back : List Row) → leads row back ≡ true → placed row (here ++ back) ≡ placed row here ++ back
unfolding placed
placed_ahead row [] back h = placed_first row back h
placed_ahead row (r ∷ here) back h =
    elim (is_le (row_cmp row r)) as (λ b. cond b (row ∷ r ∷ (here ++ back)) (r ∷ placed row (here ++ back)) ≡ cond b (row ∷ r ∷ here) (r ∷ placed row here) ++ back) [
      | true ↦ refl
      | false ↦ ap (λ rows. r ∷ rows) (placed_ahead row here back h)
    ]

merged_ahead : (here back front : List Row) → lead front back ≡ true → merged (here ++ back) front ≡ merged here front ++ back
unfolding merged
merged_ahead here back [] h = refl
merged_ahead here back (row ∷ front) h =
    ap (placed row) (merged_ahead here back front (both_second (leads row back) (lead front back) h)) ∙ placed_ahead row (merged here front) back (both_first (leads row back) (lead front back) h)

merged_twice : (rows front behind : List Row) → merged rows (front ++ behind) ≡ merged (merged rows behind) front
unfolding merged
merged_twice rows [] behind = refl
merged_twice rows (row ∷ front) behind = ap (placed row) (merged_twice rows front behind)

-- the rows in front of the rest belong here, and the others among the rest
merged_parts : (here rest front behind : List Row) → lead front rest ≡ true → lead front behind ≡ true → list_all (are_before here) behind ≡ true
    → merged (here ++ rest) (front ++ behind) ≡ merged here front ++ merged rest behind
merged_parts here rest front behind over first apart =
    merged_twice (here ++ rest) front behind ∙ ap (λ rows. merged rows front) (merged_behind here rest behind apart) ∙ merged_ahead here (merged rest behind) front (all_leads front over first)
  where
    all_leads : (rows : List Row) → lead rows rest ≡ true → lead rows behind ≡ true → lead rows (merged rest behind) ≡ true
    all_leads [] h k = refl
    all_leads (r ∷ rows) h k =
        both (leads r (merged rest behind)) (lead rows (merged rest behind))
        (all_merged (λ o. is_lt (row_cmp r o)) rest behind (both_first (leads r rest) (lead rows rest) h) (both_first (leads r behind) (lead rows behind) k))
        (all_leads rows (both_second (leads r rest) (lead rows rest) h) (both_second (leads r behind) (lead rows behind) k))

-- what leads the rest leads all that is behind where the rest begins
behind_here : (here rest behind : List Row) → lead here rest ≡ true → are_behind rest behind ≡ true → list_all (are_before here) behind ≡ true
behind_here here [] [] over h = refl
behind_here here [] (r ∷ behind) over h = absurd (cc)
behind_here here (first ∷ rest) behind over h = each behind h
  where
    before : (x r : Row) → row_cmp x first ≡ Less → (o : Ordering) → row_cmp r first ≡ o → not (is_lt o) ≡ true → is_lt (row_cmp x r) ≡ true
    before x r low Less e n = absurd (cc)
    before x r low Equal e n = ap is_lt (row_total.antisymm x r ∙ ap ordering_reverse (row_total.congr r first x e ∙ row_total.antisymm first x ∙ ap ordering_reverse low))
    before x r low Greater e n = ap is_lt (row_total.trans x first r low (row_total.antisymm first r ∙ ap ordering_reverse e))

    all_before : (rows : List Row) (r : Row) → lead rows (first ∷ rest) ≡ true → not (is_lt (row_cmp r first)) ≡ true → are_before rows r ≡ true
    all_before [] r h n = refl
    all_before (x ∷ rows) r h n =
        both (is_lt (row_cmp x r)) (are_before rows r)
        (before x r (less (row_cmp x first) (both_first (is_lt (row_cmp x first)) (leads x rest) (both_first (leads x (first ∷ rest)) (lead rows (first ∷ rest)) h))) (row_cmp r first) refl n)
        (all_before rows r (both_second (leads x (first ∷ rest)) (lead rows (first ∷ rest)) h) n)

    each : (rows : List Row) → are_behind (first ∷ rest) rows ≡ true → list_all (are_before here) rows ≡ true
    each [] k = refl
    each (r ∷ rows) k =
        both (are_before here r) (list_all (are_before here) rows) (all_before here r over (both_first (not (is_lt (row_cmp r first))) (are_behind (first ∷ rest) rows) k))
        (each rows (both_second (not (is_lt (row_cmp r first))) (are_behind (first ∷ rest) rows) k))

-- ---- the loop over the parts

pub record IsPart (here front : List Row) : Type 0 where
  pub old : IsTrue (is_ordered here)
  pub new : IsTrue (is_ordered front)
  pub apart : IsTrue (are_untied front here)

pub part_of : (done here rest front behind whole : List Row) → IsMerging done (here ++ rest) (front ++ behind) whole → IsPart here front
part_of done here rest front behind whole h = record {
  old = ordered_front here rest h.rest_ordered;
  new = ordered_front front behind h.more_ordered;
  apart = (untied_parts front behind here rest h.apart).0;
}

pub part_done : (done here rest front behind whole : List Row) → IsMerging done (here ++ rest) (front ++ behind) whole → IsTrue (lead front rest) → IsTrue (are_behind rest behind)
    → IsMerging (done ++ merged here front) rest behind whole
part_done done here rest front behind whole h over apart = record {
  is =
      append_assoc done (merged here front) (merged rest behind)
      ∙ ap (λ rows. done ++ rows) (sym (merged_parts here rest front behind over (ordered_lead front behind h.more_ordered) (behind_here here rest behind (ordered_lead here rest h.rest_ordered) apart))) ∙ h.is;
  rest_ordered = ordered_back here rest h.rest_ordered;
  more_ordered = ordered_back front behind h.more_ordered;
  apart = (untied_parts front behind here rest h.apart).1;
}

-- where no part is left, no row is
abbrev pub none_left : {X : Type 0} → List X → List Row → Type 0
none_left parts rows = parts ≡ [] → rows ≡ []

pub none_behind : (rest rows : List Row) → IsTrue (are_behind rest rows) → rest ≡ [] → rows ≡ []
none_behind [] [] h e = refl
none_behind [] (row ∷ rows) h e = absurd (cc)
none_behind (first ∷ rest) rows h e = absurd (cc)

-- ---- where the rest begins

lead_first : (first : Row) (more rows : List Row) → leads first more ≡ true → list_all (λ r. is_lt (row_cmp r first)) rows ≡ true → lead rows (first ∷ more) ≡ true
lead_first first more rows h =
    all_more (λ r. is_lt (row_cmp r first)) (λ r. leads r (first ∷ more))
    (λ r e. both (is_lt (row_cmp r first)) (leads r more) e (all_more (λ o. is_lt (row_cmp first o)) (λ o. is_lt (row_cmp r o)) (λ o k. ap is_lt (row_total.trans r first o (less (row_cmp r first) e) (less (row_cmp first o) k))) more h)) rows

pub split_at_first : (first : Row) (more rows : List Row) (n : ℕ) → IsTrue (is_ordered (first ∷ more)) → n ≤ length rows
    → IsPartitionPoint (λ r. is_before first.raw first.seq r ≡ true) (λ r. is_before first.raw first.seq r ≡ false) rows n
    → IsTrue (lead (take n rows) (first ∷ more)) × IsTrue (are_behind (first ∷ more) (drop n rows))
unfolding is_ordered
split_at_first first more rows n h low split = (
  lead_first first more (take n rows) (both_first (leads first more) (is_ordered more) h) (all_in_front (is_before first.raw first.seq) rows n low split.0),
  all_behind (is_before first.raw first.seq) rows n split.1,
)

pub lead_none : (rows : List Row) → lead rows [] ≡ true
lead_none [] = refl
lead_none (row ∷ rows) = lead_none rows

pub empty_of : {X : Type 0} (xs : List X) → length xs ≡ 0 → xs ≡ []
empty_of [] h = refl
empty_of (x ∷ xs) h = absurd (cc)

-- rows in order that are put among none
pub merged_none : (rows : List Row) → is_ordered rows ≡ true → merged [] rows ≡ rows
unfolding merged is_ordered
merged_none [] h = refl
merged_none (row ∷ rows) h = ap (placed row) (merged_none rows (both_second (leads row rows) (is_ordered rows) h)) ∙ placed_first row rows (both_first (leads row rows) (is_ordered rows) h)

pub merged_into : (old rows : List Row) → old ≡ [] → is_ordered rows ≡ true → rows ≡ merged old rows
merged_into old rows none h = sym (ap (λ (xs : List Row). merged xs rows) none ∙ merged_none rows h)
