-- The parts of a tree: leaves of a branch, and branches of a table.
use Rattle.std.proofs.Common.{◌≡◌, ℕ, ◌+◌, ◌-◌, ◌<◌, ◌≤◌, ◌++◌, [], ◌∷◌, List, IsTrue, length, reverse, get_or, take, drop, nat_eq, refl, sym, ap, subst, ◌∙◌, true, false, append_assoc, append-nil, arith}
use Rattle.std.proofs.lemmas.List.{reverse-append, length-append, length-drop, length-map, take-append-drop, take-take, take_all, take_more}
use Rattle.std.specs.Prelude.{map}
use Rattle.std.proofs.lemmas.Bool.Decides.{nat_tests}
use Rattle.std.specs.List.{flat_map, list_all}
use Rattle.std.specs.Ordering.{is_lt}
use Rattle.kv_base.specs.InversionLaws.{both_first}
use Rattle.std.proofs.Math.Seq.{take-append_seam}
use Rattle.std.specs.List.Sorted.{IsPartitionPoint}
use Rattle.std.specs.Arc.{arc_value}
use Rattle.std.specs.declared.sync.Arc.{Arc}
use Rattle.kv_base.specs.Map.{Bytes}
use Rattle.kv_base.specs.declared.row.Row.{Row}
use Rattle.row_model.specs.RowOrder.{row_cmp, leads, is_before, is_ordered, merged}
use Rattle.row_model.specs.RowOrderLaws.{are_untied}
use Rattle.mem_table.specs.Shared.{rows_of}
use Rattle.mem_table.specs.Tree.{are_before, lead, are_behind, leaf_rows}
use Rattle.mem_table.proofs.Clones.{joined, rows_rejoined}
use Rattle.mem_table.proofs.Merges.{both, before_all, IsMerging, merge_begins, merge_ends, merged_behind}
use Rattle.mem_table.proofs.Places.{map-take, map-drop}
use Rattle.mem_table.proofs.Spread.{IsPart, all_front, part_of, part_done, none_left, none_behind, empty_of, ordered_back, split_at_first, untied_parts}

-- ---- a walk over the parts, each with the rows that belong to it

module _ {Z : Type 0} (old others : List (Arc (List Row) Z)) (part : Arc (List Row) Z) (new front behind : List (Arc Row Z)) (n : ℕ) (done whole : List Row)
    (h : IsMerging done (leaf_rows old) (rows_of new) whole) (is : old ≡ part ∷ others) (f : front ≡ take n new) (b : behind ≡ drop n new) where
  as_parts : IsMerging done (arc_value part ++ leaf_rows others) (rows_of front ++ rows_of behind) whole
  as_parts =
      subst (λ (rows : List Row). IsMerging done rows (rows_of front ++ rows_of behind) whole) (ap leaf_rows is)
      (subst (λ (rows : List Row). IsMerging done (leaf_rows old) rows whole) (sym (rows_rejoined new front behind n f b)) h)

  pub here : IsPart (arc_value part) (rows_of front)
  here = part_of done (arc_value part) (leaf_rows others) (rows_of front) (rows_of behind) whole as_parts

  pub goes_on : (next : List Row) → next ≡ done ++ merged (arc_value part) (rows_of front) → IsTrue (lead (take n (rows_of new)) (leaf_rows others)) → IsTrue (are_behind (leaf_rows others) (drop n (rows_of new)))
      → IsMerging next (leaf_rows others) (rows_of behind) whole × none_left others (rows_of behind)
  goes_on next e l a =
      let front_is : take n (rows_of new) ≡ rows_of front = sym (ap rows_of f ∙ map-take arc_value new n) in
      let behind_is : drop n (rows_of new) ≡ rows_of behind = sym (ap rows_of b ∙ map-drop arc_value new n) in
      let over : IsTrue (lead (rows_of front) (leaf_rows others)) = subst (λ (rows : List Row). IsTrue (lead rows (leaf_rows others))) front_is l in
      let apart : IsTrue (are_behind (leaf_rows others) (rows_of behind)) = subst (λ (rows : List Row). IsTrue (are_behind (leaf_rows others) rows)) behind_is a in (
        subst (λ (rows : List Row). IsMerging rows (leaf_rows others) (rows_of behind) whole) (sym e) (part_done done (arc_value part) (leaf_rows others) (rows_of front) (rows_of behind) whole as_parts over apart),
        (λ none. none_behind (leaf_rows others) (rows_of behind) apart (ap leaf_rows none)),
      )

pub rest_ordered : {Z : Type 0} (old others : List (Arc (List Row) Z)) (part : Arc (List Row) Z) (done more whole : List Row) → IsMerging done (leaf_rows old) more whole → old ≡ part ∷ others → IsTrue (is_ordered (leaf_rows others))
rest_ordered old others part done more whole h is = ordered_back (arc_value part) (leaf_rows others) (ap is_ordered (sym (ap leaf_rows is)) ∙ h.rest_ordered)

pub ends : {Z : Type 0} (old : List (Arc (List Row) Z)) (done more whole : List Row) → IsMerging done (leaf_rows old) more whole → none_left old more → length old ≡ 0 → done ≡ whole
ends old done more whole h left none =
    let no = empty_of old none in
    sym (append-nil done) ∙ merge_ends done [] whole
    (subst (λ (rows : List Row). IsMerging done [] rows whole) (left no) (subst (λ (rows : List Row). IsMerging done rows more whole) (ap leaf_rows no) h))

pub begun : {Z : Type 0} (parts old : List (Arc (List Row) Z)) (new : List Row) → parts ≡ [] → 0 < length old → IsTrue (is_ordered (leaf_rows old)) → IsTrue (is_ordered new) → IsTrue (are_untied new (leaf_rows old))
    → IsMerging (leaf_rows parts) (leaf_rows old) new (merged (leaf_rows old) new) × none_left old new
begun parts old new none some h k apart = (
  subst (λ (xs : List (Arc (List Row) _)). IsMerging (leaf_rows xs) (leaf_rows old) new (merged (leaf_rows old) new)) (sym none) (merge_begins (leaf_rows old) new h k apart),
  (λ e. let long = ap length e in let never : ⊥ = omega (arith, some, long) in absurd never),
)

-- the walk begins behind the parts that stand in front of all rows, where one part at least is left
pub begun_behind : {Z : Type 0} (copied old rest front : List (Arc (List Row) Z)) (new : List Row) (n : ℕ) → map arc_value copied ≡ map arc_value front → front ≡ take n old → rest ≡ drop n old → n < length old
    → IsTrue (is_ordered (leaf_rows old)) → IsTrue (is_ordered new) → IsTrue (are_untied new (leaf_rows old)) → IsTrue (list_all (are_before (leaf_rows (take n old))) new)
    → IsMerging (leaf_rows copied) (leaf_rows rest) new (merged (leaf_rows old) new) × none_left rest new
begun_behind copied old rest front new n clones f b low h k apart over =
    let whole : leaf_rows old ≡ leaf_rows (take n old) ++ leaf_rows rest =
    ap leaf_rows (sym (take-append-drop n old)) ∙ joined (take n old) (drop n old) ∙ ap (λ (xs : List (Arc (List Row) _)). leaf_rows (take n old) ++ leaf_rows xs) (sym b) in
    let done : leaf_rows copied ≡ leaf_rows (take n old) = ap (flat_map (λ rows. rows)) clones ∙ ap leaf_rows f in (
      record {
        is = ap (λ rows. rows ++ merged (leaf_rows rest) new) done ∙ sym (ap (λ rows. merged rows new) whole ∙ merged_behind (leaf_rows (take n old)) (leaf_rows rest) new over);
        rest_ordered = ordered_back (leaf_rows (take n old)) (leaf_rows rest) (ap is_ordered (sym whole) ∙ h);
        more_ordered = k;
        apart = (untied_parts [] new (leaf_rows (take n old)) (leaf_rows rest) (ap (are_untied new) (sym whole) ∙ apart)).1;
      },
      (λ e. let long = ap length (sym b ∙ e) in let left = length-drop n old in let never : ⊥ = omega (arith, low, long, left) in absurd never),
    )

-- where a part and those in front of it stand in front of the first of the rows, those in front of an earlier part stand in front of all
pub in_front_of : {Z : Type 0} (old : List (Arc (List Row) Z)) (at n : ℕ) (row : Row) (more : List Row) → n ≤ at → IsTrue (are_before (leaf_rows (take at old)) row) → IsTrue (is_ordered (row ∷ more))
    → IsTrue (list_all (are_before (leaf_rows (take n old))) (row ∷ more))
unfolding is_ordered
in_front_of old at n row more low h order =
    let parts : leaf_rows (take at old) ≡ leaf_rows (take n old) ++ leaf_rows (drop n (take at old)) =
    ap leaf_rows (sym (take-append-drop n (take at old))) ∙ joined (take n (take at old)) (drop n (take at old))
    ∙ ap (λ (xs : List (Arc (List Row) _)). leaf_rows xs ++ leaf_rows (drop n (take at old))) (take-take n at old low) in
    let first = all_front (λ r. is_lt (row_cmp r row)) (leaf_rows (take n old)) (leaf_rows (drop n (take at old))) (ap (λ rows. are_before rows row) (sym parts) ∙ h) in
    both (are_before (leaf_rows (take n old)) row) (list_all (are_before (leaf_rows (take n old))) more) first (before_all (leaf_rows (take n old)) row more first (both_first (leads row more) (is_ordered more) order))

-- ---- where the parts begin

module _ {Z : Type 0} where
  pub split : (rows : List (Arc Row Z)) (rest : List Row) (first : Row) (more : List Row) (raw : Bytes) (n : ℕ) → rest ≡ first ∷ more → raw ≡ first.raw → IsTrue (is_ordered rest) → n ≤ length rows
      → IsPartitionPoint (λ r. is_before raw first.seq r ≡ true) (λ r. is_before raw first.seq r ≡ false) (rows_of rows) n
      → IsTrue (lead (take n (rows_of rows)) rest) × IsTrue (are_behind rest (drop n (rows_of rows)))
  split rows rest first more raw n is key h low at =
      let long = length-map rows arc_value in
      subst (λ (rs : List Row). IsTrue (lead (take n (rows_of rows)) rs) × IsTrue (are_behind rs (drop n (rows_of rows)))) (sym is)
      (split_at_first first more (rows_of rows) n (ap is_ordered (sym is) ∙ h) (omega (arith, long, low))
      (subst (λ (b : Bytes). IsPartitionPoint (λ r. is_before b first.seq r ≡ true) (λ r. is_before b first.seq r ≡ false) (rows_of rows) n) key at))

  pub begins : (parts others : List (Arc (List Row) Z)) (part : Arc (List Row) Z) (first : Row) (rows more : List Row) → parts ≡ part ∷ others → rows ≡ arc_value part → rows ≡ first ∷ more → leaf_rows parts ≡ first ∷ (more ++ leaf_rows others)
  begins parts others part first rows more is d f = ap leaf_rows is ∙ ap (λ rs. rs ++ leaf_rows others) (sym d ∙ f)

  pub behind_none : (rest : List Row) (rows : List (Arc Row Z)) → true ≡ nat_eq (length rows) 0 → IsTrue (are_behind rest (rows_of rows))
  behind_none rest rows h = ap (are_behind rest) (ap rows_of (empty_of rows (let none : length rows ≡ 0 = grind (arith, nat_tests) in none))) ∙ by_rest rest
    where
      by_rest : (rest : List Row) → are_behind rest [] ≡ true
      by_rest [] = refl
      by_rest (first ∷ rest) = refl

  pub none : (parts : List (Arc (List Row) Z)) → length parts ≡ 0 → leaf_rows parts ≡ []
  none parts h = ap leaf_rows (empty_of parts h)

-- ---- parts that are cut off

-- one part more, of the end of what was still to be cut
pub cut_off : {Z : Type 0} (old new : List (Arc (List Row) Z)) (part : Arc (List Row) Z) (left front behind whole : List Row) → left ++ leaf_rows (reverse old) ≡ whole → front ++ behind ≡ left → arc_value part ≡ behind
    → new ≡ old ++ part ∷ [] → front ++ leaf_rows (reverse new) ≡ whole
cut_off old new part left front behind whole h cut is push =
    ap (λ (xs : List (Arc (List Row) _)). front ++ leaf_rows xs) (ap reverse push ∙ reverse-append old (part ∷ [])) ∙ ap (λ rows. front ++ (rows ++ leaf_rows (reverse old))) is ∙ sym (append_assoc front behind (leaf_rows (reverse old)))
    ∙ ap (λ rows. rows ++ leaf_rows (reverse old)) cut ∙ h

-- ---- the last row

-- what stands in front of the last item
pub ended : {X : Type 0} (xs front : List X) (x : X) → xs ≡ front ++ x ∷ [] → xs ≡ take (length xs - 1) xs ++ x ∷ []
ended xs front x is =
    let long = ap length is in
    let both = length-append front (x ∷ []) in
    let n : length xs - 1 ≡ length front = omega (arith, long, both) in
    is ∙ ap (λ ys. ys ++ x ∷ []) (sym ((λ i. take (n i) (is i)) ∙ take-append_seam front (x ∷ [])))

last_item : {X : Type 0} (xs : List X) (x : X) (n : ℕ) → 0 < length xs → n ≡ length xs - 1 → x ≡ get_or xs n x → xs ≡ take n xs ++ x ∷ []
last_item xs x n some last is =
    sym (take_all (n + 1) xs (omega (arith, last))) ∙ take_more xs n x (omega (arith, some, last)) ∙ ap (λ y. take n xs ++ y ∷ []) (sym is)

module _ {Z : Type 0} where
  -- the last row of the last part is that of all
  pub last_of_parts : (parts : List (Arc (List Row) Z)) (part : Arc (List Row) Z) (n : ℕ) (front : List Row) (row : Row) → 0 < length parts → n ≡ length parts - 1 → part ≡ get_or parts n part
      → arc_value part ≡ front ++ row ∷ [] → leaf_rows parts ≡ take (length (leaf_rows parts) - 1) (leaf_rows parts) ++ row ∷ []
  last_of_parts parts part n front row some last is ends =
      ended (leaf_rows parts) (leaf_rows (take n parts) ++ front) row
      (ap leaf_rows (last_item parts part n some last is) ∙ joined (take n parts) (part ∷ []) ∙ ap (λ rows. leaf_rows (take n parts) ++ rows) (append-nil (arc_value part) ∙ ends)
      ∙ sym (append_assoc (leaf_rows (take n parts)) front (row ∷ [])))
