-- How rows are spread over sources decides nothing.
use Rattle.std.proofs.Common.{◌≡◌, ℕ, List, [], ◌++◌, sym, ap, subst, ◌∙◌, true, cond, append-nil, arith}
use Rattle.std.specs.List.Sorted.{IsPermutation}
use Rattle.std.specs.Ordering.{is_eq}
use Rattle.std.proofs.lemmas.List.Sorted.{IsPermutation-sym, Contains-permutation, sum_by-IsPermutation}
use Rattle.kv_base.specs.declared.row.Row.{Row}
use Rattle.row_model.specs.Rows.{at}
use Rattle.row_model.specs.RowOrder.{row_cmp, is_ordered}
use Rattle.row_model.specs.RowMapLaws.{at_merged}
use Rattle.merge_rows.specs.Merged.{AreDistinct, rows_in_order}
use Rattle.merge_rows.specs.MergedLaws.{one_in_order}
use Rattle.view_read.specs.DistinctLaws.{distinct_ordered}

-- rows in order are the map that they were
pub at_in_order : (rows : List Row) (s : ℕ) → at (rows_in_order rows) s ≡ at rows s
at_in_order rows s = at_merged [] rows s ∙ ap (λ (rs : List Row). at rs s) (append-nil rows)

pub at_spread : (rows others : List Row) (s : ℕ) → AreDistinct rows → IsPermutation rows others → at others s ≡ at rows s
at_spread rows others s h moved =
    let apart : AreDistinct others = λ row. let same = sum_by-IsPermutation (λ x. cond (is_eq (row_cmp row x)) 1 0) rows others moved in let few = h row in omega (arith, same, few) in
    let one = one_in_order rows others h apart ((λ r t. Contains-permutation rows others r moved t), (λ r t. Contains-permutation others rows r (IsPermutation-sym rows others moved) t)) in
    sym (at_in_order others s) ∙ ap (λ (rs : List Row). at rs s) (sym one) ∙ at_in_order rows s

-- ---- one memtable alone

pub distinct_alone : (rows : List Row) → is_ordered rows ≡ true → AreDistinct (rows ++ [])
distinct_alone rows h = subst AreDistinct (sym (append-nil rows)) (distinct_ordered rows h)

-- the rows of one memtable alone are its map
pub at_alone : (rows : List Row) (s : ℕ) → at (rows ++ []) s ≡ at rows s
at_alone rows s = ap (λ (rs : List Row). at rs s) (append-nil rows)
