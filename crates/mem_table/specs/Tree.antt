-- The rows of leaves and of branches, one behind the other, and which rows belong in front of them.
use Rattle.std.specs.Prelude.{Bool, true, false, not, List, [], ◌∷◌, map, Option, Some, None}
use Rattle.std.specs.List.{flat_map, list_all}
use Rattle.std.specs.Arc.{arc_value}
use Rattle.std.specs.Ordering.{is_lt}
use Rattle.std.specs.declared.sync.Arc.{Arc}
use Rattle.std.specs.declared.vec.Vec.{Vec}
use Rattle.kv_base.specs.declared.row.Row.{Row}
use Rattle.row_model.specs.RowOrder.{row_cmp, leads}

-- of shared lists of rows the rows, one list behind the other
abbrev pub leaf_rows : {Z : Type 0} → List (Arc (List Row) Z) → List Row
leaf_rows leaves = flat_map (λ rows. rows) (map arc_value leaves)

-- each of these rows stands in front of each of the rest
abbrev pub lead : List Row → List Row → Bool
lead rows rest = list_all (λ row. leads row rest) rows

-- none of these rows stands in front of where the rest begins; behind an empty rest there is none
abbrev pub are_behind : List Row → List Row → Bool
are_behind [] [] = true
are_behind [] (row ∷ rows) = false
are_behind (first ∷ rest) rows = list_all (λ row. not (is_lt (row_cmp row first))) rows

-- each of these stands in front of the row
abbrev pub are_before : List Row → Row → Bool
are_before front row = list_all (λ r. is_lt (row_cmp r row)) front

-- none, where nothing was ever written
abbrev pub tree_rows : {Z A B : Type 0} → Option (Arc (Vec (Arc (List Row) Z) A) B) → List Row
tree_rows None = []
tree_rows (Some root) = leaf_rows (arc_value root).items
