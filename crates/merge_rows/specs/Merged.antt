-- All rows of several lists as one list in order.
use Rattle.std.specs.Prelude.{◌≤◌, Bool, true, false, if◌then◌else◌, List, [], Option, Some, None}
use Rattle.std.specs.List.{flat_map, list_any, count_by}
use Rattle.std.specs.Ordering.{is_eq}
use Rattle.kv_base.specs.declared.row.Row.{Row}
use Rattle.row_model.specs.RowOrder.{row_cmp, merged}

-- no two rows have both raw key and sequence equal
abbrev pub AreDistinct : List Row → Type 0
AreDistinct rows = (row : Row) → count_by (λ other. is_eq (row_cmp row other)) rows ≤ 1

-- rows in order, each at its place among the others
abbrev pub rows_in_order : List Row → List Row
rows_in_order rows = merged [] rows

-- the rows of a list that tells them
abbrev pub told_rows : Option (List Row) → List Row
told_rows None = []
told_rows (Some rows) = rows

abbrev pub is_untold : Option (List Row) → Bool
is_untold None = true
is_untold (Some rows) = false

-- all rows of the lists that tell them, one list behind the other
abbrev pub all_told_rows : List (Option (List Row)) → List Row
all_told_rows = flat_map told_rows

-- all rows in order, where each list tells its rows
abbrev pub merged_rows : List (Option (List Row)) → Option (List Row)
merged_rows lists = if list_any is_untold lists then None else Some (rows_in_order (all_told_rows lists))
