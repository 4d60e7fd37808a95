-- The next rows of cursors: which of them comes first.
use Rattle.std.proofs.Common.{◌≡◌, List, ◌∷◌, length, Option, Some, None}
use Rattle.std.specs.declared.cmp.Ordering.{Ordering}
use Rattle.std.specs.declared.cmp.Ordering.TheVariants.{Less, Equal, Greater}
use Rattle.kv_base.specs.declared.row.Row.{Row}
use Rattle.row_model.specs.RowOrder.{row_cmp}
use Rattle.merge_rows.specs.Cursors.{AreInOrder}

-- the greatest is the row that stands in front; a cursor at its end is below all others
abbrev pub head_cmp : Option Row → Option Row → Ordering
head_cmp None None = Equal
head_cmp None (Some other) = Less
head_cmp (Some row) None = Greater
head_cmp (Some row) (Some other) = row_cmp other row

-- the next row is in order with the rows behind it; where there is none, none is behind
abbrev pub IsHead : Option Row → Option (List Row) → Type 0
IsHead row None = Unit {0}
IsHead None (Some rest) = length rest ≡ 0
IsHead (Some row) (Some rest) = AreInOrder (row ∷ rest)
