-- Rows that are given one after the other.
use Rattle.std.specs.Prelude.{◌≡◌, ℕ, IsTrue, List, ◌∷◌, drop, Option, Some, None, option_map}
use Rattle.std.specs.List.{slice_get}
use Rattle.kv_base.specs.declared.row.Row.{Row}
use Rattle.row_model.specs.Rows.{are_row_texts}
use Rattle.row_model.specs.RowOrder.{is_ordered}

-- rows in order, each on its grammar
abbrev pub AreInOrder : List Row → Type 0
AreInOrder rows = IsTrue (is_ordered rows) × IsTrue (are_row_texts rows)

-- a step takes the first of the rows, and none exactly where none is left; what is not told stays so
abbrev pub Takes : Option (List Row) → Option Row → Option (List Row) → Type 0
Takes None row now = now ≡ None
Takes (Some rows) row now = (row ≡ slice_get rows 0) × (now ≡ Some (drop 1 rows))

-- ---- a row that was read and is not taken yet

-- it stands in front of the others, where those are told
abbrev pub with_held : Option Row → Option (List Row) → Option (List Row)
with_held None rows = rows
with_held (Some row) rows = option_map (λ rest. row ∷ rest) rows

-- and is in order with them
abbrev pub IsHeldBack : Option Row → Option (List Row) → Type 0
IsHeldBack None rows = Unit {0}
IsHeldBack (Some row) None = Unit {0}
IsHeldBack (Some row) (Some rest) = AreInOrder (row ∷ rest)

-- it counts as one more that is left
abbrev pub held_count : Option Row → ℕ
held_count None = 0
held_count (Some row) = 1
