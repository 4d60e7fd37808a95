-- What is told of the cursor of a source.
use Rattle.std.specs.Prelude.{ℕ, Bool, false, List, length, Option, Some}
use Rattle.kv_base.specs.declared.name.FileName.{FileName}
use Rattle.kv_base.specs.declared.row.Row.{Row}
use Rattle.merge_rows.specs.Parts.{CursorPart}
use Rattle.sst_file.specs.States.{table_off}
use Rattle.view_read.specs.declared.any_cursor.AnyCursor.{AnyCursor}
use Rattle.view_read.specs.declared.any_cursor.AnyCursor.TheVariants.{InMemory, InTable}

module _ {F L S : Type 0} where
  abbrev pub any_rows : AnyCursor F L S → Option (List Row)
  any_rows (InMemory rows) = Some rows
  any_rows (InTable cursor) = cursor.rows

  abbrev pub any_off : AnyCursor F L S → FileName → ℕ → Bool
  any_off (InMemory rows) file place = false
  any_off (InTable cursor) file place = table_off cursor.table file place

  abbrev pub any_left : AnyCursor F L S → ℕ
  any_left (InMemory rows) = length rows
  any_left (InTable cursor) = cursor.left

  abbrev pub any_part : AnyCursor F L S → CursorPart
  any_part c = (any_rows c, any_off c)
