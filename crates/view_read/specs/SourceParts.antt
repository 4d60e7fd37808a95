-- What the cursors of sources tell: the rows from a raw key on, and the places that are off their grammar.
use Rattle.std.specs.Prelude.{false, List, [], ◌∷◌, map, Option, Some, None, option_map}
use Rattle.kv_base.specs.Map.{Bytes}
use Rattle.kv_base.specs.declared.row.Row.{Row}
use Rattle.mem_table.specs.Search.{rows_from}
use Rattle.merge_rows.specs.Parts.{CursorPart}
use Rattle.sst_file.specs.States.{TableState, table_off}

abbrev pub memory_part : Bytes → List Row → CursorPart
memory_part raw rows = (Some (rows_from raw rows), (λ file place. false))

abbrev pub frozen_parts : Bytes → Option (List Row) → List CursorPart
frozen_parts raw None = []
frozen_parts raw (Some rows) = memory_part raw rows ∷ []

abbrev pub table_parts : Bytes → List TableState → List CursorPart
table_parts raw = map (λ table. (option_map (rows_from raw) table.rows, table_off table))
