use Rattle.std.proofs.Common.{◌≡◌, ◌++◌, take, map}
use Rattle.view_read.specs.AnyCursors.{any_part}
use Rattle.view_read.specs.SourceParts.{table_parts}
use Rattle.view_read.proofs.cursors.push_tables.Given as goal

abbrev pub invariant-loop-table : goal.invariant-loop-table
invariant-loop-table g l = map any_part l.cursors.items ≡ map any_part l.fn.cursors.items ++ table_parts l.raw (take l.table-index l.tables)
