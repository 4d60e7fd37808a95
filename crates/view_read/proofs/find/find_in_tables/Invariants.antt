use Rattle.std.proofs.Common.{◌≤◌, take}
use Rattle.kv_outside.specs.Disk.{NothingNew}
use Rattle.view_read.specs.Shows.{ShowsInAll}
use Rattle.view_read.specs.Sources.{table_rows}
use Rattle.view_read.proofs.find.find_in_tables.Given as goal

abbrev pub invariant-loop-table : goal.invariant-loop-table
invariant-loop-table g l =
    ShowsInAll (table_rows (take l.table-index l.tables)) l.seq l.raw l.newest
    × NothingNew (g.F.Files.disk l.fn.files) (g.F.Files.disk l.files)
    × (g.F.Files.faults l.fn.files ≤ g.F.Files.faults l.files)
