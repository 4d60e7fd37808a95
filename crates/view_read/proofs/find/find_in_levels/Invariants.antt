use Rattle.std.proofs.Common.{◌≤◌, take, map}
use Rattle.kv_outside.specs.Disk.{NothingNew}
use Rattle.view_read.specs.Shows.{ShowsInAll}
use Rattle.view_read.specs.Sources.{table_rows, all_tables}
use Rattle.view_read.proofs.find.find_in_levels.Given as goal

abbrev pub invariant-loop-level : goal.invariant-loop-level
invariant-loop-level g l =
    ShowsInAll (table_rows (all_tables (take l.level-index (map (λ level. level.items) l.levels)))) l.seq l.raw l.newest
    × NothingNew (g.F.Files.disk l.fn.files) (g.F.Files.disk l.files)
    × (g.F.Files.faults l.fn.files ≤ g.F.Files.faults l.files)
