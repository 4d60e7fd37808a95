use Rattle.std.proofs.Common.{◌+◌, take, sym, subst, arith}
use Rattle.kv_outside.specs.RunLaws.{nothing_new}
use Rattle.kv_outside.specs.RunLaws.{nothing_then}
use Rattle.view_read.specs.Shows.{ShowsInAll}
use Rattle.view_read.proofs.Showing.{shows_none}
use Rattle.view_read.specs.Sources.{table_rows}
use Rattle.view_read.proofs.Finding.{tables_more}
use Rattle.view_read.proofs.find.find_in_tables.Goals as goal

pub loop-table-init : goal.loop-table-init
loop-table-init g c = (shows_none c.args.seq c.args.raw.now, nothing_new (g.F.Files.disk c.args.files.now), omega arith)

pub loop-table-preserved : goal.loop-table-preserved
loop-table-preserved g c =
    let was = c.loop-table.invariant in (
      subst (ShowsInAll (table_rows (take (c.loop-table.table-index + 1) c.args.tables.now)) c.args.seq c.args.raw.now) (sym c.newer-newest.ensures)
          (tables_more c.args.tables.now c.loop-table.table-index c.table-item.result (omega arith) c.table-item.is c.args.seq c.args.raw.now c.loop-table.newest c.in_ok-found.found was.0 c.in_ok-found.ensures.row),
      nothing_then (g.F.Files.disk c.args.files.now) (g.F.Files.disk c.loop-table.files) (g.F.Files.disk c.find.new.files) was.1 c.find.ensures.disk,
      omega (arith, was.2, c.find.ensures.later),
    )
