use Rattle.std.proofs.Common.{◌+◌, take, map, sym, subst, arith, rules}
use Rattle.kv_base.specs.declared.fault.StoreFault.{StoreFault}
use Rattle.kv_outside.specs.RunLaws.{nothing_new}
use Rattle.kv_outside.specs.Causes.{IsCause}
use Rattle.kv_outside.specs.CauseLaws.{cause_widens}
use Rattle.kv_outside.specs.RunLaws.{nothing_then}
use Rattle.view_read.specs.Shows.{ShowsInAll}
use Rattle.view_read.proofs.Showing.{shows_none}
use Rattle.view_read.specs.Sources.{table_rows, all_tables, tables_off}
use Rattle.view_read.proofs.Finding.{levels_more, off_of_level, sliced_at}
use Rattle.view_read.proofs.find.find_in_levels.Goals as goal

pub loop-level-init : goal.loop-level-init
loop-level-init g c = (shows_none c.args.seq c.args.raw.now, nothing_new (g.F.Files.disk c.args.files.now), omega arith)

pub returns-in_err-found-clause-cause : goal.returns-in_err-found-clause-cause
returns-in_err-found-clause-cause g c =
    let levels = map (λ level. level.items) c.args.levels.now in
    let here = sliced_at (λ level. level.items) c.args.levels.now c.loop-level.level-index c.level-item.result c.as_slice.result.now (omega arith) c.level-item.is c.as_slice.ensures.value in
    let first = g.F.Files.faults c.args.files.now in
    let before = g.F.Files.faults c.loop-level.files in
    let now = g.F.Files.faults c.find_in_tables.new.files in
    let widens : (fault : StoreFault) → IsCause before now (tables_off c.as_slice.result.now) fault → IsCause first now (tables_off (all_tables levels)) fault =
    λ fault cause. cause_widens first before now now (tables_off c.as_slice.result.now) (tables_off (all_tables levels)) fault c.loop-level.invariant.2 (omega arith)
    (off_of_level levels c.loop-level.level-index c.as_slice.result.now here.0 here.1) cause in
    search (rules, widens)

pub loop-level-preserved : goal.loop-level-preserved
loop-level-preserved g c =
    let was = c.loop-level.invariant in
    let levels = map (λ level. level.items) c.args.levels.now in
    let here = sliced_at (λ level. level.items) c.args.levels.now c.loop-level.level-index c.level-item.result c.as_slice.result.now (omega arith) c.level-item.is c.as_slice.ensures.value in (
      subst (ShowsInAll (table_rows (all_tables (take (c.loop-level.level-index + 1) levels))) c.args.seq c.args.raw.now) (sym c.newer-newest.ensures)
          (levels_more levels c.loop-level.level-index c.as_slice.result.now here.0 here.1 c.args.seq c.args.raw.now c.loop-level.newest c.in_ok-found.found was.0 c.in_ok-found.ensures.row),
      nothing_then (g.F.Files.disk c.args.files.now) (g.F.Files.disk c.loop-level.files) (g.F.Files.disk c.find_in_tables.new.files) was.1 c.find_in_tables.ensures.disk,
      omega (arith, was.2, c.find_in_tables.ensures.later),
    )
