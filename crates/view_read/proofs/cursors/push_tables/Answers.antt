use Rattle.std.proofs.Common.{◌++◌, List, take, map, sym, ap, ◌∙◌, option_map, arith}
use Rattle.mem_table.specs.Search.{rows_from}
use Rattle.merge_rows.specs.Parts.{CursorPart}
use Rattle.sst_file.specs.States.{table_off}
use Rattle.view_read.specs.declared.any_cursor.AnyCursor.TheVariants.{InTable}
use Rattle.view_read.specs.AnyCursors.{any_part}
use Rattle.view_read.specs.SourceParts.{table_parts}
use Rattle.view_read.proofs.Finding.{parts_pushed, table_parts_more}
use Rattle.view_read.proofs.cursors.push_tables.Goals as goal

pub loop-table-preserved : goal.loop-table-preserved
loop-table-preserved g c =
    let raw = c.args.raw.now in
    let tables = c.args.tables.now in
    let at = c.loop-table.table-index in
    let table = c.table-item.result in
    let first = map any_part c.args.cursors.now.items in
    parts_pushed any_part c.loop-table.cursors.items c.push.new.self.items (InTable c.in_ok-rows_from.field-0) first (table_parts raw (take at tables)) (option_map (rows_from raw) table.rows, table_off table)
    c.loop-table.invariant c.in_ok-push.ensures.items (λ i. (c.in_ok-rows_from.ensures.rows i, (λ file place. table_off (c.in_ok-rows_from.ensures.table i) file place)))
    ∙ ap (λ (ps : List CursorPart). first ++ ps) (sym (table_parts_more raw tables at table (omega arith) c.table-item.is))
