use Rattle.std.proofs.Common.{sym, subst}
use Rattle.merge_rows.specs.Cursors.{AreInOrder}
use Rattle.mem_cursor.specs.RowsFromLaws.{in_order_from}
use Rattle.mem_cursor.proofs.Looking.{looked_at}
use Rattle.mem_cursor.proofs.memory_rows.MemoryRows.of_table.Goals as goal

pub invariant_of-result : goal.invariant_of-result
invariant_of-result c =
    let rows = c.rows_from-rest.ensures in
    looked_at c.rows_from-rest.result _ _ c.next-next.ensures.row c.next-next.ensures.rest (subst AreInOrder (sym rows.rows) (in_order_from c.args.raw.now c.args.table.now rows.order rows.grammar))
