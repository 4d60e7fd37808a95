use Rattle.mem_table.specs.Shared.{rows_of}
use Rattle.mem_table.proofs.Clones.{rows_rejoined}
use Rattle.mem_table.proofs.Parts.{cut_off}
use Rattle.mem_table.proofs.leaf.cut_rows.Goals as goal

pub loop-rows-preserved : goal.loop-rows-preserved
loop-rows-preserved c =
    let rows = c.loop-rows.rows.items in
    let behind = c.in_ok-last.last.items in (
      cut_off c.loop-rows.leaves.items c.push.new.self.items c.in_ok-new.field-0 (rows_of rows) (rows_of c.split_off.new.self.items) (rows_of behind) _ c.loop-rows.invariant.0
          (rows_rejoined rows c.split_off.new.self.items behind _ c.in_ok-last.ensures.items c.in_ok-last.ensures.tail) c.in_ok-new.ensures.ok c.in_ok-push.ensures.items,
      c.loop-rows.invariant.1,
      c.loop-rows.invariant.2,
    )
