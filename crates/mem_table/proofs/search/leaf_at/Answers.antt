use Rattle.std.proofs.Common.{◌+◌, ◌-◌, ◌/◌, sym, ◌∙◌, arith}
use Rattle.mem_table.proofs.Seeking.{between_above, between_below}
use Rattle.mem_table.proofs.search.leaf_at.Goals as goal

pub loop-low-preserved-then-is_short : goal.loop-low-preserved-then-is_short
loop-low-preserved-then-is_short c =
    let middle = c.loop-low.low + (c.loop-low.high - c.loop-low.low) / 2 in
    between_above c.args.raw.now c.args.seq c.args.leaves.now c.loop-low.low c.loop-low.high middle c.index-leaves-middle.result _ c.last.result.now c.loop-low.invariant c.requires (omega arith)
    c.index-leaves-middle.is (sym c.deref.ensures ∙ c.last.ensures) (sym c.if-is_short.ensures)

pub loop-low-preserved : goal.loop-low-preserved
loop-low-preserved c =
    let middle = c.loop-low.low + (c.loop-low.high - c.loop-low.low) / 2 in
    between_below c.args.raw.now c.args.seq c.args.leaves.now c.loop-low.low c.loop-low.high middle c.index-leaves-middle.result _ c.last.result.now c.loop-low.invariant c.requires (omega arith) (omega arith)
    c.index-leaves-middle.is (sym c.deref.ensures ∙ c.last.ensures) (sym c.if-is_short.ensures)
