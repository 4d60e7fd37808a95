use Rattle.std.proofs.Common.{length}
use Rattle.row_model.specs.RowOrder.{merged}
use Rattle.mem_table.specs.Shared.{rows_of}
use Rattle.mem_table.specs.Tree.{leaf_rows}
use Rattle.mem_table.proofs.Merges.{IsMerging}
use Rattle.mem_table.proofs.Spread.{none_left}
use Rattle.mem_table.proofs.branch.leaves_with.Given as goal

abbrev pub invariant-loop-leaf : goal.invariant-loop-leaf
invariant-loop-leaf l = IsMerging (leaf_rows l.leaves.items) (leaf_rows l.old) (rows_of l.new) (merged (leaf_rows l.fn.old) (rows_of l.fn.new)) × none_left l.old (rows_of l.new)

abbrev pub decreases-loop-leaf : goal.decreases-loop-leaf
decreases-loop-leaf l = length l.old
