use Rattle.std.proofs.Common.{length}
use Rattle.row_model.specs.RowOrder.{merged}
use Rattle.mem_table.specs.Shared.{rows_of}
use Rattle.mem_table.specs.Tree.{leaf_rows}
use Rattle.mem_table.proofs.Merges.{IsMerging}
use Rattle.mem_table.proofs.Spread.{none_left}
use Rattle.mem_table.proofs.root.spread.Given as goal

abbrev pub invariant-loop-branch : goal.invariant-loop-branch
invariant-loop-branch l = IsMerging (leaf_rows l.branches.items) (leaf_rows l.old) (rows_of l.new) (merged (leaf_rows l.fn.old) (rows_of l.fn.new)) × none_left l.old (rows_of l.new)

abbrev pub decreases-loop-branch : goal.decreases-loop-branch
decreases-loop-branch l = length l.old
