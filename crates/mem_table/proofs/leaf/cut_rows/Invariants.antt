use Rattle.std.proofs.Common.{◌≡◌, ◌<◌, ◌≤◌, ◌++◌, length, reverse}
use Rattle.mem_table.specs.Shared.{rows_of}
use Rattle.mem_table.specs.Tree.{leaf_rows}
use Rattle.mem_table.proofs.leaf.cut_rows.Given as goal

-- what is still to be cut, with what is cut off its end, is the whole
abbrev pub invariant-loop-rows : goal.invariant-loop-rows
invariant-loop-rows l = (rows_of l.rows.items ++ leaf_rows (reverse l.leaves.items) ≡ rows_of l.fn.rows.items) × (0 < l.size) × (l.size ≤ 64)

abbrev pub decreases-loop-rows : goal.decreases-loop-rows
decreases-loop-rows l = length l.rows.items
