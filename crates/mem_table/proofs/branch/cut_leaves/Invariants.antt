use Rattle.std.proofs.Common.{◌≡◌, ◌<◌, ◌≤◌, ◌++◌, length, reverse}
use Rattle.mem_table.specs.Tree.{leaf_rows}
use Rattle.mem_table.proofs.branch.cut_leaves.Given as goal

-- what is still to be cut, with what is cut off its end, is the whole
abbrev pub invariant-loop-leaves : goal.invariant-loop-leaves
invariant-loop-leaves l = (leaf_rows l.leaves.items ++ leaf_rows (reverse l.branches.items) ≡ leaf_rows l.fn.leaves.items) × (0 < l.size) × (l.size ≤ 64)

abbrev pub decreases-loop-leaves : goal.decreases-loop-leaves
decreases-loop-leaves l = length l.leaves.items
