use Rattle.std.proofs.Common.{◌-◌}
use Rattle.mem_table.proofs.Seeking.{IsBetween}
use Rattle.mem_table.proofs.search.leaf_at.Given as goal

abbrev pub invariant-loop-low : goal.invariant-loop-low
invariant-loop-low l = IsBetween l.raw l.seq l.leaves l.low l.high

abbrev pub decreases-loop-low : goal.decreases-loop-low
decreases-loop-low l = l.high - l.low
