use Rattle.std.proofs.Common.{◌≡◌, ◌++◌, reverse, length}
use Rattle.zset_reads.proofs.answers.turned.Given as goal

-- those that are left come behind the others, the last one first
abbrev pub invariant-loop-rank : goal.invariant-loop-rank
invariant-loop-rank l = l.turned ++ reverse l.ranks ≡ reverse l.initial.ranks

abbrev pub decreases-loop-rank : goal.decreases-loop-rank
decreases-loop-rank l = length l.ranks
