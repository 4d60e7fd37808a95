use Rattle.std.proofs.Common.{◌≡◌, ◌++◌, length}
use Rattle.zset_reads.proofs.Members.{parts_back}
use Rattle.zset_reads.proofs.answers.told_back.Given as goal

-- what is told of the others stands in front of what is to be told of those that are left
abbrev pub invariant-loop-rank : goal.invariant-loop-rank
invariant-loop-rank l = l.parts ++ parts_back l.scores l.ranks ≡ parts_back l.scores l.initial.ranks

abbrev pub decreases-loop-rank : goal.decreases-loop-rank
decreases-loop-rank l = length l.ranks
