use Rattle.std.proofs.Common.{length}
use Rattle.sst_file.proofs.Reaching.{HasReached}
use Rattle.sst_file.proofs.block_rest.reach.Given as goal

abbrev pub invariant-loop-rest : goal.invariant-loop-rest
invariant-loop-rest l = HasReached l.raw l.fn.body l.rest

abbrev pub decreases-loop-rest : goal.decreases-loop-rest
decreases-loop-rest l = length l.rest
