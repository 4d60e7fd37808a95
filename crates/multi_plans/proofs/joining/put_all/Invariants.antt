use Rattle.std.proofs.Common.{◌≡◌}
use Rattle.multi_plans.proofs.Joins.{joined_first}
use Rattle.multi_plans.proofs.joining.put_all.Given as goal

abbrev pub invariant-loop-at : goal.invariant-loop-at
invariant-loop-at l = l.whole ≡ joined_first l.fn.whole l.later l.at
