use Rattle.std.proofs.Common.{◌≡◌, true, take}
use Rattle.level_set.specs.Tables.{are_runs_below}
use Rattle.level_set.proofs.order.are_below.Given as goal

abbrev pub invariant-loop-home : goal.invariant-loop-home
invariant-loop-home l = are_runs_below l.next_run (take l.home-index l.homes) ≡ true
