use Rattle.std.proofs.Common.{◌≡◌, take}
use Rattle.set_operations.specs.Combined as seen
use Rattle.set_operations.proofs.sets.soonest.Given as goal

-- the soonest deadline so far
abbrev pub invariant-loop-found : goal.invariant-loop-found
invariant-loop-found l = l.soonest ≡ seen.soonest l.moment (take l.found-index l.lives)
