use Rattle.std.proofs.Common.{◌≡◌, false, take}
use Rattle.level_set.specs.Neighbours.{is_named}
use Rattle.level_set.proofs.place.is_named.Given as goal

abbrev pub invariant-loop-home : goal.invariant-loop-home
invariant-loop-home l = is_named l.id (take l.home-index l.homes) ≡ false
