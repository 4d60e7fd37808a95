use Rattle.std.proofs.Common.{◌≡◌, drop}
use Rattle.set_operations.specs.Combined.{first_error}
use Rattle.set_operations.proofs.sets.first_error.Given as goal

-- the keys so far are of sets
abbrev pub invariant-loop-found : goal.invariant-loop-found
invariant-loop-found l = first_error l.lives ≡ first_error (drop l.found-index l.lives)
