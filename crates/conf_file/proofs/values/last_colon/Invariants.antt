use Rattle.std.proofs.Common.{◌≡◌, ◌≤◌, length}
use Rattle.std.specs.Path.{rfind_below}
use Rattle.conf_file.specs.Configuration.{colon}
use Rattle.conf_file.proofs.values.last_colon.Given as goal

abbrev pub decreases-places : goal.decreases-places
decreases-places l = l.end

abbrev pub invariant-places : goal.invariant-places
invariant-places l = (rfind_below colon l.text (length l.text) ≡ rfind_below colon l.text l.end) × (l.end ≤ length l.text)
