use Rattle.key_locality.specs.Local.{touched_local}
use Rattle.key_locality.proofs.laws.touches_depend_on_own_keys.Goals as goal

pub returns : goal.returns
returns c = touched_local
