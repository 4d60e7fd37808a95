use Rattle.key_locality.specs.Local.{apply_agrees}
use Rattle.key_locality.proofs.laws.changes_depend_on_own_keys.Goals as goal

pub returns : goal.returns
returns c = apply_agrees
