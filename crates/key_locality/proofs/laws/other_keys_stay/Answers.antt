use Rattle.key_locality.specs.AliveLocal.{apply_alive_elsewhere}
use Rattle.key_locality.proofs.laws.other_keys_stay.Goals as goal

pub returns : goal.returns
returns c = apply_alive_elsewhere
