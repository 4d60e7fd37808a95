use Rattle.recovery.specs.BoundLaws.{bounds_are}
use Rattle.recovery.proofs.laws.nothing_is_beyond_what_is_recovered.Goals as goal

pub returns : goal.returns
returns c = λ files found is. bounds_are files found is
