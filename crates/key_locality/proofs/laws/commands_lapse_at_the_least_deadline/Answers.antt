use Rattle.key_locality.specs.Until.{finds_until}
use Rattle.key_locality.proofs.laws.commands_lapse_at_the_least_deadline.Goals as goal

pub returns : goal.returns
returns c = finds_until
