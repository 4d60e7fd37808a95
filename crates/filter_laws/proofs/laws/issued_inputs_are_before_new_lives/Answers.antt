use Rattle.filter_laws.specs.IssuedInputLaws.{issued_before}
use Rattle.filter_laws.proofs.laws.issued_inputs_are_before_new_lives.Goals as goal

pub returns : goal.returns
returns c = issued_before
