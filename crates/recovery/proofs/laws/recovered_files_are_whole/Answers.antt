use Rattle.recovery.specs.RecoverLaws.{files_are}
use Rattle.recovery.proofs.laws.recovered_files_are_whole.Goals as goal

pub returns : goal.returns
returns c = λ files found is. files_are files found is
