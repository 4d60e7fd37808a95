use Rattle.recovery.specs.RecoverLaws.{first_table_damage}
use Rattle.recovery.proofs.laws.the_first_damaged_table_is_answered.Goals as goal

pub returns : goal.returns
returns c = λ files state front behind tables home place says homes found here. first_table_damage files state front behind tables home place says homes found here
