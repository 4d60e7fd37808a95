use Rattle.recovery.specs.RecoverLaws.{log_damage_last}
use Rattle.recovery.proofs.laws.damage_of_the_log_is_answered_last.Goals as goal

pub returns : goal.returns
returns c = λ files state tables damage says found turns here. log_damage_last files state tables damage says found turns here
