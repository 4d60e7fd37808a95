use Rattle.core_keeps.specs.RecoveredLaws.{recovered_counts}
use Rattle.core_keeps.proofs.laws.recoveries_find_what_is_kept.Goals as goal

pub returns : goal.returns
returns c = recovered_counts
