use Rattle.core_keeps.specs.CleanAfterLaws.{same_after}
use Rattle.core_keeps.proofs.laws.batches_keep_what_counts.Goals as goal

pub returns : goal.returns
returns c = same_after
