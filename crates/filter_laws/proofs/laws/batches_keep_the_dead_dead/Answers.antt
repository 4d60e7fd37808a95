use Rattle.filter_laws.specs.FilteredLaws.{dead_with_batch}
use Rattle.filter_laws.proofs.laws.batches_keep_the_dead_dead.Goals as goal

pub returns : goal.returns
returns c = dead_with_batch
