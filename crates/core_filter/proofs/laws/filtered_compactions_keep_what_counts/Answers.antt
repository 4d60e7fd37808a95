use Rattle.core_filter.specs.FilteringLaws.{install_keeps_what_counts}
use Rattle.core_filter.proofs.laws.filtered_compactions_keep_what_counts.Goals as goal

pub returns : goal.returns
returns c = install_keeps_what_counts
