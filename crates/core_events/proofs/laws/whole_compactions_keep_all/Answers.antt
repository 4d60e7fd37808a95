use Rattle.core_events.specs.CompactingLaws.{begin_compact_stands, install_whole_stands}
use Rattle.core_events.specs.FlushingLaws.{drop_compact_stands}
use Rattle.core_events.proofs.laws.whole_compactions_keep_all.Goals as goal

pub returns-clause-begun : goal.returns-clause-begun
returns-clause-begun c = begin_compact_stands

pub returns-clause-installed : goal.returns-clause-installed
returns-clause-installed c = install_whole_stands

pub returns-clause-dropped : goal.returns-clause-dropped
returns-clause-dropped c = drop_compact_stands
