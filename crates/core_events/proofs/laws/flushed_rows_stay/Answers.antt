use Rattle.core_events.specs.FlushingLaws.{freeze_stands, install_flush_stands, drop_flush_stands}
use Rattle.core_events.proofs.laws.flushed_rows_stay.Goals as goal

pub returns-clause-frozen : goal.returns-clause-frozen
returns-clause-frozen c = freeze_stands

pub returns-clause-installed : goal.returns-clause-installed
returns-clause-installed c = install_flush_stands

pub returns-clause-dropped : goal.returns-clause-dropped
returns-clause-dropped c = drop_flush_stands
