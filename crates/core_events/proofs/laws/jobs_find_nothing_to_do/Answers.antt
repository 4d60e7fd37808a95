use Rattle.core_events.specs.FlushingLaws.{find_no_flush_stands, meet_flush_stands, find_no_compact_stands, meet_compact_stands, count_stands}
use Rattle.core_events.proofs.laws.jobs_find_nothing_to_do.Goals as goal

pub returns-clause-no_flush : goal.returns-clause-no_flush
returns-clause-no_flush c = find_no_flush_stands

pub returns-clause-met_flush : goal.returns-clause-met_flush
returns-clause-met_flush c = meet_flush_stands

pub returns-clause-no_compaction : goal.returns-clause-no_compaction
returns-clause-no_compaction c = find_no_compact_stands

pub returns-clause-met_compaction : goal.returns-clause-met_compaction
returns-clause-met_compaction c = meet_compact_stands

pub returns-clause-counted : goal.returns-clause-counted
returns-clause-counted c = count_stands
