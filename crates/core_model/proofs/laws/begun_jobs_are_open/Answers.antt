use Rattle.core_model.specs.OpenJobLaws.{begun_flush_is_open, begun_compact_is_open}
use Rattle.core_model.proofs.laws.begun_jobs_are_open.Goals as goal

pub returns-clause-flush : goal.returns-clause-flush
returns-clause-flush c = begun_flush_is_open

pub returns-clause-compaction : goal.returns-clause-compaction
returns-clause-compaction c = begun_compact_is_open
