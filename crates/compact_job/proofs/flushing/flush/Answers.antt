use Rattle.compact_job.specs.FlushingLaws.{flushed}
use Rattle.compact_job.proofs.flushing.flush.Goals as goal

pub returns-clause-table : goal.returns-clause-table
returns-clause-table g c = flushed c.args.task.now.run c.args.task.now.table _ _ _ c.in-Some.table (c.in-Some.is) c.new-rows.ensures.rows c.of_table.ensures c.in_ok-table.ensures.table
