use Rattle.std.proofs.Common.{None, ap, ◌∙◌}
use Rattle.mem_table.specs.Search.{rows_at}
use Rattle.mem_table.proofs.table.MemTable.rows_from.Goals as goal

pub returns-clause-rows : goal.returns-clause-rows
returns-clause-rows c = c.seek.ensures ∙ ap (rows_at c.args.raw.now None) c.branches.ensures.all
