use Rattle.std.proofs.Common.{List, [], Some, ap, ◌∙◌}
use Rattle.kv_base.specs.declared.row.Row.{Row}
use Rattle.kv_tests_views.proofs.Distinct.{held_rows}
use Rattle.kv_tests_views.proofs.layers.written.Goals as goal

pub returns-in-Some : goal.returns-in-Some
returns-in-Some c =
    held_rows _ c.args.memory.now [] c.args.last _ c.in_ok-table.field-0 c.in-Some.table (c.new-rows.ensures.rows ∙ ap (λ (rows : List Row). Some rows) c.of_table.ensures) c.in-Some.is c.in_ok-table.ensures.table c.requires
