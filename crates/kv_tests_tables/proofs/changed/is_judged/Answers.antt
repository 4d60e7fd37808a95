use Rattle.kv_tests_tables.proofs.changed.is_judged.Goals as goal

pub invariant_of-rows-in-Ok : goal.invariant_of-rows-in-Ok
invariant_of-rows-in-Ok c = record { order = c.write_table.new.rows.order }
