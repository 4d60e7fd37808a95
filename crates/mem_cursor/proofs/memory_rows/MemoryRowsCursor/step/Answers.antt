use Rattle.std.proofs.Common.{option_map}
use Rattle.kv_base.specs.RowRefs.{row_seen}
use Rattle.mem_cursor.proofs.Looking.{behind_next, looked_at}
use Rattle.mem_cursor.proofs.memory_rows.MemoryRowsCursor.step.Goals as goal

pub invariant_of-self : goal.invariant_of-self
invariant_of-self g c =
    looked_at c.self.inside.rest _ _ c.next-self-inside.ensures.row c.next-self-inside.ensures.rest (behind_next (option_map row_seen c.self.inside.next) c.self.inside.rest c.self.invariant.1)
