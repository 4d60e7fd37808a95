use Rattle.std.proofs.Common.{length}
use Rattle.std.specs.Option.{option_map}
use Rattle.kv_base.specs.RowRefs.{row_seen}
use Rattle.log_store.proofs.Paging.{IsRead}
use Rattle.log_store.proofs.page.first_rows.Given as goal

abbrev pub invariant-loop-row : goal.invariant-loop-row
invariant-loop-row l = IsRead l.table l.sequence l.from l.prefix l.limit l.found (option_map row_seen l.front) l.rows

abbrev pub decreases-loop-row : goal.decreases-loop-row
decreases-loop-row l = length l.rows
