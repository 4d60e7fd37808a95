use Rattle.std.proofs.Common.{◌≡◌, List, length}
use Rattle.kv_base.specs.declared.row.Row.{Row}
use Rattle.sst_parts.specs.RowTexts.{rows_text}
use Rattle.sst_parts.specs.Seeking.{AreReadable}
use Rattle.sst_parts.specs.SeekLaws.{AreLeft}
use Rattle.sst_parts.proofs.seeking.seek.Given as goal

abbrev pub invariant-loop-rest : goal.invariant-loop-rest
invariant-loop-rest l = (rows : List Row) → AreReadable rows → l.fn.body ≡ rows_text rows → AreLeft l.raw l.seq rows l.rest

abbrev pub decreases-loop-rest : goal.decreases-loop-rest
decreases-loop-rest l = length l.rest
