use Rattle.std.proofs.Common.{◌≡◌, length, map, option_map}
use Rattle.kv_base.specs.RowRefs.{row_seen}
use Rattle.sst_parts.specs.Blocks.{read_block_body}
use Rattle.sst_parts.specs.BlockLaws.{rows_onto, rows_left}
use Rattle.sst_parts.proofs.body.read_body.Given as goal

-- what is still to be read, behind what was read, is the whole
abbrev pub invariant-loop-before : goal.invariant-loop-before
invariant-loop-before l = rows_onto (map row_seen l.rows.items) (rows_left (length l.body) (option_map row_seen l.before) l.rest) ≡ read_block_body (option_map row_seen l.last) l.body

abbrev pub decreases-loop-before : goal.decreases-loop-before
decreases-loop-before l = length l.rest
