use Rattle.std.proofs.Common.{◌≡◌, ap, sym, ◌∙◌, Option, Some, option_map, List, map, length}
use Rattle.std.specs.Prelude.{nat_le}
use Rattle.kv_base.specs.Map.{Bytes}
use Rattle.kv_base.specs.declared.row.Row.{Row}
use Rattle.kv_base.specs.RowRefs.{row_seen}
use Rattle.sst_parts.specs.Blocks.{is_full, read_block_body, block_size}
use Rattle.sst_parts.specs.BlockBodyLaws.{only_block_body_is_read}
use Rattle.sst_sums.proofs.summing.block_rows.Goals as goal

full_as_read : (before : Option Row) (body : Bytes) (rows : List Row) → read_block_body before body ≡ Some rows → nat_le block_size (length body) ≡ is_full rows
full_as_read before body rows h = ap (λ (b : Bytes). nat_le block_size (length b)) (only_block_body_is_read before body rows h).spelled

pub are_of_spot-requires : goal.are_of_spot-requires
are_of_spot-requires c =
    full_as_read (option_map row_seen c.args.before) c.in-Some.body.now (map row_seen c.in-Some-2.rows.items) (sym c.in_ok-rows.ensures ∙ ap (option_map (λ rows. map row_seen rows.items)) c.in-Some-2.is)
    ∙ ap (λ items. is_full (map row_seen items)) (sym c.as_slice.ensures.value)
