-- The blocks of a table stand where its index has them.
use Rattle.std.proofs.Common.{◌≡◌, List, sym, ap, subst, ◌∙◌, Option, None, Result, Ok, arith}
use Rattle.kv_base.specs.Map.{Bytes}
use Rattle.kv_base.specs.declared.row.Row.{Row}
use Rattle.sst_parts.specs.declared.index.Spot.{Spot}
use Rattle.sst_parts.specs.Blocks.{blocks}
use Rattle.sst_parts.specs.Index.{spots_from, read_block_index}
use Rattle.sst_parts.specs.Tables.{head_length}
use Rattle.sst_grammar.specs.Judging.{slice_at, judged_index, judged_table}
use Rattle.sst_grammar.specs.Placing.{AreAt}
use Rattle.sst_grammar.specs.JudgedPartLaws.{blocks_at, or_off_is}
use Rattle.sst_grammar.specs.OneBlockingLaws.{blocks_again}
use Rattle.sst_grammar.specs.OnlyTableLaws.{foot_facts, only_table_index_is_read, run_of, table_found_in}

pub blocks_are_placed : (bytes : Bytes) (rows : List Row) → judged_table bytes ≡ Ok rows → AreAt (spots_from head_length (blocks rows)) (blocks rows) bytes
unfolding judged_index
blocks_are_placed bytes rows h =
    let found = table_found_in bytes rows h in
    let foot = found.foot in
    let spots = found.spots in
    let facts = foot_facts bytes foot found.foot_is in
    let at = blocks_at None spots bytes rows found.blocks_are in
    let bs = at.blocks in
    let slice = slice_at foot.index foot.index_length bytes in
    let index = only_table_index_is_read head_length foot.index slice spots (or_off_is foot.index (read_block_index head_length foot.index slice) spots found.index_is) in
    let run = run_of head_length foot.index spots bs bytes index.run at.placed (omega (arith, facts.filter, facts.end)) in
    let blocks_is : blocks rows ≡ bs = ap blocks at.whole ∙ blocks_again bs at.full in
    subst (λ (b : List (List Row)). AreAt (spots_from head_length b) b bytes) (sym blocks_is) (subst (λ (s : List Spot). AreAt s bs bytes) run.spots_are at.placed)
