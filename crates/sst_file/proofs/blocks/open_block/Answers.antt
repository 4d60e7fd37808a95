use Rattle.std.proofs.Common.{ap, map, option_map, ◌∙◌}
use Rattle.kv_base.specs.RowRefs.{row_seen}
use Rattle.sst_file.proofs.BlockLoop.{block_found}
use Rattle.sst_file.proofs.blocks.open_block.Goals as goal

pub returns-in_ok-with-in-Some-clause-found : goal.returns-in_ok-with-in-Some-clause-found
returns-in_ok-with-in-Some-clause-found g c =
    let s = c.args.sums in
    let m = c.in_ok-with-in-Some.field-0 in
    block_found c.args.is_last c.args.spot.now s.rows m.rows s.keys.items m.keys.items s.least m.least s.last m.last (option_map row_seen c.by_ref.result) (g.F.Files.sealed_bytes c.args.opened.now.file)
    c.in_ok-block.block.items c.as_slice.result.now (option_map (λ rows. map row_seen rows.items) c.in_ok-rows.field-0) (map row_seen c.in-Some.rows.items) (map row_seen c.as_slice-in-Some.result.now)
    c.as_slice.ensures.value c.in_ok-block.ensures.bytes (c.by_ref.ensures ∙ c.in_ok-last.ensures) c.in_ok-rows.ensures (ap (option_map (λ rows. map row_seen rows.items)) c.in-Some.is) (ap (map row_seen) c.as_slice-in-Some.ensures.value)
    c.in_ok-with-in-Some.ensures
