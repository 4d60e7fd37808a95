use Rattle.std.proofs.Common.{Some, None}
use Rattle.kv_base.specs.RowRefs.{row_seen}
use Rattle.sst_parts.specs.Seeking.{first_from}
use Rattle.sst_file.proofs.InBlock.{damage_untold, never_cut, never_off, table_found_in, row_answers, other_answers, none_answers}
use Rattle.sst_file.proofs.searching.find_in.Goals as goal

pub returns-in_default-clause-cause : goal.returns-in_default-clause-cause
returns-in_default-clause-cause g c =
    let held = g.F.Files.sealed_bytes c.args.parts.now.file in
    damage_untold _ _ c.args.parts.now.desc.id held c.args.spot.now.place c.damaged.result c.damaged.ensures
    (never_cut c.args.spot.now c.in_ok-block.block.items c.as_slice.result.now c.as_slice.ensures.value c.in_ok-block.ensures.short held c.requires c.in_ok-block.ensures.bytes c.in_default.ensures)

pub returns-then-is_eq-clause-row : goal.returns-then-is_eq-clause-row
returns-then-is_eq-clause-row g c =
    let held = g.F.Files.sealed_bytes c.args.parts.now.file in
    table_found_in c.args.spot.now c.in_ok-block.block.items c.as_slice.result.now c.as_slice.ensures.value c.in_ok-block.ensures.short c.in-Some.body.now c.in-Some.field-0-1.now c.in-Some.ensures
    c.args.raw.now c.args.seq (Some (Some c.in_ok-copy-in-Row.field-0)) held c.in_ok-block.ensures.bytes
    (λ rows readable is. row_answers c.args.raw.now (first_from c.args.raw.now c.args.seq rows) (row_seen c.in-Row.row) c.in_ok-copy-in-Row.field-0 c.cmp.result (c.in-Row.ensures rows readable is) c.in_ok-copy-in-Row.ensures c.cmp.ensures c.if-is_eq.ensures)

pub returns-in-Row-clause-row : goal.returns-in-Row-clause-row
returns-in-Row-clause-row g c =
    let held = g.F.Files.sealed_bytes c.args.parts.now.file in
    table_found_in c.args.spot.now c.in_ok-block.block.items c.as_slice.result.now c.as_slice.ensures.value c.in_ok-block.ensures.short c.in-Some.body.now c.in-Some.field-0-1.now c.in-Some.ensures
    c.args.raw.now c.args.seq (Some None) held c.in_ok-block.ensures.bytes
    (λ rows readable is. other_answers c.args.raw.now (first_from c.args.raw.now c.args.seq rows) (row_seen c.in-Row.row) c.cmp.result (c.in-Row.ensures rows readable is) c.cmp.ensures c.if-is_eq.ensures)

pub returns-in-Behind-clause-row : goal.returns-in-Behind-clause-row
returns-in-Behind-clause-row g c =
    let held = g.F.Files.sealed_bytes c.args.parts.now.file in
    table_found_in c.args.spot.now c.in_ok-block.block.items c.as_slice.result.now c.as_slice.ensures.value c.in_ok-block.ensures.short c.in-Some.body.now c.in-Some.field-0-1.now c.in-Some.ensures
    c.args.raw.now c.args.seq None held c.in_ok-block.ensures.bytes
    (λ rows readable is. none_answers c.args.raw.now (first_from c.args.raw.now c.args.seq rows) (c.in-Behind.ensures rows readable is))

pub returns-clause-cause : goal.returns-clause-cause
returns-clause-cause g c =
    let held = g.F.Files.sealed_bytes c.args.parts.now.file in
    damage_untold _ _ c.args.parts.now.desc.id held c.args.spot.now.place c.damaged-in-Off.result c.damaged-in-Off.ensures
    (never_off c.args.spot.now c.in_ok-block.block.items c.as_slice.result.now c.as_slice.ensures.value c.in_ok-block.ensures.short c.in-Some.body.now c.in-Some.field-0-1.now c.in-Some.ensures held c.requires c.in_ok-block.ensures.bytes
    (λ rows readable is. c.in-Off.ensures rows readable is))
