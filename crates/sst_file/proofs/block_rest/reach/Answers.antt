use Rattle.std.proofs.Common.{sym}
use Rattle.kv_base.specs.RowRefs.{row_seen}
use Rattle.sst_parts.specs.RowTextLaws.{row_shortens}
use Rattle.sst_file.proofs.Reaching.{tail_behind, passes_row, reaches_row, never_cut_off, all_passed}
use Rattle.sst_file.proofs.block_rest.reach.Goals as goal

pub returns-in_default-clause-row : goal.returns-in_default-clause-row
returns-in_default-clause-row c =
    never_cut_off c.args.raw.now c.args.body.now c.loop-rest.rest.now c.loop-rest.invariant c.loop-rest-test.ensures c.in_default.ensures

pub returns-then-not-is_less-clause-row : goal.returns-then-not-is_less-clause-row
returns-then-not-is_less-clause-row c =
    let f = c.in-Some.front in
    reaches_row c.args.raw.now c.args.body.now c.loop-rest.rest.now (row_seen f.row, f.behind.now) c.loop-rest.invariant c.in-Some.ensures c.if-not-is_less.ensures

pub returns-then-not-is_less-clause-tail : goal.returns-then-not-is_less-clause-tail
returns-then-not-is_less-clause-tail c =
    let f = c.in-Some.front in
    tail_behind c.args.raw.now c.args.body.now c.loop-rest.rest.now (row_seen f.row, f.behind.now) c.loop-rest.invariant c.in-Some.ensures

pub loop-rest-smaller : goal.loop-rest-smaller
loop-rest-smaller c =
    let f = c.in-Some.front in
    row_shortens c.loop-rest.rest.now (row_seen f.row, f.behind.now) (sym c.in-Some.ensures)

pub loop-rest-preserved : goal.loop-rest-preserved
loop-rest-preserved c =
    let f = c.in-Some.front in
    passes_row c.args.raw.now c.args.body.now c.loop-rest.rest.now (row_seen f.row, f.behind.now) c.loop-rest.invariant c.in-Some.ensures c.if-not-is_less.ensures

pub returns-clause-row : goal.returns-clause-row
returns-clause-row c = all_passed c.args.raw.now c.args.body.now c.loop-rest.rest.now c.loop-rest.invariant c.loop-rest-test.ensures
