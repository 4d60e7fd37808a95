use Rattle.std.proofs.Common.{sym}
use Rattle.kv_base.specs.RowRefs.{row_seen}
use Rattle.sst_parts.specs.RowTextLaws.{row_shortens}
use Rattle.sst_parts.specs.SeekLaws.{left_whole, not_off, sought_here, sought_behind, sought_nowhere}
use Rattle.sst_parts.proofs.seeking.seek.Goals as goal

pub loop-rest-init : goal.loop-rest-init
loop-rest-init c = λ rows readable is. left_whole c.args.raw.now c.args.seq rows c.args.body.now readable is

pub loop-rest-smaller : goal.loop-rest-smaller
loop-rest-smaller c =
    let f = c.in-Some.front in
    row_shortens c.loop-rest.rest.now (row_seen f.row, f.behind.now) (sym c.in-Some.ensures)

pub loop-rest-preserved : goal.loop-rest-preserved
loop-rest-preserved c = λ rows readable is.
    let f = c.in-Some.front in
    sought_behind c.args.raw.now c.args.seq rows c.loop-rest.rest.now (row_seen f.row, f.behind.now) (c.loop-rest.invariant rows readable is) (sym c.loop-rest-test.ensures) (sym c.in-Some.ensures) (sym c.if-not-is_before.ensures)

pub returns-in_default : goal.returns-in_default
returns-in_default c = λ rows readable is.
    not_off c.args.raw.now c.args.seq rows c.loop-rest.rest.now (c.loop-rest.invariant rows readable is) (sym c.loop-rest-test.ensures) (sym c.in_default.ensures)

pub returns-then-not-is_before : goal.returns-then-not-is_before
returns-then-not-is_before c = λ rows readable is.
    let f = c.in-Some.front in
    sought_here c.args.raw.now c.args.seq rows c.loop-rest.rest.now (row_seen f.row, f.behind.now) (c.loop-rest.invariant rows readable is) (sym c.loop-rest-test.ensures) (sym c.in-Some.ensures) (sym c.if-not-is_before.ensures)

pub returns : goal.returns
returns c = λ rows readable is.
    sought_nowhere c.args.raw.now c.args.seq rows c.loop-rest.rest.now (c.loop-rest.invariant rows readable is) (sym c.loop-rest-test.ensures)
