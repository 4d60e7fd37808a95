use Rattle.std.proofs.Common.{arith}
use Rattle.std.specs.Prelude.{None}
use Rattle.lives_model.specs.ViewLaws.{reads_then}
use Rattle.life_changes.proofs.Steps.{taken_next, rows_done, added_done, removed_done}
use Rattle.life_changes.proofs.change.changes.Goals as goal

pub loop-at-preserved : goal.loop-at-preserved
loop-at-preserved g c =
    let few = c.loop-at.invariant.few in
    let one = c.in_ok-take_entry.ensures.few in
    record {
      taken = taken_next (g.V.RawView.told c.args.view.now).rows (g.V.RawView.told c.loop-at.view).rows c.args.wanted.now c.loop-at.at c.loop-at.changing c.take_entry.new.changing
          (omega (arith, c.loop-at-test.true, c.len-at-end.ensures.count)) c.loop-at.invariant.reads.rows c.loop-at.invariant.taken c.in_ok-take_entry.ensures.taken;
      few = omega (arith, few, one);
      reads = reads_then (g.V.RawView.told c.args.view.now) (g.V.RawView.told c.loop-at.view) _ None c.loop-at.invariant.reads c.in_ok-take_entry.ensures.reads;
    }

pub returns-clause-rows : goal.returns-clause-rows
returns-clause-rows g c =
    rows_done (g.V.RawView.told c.args.view.now).rows c.args.wanted.now c.loop-at.at c.loop-at.changing c.in_ok-change.change.rows
    (omega (arith, c.loop-at.auto.at-end, c.len-at-end.ensures.count)) (omega (arith, c.loop-at-test.false, c.len-at-end.ensures.count)) c.loop-at.invariant.taken c.in_ok-change.ensures.rows

pub returns-clause-added : goal.returns-clause-added
returns-clause-added g c =
    added_done (g.V.RawView.told c.args.view.now).rows c.args.wanted.now c.loop-at.at c.loop-at.changing c.in_ok-change.change.added
    (omega (arith, c.loop-at.auto.at-end, c.len-at-end.ensures.count)) (omega (arith, c.loop-at-test.false, c.len-at-end.ensures.count)) c.loop-at.invariant.taken c.in_ok-change.ensures.added

pub returns-clause-removed : goal.returns-clause-removed
returns-clause-removed g c =
    removed_done (g.V.RawView.told c.args.view.now).rows c.args.wanted.now c.loop-at.at c.loop-at.changing c.in_ok-change.change.removed
    (omega (arith, c.loop-at.auto.at-end, c.len-at-end.ensures.count)) (omega (arith, c.loop-at-test.false, c.len-at-end.ensures.count)) c.loop-at.invariant.taken c.in_ok-change.ensures.removed
