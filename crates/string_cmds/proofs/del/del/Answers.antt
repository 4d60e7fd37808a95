use Rattle.std.proofs.Common.{arith, ap}
use Rattle.std.specs.Prelude.{Option, None}
use Rattle.kv_base.specs.Map.{Bytes, size-empty, size}
use Rattle.lives_model.specs.ViewLaws.{reads_nothing, reads_then}
use Rattle.string_cmds.proofs.Loops.{deletes_none, deletes_next, deletes_few, deletes_done, ahead_none, ahead_next, sight_ahead}
use Rattle.string_cmds.proofs.del.del.Goals as goal

pub loop-key-init : goal.loop-key-init
loop-key-init g c = record {
  gone = deletes_none (g.V.RawView.told c.args.view.now).rows c.args.moment c.new-deletes.result c.new-deletes.ensures;
  few = let same = ap size c.new-deletes.ensures in omega (arith, same, size-empty (Option Bytes));
  ahead = ahead_none (g.V.RawView.told c.args.view.now).rows c.args.moment;
  reads = reads_nothing (g.V.RawView.told c.args.view.now);
}

pub loop-key-preserved : goal.loop-key-preserved
loop-key-preserved g c = record {
  gone = deletes_next (g.V.RawView.told c.args.view.now).rows (g.V.RawView.told c.loop-key.view).rows c.args.moment c.args.keys.now c.loop-key.key-index c.key-item.result c.in_ok-key.key
      c.loop-key.deletes c.delete_seen.new.batch c.in_ok-sight.sight
      c.loop-key-test.true c.key-item.is c.in_ok-key.ensures c.loop-key.invariant.reads.rows c.loop-key.invariant.gone c.in_ok-sight.ensures.found c.in_ok-delete_seen.ensures;
  few = deletes_few c.loop-key.deletes c.delete_seen.new.batch c.in_ok-key.key c.in_ok-sight.sight c.loop-key.key-index c.in_ok-delete_seen.ensures c.loop-key.invariant.few;
  ahead = ahead_next (g.V.RawView.told c.args.view.now).rows (g.V.RawView.told c.loop-key.view).rows c.args.moment c.args.keys.now c.loop-key.key-index c.key-item.result c.in_ok-key.key
      c.loop-key.soonest c.deadline_of.result c.sooner-soonest.result
      c.loop-key-test.true c.key-item.is c.in_ok-key.ensures c.loop-key.invariant.reads.rows c.loop-key.invariant.ahead
      (sight_ahead (g.V.RawView.told c.loop-key.view).rows c.args.moment c.in_ok-key.key c.deadline_of.result c.in_ok-sight.sight c.deadline_of.ensures c.in_ok-sight.ensures.found) c.sooner-soonest.ensures;
  reads = reads_then (g.V.RawView.told c.args.view.now) (g.V.RawView.told c.loop-key.view) _ None c.loop-key.invariant.reads c.in_ok-sight.ensures.reads;
}

pub returns-clause-plan : goal.returns-clause-plan
returns-clause-plan g c =
    deletes_done (g.V.RawView.told c.args.view.now).rows c.args.moment c.args.keys.now c.loop-key.key-index c.loop-key.deletes c.loop-key.soonest c.in_ok-plan.plan
    c.loop-key.auto.key-index-end c.loop-key-test.false c.loop-key.invariant.gone c.loop-key.invariant.ahead c.in_ok-plan.ensures
