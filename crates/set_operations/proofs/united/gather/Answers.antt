use Rattle.std.proofs.Common.{refl}
use Rattle.std.specs.Prelude.{None}
use Rattle.lives_model.specs.ViewLaws.{reads_nothing, reads_then}
use Rattle.set_operations.proofs.Loops.{gathered_none, gathered_next, gathered_done}
use Rattle.set_operations.proofs.united.gather.Goals as goal

pub loop-at-init : goal.loop-at-init
loop-at-init g c = record { all = gathered_none (g.V.RawView.told c.args.view.now).rows c.new-all.result.keys c.new-all.ensures.empty; reads = reads_nothing (g.V.RawView.told c.args.view.now) }

pub loop-at-preserved : goal.loop-at-preserved
loop-at-preserved g c = record {
  all = gathered_next (g.V.RawView.told c.args.view.now).rows (g.V.RawView.told c.loop-at.view).rows c.args.keys.now c.args.lives.now c.loop-at.at c.index-keys-at.result _ _ c.life_or_none.result
      c.in_ok-rows.rows c.loop-at.all.keys _
      c.loop-at-test.true c.requires.count c.index-keys-at.is refl c.life_or_none.ensures.life c.loop-at.invariant.reads.rows c.loop-at.invariant.all c.in_ok-rows.ensures.rows (simp c.as_slice.ensures at c.in_ok-add_members.ensures);
  reads = reads_then (g.V.RawView.told c.args.view.now) (g.V.RawView.told c.loop-at.view) _ None c.loop-at.invariant.reads c.in_ok-rows.ensures.reads;
}

pub returns-clause-members : goal.returns-clause-members
returns-clause-members g c =
    gathered_done (g.V.RawView.told c.args.view.now).rows c.args.keys.now c.args.lives.now c.loop-at.at c.loop-at.all.keys
    c.loop-at.auto.at-end c.loop-at-test.false c.requires.count c.loop-at.invariant.all
