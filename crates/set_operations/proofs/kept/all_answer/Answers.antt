use Rattle.std.proofs.Common.{◌∙◌, refl, sym}
use Rattle.std.specs.Prelude.{None}
use Rattle.lives_model.specs.ViewLaws.{reads_nothing, reads_then}
use Rattle.set_operations.proofs.Loops.{all_none, all_next, all_fails, all_done}
use Rattle.set_operations.proofs.kept.all_answer.Goals as goal

pub loop-at-init : goal.loop-at-init
loop-at-init g c = record { all = all_none (g.V.RawView.told c.args.view.now).rows c.args.shared c.args.member.now; reads = reads_nothing (g.V.RawView.told c.args.view.now) }

pub returns-then-not-agrees-clause-all : goal.returns-then-not-agrees-clause-all
returns-then-not-agrees-clause-all g c =
    all_fails (g.V.RawView.told c.args.view.now).rows (g.V.RawView.told c.loop-at.view).rows c.args.keys.now c.args.lives.now c.loop-at.at c.index-keys-at.result c.args.member.now _ _ c.life_or_none.result c.args.shared c.in_ok-there.there
    c.loop-at-test.true c.requires.count c.index-keys-at.is refl c.life_or_none.ensures.life c.loop-at.invariant.reads.rows
    (simp c.bytes.ensures.bytes at c.in_ok-there.ensures.there) (sym c.agrees.ensures ∙ c.if-not-agrees.true)

pub loop-at-preserved : goal.loop-at-preserved
loop-at-preserved g c = record {
  all = all_next (g.V.RawView.told c.args.view.now).rows (g.V.RawView.told c.loop-at.view).rows c.args.keys.now c.args.lives.now c.loop-at.at c.index-keys-at.result c.args.member.now _ _ c.life_or_none.result c.args.shared c.in_ok-there.there
      c.loop-at-test.true c.requires.count c.index-keys-at.is refl c.life_or_none.ensures.life c.loop-at.invariant.reads.rows c.loop-at.invariant.all
      (simp c.bytes.ensures.bytes at c.in_ok-there.ensures.there) (sym c.agrees.ensures ∙ c.if-not-agrees.false);
  reads = reads_then (g.V.RawView.told c.args.view.now) (g.V.RawView.told c.loop-at.view) _ None c.loop-at.invariant.reads c.in_ok-there.ensures.reads;
}

pub returns-clause-all : goal.returns-clause-all
returns-clause-all g c =
    all_done (g.V.RawView.told c.args.view.now).rows c.args.keys.now c.args.lives.now c.loop-at.at c.args.member.now c.args.shared
    c.loop-at.auto.at-end c.loop-at-test.false c.requires.count c.loop-at.invariant.all
