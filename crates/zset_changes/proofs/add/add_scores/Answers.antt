use Rattle.std.proofs.Common.{refl, get_or, rules, w64, arith}
use Rattle.std.proofs.lemmas.Int.{to_z-of_z}
use Rattle.std.specs.Prelude.{FitsSigned, None, pos}
use Rattle.lives_model.specs.ViewLaws.{reads_then}
use Rattle.zset_changes.specs.ScoreTableLaws.{tallied_next, all_tallied}
use Rattle.zset_changes.proofs.add.add_scores.Goals as goal

pub loop-at-preserved : goal.loop-at-preserved
loop-at-preserved g c =
    let few = c.loop-at.invariant.few in
    let one = c.in_ok-add_score.ensures.few in
    let fits : FitsSigned w64 (get_or c.args.scores.now c.loop-at.at (pos 0)) = search rules in
    record {
      tallied = tallied_next (g.V.RawView.told c.args.view.now).rows (g.V.RawView.told c.loop-at.view).rows c.args.key.now c.args.life c.args.when c.args.scores.now c.args.members.now c.loop-at.at _ _ _ _ c.loop-at.tally c.add_score.new.tally
          c.loop-at-test.true c.requires.pairs c.index-members-at.is refl c.loop-at.invariant.reads.rows c.loop-at.invariant.tallied (simp to_z-of_z at c.in_ok-add_score.ensures.adds);
      table = c.in_ok-add_score.ensures.table;
      few = omega (arith, few, one);
      reads = reads_then (g.V.RawView.told c.args.view.now) (g.V.RawView.told c.loop-at.view) _ None c.loop-at.invariant.reads c.in_ok-add_score.ensures.reads;
    }

pub returns-clause-sets : goal.returns-clause-sets
returns-clause-sets g c =
    all_tallied (g.V.RawView.told c.args.view.now).rows c.args.key.now c.args.life c.args.when c.args.scores.now c.args.members.now c.loop-at.at c.loop-at.tally _
    c.loop-at.auto.at-end c.loop-at-test.false c.requires.pairs c.loop-at.invariant.table c.loop-at.invariant.tallied c.in_ok-scorings.ensures refl refl
