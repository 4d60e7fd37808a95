use Rattle.std.specs.Prelude.{None}
use Rattle.lives_model.specs.ViewLaws.{reads_then, reads_nothing}
use Rattle.zset_changes.specs.ScoreTableLaws.{no_member_removed, removed_next, all_removed}
use Rattle.zset_changes.proofs.remove.remove_members.Goals as goal

pub loop-member-init : goal.loop-member-init
loop-member-init g c = record {
  leads = no_member_removed (g.V.RawView.told c.args.view.now).rows c.args.key.now c.args.life _ c.new-table.ensures.none;
  table = c.new-table.ensures.table;
  reads = reads_nothing (g.V.RawView.told c.args.view.now);
}

pub loop-member-preserved : goal.loop-member-preserved
loop-member-preserved g c = record {
  leads = removed_next (g.V.RawView.told c.args.view.now).rows (g.V.RawView.told c.loop-member.view).rows c.args.key.now c.args.life c.args.members.now c.loop-member.member-index _ _ _ _
      c.loop-member-test.true c.member-item.is c.loop-member.invariant.reads.rows c.loop-member.invariant.leads c.in_ok-remove_member.ensures.takes;
  table = c.in_ok-remove_member.ensures.table;
  reads = reads_then (g.V.RawView.told c.args.view.now) (g.V.RawView.told c.loop-member.view) _ None c.loop-member.invariant.reads c.in_ok-remove_member.ensures.reads;
}

pub returns-clause-removes : goal.returns-clause-removes
returns-clause-removes g c =
    all_removed (g.V.RawView.told c.args.view.now).rows c.args.key.now c.args.life c.args.members.now c.loop-member.member-index _ _
    c.loop-member.auto.member-index-end c.loop-member-test.false c.loop-member.invariant.table c.loop-member.invariant.leads c.in_ok-scorings.ensures
