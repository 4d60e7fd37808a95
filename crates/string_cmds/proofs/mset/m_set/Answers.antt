use Rattle.std.proofs.Common.{◌∙◌}
use Rattle.std.specs.Prelude.{None}
use Rattle.redis_model.specs.declared.reply.Reply.TheVariants as reply
use Rattle.lives_model.specs.ViewLaws.{reads_nothing, reads_then}
use Rattle.string_cmds.proofs.Loops.{strings_next, strings_done, ahead_none, ahead_next, sight_ahead}
use Rattle.string_cmds.proofs.mset.m_set.Goals as goal

pub loop-at-init : goal.loop-at-init
loop-at-init g c = record {
  puts = c.new-puts.ensures;
  ahead = ahead_none (g.V.RawView.told c.args.view.now).rows c.args.moment;
  reads = reads_nothing (g.V.RawView.told c.args.view.now);
}

pub loop-at-preserved : goal.loop-at-preserved
loop-at-preserved g c = record {
  puts = strings_next c.args.moment c.args.keys.now c.args.values.now c.loop-at.at c.index-keys-at.result c.in_ok-key.key c.bytes.result.now c.index-values-at.result c.loop-at.puts c.put_string.new.batch
      c.loop-at-test.true c.requires.pairs c.index-keys-at.is c.in_ok-key.ensures (c.bytes.ensures ∙ c.index-values-at.is) c.loop-at.invariant.puts c.in_ok-put_string.ensures.ok;
  ahead = ahead_next (g.V.RawView.told c.args.view.now).rows (g.V.RawView.told c.loop-at.view).rows c.args.moment c.args.keys.now c.loop-at.at c.index-keys-at.result c.in_ok-key.key
      c.loop-at.soonest c.deadline_of.result c.sooner-soonest.result
      c.loop-at-test.true c.index-keys-at.is c.in_ok-key.ensures c.loop-at.invariant.reads.rows c.loop-at.invariant.ahead
      (sight_ahead (g.V.RawView.told c.loop-at.view).rows c.args.moment c.in_ok-key.key c.deadline_of.result c.in_ok-sight.sight c.deadline_of.ensures c.in_ok-sight.ensures.found) c.sooner-soonest.ensures;
  reads = reads_then (g.V.RawView.told c.args.view.now) (g.V.RawView.told c.loop-at.view) _ None c.loop-at.invariant.reads c.in_ok-sight.ensures.reads;
}

pub returns-clause-plan : goal.returns-clause-plan
returns-clause-plan g c =
    strings_done (g.V.RawView.told c.args.view.now).rows c.args.moment c.args.keys.now c.args.values.now c.loop-at.at c.loop-at.puts c.loop-at.soonest _
    c.loop-at.auto.at-end c.loop-at-test.false c.requires.pairs c.loop-at.invariant.puts c.loop-at.invariant.ahead
    (λ i. record { reply = reply.Ok; batch = c.in_ok-batch.ensures i; until = c.loop-at.soonest })
