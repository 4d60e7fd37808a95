use Rattle.std.specs.Prelude.{None}
use Rattle.lives_model.specs.ViewLaws.{reads_then}
use Rattle.plan_base.specs.LoopLaws.{each_next}
use Rattle.hash_cmds.specs.Planned.{value_of_field}
use Rattle.hash_cmds.proofs.Loops.{shown_by}
use Rattle.hash_cmds.proofs.fields.each_value.Goals as goal

pub loop-field-preserved : goal.loop-field-preserved
loop-field-preserved g c = record {
  shown = each_next (g.V.RawView.told c.args.view.now).rows (g.V.RawView.told c.loop-field.view).rows (λ rows. value_of_field rows c.args.key.now c.args.life) c.args.fields.now c.loop-field.field-index c.field-item.result c.bytes.result.now
      c.loop-field.values c.push.new.self c.bulk_or_null.result
      c.loop-field-test.true c.field-item.is c.bytes.ensures c.loop-field.invariant.reads.rows c.loop-field.invariant.shown
      (shown_by (g.V.RawView.told c.loop-field.view).rows c.args.key.now c.args.life c.bytes.result.now c.in_ok-value.value c.bulk_or_null.result c.bulk_or_null.ensures c.in_ok-value.ensures.value) c.in_ok-push.ensures.ok;
  reads = reads_then (g.V.RawView.told c.args.view.now) (g.V.RawView.told c.loop-field.view) _ None c.loop-field.invariant.reads c.in_ok-value.ensures.reads;
}
