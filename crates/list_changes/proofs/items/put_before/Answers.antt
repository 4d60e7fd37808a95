use Rattle.std.proofs.Common.{◌-◌, sym, ap, ◌∙◌}
use Rattle.std.specs.Prelude.{Some}
use Rattle.kv_base.specs.Map.{insert}
use Rattle.list_changes.specs.Found.{item_raw}
use Rattle.list_changes.specs.ItemLaws.{puts_before_next}
use Rattle.list_changes.proofs.items.put_before.Goals as goal

pub loop-at-preserved : goal.loop-at-preserved
loop-at-preserved c =
    c.in_ok-put_item.ensures ∙ ap (λ b. insert b (item_raw c.args.key.now c.args.list (c.args.list.head - 1 - c.loop-at.at)) (Some c.index-items-at.result)) c.loop-at.invariant
    ∙ sym (puts_before_next c.args.key.now c.args.list.version c.args.items.now c.loop-at.at c.args.list.head c.index-items-at.result _ c.args.batch.now c.loop-at-test.true c.index-items-at.is)
