use Rattle.std.proofs.Common.{◌+◌, sym, ap, ◌∙◌}
use Rattle.std.specs.Prelude.{None}
use Rattle.kv_base.specs.Map.{insert}
use Rattle.list_changes.specs.Found.{item_raw}
use Rattle.list_changes.specs.ItemLaws.{cuts_from_next}
use Rattle.list_changes.proofs.items.cut_from.Goals as goal

pub loop-at-preserved : goal.loop-at-preserved
loop-at-preserved c =
    c.in_ok-cut_item.ensures ∙ ap (λ b. insert b (item_raw c.args.key.now c.args.list (c.args.list.head + c.loop-at.at)) None) c.loop-at.invariant
    ∙ sym (cuts_from_next c.args.key.now c.args.list.version c.loop-at.at c.args.list.head c.args.batch.now)
