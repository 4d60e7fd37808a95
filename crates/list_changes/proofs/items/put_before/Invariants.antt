use Rattle.std.proofs.Common.{◌≡◌, fold, take}
use Rattle.life_plans.specs.WantedRows.{with_wish}
use Rattle.list_plans.specs.ListRows.{puts_before}
use Rattle.list_changes.proofs.items.put_before.Given as goal

-- the items so far are put
abbrev pub invariant-loop-at : goal.invariant-loop-at
invariant-loop-at l = l.batch ≡ fold (with_wish l.key l.list.version) l.fn.batch (puts_before l.list.head (take l.at l.items))
