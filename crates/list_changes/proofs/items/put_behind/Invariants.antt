use Rattle.std.proofs.Common.{◌≡◌, fold, take}
use Rattle.life_plans.specs.WantedRows.{with_wish}
use Rattle.list_plans.specs.ListRows.{puts_from}
use Rattle.list_changes.proofs.items.put_behind.Given as goal

-- the items so far are put
abbrev pub invariant-loop-at : goal.invariant-loop-at
invariant-loop-at l = l.batch ≡ fold (with_wish l.key l.list.version) l.fn.batch (puts_from l.list.tail (take l.at l.items))
