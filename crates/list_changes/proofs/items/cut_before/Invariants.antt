use Rattle.std.proofs.Common.{◌≡◌, fold}
use Rattle.life_plans.specs.WantedRows.{with_wish}
use Rattle.list_plans.specs.ListRows.{cuts_before}
use Rattle.list_changes.proofs.items.cut_before.Given as goal

-- the items so far are taken away
abbrev pub invariant-loop-at : goal.invariant-loop-at
invariant-loop-at l = l.batch ≡ fold (with_wish l.key l.list.version) l.fn.batch (cuts_before l.list.tail l.at)
