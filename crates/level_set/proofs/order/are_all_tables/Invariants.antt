use Rattle.std.proofs.Common.{◌≡◌, true, take}
use Rattle.std.specs.List.{list_all}
use Rattle.level_set.specs.Tables.{is_table}
use Rattle.level_set.proofs.order.are_all_tables.Given as goal

abbrev pub invariant-loop-home : goal.invariant-loop-home
invariant-loop-home l = list_all is_table (take l.home-index l.homes) ≡ true
