use Rattle.std.proofs.Common.{◌≡◌, ◌+◌, drop}
use Rattle.level_set.specs.Tables.{lesser}
use Rattle.level_set.proofs.levels.Levels.first_from.Given as goal

abbrev pub invariant-loop-at : goal.invariant-loop-at
invariant-loop-at l = lesser l.level l.homes ≡ l.at + lesser l.level (drop l.at l.homes)
