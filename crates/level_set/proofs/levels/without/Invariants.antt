use Rattle.std.proofs.Common.{◌≡◌, ◌++◌, drop, option_map}
use Rattle.level_set.specs.Edits.{tables_without}
use Rattle.level_set.proofs.levels.without.Given as goal

-- those that stay of what is left, behind those that stayed so far, are all that stay
abbrev pub invariant-loop-home : goal.invariant-loop-home
invariant-loop-home l = option_map (λ rest. l.staying.items ++ rest) (tables_without (drop l.home-index l.homes) l.left) ≡ tables_without l.homes l.removed
