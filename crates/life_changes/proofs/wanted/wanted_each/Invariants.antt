use Rattle.std.proofs.Common.{◌≡◌, take}
use Rattle.std.specs.Prelude.{map, option_map}
use Rattle.life_plans.specs.WantedRows.{wanted}
use Rattle.life_changes.proofs.wanted.wanted_each.Given as goal

-- the subkeys so far have their row
abbrev pub invariant-loop-subkey : goal.invariant-loop-subkey
invariant-loop-subkey l = l.rows ≡ wanted l.key l.version (map (λ x. (x, option_map (λ value. value.now) l.row)) (take l.subkey-index l.subkeys))
