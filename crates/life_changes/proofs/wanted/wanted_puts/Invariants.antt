use Rattle.std.proofs.Common.{◌≡◌, take}
use Rattle.std.specs.Prelude.{zip}
use Rattle.life_plans.specs.WantedRows.{puts, wanted}
use Rattle.life_changes.proofs.wanted.wanted_puts.Given as goal

-- the fields so far have their values
abbrev pub invariant-loop-at : goal.invariant-loop-at
invariant-loop-at l = l.rows ≡ wanted l.key l.version (puts (take l.at (zip l.fields l.values)))
