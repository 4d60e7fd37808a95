use Rattle.std.proofs.Common.{◌≡◌, ℕ, drop}
use Rattle.std.specs.Prelude.{◌||◌}
use Rattle.redis_model.specs.Stripes.{contains, has_stripe}
use Rattle.redis_model.proofs.stripes.Stripes.of_keys.Given as goal

-- each stripe is in the set already, or a key that is left has it
abbrev pub invariant-loop-key : goal.invariant-loop-key
invariant-loop-key l = (b : ℕ) → (contains l.stripes b || has_stripe (drop l.key-index l.key-items) b) ≡ has_stripe l.keys b
