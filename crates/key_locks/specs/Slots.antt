-- What a holder of locks has of each stripe.
use Rattle.std.specs.Prelude.{ℕ, zero, suc, ◌/◌, ◌%◌, Option, Some, None, List, [], ◌∷◌}
use Rattle.key_locks.specs.Shares.{ShareOf, Spot, Elsewhere, spot_of}

-- what a holder has of a stripe, by its lock and its share
abbrev pub slot_spot : {G : Type 0} → Option G → Option ShareOf → Spot
slot_spot None share = Elsewhere
slot_spot (Some guard) share = spot_of share

-- what stands at a place of a row
abbrev pub spot_in : List Spot → ℕ → Spot
spot_in [] k = Elsewhere
spot_in (x ∷ xs) zero = x
spot_in (x ∷ xs) (suc k) = spot_in xs k

-- what stands at a stripe, in four rows of four
abbrev pub held_at : ℕ → List Spot → List Spot → List Spot → List Spot → Spot
held_at k a b c d = spot_in (spot_in a (k % 4) ∷ spot_in b (k % 4) ∷ spot_in c (k % 4) ∷ spot_in d (k % 4) ∷ []) (k / 4)
