-- The readings that a clock has ahead, where it tells them.
use Rattle.std.specs.Prelude.{◌≡◌, ℕ, List, [], ◌∷◌, Option, Some, None}

-- the reading that comes next: 0 where there was never one
abbrev pub next_reading : List ℕ → ℕ
next_reading [] = 0
next_reading (now ∷ later) = now

-- the readings after it: the last one repeats
abbrev pub later_readings : List ℕ → List ℕ
later_readings [] = []
later_readings (now ∷ []) = now ∷ []
later_readings (now ∷ next ∷ later) = next ∷ later

-- a reading was taken from the readings ahead, where these are told
abbrev pub TakesReading : Option (List ℕ) → Option (List ℕ) → ℕ → Type 0
TakesReading None new now = Unit {0}
TakesReading (Some readings) None now = ⊥
TakesReading (Some readings) (Some later) now = (now ≡ next_reading readings) × (later ≡ later_readings readings)

-- these readings were taken, one after the other
abbrev pub TakesAll : Option (List ℕ) → Option (List ℕ) → List ℕ → Type 0
TakesAll old new [] = new ≡ old
TakesAll old new (now ∷ nows) = (mid : Option (List ℕ)) × TakesReading old mid now × TakesAll mid new nows
