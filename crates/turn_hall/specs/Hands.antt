-- The hands of a hall: passes, and the one hand that writes the history.
use Rattle.std.specs.Prelude.{◌≡◌, ℕ, ◌-◌, ◌≤◌, ◌==◌, true, false, not, ◌&&◌, nat_lt, if◌then◌else◌, List, [], ◌∷◌, length, ◌⊎◌}
use Rattle.token_views.specs.Views.{other_tokens}
use Rattle.turn_hall.specs.declared.hand.Hand.{Hand}

module _ {E : Type 0} where
  -- the hand that writes this history
  abbrev pub writer_of : List E → Hand E
  writer_of history = record { writes = true; number = 0; free = 0; seen = history }

  abbrev pub pass_of : ℕ → ℕ → List E → Hand E
  pass_of number free seen = record { writes = false; number = number; free = free; seen = seen }

  abbrev pub seeing : List E → Hand E → Hand E
  seeing log t = record { writes = t.writes; number = t.number; free = t.free; seen = log }

  -- 1 for a hand that writes
  abbrev pub one_writer : Hand E → ℕ
  one_writer t = if t.writes then 1 else 0

  -- 1 for a pass of this number
  abbrev pub one_pass : ℕ → Hand E → ℕ
  one_pass n t = if not t.writes && (t.number == n) then 1 else 0

  -- the first pass may hand out one number less
  abbrev pub with_less : List (Hand E) → List (Hand E)
  with_less [] = []
  with_less (t ∷ ts) = record { writes = t.writes; number = t.number; free = t.free - 1; seen = t.seen } ∷ ts

  -- a pass with the last number that the first one may hand out, which has seen as much and may hand out none
  abbrev pub handed_out : List (Hand E) → List (Hand E)
  handed_out [] = []
  handed_out (t ∷ ts) = pass_of (t.free - 1) 0 t.seen ∷ []

  abbrev pub longer_log : List E → List E → List E
  longer_log xs ys = if nat_lt (length xs) (length ys) then ys else xs

  -- of the first hand: its number, the numbers that it may hand out, and what it has seen
  abbrev pub number_in : List (Hand E) → ℕ
  number_in [] = 0
  number_in (t ∷ ts) = t.number

  abbrev pub free_in : List (Hand E) → ℕ
  free_in [] = 0
  free_in (t ∷ ts) = t.free

  abbrev pub seen_in : List (Hand E) → List E
  seen_in [] = []
  seen_in (t ∷ ts) = t.seen

  -- what the second hand has seen
  abbrev pub log_in : List (Hand E) → List E
  log_in v = seen_in (other_tokens v)

  -- a pass and the writing hand
  abbrev pub IsBoth : List (Hand E) → Type 0
  IsBoth v = v ≡ pass_of (number_in v) (free_in v) (seen_in v) ∷ writer_of (log_in v) ∷ []

  -- two passes
  abbrev pub IsTwo : List (Hand E) → Type 0
  IsTwo v = v ≡ pass_of (number_in v) (free_in v) (seen_in v) ∷ pass_of (number_in (other_tokens v)) (free_in (other_tokens v)) (log_in v) ∷ []

  -- the entries of one caller
  module _ (caller : E → ℕ) where
    abbrev pub entries_of : ℕ → List E → List E
    entries_of n [] = []
    entries_of n (e ∷ es) = if caller e == n then e ∷ entries_of n es else entries_of n es

-- a number that was handed out: the first one, or one from low on
abbrev pub IsGiven : ℕ → ℕ → Type 0
IsGiven low n = (n ≡ 0) ⊎ (low ≤ n)
