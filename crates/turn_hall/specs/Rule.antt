-- The rule of a hall: there is one history, and each pass has seen a beginning of it, in which all entries of its number stand.
use Rattle.std.specs.Prelude.{◌≡◌, ◌≢◌, ℕ, ◌%◌, ◌^◌, ◌≤◌, Bool, true, false, List, [], ◌∷◌, ◌++◌, length, map, ◌⊎◌}
use mathlib.Core.List.{IsPrefix}
use mathlib.Core.Option.{Option, none, some}
use lib.ListN.{get_elem?}
use Rattle.turn_hall.specs.declared.hand.Hand.{Hand}
use Rattle.turn_hall.specs.Hands.{writer_of, pass_of, seeing, one_writer, one_pass, longer_log, entries_of, IsGiven}
use Rattle.token_views.specs.Views.{total}

-- the writing hand, and the first pass, which may hand out all other numbers
abbrev pub all_hands : {E : Type 0} → List (Hand E)
all_hands = writer_of [] ∷ pass_of 0 (2 ^ 32) [] ∷ []

module _ {E : Type 0} (caller : E → ℕ) where
  -- what a pass has seen begins the history, and has all entries of its number. Pass 0 alone hands out numbers, those below low
  pub record IsPassOf (history : List E) (low : ℕ) (t : Hand E) : Type 0 where
    pub begins : IsPrefix t.seen history
    pub own : entries_of caller t.number history ≡ entries_of caller t.number t.seen
    pub given : IsGiven low t.number
    pub free : (t.free ≡ 0) ⊎ ((t.free ≡ low) × (t.number ≡ 0))

  abbrev pub FitsAs : Bool → List E → ℕ → Hand E → Type 0
  FitsAs true history low t = t.seen ≡ history
  FitsAs false history low t = IsPassOf history low t

  abbrev pub AllFit : List E → ℕ → List (Hand E) → Type 0
  AllFit history low [] = Unit {0}
  AllFit history low (t ∷ ts) = FitsAs t.writes history low t × AllFit history low ts

  -- every entry is of a number that was handed out
  abbrev pub AllGiven : ℕ → List E → Type 0
  AllGiven low [] = Unit {0}
  AllGiven low (e ∷ es) = IsGiven low (caller e) × AllGiven low es

  pub record IsHall (words : List ℕ) (views : List (List (Hand E))) : Type 0 where
    pub history : List E
    pub low : ℕ
    pub word : words ≡ length history % 2 ^ 64 ∷ []
    pub one_writes : total (total one_writer) views ≤ 1
    pub once : (n : ℕ) → total (total (one_pass n)) views ≤ 1
    pub fits : (k : ℕ) (v : List (Hand E)) → get_elem? views k ≡ some v → AllFit history low v
    pub known : AllGiven low history

  -- the first pass sees what the writing hand has. That begins with all that it had seen, and has no further entry of its number
  abbrev pub CatchesUp : List (Hand E) → ℕ → List (Hand E) → Type 0
  CatchesUp (p ∷ q ∷ []) found w =
      (w ≡ seeing q.seen p ∷ q ∷ [])
      × IsPrefix p.seen q.seen
      × (entries_of caller p.number q.seen ≡ entries_of caller p.number p.seen)
      × (found ≡ length q.seen % 2 ^ 64)
  CatchesUp v found w = w ≡ v

  -- both begin the longer one, which has no further entries of either number. The numbers differ
  abbrev pub Merges : List (Hand E) → List (Hand E) → Type 0
  Merges (q ∷ p ∷ []) w =
      let log = longer_log p.seen q.seen in
      (w ≡ seeing log p ∷ [])
      × IsPrefix p.seen log
      × IsPrefix q.seen log
      × (entries_of caller p.number log ≡ entries_of caller p.number p.seen)
      × (entries_of caller q.number log ≡ entries_of caller q.number q.seen)
      × (p.number ≢ q.number)
  Merges v w = w ≡ v

-- each hand has the entry
abbrev pub with_entry : {E : Type 0} → E → List (Hand E) → List (Hand E)
with_entry e ts = map (λ t. seeing (t.seen ++ e ∷ []) t) ts

abbrev pub AppendsTurn : {E : Type 0} → Option E → List (Hand E) → ℕ → List (Hand E) → Type 0
AppendsTurn none v found w = Unit {0}
AppendsTurn (some x) v found w = w ≡ with_entry x v
