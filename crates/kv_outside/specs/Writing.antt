-- What a write of a text to a sink does.
use Rattle.std.specs.Prelude.{◌≡◌, ℕ, ◌+◌, ◌≤◌, List, ◌++◌, Option, Result, OnOk, OnErr}
use Rattle.std.specs.Io.KnownBytes.{Appends}
use Rattle.kv_outside.specs.Causes.{Rose}

-- what the sink holds grew by a front of the text
abbrev pub AppendsFront : Option (List ℕ) → Option (List ℕ) → List ℕ → Type 0
AppendsFront old new text = (front : List ℕ) × (behind : List ℕ) × (text ≡ front ++ behind) × Appends old new front

-- The sink took the text, or a front of it and then failed.
pub record Writes {T E : Type 0} (old new : Option (List ℕ)) (before now : ℕ) (text : List ℕ) (result : Result T E) : Type 0 where
  pub all : OnOk result (Appends old new text)
  pub front : OnErr result (AppendsFront old new text)
  pub later : before ≤ now
  pub failed : OnErr result (Rose before now)
