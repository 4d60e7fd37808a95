-- What inputs are seen as.
use Rattle.std.specs.Prelude.{ℕ, Bool}

-- an input over a reader: the reader, whether its end was answered, and how often a read has failed
pub record Input (R : Type 0) : Type 0 where
  pub reader : R
  pub ended : Bool
  pub faults : ℕ

-- a file as an input
pub record FileInput : Type 0 where
  pub ended : Bool
  pub faults : ℕ
