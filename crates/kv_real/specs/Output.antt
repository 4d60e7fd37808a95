-- What an output over a writer is seen as.
use Rattle.std.specs.Prelude.{ℕ}

-- the writer, and how often a write has failed
pub record Output (W : Type 0) : Type 0 where
  pub writer : W
  pub faults : ℕ
