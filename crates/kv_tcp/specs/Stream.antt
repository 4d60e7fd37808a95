-- What the input of a connection is seen as.
use Rattle.std.specs.Prelude.{ℕ, Bool}

-- whether its end was answered, and how often a read has failed
pub record TcpInput : Type 0 where
  pub ended : Bool
  pub faults : ℕ
