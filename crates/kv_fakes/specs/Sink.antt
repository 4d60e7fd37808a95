-- A sink in memory.
use Rattle.std.specs.Prelude.{ℕ, List}
use Rattle.kv_fakes.specs.Tally.{Tally}

-- what a sink in memory is seen as: the bytes that it has taken, and its calls
pub record SinkParts : Type 0 where
  pub bytes : List ℕ
  pub calls : Tally
