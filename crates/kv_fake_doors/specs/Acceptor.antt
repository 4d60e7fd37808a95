-- An acceptor in memory.
use Rattle.std.specs.Prelude.{List}
use Rattle.kv_base.specs.Map.{Bytes}
use Rattle.kv_fakes.specs.Tally.{Tally}

-- what an acceptor in memory is seen as: what each of the clients to come sends, and its calls
pub record AcceptorParts : Type 0 where
  pub to_come : List Bytes
  pub calls : Tally
