-- What the loop over the clients of a server keeps.
use Rattle.std.specs.Prelude.{◌≡◌, ◌≤◌, ℕ, List, Option, Result, OnOk, OnErr}
use Rattle.kv_base.specs.Map.{Bytes}
use Rattle.kv_outside.specs.Causes.{Rose}
use Rattle.kv_doors.specs.Accepting.{NoneCame}
use Rattle.redis_model.specs.Machine.{State}
use Rattle.log_store.specs.Keeping.{KeptState, StandsFor}
use Rattle.kv_server.specs.Script.{KeepsAllBut, store_of}
use Rattle.kv_server.specs.Connections.{Connection, ServerOutside, AreAccepted, AreServed, OneFailedAmong}

-- from a state that the store stood for, clients were served, and it stands for the state at the end
pub record LedOn (kept kept' : KeptState) (faults faults' : ℕ) (s : State) (clients : List Connection) (ahead left : Option (List ℕ)) : Type 0 where
  pub state : State
  pub stands : StandsFor kept' state
  pub served : AreServed (store_of s kept faults) clients (store_of state kept' faults') ahead left

-- Some clients were served, and these links are to come.
pub record Attending (kept kept' : KeptState) (old new : ServerOutside) (links : Option (List Bytes)) : Type 0 where
  pub clients : List Connection
  pub accepted : AreAccepted old.links clients links
  pub keeps : KeepsAllBut (OneFailedAmong clients) new.disk kept'
  pub leads : (s : State) → StandsFor kept s → LedOn kept kept' old.files new.files s clients old.readings new.readings
  pub later : old.files ≤ new.files

-- Clients were served until accepting ended, or failed.
pub record AttendsFrom {E : Type 0} (kept kept' : KeptState) (old new : ServerOutside) (result : Result (Unit {0}) E) : Type 0 where
  pub links : Option (List Bytes)
  pub served : Attending kept kept' old new links
  pub ended : OnOk result (NoneCame links new.links)
  pub failed : OnErr result ((new.links ≡ links) × Rose old.door new.door)
