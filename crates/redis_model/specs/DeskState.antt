-- What is told of a desk.
use Rattle.std.specs.Prelude.{ℕ, Bool, List, Option}
use Rattle.kv_base.specs.declared.name.FileName.{FileName}
use Rattle.redis_model.specs.declared.command.Cmds.{Cmds}
use Rattle.redis_model.specs.declared.desk.DeskFault.{DeskFault}
use Rattle.redis_model.specs.declared.history.JobKind.{JobKind}
use Rattle.redis_model.specs.declared.history.Place.{Place}
use Rattle.redis_model.specs.Asks.{Ask}
use Rattle.redis_model.specs.Places.{Opening}

pub record DeskState : Type 1 where
  -- the openings and the histories that it stands for, as far as its caller has seen them
  pub stands : Opening → List Place → Type 0
  -- That what it stands for is kept, whatever a crash leaves. Calls failed that asked for these commands: a crash may leave
  -- what carries one of them out, too.
  pub kept : List Cmds → Type 0
  -- the caller's number in these histories, and whether it has a pin
  pub number : ℕ
  pub pinned : Bool
  -- the readings of the clock that are ahead, where they are told, and the one that was answered last
  pub readings : Option (List ℕ)
  pub last : Option ℕ
  -- how often a call to the outside has failed
  pub faults : ℕ
  -- of the last call: its fault, if it had one
  pub fault : Option DeskFault
  -- the places that are off their grammar, the last sequence that it met, and the length in bytes of the body that it
  -- planned to write, 0 where there was nothing to write
  pub off : FileName → ℕ → Type 0
  pub sequence : ℕ
  pub body : ℕ
  -- what the desk says of such a body, where the call failed: that it was planned for what was asked, at this reading
  pub planned : ℕ → Ask → Type 0
  -- the kind of job that was asked for, where another of that kind was open
  pub met : Option JobKind
