-- What the desk of a store that is kept by a log stands for.
use Rattle.std.specs.Prelude.{◌≡◌, ◌≤◌, ◌+◌, ℕ, false, List, Option, None, IfSome}
use Rattle.kv_outside.specs.Disk.{Disk}
use Rattle.redis_model.specs.declared.desk.DeskFault.{DeskFault}
use Rattle.redis_model.specs.declared.history.Place.{Place}
use Rattle.redis_model.specs.Asks.{Ask, commands_of}
use Rattle.redis_model.specs.Desk.{last_sequence}
use Rattle.redis_model.specs.DeskState.{DeskState}
use Rattle.redis_model.specs.Machine.{State}
use Rattle.redis_model.specs.Places.{Opening, state_at, sequences, GoUp}
use Rattle.log_store.specs.Keeping.{KeptState, IsKept, StandsFor}
use Rattle.log_store.specs.Playing.{IsSized}
use Rattle.kv_server.specs.Alone.{IsAlone, batches_in}

-- What a desk works on, the store, the disk with the count of its faults, and the clock with the readings that are ahead, and
-- of its last calls: the reading, the fault, the sequence of the last batch that was met, and the length of the body that
-- was planned.
pub record DeskParts : Type 1 where
  pub kept : KeptState
  pub disk : Disk
  pub faults : ℕ
  pub readings : Option (List ℕ)
  pub last : Option ℕ
  pub fault : Option DeskFault
  pub sequence : ℕ
  pub body : ℕ

abbrev pub parts : KeptState → Disk → ℕ → Option (List ℕ) → Option ℕ → Option DeskFault → ℕ → ℕ → DeskParts
parts kept disk faults readings last fault sequence body =
    record { kept = kept; disk = disk; faults = faults; readings = readings; last = last; fault = fault; sequence = sequence; body = body }

-- A history of its one caller leads to the state that the store stands for. The store has appended a batch for each call that
-- touches a key, and each is noted with its sequence.
pub record StoreStands (kept : KeptState) (opening : Opening) (seen : List Place) : Type 0 where
  pub alone : IsAlone opening.state seen
  pub store : StandsFor kept (state_at opening.state seen)
  pub batches : kept.sequence ≡ opening.last + batches_in opening.state seen
  pub noted : GoUp opening.last (sequences seen) kept.sequence
  pub limit : kept.sequence ≤ last_sequence

-- What the last call met and planned, where it failed: the sequence of the last batch, and a body for these commands on the
-- rows that are kept.
abbrev pub Planned : KeptState → ℕ → ℕ → ℕ → Ask → Type 0
Planned kept sequence body now ask =
    (sequence ≡ kept.sequence) × ((s : State) → StandsFor kept s → IfSome (commands_of ask) (λ ds. IsSized kept now s ds body))

abbrev pub told_of : DeskParts → DeskState
told_of d = record {
  stands = StoreStands d.kept;
  kept = IsKept d.disk d.kept;
  number = 0;
  pinned = false;
  readings = d.readings;
  last = d.last;
  faults = d.faults;
  fault = d.fault;
  off = λ file place. ⊥;
  sequence = d.sequence;
  body = d.body;
  planned = Planned d.kept d.sequence d.body;
  met = None;
}
