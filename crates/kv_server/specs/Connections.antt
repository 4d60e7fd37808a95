-- What clients are told that are served one after the other, over one store.
use Rattle.std.specs.Prelude.{◌≡◌, ◌≤◌, ◌⊎◌, ℕ, List, [], ◌∷◌, Option}
use Rattle.kv_base.specs.Map.{Bytes}
use Rattle.kv_base.specs.declared.fault.StoreFault.{StoreFault}
use Rattle.kv_outside.specs.Causes.{Rose}
use Rattle.kv_outside.specs.Disk.{Disk}
use Rattle.kv_doors.specs.Accepting.{NoneCame, OneCame}
use Rattle.redis_model.specs.declared.command.Cmds.{Cmds}
use Rattle.session.specs.declared.session.Outcome.{Outcome}
use Rattle.session.specs.Session.{IsCaused}
use Rattle.log_store.specs.Keeping.{FailsToOpen}
use Rattle.kv_server.specs.Dialog.{StoreState, OneFailed}
use Rattle.kv_server.specs.Outside.{Streams}
use Rattle.kv_server.specs.Script.{Ran, Talked, Opened, LeavesKeys, LeavesKeysOrOneMore, opening_status}

-- ---- the outside of a server

pub record ServerOutside : Type 1 where
  -- the disk, and how often a call to the files has failed
  pub disk : Disk
  pub files : ℕ
  -- the readings of the clock that are ahead, where they are told
  pub readings : Option (List ℕ)
  -- the links to come, each as the bytes that its client sends, where they are told, and how often accepting has failed
  pub links : Option (List Bytes)
  pub door : ℕ

abbrev pub server_outside : Disk → ℕ → Option (List ℕ) → Option (List Bytes) → ℕ → ServerOutside
server_outside disk files readings links door = record { disk = disk; files = files; readings = readings; links = links; door = door }

-- ---- the clients

-- One client: what is told of its input and its output before its session and after it, how the session ended, and what it
-- took, answered and wrote.
pub record Connection : Type 0 where
  pub before : Streams
  pub after : Streams
  pub outcome : Outcome
  pub ran : Ran outcome before after
  pub caused : IsCaused outcome before.source after.source before.sink after.sink

-- they came in by the links that were to come, in this order
abbrev pub AreAccepted : Option (List Bytes) → List Connection → Option (List Bytes) → Type 0
AreAccepted links [] left = left ≡ links
AreAccepted links (c ∷ cs) left = (later : Option (List Bytes)) × OneCame links later c.before.left × AreAccepted later cs left

-- Each client's requests have the machine's answers, at the readings of the clock, from the keys that the clients before it left.
abbrev pub AreServed : StoreState → List Connection → StoreState → Option (List ℕ) → Option (List ℕ) → Type 0
AreServed first [] last ahead left = (last ≡ first) × (left ≡ ahead)
AreServed first (c ∷ cs) last ahead left = (mid : StoreState) × (later : Option (List ℕ)) × Talked first mid c.ran.served c.ran.answers ahead later × AreServed mid cs last later left

-- one of their requests asked for this command, and was answered with a fault
abbrev pub OneFailedAmong : List Connection → Cmds → Type 0
OneFailedAmong [] ds = ⊥
OneFailedAmong (c ∷ cs) ds = OneFailed c.ran.served c.ran.answers ds ⊎ OneFailedAmong cs ds

-- ---- a run of the server

-- The store was not opened, and no link was accepted.
pub record IsUnopened (n : ℕ) (old new : ServerOutside) : Type 0 where
  pub fault : StoreFault
  pub status : n ≡ opening_status fault
  pub cause : FailsToOpen old.disk old.files new.files fault
  pub links : new.links ≡ old.links
  pub door : new.door ≡ old.door

-- From the store that was opened the clients were served. With status 0 the log comes to the keys at the end, at any crash
-- from then on; with another one it may come to the keys after one batch more, of a request that was answered with a fault.
pub record Attended (n : ℕ) (new : ServerOutside) (clients : List Connection) (ahead : Option (List ℕ)) (first : StoreState) : Type 0 where
  pub last : StoreState
  pub until : last.faults ≤ new.files
  pub served : AreServed first clients last ahead new.readings
  pub kept : n ≡ 0 → LeavesKeys new.disk last
  pub kept_or_more : LeavesKeysOrOneMore (OneFailedAmong clients) new.disk last

-- How serving ended: accepting failed, with status 9; or no link was left, and the status is 0, or 2 where the log could not be
-- closed.
abbrev pub EndsServing : ℕ → Option (List Bytes) → ServerOutside → ServerOutside → Type 0
EndsServing n links old new =
    ((n ≡ 9) × (new.links ≡ links) × Rose old.door new.door)
    ⊎ (NoneCame links new.links × ((n ≡ 0) ⊎ ((n ≡ 2) × Rose old.files new.files)))

-- The store was opened, and each client that came in was served to its end.
pub record IsAttended (n : ℕ) (old new : ServerOutside) : Type 0 where
  pub clients : List Connection
  pub links : Option (List Bytes)
  pub accepted : AreAccepted old.links clients links
  pub ends : EndsServing n links old new
  pub opened : Opened old.disk old.files (Attended n new clients old.readings)

abbrev pub IsServing : ℕ → ServerOutside → ServerOutside → Type 0
IsServing n old new = IsUnopened n old new ⊎ IsAttended n old new
