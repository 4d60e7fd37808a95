-- What a store keeps: rows in memory, and on the disk a log from which they can be made again.
use Rattle.std.specs.Prelude.{Contains, ◌≡◌, ◌⊎◌, ◌≤◌, ◌+◌, ℕ, Bool, true, false, List, [], ◌∷◌, ◌++◌, Some, Ok, Err}
use Rattle.kv_base.specs.Map.{Bytes}
use Rattle.kv_base.specs.declared.name.FileName.{FileName}
use Rattle.kv_base.specs.declared.name.FileName.TheVariants.{Segment}
use Rattle.kv_base.specs.declared.fault.StoreFault.{StoreFault}
use Rattle.kv_base.specs.declared.fault.StoreFault.TheVariants as fault
use Rattle.kv_outside.specs.Causes.{Rose}
use Rattle.kv_outside.specs.Disk.{Disk, CrashLeaves}
use Rattle.gated_log.specs.States.{LogState, Rests, Wavers}
use Rattle.batch_codec.specs.Batches.{Batch}
use Rattle.batch_codec.specs.declared.record.Record.{Record}
use Rattle.wal_log.specs.Segments.{records_of}
use Rattle.redis_model.specs.declared.command.Cmds.{Cmds}
use Rattle.redis_model.specs.Machine.{State, fold}
use Rattle.redis_model.specs.Value.{RedisMap, alive}
use Rattle.lives_model.specs.Rows.{Rows}
use Rattle.lives_model.specs.Means.{Means}
use Rattle.log_store.specs.Issuing.{AreIssuedUpTo}
use Rattle.log_store.specs.Planned.{IsBatchOf}
use Rattle.log_store.specs.Recover.{Recovered, before_all, nothing, recovered_by, recovered, with_batch, with_record, with_records}

-- the log's only segment
abbrev pub log_file : FileName
log_file = Segment 1

-- ---- a store and its log

-- What contracts see of a store.
pub record KeptState : Type 0 where
  -- each raw key with its newest value
  pub rows : Rows
  -- the greatest reading of the clock so far, in milliseconds
  pub floor : ℕ
  -- the moment of the last batch, 0 before the first
  pub written : ℕ
  pub log : LogState
  -- the sequence of the last batch
  pub sequence : ℕ
  -- how many bytes the body has that the last call planned to write, 0 where there was nothing to write
  pub planned : ℕ

-- what the log of a store comes to: the rows, and the moment and the sequence of the last batch
abbrev pub state_of : KeptState → Recovered
state_of store = record { rows = store.rows; floor = store.written; sequence = store.sequence }

-- These rows hold these keys: they mean them at the moment of the last batch, and are issued up to its sequence.
pub record HoldsKeys (r : Recovered) (keys : RedisMap) : Type 0 where
  pub means : Means r.rows r.floor keys
  pub issued : AreIssuedUpTo r.rows r.sequence

-- The store stands for this state of the machine: its rows hold a map, the keys are what of it is alive at the floor, and
-- nobody has a pin.
pub record StandsFor (store : KeptState) (s : State) : Type 0 where
  pub at_last_batch : RedisMap
  pub holds : HoldsKeys (state_of store) at_last_batch
  pub past : store.written ≤ store.floor
  pub keys : s.keys ≡ alive at_last_batch store.floor
  pub floor : s.floor ≡ store.floor
  pub free : s.pins ≡ []

-- One more body stands behind these, whose append failed: that of the next record, which is not earlier than they are,
-- and whose batch carries these commands out on their rows.
pub record IsAttempt (bodies : List Bytes) (tried : Bytes) (before : Recovered) (r : Record) (commands : Cmds) : Type 0 where
  pub sequence : r.seq ≡ before.sequence + 1
  pub later : before.floor ≤ r.moment
  pub of : IsBatchOf before.rows r.moment before.sequence commands r.batch
  pub made : recovered_by (records_of before_all (bodies ++ tried ∷ [])) ≡ Ok (with_record before r)

-- The commands are among those whose calls failed.
pub record Attempted (disk : Disk) (log : LogState) (bodies : List Bytes) (state : Recovered) (failed : List Cmds) : Type 0 where
  pub tried : Bytes
  pub record_tried : Record
  pub commands : Cmds
  pub among : Contains failed commands
  pub wavers : Wavers disk log bodies tried
  pub attempt : IsAttempt bodies tried state record_tried commands

-- The log has these bodies, and where it is unsure maybe one more.
abbrev pub HoldsBodies : Bool → Disk → LogState → List Bytes → Recovered → List Cmds → Type 0
HoldsBodies true disk log bodies state failed = Attempted disk log bodies state failed
HoldsBodies false disk log bodies state failed = Rests disk log bodies

-- The log has records that come to the rows in memory and to the moment of the last batch, and maybe one more, for commands
-- among these, whose calls failed. The floor in memory may have risen since, by calls that wrote nothing.
pub record IsKept (disk : Disk) (store : KeptState) (failed : List Cmds) : Type 0 where
  pub bodies : List Bytes
  pub records : List Record
  pub name : store.log.name ≡ log_file
  pub read : records_of before_all bodies ≡ Ok records
  pub made : with_records nothing records ≡ state_of store
  pub holds : HoldsBodies store.log.unsure disk store.log bodies (state_of store) failed

-- ---- what the disk comes to

-- these bytes of the log come to this
abbrev pub ComesTo : Recovered → Bytes → Type 0
ComesTo state bytes = recovered bytes ≡ Ok state

-- to this, or to this after a batch of this moment
abbrev pub ComesToEither : Recovered → Batch → ℕ → Bytes → Type 0
ComesToEither state batch moment bytes = ComesTo state bytes ⊎ ComesTo (with_batch state batch moment) bytes

-- They come to rows that hold a map. These keys are what of it is alive at this moment, which is not before that of the
-- last batch.
pub record ComesToKeys (moment : ℕ) (keys : RedisMap) (bytes : Bytes) : Type 0 where
  pub state : Recovered
  pub is : ComesTo state bytes
  pub at_last_batch : RedisMap
  pub holds : HoldsKeys state at_last_batch
  pub past : state.floor ≤ moment
  pub keys_are : keys ≡ alive at_last_batch moment

-- each image of the log that a crash may leave now comes to the rows of the store, and to its last batch
abbrev pub Keeps : Disk → KeptState → Type 0
Keeps disk store = CrashLeaves disk log_file (ComesTo (state_of store))

-- It comes to these rows, or to them after one batch more. That carries commands out on them whose call failed, at a moment
-- that is not before that of their last batch.
pub record KeepsOrMore (disk : Disk) (store : KeptState) (failed : List Cmds) : Type 0 where
  pub commands : Cmds
  pub among : Contains failed commands
  pub batch : Batch
  pub moment : ℕ
  pub later : store.written ≤ moment
  pub of : IsBatchOf store.rows moment store.sequence commands batch
  pub leaves : CrashLeaves disk log_file (ComesToEither (state_of store) batch moment)

-- They come to keys, and the last record has this sequence.
pub record ComesToKeysAt (last moment : ℕ) (keys : RedisMap) (bytes : Bytes) : Type 0 where
  pub comes : ComesToKeys moment keys bytes
  pub sequence : comes.state.sequence ≡ last

-- The log comes to the keys of this state, with this sequence, or to those after one record more: after commands whose call
-- failed, at its moment. At the last batch the store held a map, of which what is alive counts then and now.
pub record KeepsKeysOrMore (disk : Disk) (sequence : ℕ) (s : State) (failed : List Cmds) : Type 0 where
  pub at_last_batch : RedisMap
  pub keys : s.keys ≡ alive at_last_batch s.floor
  pub commands : Cmds
  pub among : Contains failed commands
  pub moment : ℕ
  pub leaves : CrashLeaves disk log_file (λ c. ComesToKeysAt sequence s.floor s.keys c ⊎ ComesToKeysAt (sequence + 1) moment (fold (alive at_last_batch moment) moment commands).1 c)

-- ---- an opening

-- the bytes of the log were read, those that the disk tells, and came to this
pub record IsRecovered (disk : Disk) (state : Recovered) : Type 0 where
  pub bytes : Bytes
  pub told : (own : Bytes) → disk.reads log_file ≡ Some own → bytes ≡ own
  pub is : ComesTo state bytes

-- The files were read, and what is kept is what the log came to; no call has failed. The floor is the moment of the last
-- batch.
pub record IsOpened (old new : Disk) (store : KeptState) : Type 0 where
  pub start : IsRecovered old (state_of store)
  pub floor : store.floor ≡ store.written
  pub keeps : IsKept new store []

-- the log is damaged, at this place of the file
pub record IsDamagedLog (old : Disk) (file : FileName) (place : ℕ) : Type 0 where
  pub bytes : Bytes
  pub told : (own : Bytes) → old.reads log_file ≡ Some own → bytes ≡ own
  pub is : recovered bytes ≡ Err place
  pub named : file ≡ log_file

-- why an opening failed
abbrev pub FailsToOpen : Disk → ℕ → ℕ → StoreFault → Type 0
FailsToOpen old before now fault.Failed = Rose before now
FailsToOpen old before now (fault.Damaged file place) = IsDamagedLog old file place
FailsToOpen old before now fault.NoMem = Unit {0}
