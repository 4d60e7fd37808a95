-- What the script program promises.
use Rattle.std.specs.Prelude.{Contains, ◌≡◌, ◌≢◌, ◌≤◌, ◌⊎◌, ℕ, zero, suc, Option, Some, None, length, Bool, true, false, List, [], ◌∷◌, ◌++◌, ◌<◌, ◌^◌}
use Rattle.std.specs.Io.KnownBytes.{Appends, Consumes}
use Rattle.kv_base.specs.Map.{Bytes}
use Rattle.kv_outside.specs.Readings.{next_reading, later_readings, TakesAll}
use Rattle.kv_outside.specs.Writing.{AppendsFront}
use Rattle.resp_wire.specs.Grammar.{requests, Whole}
use Rattle.session.specs.Quits.{has_quit, up_to_quit}
use Rattle.session.specs.Input.{IsOff}
use Rattle.session.specs.declared.answer.Answer.{Answer}
use Rattle.session.specs.declared.session.Outcome.{Outcome}
use Rattle.session.specs.declared.session.Outcome.TheVariants as outcome
use Rattle.session.specs.Talk.{answers_text}
use Rattle.session.specs.Session.{AreFirst, EndsAs, IsCaused, Writing, end_line}
use Rattle.kv_conf.specs.CommandLine.{asked_line}
use Rattle.kv_conf.specs.declared.words.Words.{Words}
use Rattle.kv_conf.specs.declared.words.Words.TheVariants as words
use Rattle.kv_base.specs.declared.fault.StoreFault.{StoreFault}
use Rattle.kv_base.specs.declared.fault.StoreFault.TheVariants as fault
use Rattle.kv_outside.specs.Causes.{Rose}
use Rattle.kv_outside.specs.Disk.{Disk, CrashLeaves}
use Rattle.session.specs.Answer.{damage_line}
use Rattle.redis_model.specs.declared.command.Cmds.{Cmds}
use Rattle.redis_model.specs.Machine.{State}
use Rattle.redis_model.specs.Value.{RedisMap}
use Rattle.log_store.specs.Recover.{Recovered}
use Rattle.log_store.specs.Keeping.{KeptState, HoldsKeys, IsKept, StandsFor, log_file, IsRecovered, IsDamagedLog, FailsToOpen, ComesToKeysAt, KeepsKeysOrMore}
use Rattle.kv_server.specs.Dialog.{StoreState, Dialog, OneFailed}
use Rattle.kv_server.specs.Outside.{Outside, Streams, client_of}

abbrev pub names_script : Option Words → Bool
names_script (Some (words.Script folder)) = true
names_script _ = false

-- whether the words ask for `script`, by the grammar of command lines
abbrev pub is_script : List Bytes → Bool
is_script line = names_script (asked_line line)

abbrev pub status : Outcome → ℕ
status outcome.Closed = 0
status outcome.NoMem = 4
status outcome.ReadFault = 5
status outcome.WriteFault = 6
status outcome.Protocol = 7
status outcome.Spent = 8

-- ---- a session

-- A session with a client: the bytes that it took, at most 2^40, the requests in them that it answered, each once and in
-- order, and what it wrote: the answers, and behind them the line of a fault of the wire.
pub record Ran (o : Outcome) (old new : Streams) : Type 0 where
  pub taken : Bytes
  pub served : List (List Bytes)
  pub answers : List Answer
  pub line : Bytes
  pub took : Consumes old.left new.left taken
  pub limit : length taken ≤ 2 ^ 40
  pub ends : EndsAs o taken served line new.left old.ended new.ended
  pub wrote : Writing o old.held new.held (answers_text answers ++ line)

-- These requests have these answers of the machine, at these readings of the clock, from one state of the store to another.
pub record Talked (old new : StoreState) (served : List (List Bytes)) (answers : List Answer) (ahead ahead' : Option (List ℕ)) : Type 0 where
  pub nows : List ℕ
  pub readings : TakesAll ahead ahead' nows
  pub dialog : Dialog old served nows answers new

-- a store that stands for a state, where calls to the files have failed so often
abbrev pub store_of : State → KeptState → ℕ → StoreState
store_of s kept faults = record { state = s; sequence = kept.sequence; faults = faults }

-- From a state that the store stood for, the answers are the machine's, and the store stands for the state at the end.
pub record LeadsOn (old new : KeptState) (faults faults' : ℕ) (s : State) (served : List (List Bytes)) (answers : List Answer) (ahead ahead' : Option (List ℕ)) : Type 0 where
  pub state : State
  pub stands : StandsFor new state
  pub talked : Talked (store_of s old faults) (store_of state new faults') served answers ahead ahead'

-- The log keeps the store, but for one batch maybe, of a request that failed.
pub record KeepsAllBut (Failed : Cmds → Type 0) (disk : Disk) (store : KeptState) : Type 0 where
  pub failed : List Cmds
  pub were : (ds : Cmds) → Contains failed ds → Failed ds
  pub keeps : IsKept disk store failed

-- A session was served over a store, before which calls for these commands had failed.
pub record IsSession (before : List Cmds) (o : Outcome) (kept kept' : KeptState) (old new : Outside) : Type 0 where
  pub ran : Ran o (client_of old) (client_of new)
  pub keeps : KeepsAllBut (λ ds. Contains before ds ⊎ OneFailed ran.served ran.answers ds) new.disk kept'
  pub leads : (s : State) → StandsFor kept s → LeadsOn kept kept' old.files new.files s ran.served ran.answers old.readings new.readings

-- ---- what is written, over an input that is told

-- the first n readings of a clock that tells these; the last one repeats
abbrev pub first_readings : ℕ → List ℕ → List ℕ
first_readings zero told = []
first_readings (suc n) told = next_reading told ∷ first_readings n (later_readings told)

-- these readings are those that a clock tells, where it does
abbrev pub AreTold : Option (List ℕ) → List ℕ → Type 0
AreTold None nows = Unit {0}
AreTold (Some told) nows = nows ≡ first_readings (length nows) told

-- What was written are the answers to these requests, and this line behind them.
pub record OutputOf (old new : StoreState) (ahead held held' : Option (List ℕ)) (asked_line : List (List Bytes)) (answers : List Answer) (line : Bytes) : Type 0 where
  pub nows : List ℕ
  pub told : AreTold ahead nows
  pub dialog : Dialog old asked_line nows answers new
  pub wrote : Appends held held' (answers_text answers ++ line)

-- What was answered, and the line behind the answers, where the sink failed: the first of the requests up to a QUIT, and no
-- line, or all requests before a fault of the wire, and its line.
abbrev pub IsUnderWay : Bytes → List (List Bytes) → Bytes → Type 0
IsUnderWay input served line = ((line ≡ []) × AreFirst served (up_to_quit (requests input).0)) ⊎ IsOff input served line

-- A front of these answers and of the line was written.
pub record FrontOf (old new : StoreState) (ahead held held' : Option (List ℕ)) (input : Bytes) (served : List (List Bytes)) (answers : List Answer) : Type 0 where
  pub line : Bytes
  pub under_way : IsUnderWay input served line
  pub nows : List ℕ
  pub told : AreTold ahead nows
  pub dialog : Dialog old served nows answers new
  pub wrote : AppendsFront held held' (answers_text answers ++ line)

-- the input holds a QUIT, or ends between requests
abbrev pub IsComplete : Bytes → Type 0
IsComplete input = (has_quit (requests input).0 ≡ true) ⊎ ((requests input).1 ≡ Whole)

-- Without a QUIT before, the input is off the grammar, or ends inside a request.
abbrev pub EndsBadly : Bytes → Type 0
EndsBadly input = (has_quit (requests input).0 ≡ false) × ((requests input).1 ≢ Whole)

-- The input was answered to its end, or up to a QUIT and no further. Nothing but the answers was written.
abbrev pub IsAnswered : StoreState → StoreState → Option (List ℕ) → Option (List ℕ) → Option (List ℕ) → Option (List ℕ) → Type 0
IsAnswered old new None ahead held held' = Unit {0}
IsAnswered old new (Some input) ahead held held' = (answers : List Answer) × OutputOf old new ahead held held' (up_to_quit (requests input).0) answers [] × IsComplete input

-- All requests before a fault of the wire were answered, and behind the answers a line tells its kind and its place. An end
-- inside a request is told so too.
abbrev pub IsRejected : StoreState → StoreState → List (List Bytes) → List Answer → Option (List ℕ) → Option (List ℕ) → Option (List ℕ) → Option (List ℕ) → Type 0
IsRejected old new served answers None ahead held held' = Unit {0}
IsRejected old new served answers (Some input) ahead held held' =
    (served ≡ (requests input).0) × OutputOf old new ahead held held' served answers (end_line (length input) (requests input).1) × EndsBadly input

-- The sink has a front of the answers to the input, and of the line behind them.
abbrev pub HasFront : StoreState → StoreState → List (List Bytes) → List Answer → Option (List ℕ) → Option (List ℕ) → Option (List ℕ) → Option (List ℕ) → Type 0
HasFront old new served answers None ahead held held' = Unit {0}
HasFront old new served answers (Some input) ahead held held' = FrontOf old new ahead held held' input served answers

-- The input is told, holds a QUIT or ends between requests, and has fewer bytes than are taken from one source.
abbrev pub IsWhole : Option (List ℕ) → Type 0
IsWhole None = ⊥
IsWhole (Some input) = IsComplete input × (length input < 2 ^ 40)

-- ---- a run of the program

abbrev pub opening_status : StoreFault → ℕ
opening_status fault.Failed = 2
opening_status (fault.Damaged file place) = 3
opening_status fault.NoMem = 4

-- where the log could not be closed
abbrev pub unclosed_status : Outcome → ℕ
unclosed_status outcome.Closed = 2
unclosed_status o = status o

-- the status is that of the session, or 2 where the session was good and the log could not be closed
abbrev pub EndsWith : Outcome → ℕ → ℕ → ℕ → Type 0
EndsWith o n before now = (n ≡ status o) ⊎ ((n ≡ unclosed_status o) × Rose before now)

-- the line was written, or a front of it, and then the sink failed
abbrev pub IsWritten : Bytes → Option (List ℕ) → Option (List ℕ) → ℕ → ℕ → Type 0
IsWritten line held held' before now = Appends held held' line ⊎ (AppendsFront held held' line × Rose before now)

-- damage is told in a line, and nothing is written for another fault
abbrev pub TellsFault : StoreFault → Option (List ℕ) → Option (List ℕ) → ℕ → ℕ → Type 0
TellsFault (fault.Damaged file place) held held' before now = IsWritten (damage_line file place) held held' before now
TellsFault _ held held' before now = held' ≡ held

-- The store was not opened, and no input was taken.
pub record IsRefused (n : ℕ) (old new : Outside) : Type 0 where
  pub fault : StoreFault
  pub status : n ≡ opening_status fault
  pub cause : FailsToOpen old.disk old.files new.files fault
  pub wrote : TellsFault fault old.held new.held old.sink new.sink
  pub untaken : new.left ≡ old.left

-- the store that a log was opened as, whose rows hold these keys, where calls to the files have failed so often
abbrev pub store_from : Recovered → RedisMap → ℕ → StoreState
store_from r keys faults = record { state = record { keys = keys; floor = r.floor; pins = [] }; sequence = r.sequence; faults = faults }

-- The log that this disk had was opened, and where its rows hold keys, this holds of the store that begins with them.
pub record Opened (disk : Disk) (files : ℕ) (Holds : StoreState → Type 0) : Type 0 where
  pub start : Recovered
  pub begins : IsRecovered disk start
  pub faults : ℕ
  pub since : files ≤ faults
  pub holds : (keys : RedisMap) → HoldsKeys start keys → Holds (store_from start keys faults)

-- each image of the log that a crash may leave now comes to the keys of this store, and to the sequence of its last batch
abbrev pub LeavesKeys : Disk → StoreState → Type 0
LeavesKeys disk s = CrashLeaves disk log_file (ComesToKeysAt s.sequence s.state.floor s.state.keys)

-- It comes to them, or to the keys after one batch more: that of a request that failed.
pub record LeavesKeysOrOneMore (Failed : Cmds → Type 0) (disk : Disk) (s : StoreState) : Type 0 where
  pub failed : List Cmds
  pub were : (ds : Cmds) → Contains failed ds → Failed ds
  pub leaves : LeavesKeys disk s ⊎ KeepsKeysOrMore disk s.sequence s.state failed

-- that of a request among these which was answered with a fault
abbrev pub LeavesKeysOrMore : Disk → StoreState → List (List Bytes) → List Answer → Type 0
LeavesKeysOrMore disk s served answers = LeavesKeysOrOneMore (OneFailed served answers) disk s

-- From the store that was opened, the answers are the machine's. With status 0 the log comes to the keys and to the
-- sequence at the end, at any crash from then on; with another one it may come to the keys after one batch more.
pub record Went (n : ℕ) (new : Outside) (served : List (List Bytes)) (answers : List Answer) (ahead : Option (List ℕ)) (first : StoreState) : Type 0 where
  pub last : StoreState
  pub until : last.faults ≤ new.files
  pub talked : Talked first last served answers ahead new.readings
  pub kept : n ≡ 0 → LeavesKeys new.disk last
  pub kept_or_more : LeavesKeysOrMore new.disk last served answers

-- A session was served.
pub record IsServed (n : ℕ) (old new : Outside) : Type 0 where
  pub outcome : Outcome
  pub ran : Ran outcome (client_of old) (client_of new)
  pub caused : IsCaused outcome old.source new.source old.sink new.sink
  pub ends : EndsWith outcome n old.files new.files
  pub opened : Opened old.disk old.files (Went n new ran.served ran.answers old.readings)

abbrev pub IsRun : ℕ → Outside → Outside → Type 0
IsRun n old new = IsRefused n old new ⊎ IsServed n old new

-- what a good run says: the answers to the whole input, each fault with its cause, from the keys that the log came to, to
-- those that it comes to
pub record IsGood (disk' : Disk) (files' : ℕ) (left ahead held held' : Option (List ℕ)) (first : StoreState) : Type 0 where
  pub last : StoreState
  pub until : last.faults ≤ files'
  pub answered : IsAnswered first last left ahead held held'
  pub kept : LeavesKeys disk' last

-- What a run says whose input is off the grammar, or ends inside a request: the answers to all requests before, and the
-- line. The log comes to the keys at the end, or to those after one batch more.
pub record IsFaultTold (disk' : Disk) (files' : ℕ) (left ahead held held' : Option (List ℕ)) (first : StoreState) : Type 0 where
  pub last : StoreState
  pub until : last.faults ≤ files'
  pub served : List (List Bytes)
  pub answers : List Answer
  pub rejected : IsRejected first last served answers left ahead held held'
  pub kept_or_more : LeavesKeysOrMore disk' last served answers

-- What a run says whose sink failed: a front of the answers, and of the line behind them.
pub record IsFront (disk' : Disk) (files' : ℕ) (left ahead held held' : Option (List ℕ)) (first : StoreState) : Type 0 where
  pub last : StoreState
  pub until : last.faults ≤ files'
  pub served : List (List Bytes)
  pub answers : List Answer
  pub front : HasFront first last served answers left ahead held held'
  pub kept_or_more : LeavesKeysOrMore disk' last served answers

-- the log is damaged, which was told
pub record IsDamageTold (disk : Disk) (held held' : Option (List ℕ)) (sink sink' : ℕ) : Type 0 where
  pub place : ℕ
  pub damaged : IsDamagedLog disk log_file place
  pub line : IsWritten (damage_line log_file place) held held' sink sink'
