-- What a desk answers to what it is asked, and what its caller sees of the history.
use Rattle.std.specs.Prelude.{◌≡◌, ◌≢◌, ◌≤◌, ◌<◌, ◌-◌, ◌^◌, ◌⊎◌, ℕ, Bool, true, false, if◌then◌else◌, is_ok, is_some, IsSome, IsFalse, OnErr, List, [], ◌∷◌, ◌++◌, Option, Some, None, Result, Ok, Err}
use Rattle.std.specs.Option.{option_map_or}
use Rattle.kv_outside.specs.Causes.{Rose}
use Rattle.kv_outside.specs.Readings as readings
use Rattle.redis_model.specs.declared.command.Cmds.{Cmds}
use Rattle.redis_model.specs.declared.reply.Reply.{Reply}
use Rattle.redis_model.specs.declared.history.Step.{Step}
use Rattle.redis_model.specs.declared.history.Step.TheVariants.{Tick, Job}
use Rattle.redis_model.specs.declared.history.Place.{Place}
use Rattle.redis_model.specs.declared.history.JobMark.TheVariants.{Begun, Done, Dropped}
use Rattle.redis_model.specs.declared.desk.DeskFault.{DeskFault}
use Rattle.redis_model.specs.declared.desk.DeskFault.TheVariants as fault
use Rattle.redis_model.specs.About.{writes}
use Rattle.redis_model.specs.Asks.{Ask, Call, commands_of, entry_of, may_write, pinned_by}
use Rattle.redis_model.specs.DeskState.{DeskState}
use Rattle.redis_model.specs.Machine.{State, pin_of, step}
use Rattle.redis_model.specs.Legal.{IsLegal, calls_of, jobs_of}
use Rattle.redis_model.specs.Places.{Opening, steps_of, state_at}

-- ---- what a caller has seen

-- the own entries of a caller, but its jobs
abbrev pub mine : ℕ → List Place → List Step
mine caller places = calls_of caller (steps_of places)

abbrev pub has_pin : State → ℕ → Bool
has_pin s caller = is_some (pin_of s caller)

-- what holds of the places that a caller has seen
pub record IsSeen (caller : ℕ) (pinned : Bool) (first : State) (seen : List Place) : Type 0 where
  pub legal : IsLegal first (steps_of seen)
  pub pin : has_pin (state_at first seen) caller ≡ pinned

-- ---- an answer in the history

-- each job that begins ends before the caller's next one
abbrev pub AreEnded : List Step → Type 0
AreEnded [] = Unit {0}
AreEnded (Job caller kind Begun ∷ []) = ⊥
AreEnded (Job caller kind Begun ∷ Job by other Done ∷ es) = (other ≡ kind) × AreEnded es
AreEnded (Job caller kind Begun ∷ Job by other Dropped ∷ es) = (other ≡ kind) × AreEnded es
AreEnded (Job caller kind Begun ∷ e ∷ es) = ⊥
AreEnded (e ∷ es) = AreEnded es

-- what a caller has seen goes on, and of its own jobs in the rest none is left open
pub record Follows (caller : ℕ) (seen after : List Place) : Type 0 where
  pub added : List Place
  pub grown : after ≡ seen ++ added
  pub ended : AreEnded (jobs_of caller (steps_of added))

-- of one's own: nothing, or a tick at this reading
abbrev pub IsTicked : ℕ → ℕ → List Step → Type 0
IsTicked caller now es = (es ≡ []) ⊎ (es ≡ Tick now caller ∷ [])

-- What was asked stands in the history once. It has before it all that was seen, entries of others, and at most a tick of
-- the caller's own. Behind it may come jobs of its own and entries of others. The reply is the machine's there.
pub record Entered (caller : ℕ) (first : State) (seen : List Place) (now : ℕ) (ask : Ask) (reply : Reply) (after : List Place) : Type 0 where
  pub before : List Place
  pub own : Place
  pub behind : List Place
  pub grown : after ≡ (seen ++ before) ++ own ∷ behind
  pub ticked : IsTicked caller now (mine caller before)
  pub idle : jobs_of caller (steps_of before) ≡ []
  pub is : own.what ≡ entry_of (has_pin (state_at first seen) caller) now caller ask
  pub once : mine caller behind ≡ []
  pub answered : (step (state_at first (seen ++ before)) own.what).0 ≡ Some reply

-- one command that only reads
abbrev pub IsReading : Ask → Type 0
IsReading (Call c) = IsFalse (writes c)
IsReading _ = ⊥

-- nothing, or an entry that changes no key: a tick, or that of a command that only reads, whose reply was withheld
abbrev pub IsWithheld : ℕ → Bool → ℕ → Ask → List Step → Type 0
IsWithheld caller pinned now ask [] = Unit {0}
IsWithheld caller pinned now ask (e ∷ []) = (e ≡ Tick now caller) ⊎ ((e ≡ entry_of pinned now caller ask) × IsReading ask)
IsWithheld caller pinned now ask (e ∷ f ∷ es) = ⊥

-- What failed has at most one entry, which changes no key.
pub record Withheld (caller : ℕ) (first : State) (seen : List Place) (now : ℕ) (ask : Ask) (after : List Place) : Type 0 where
  pub added : List Place
  pub grown : after ≡ seen ++ added
  pub own : IsWithheld caller (has_pin (state_at first seen) caller) now ask (mine caller added)

abbrev pub LeavesPlaces : ℕ → State → List Place → ℕ → Ask → Result Reply DeskFault → List Place → Type 0
LeavesPlaces caller first seen now ask (Ok reply) after = Entered caller first seen now ask reply after
LeavesPlaces caller first seen now ask (Err e) after = Withheld caller first seen now ask after

-- ---- why a call fails

abbrev pub last_sequence : ℕ
last_sequence = 2 ^ 42 - 2

abbrev pub longest_body : ℕ
longest_body = 2 ^ 32 - 1

-- A fault of the files comes where the count rose, damage at a place that is off its grammar. No sequence is left just
-- where there is something to write at the last one, and what is to be written is too big just where it is longer than
-- a record can be. A job is busy where another of its kind was open.
abbrev pub HasReason : ℕ → DeskState → Result Reply DeskFault → Type 0
HasReason before desk (Ok reply) = (desk.body ≤ longest_body) × (0 < desk.body → desk.sequence < last_sequence)
HasReason before desk (Err fault.IoError) = Rose before desk.faults
HasReason before desk (Err fault.NoMem) = Unit {0}
HasReason before desk (Err (fault.Damaged file place)) = desk.off file place
HasReason before desk (Err fault.SeqFull) = (0 < desk.body) × (desk.sequence ≡ last_sequence)
HasReason before desk (Err fault.TooBig) = (longest_body < desk.body) × (desk.sequence ≢ last_sequence)
HasReason before desk (Err fault.Busy) = IsSome desk.met

-- ---- the calls

-- a reading was taken, and all else is as it was but what is told of the last call
pub record TakesOnlyReading (old new : DeskState) (now : ℕ) : Type 0 where
  pub reading : readings.TakesReading old.readings new.readings now
  pub last : new.last ≡ Some now
  pub stands : (opening : Opening) (seen : List Place) → old.stands opening seen → new.stands opening seen
  pub kept : (failed : List Cmds) → old.kept failed → new.kept failed
  pub number : new.number ≡ old.number
  pub pinned : new.pinned ≡ old.pinned
  pub faults : new.faults ≡ old.faults

-- the fault of an answer, if it is one
abbrev pub fault_of : Result Reply DeskFault → Option DeskFault
fault_of (Ok reply) = None
fault_of (Err e) = Some e

-- the commands whose calls failed, and behind them these ones where their call did
abbrev pub failed_with : {A : Type 0} → Cmds → Result A DeskFault → List Cmds → List Cmds
failed_with ds (Ok reply) failed = failed
failed_with ds (Err e) failed = failed ++ ds ∷ []

abbrev pub failed_by : Ask → Result Reply DeskFault → List Cmds → List Cmds
failed_by ask result failed = option_map_or (λ ds. failed_with ds result failed) (commands_of ask) failed

-- whether a key may change, of a caller with a pin or without one
abbrev pub can_write : Bool → Ask → Bool
can_write true ask = false
can_write false ask = may_write ask

-- What was asked was answered: where the desk stood for a history, it stands for one that goes on by that, and what
-- changes no key plans nothing to write. What it stands for is kept, but for the commands of calls that failed. What a call that failed planned was planned for what was asked. The desk tells
-- its fault, and no job was asked for.
pub record TakesCall (old new : DeskState) (now : ℕ) (ask : Ask) (result : Result Reply DeskFault) : Type 0 where
  pub history : (opening : Opening) (seen : List Place) → old.stands opening seen
      → (after : List Place) × new.stands opening after × Follows old.number seen after × LeavesPlaces old.number opening.state seen now ask result after
  pub kept : (failed : List Cmds) → old.kept failed → new.kept (failed_by ask result failed)
  pub reason : HasReason old.faults new result
  pub idle : (opening : Opening) (seen : List Place) → old.stands opening seen → IsFalse (can_write old.pinned ask) → new.body ≡ 0
  pub planned : OnErr result (new.planned now ask)
  pub fault : new.fault ≡ fault_of result
  pub met : new.met ≡ None
  pub later : old.faults ≤ new.faults
  pub readings : new.readings ≡ old.readings
  pub last : new.last ≡ old.last
  pub number : new.number ≡ old.number
  pub pinned : new.pinned ≡ (if is_ok result then pinned_by ask old.pinned else old.pinned)
