-- What the loops of a session keep: texts on their way to the sink, requests that were answered, and reads.
use Rattle.std.specs.Prelude.{◌≡◌, ◌≤◌, ◌<◌, ◌-◌, ◌⊎◌, ℕ, Bool, true, false, List, [], ◌∷◌, ◌++◌, length, Option, Some, None, Result, Ok, Err, OnOk, OnErr}
use Rattle.std.specs.Io.KnownBytes.{Appends, Consumes, IsAtEnd}
use Rattle.kv_base.specs.Map.{Bytes}
use Rattle.kv_outside.specs.Causes.{Rose}
use Rattle.kv_outside.specs.Writing.{AppendsFront}
use Rattle.redis_model.specs.DeskState.{DeskState}
use Rattle.cmd_words.specs.Words.{AreRequestWords}
use Rattle.resp_wire.specs.declared.fault.WireFault.TheVariants.{Cut}
use Rattle.resp_wire.specs.Fault.{wire_fault, fault_line as wire_line}
use Rattle.resp_wire.specs.Grammar.{End, Whole, Open, Fault}
use Rattle.resp_wire.specs.Reading.{ReadsRequest, IsUnfinished, IsFaulty}
use Rattle.resp_wire.specs.Holding.{HoldsRequests}
use Rattle.session.specs.declared.answer.Answer.{Answer}
use Rattle.session.specs.declared.serve.Stopped.{Stopped}
use Rattle.session.specs.declared.serve.Stopped.TheVariants as stopped
use Rattle.session.specs.declared.session.Outcome.{Outcome}
use Rattle.session.specs.declared.session.Outcome.TheVariants as outcome
use Rattle.session.specs.Quits.{is_quit, NoneQuits, LastQuits}
use Rattle.session.specs.Talk.{Talks, answers_text}

-- ---- a text on its way to a sink

-- What waited and then the text were passed on, up to what waits now.
pub record Passes (held held' : Option (List ℕ)) (waits waits' said : Bytes) : Type 0 where
  pub passed : Bytes
  pub grew : Appends held held' passed
  pub parts : waits ++ said ≡ passed ++ waits'

-- The text was added to what waits, or passed on; where the sink failed it has a front of what waited and the text.
pub record Sends {T E : Type 0} (held held' : Option (List ℕ)) (waits waits' : Bytes) (faults faults' : ℕ) (said : Bytes) (result : Result T E) : Type 0 where
  pub all : OnOk result (Passes held held' waits waits' said)
  pub front : OnErr result (AppendsFront held held' (waits ++ said))
  pub later : faults ≤ faults'
  pub failed : OnErr result (Rose faults faults')

-- ---- requests in order

-- These requests were answered, each once and in order, and the answers were written.
pub record Answered {D : Type 0} (told : D → DeskState) (old new : D) (held held' : Option (List ℕ)) (waits waits' : Bytes) (served : List (List Bytes)) : Type 0 where
  pub answers : List Answer
  pub talk : Talks told old new served answers
  pub wrote : Passes held held' waits waits' (answers_text answers)

-- The sink failed within the answers to these requests, and has a front of what waited and of them.
pub record Broken {D : Type 0} (told : D → DeskState) (old new : D) (held held' : Option (List ℕ)) (waits : Bytes) (served : List (List Bytes)) : Type 0 where
  pub answers : List Answer
  pub talk : Talks told old new served answers
  pub wrote : AppendsFront held held' (waits ++ answers_text answers)

-- One request was answered, and its answer written. Behind that of a QUIT the session is over.
abbrev pub AnswersAs : {D : Type 0} → (D → DeskState) → D → D → Option (List ℕ) → Option (List ℕ) → Bytes → Bytes → ℕ → ℕ → List Bytes → Result (Unit {0}) Stopped → Type 0
AnswersAs told old new held held' waits waits' faults faults' words (Ok x) = Answered told old new held held' waits waits' (words ∷ []) × (is_quit words ≡ false)
AnswersAs told old new held held' waits waits' faults faults' words (Err stopped.Quit) = Answered told old new held held' waits waits' (words ∷ []) × (is_quit words ≡ true)
AnswersAs told old new held held' waits waits' faults faults' words (Err stopped.WriteFault) = Broken told old new held held' waits (words ∷ []) × Rose faults faults'
AnswersAs told old new held held' waits waits' faults faults' words (Err _) = ⊥

unfoldable pub Answers : {D : Type 0} → (D → DeskState) → D → D → Option (List ℕ) → Option (List ℕ) → Bytes → Bytes → ℕ → ℕ → List Bytes → Result (Unit {0}) Stopped → Type 0
Answers told old new held held' waits waits' faults faults' words result = AnswersAs told old new held held' waits waits' faults faults' words result

-- so far: what a loop over requests keeps
pub record Serving {D : Type 0} (told : D → DeskState) (old new : D) (held held' : Option (List ℕ)) (waits waits' bytes rest : Bytes) : Type 0 where
  pub served : List (List Bytes)
  pub holds : HoldsRequests bytes served rest
  pub answered : Answered told old new held held' waits waits' served
  pub none : NoneQuits served

-- The same where a QUIT was answered.
pub record Quitting {D : Type 0} (told : D → DeskState) (old new : D) (held held' : Option (List ℕ)) (waits waits' bytes rest : Bytes) : Type 0 where
  pub served : List (List Bytes)
  pub holds : HoldsRequests bytes served rest
  pub answered : Answered told old new held held' waits waits' served
  pub quits : LastQuits served

-- The same where the sink failed within the answers.
pub record Breaking {D : Type 0} (told : D → DeskState) (old new : D) (held held' : Option (List ℕ)) (waits bytes rest : Bytes) : Type 0 where
  pub served : List (List Bytes)
  pub holds : HoldsRequests bytes served rest
  pub broken : Broken told old new held held' waits served
  pub quits : NoneQuits served ⊎ LastQuits served

-- The requests that stand whole in the bytes were answered, up to the rest, or up to what stopped them.
abbrev pub ServesAs : {D : Type 0} → (D → DeskState) → D → D → Option (List ℕ) → Option (List ℕ) → Bytes → Bytes → ℕ → ℕ → Bytes → Bytes → Result (Unit {0}) Stopped → Type 0
ServesAs told old new held held' waits waits' faults faults' bytes rest (Ok x) = Serving told old new held held' waits waits' bytes rest × IsUnfinished rest
ServesAs told old new held held' waits waits' faults faults' bytes rest (Err stopped.NoMem) = (behind : Bytes) × Serving told old new held held' waits waits' bytes behind
ServesAs told old new held held' waits waits' faults faults' bytes rest (Err stopped.WriteFault) = (behind : Bytes) × Breaking told old new held held' waits bytes behind × Rose faults faults'
ServesAs told old new held held' waits waits' faults faults' bytes rest (Err (stopped.Wire kind left)) = (behind : Bytes) × Serving told old new held held' waits waits' bytes behind × IsFaulty behind kind left
ServesAs told old new held held' waits waits' faults faults' bytes rest (Err stopped.Quit) = (behind : Bytes) × Quitting told old new held held' waits waits' bytes behind

unfoldable pub Serves : {D : Type 0} → (D → DeskState) → D → D → Option (List ℕ) → Option (List ℕ) → Bytes → Bytes → ℕ → ℕ → Bytes → Bytes → Result (Unit {0}) Stopped → Type 0
Serves told old new held held' waits waits' faults faults' bytes rest result = ServesAs told old new held held' waits waits' faults faults' bytes rest result

-- what a reader gave, where these bytes were left
abbrev pub NextAs : Bytes → Bytes → Result (Option (List Bytes)) Stopped → Type 0
NextAs bytes rest (Ok None) = ReadsRequest bytes [] rest × IsUnfinished rest
NextAs bytes rest (Ok (Some words)) = ReadsRequest bytes words rest × (length rest < length bytes) × AreRequestWords words
NextAs bytes rest (Err stopped.NoMem) = Unit {0}
NextAs bytes rest (Err (stopped.Wire kind left)) = IsFaulty bytes kind left
NextAs bytes rest (Err _) = ⊥

-- whether the sink failed
abbrev pub is_write_fault : Result (Unit {0}) Stopped → Bool
is_write_fault (Err stopped.WriteFault) = true
is_write_fault _ = false

-- ---- one read

-- The reader was fed what the source gave, at most so many bytes; what was read is gone also where there was no memory for it.
abbrev pub PullsAs : Option (List ℕ) → Option (List ℕ) → Bool → Bool → ℕ → ℕ → Bytes → Bytes → ℕ → Result ℕ Outcome → Type 0
PullsAs left left' ended ended' faults faults' bytes bytes' room (Ok n) =
    (piece : Bytes) × (length piece ≡ n) × (n ≤ room) × (bytes' ≡ bytes ++ piece) × Consumes left left' piece × (n ≡ 0 → (ended' ≡ true) × IsAtEnd left') × (0 < n → ended' ≡ ended)
PullsAs left left' ended ended' faults faults' bytes bytes' room (Err outcome.ReadFault) = Consumes left left' [] × Rose faults faults'
PullsAs left left' ended ended' faults faults' bytes bytes' room (Err outcome.NoMem) = (piece : Bytes) × (length piece ≤ room) × Consumes left left' piece
PullsAs left left' ended ended' faults faults' bytes bytes' room (Err _) = ⊥

unfoldable pub Pulls : Option (List ℕ) → Option (List ℕ) → Bool → Bool → ℕ → ℕ → Bytes → Bytes → ℕ → Result ℕ Outcome → Type 0
Pulls left left' ended ended' faults faults' bytes bytes' room result = PullsAs left left' ended ended' faults faults' bytes bytes' room result

-- ---- the end

-- The line of a fault was written, or a front of it.
abbrev pub TellsAs : Option (List ℕ) → Option (List ℕ) → ℕ → ℕ → Bytes → Outcome → Type 0
TellsAs held held' faults faults' line outcome.Protocol = Appends held held' line
TellsAs held held' faults faults' line outcome.WriteFault = AppendsFront held held' line × Rose faults faults'
TellsAs held held' faults faults' line _ = ⊥

-- How a session ends where so many bytes were taken and this stopped it.
abbrev pub StopsAs : Option (List ℕ) → Option (List ℕ) → ℕ → ℕ → ℕ → Stopped → Outcome → Type 0
StopsAs held held' faults faults' total stopped.NoMem o = (o ≡ outcome.NoMem) × (held' ≡ held)
StopsAs held held' faults faults' total stopped.WriteFault o = (o ≡ outcome.WriteFault) × (held' ≡ held) × (faults' ≡ faults)
StopsAs held held' faults faults' total (stopped.Wire kind left) o = TellsAs held held' faults faults' (wire_line (wire_fault kind) (total - left)) o
StopsAs held held' faults faults' total stopped.Quit o = (o ≡ outcome.Closed) × (held' ≡ held)

-- How it ends where the input has ended as this says.
abbrev pub FinishesAs : Option (List ℕ) → Option (List ℕ) → ℕ → ℕ → ℕ → End → Outcome → Type 0
FinishesAs held held' faults faults' total Whole o = (o ≡ outcome.Closed) × (held' ≡ held)
FinishesAs held held' faults faults' total (Open left) o = TellsAs held held' faults faults' (wire_line Cut (total - left)) o
FinishesAs held held' faults faults' total (Fault kind left) o = ⊥
