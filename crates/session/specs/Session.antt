-- A session, from its first byte to its end.
use Rattle.std.specs.Prelude.{◌≡◌, ◌≤◌, ◌-◌, ◌^◌, ◌⊎◌, ℕ, Bool, true, List, [], ◌++◌, length, Option}
use Rattle.std.specs.Io.KnownBytes.{Appends, Consumes, IsAtEnd}
use Rattle.kv_base.specs.Map.{Bytes}
use Rattle.kv_outside.specs.Causes.{Rose}
use Rattle.kv_outside.specs.Writing.{AppendsFront}
use Rattle.redis_model.specs.DeskState.{DeskState}
use Rattle.resp_wire.specs.declared.fault.WireFault.TheVariants.{Cut}
use Rattle.resp_wire.specs.Fault.{wire_fault, fault_line as wire_line}
use Rattle.resp_wire.specs.Grammar.{requests, End, Whole, Open, Fault}
use Rattle.session.specs.declared.answer.Answer.{Answer}
use Rattle.session.specs.declared.session.Outcome.{Outcome}
use Rattle.session.specs.declared.session.Outcome.TheVariants as outcome
use Rattle.session.specs.Quits.{NoneQuits, LastQuits}
use Rattle.session.specs.Talk.{Talks, answers_text}

-- the requests that were answered are the first of these
abbrev pub AreFirst : List (List Bytes) → List (List Bytes) → Type 0
AreFirst served all = (others : List (List Bytes)) × (all ≡ served ++ others)

-- A text that does not end between requests holds a fault, or the input ends inside a request.
abbrev pub IsBroken : End → Bool → Option (List ℕ) → Type 0
IsBroken Whole ended left = ⊥
IsBroken (Open unread) ended left = (ended ≡ true) × IsAtEnd left
IsBroken (Fault kind unread) ended left = Unit {0}

-- the line that tells of such an end of so many bytes: its place counts the bytes before it
abbrev pub end_line : ℕ → End → Bytes
end_line total Whole = []
end_line total (Open unread) = wire_line Cut (total - unread)
end_line total (Fault kind unread) = wire_line (wire_fault kind) (total - unread)

-- no fault of the wire stands in a text that ends so
abbrev pub HasNoFault : End → Type 0
HasNoFault Whole = Unit {0}
HasNoFault (Open left) = Unit {0}
HasNoFault (Fault kind left) = ⊥

-- all requests in the bytes taken were answered, and no QUIT was among them
pub record AreAll (taken : Bytes) (served : List (List Bytes)) : Type 0 where
  pub all : (requests taken).0 ≡ served
  pub none : NoneQuits served

-- the requests were answered up to a QUIT
pub record IsQuit (taken : Bytes) (served : List (List Bytes)) : Type 0 where
  pub first : AreFirst served (requests taken).0
  pub quits : LastQuits served

-- the input was read to its end, which lies between requests
pub record IsThrough (taken : Bytes) (served : List (List Bytes)) (left : Option (List ℕ)) (ended : Bool) : Type 0 where
  pub are : AreAll taken served
  pub whole : (requests taken).1 ≡ Whole
  pub told : ended ≡ true
  pub none_left : IsAtEnd left

-- a fault of the wire, or an end inside a request, stands behind all requests, and this line tells of it
pub record IsProtocol (taken : Bytes) (served : List (List Bytes)) (line : Bytes) (left : Option (List ℕ)) (ended : Bool) : Type 0 where
  pub are : AreAll taken served
  pub broken : IsBroken (requests taken).1 ended left
  pub tells : line ≡ end_line (length taken) (requests taken).1

-- the session had come so far, and nothing is answered behind a QUIT
pub record IsUnder (taken : Bytes) (served : List (List Bytes)) : Type 0 where
  pub first : AreFirst served (requests taken).0
  pub quits : NoneQuits served ⊎ LastQuits served

-- How a session ended that took these bytes, answered these requests, wrote this line behind the answers, and left this
-- of the input. Whether a read has answered the end of the input is told of before and after.
abbrev pub EndsAs : Outcome → Bytes → List (List Bytes) → Bytes → Option (List ℕ) → Bool → Bool → Type 0
EndsAs outcome.Closed taken served line left ended ended' = (line ≡ []) × (IsQuit taken served ⊎ IsThrough taken served left ended')
EndsAs outcome.NoMem taken served line left ended ended' = (line ≡ []) × AreFirst served (requests taken).0 × NoneQuits served
EndsAs outcome.ReadFault taken served line left ended ended' = (line ≡ []) × AreAll taken served × HasNoFault (requests taken).1
EndsAs outcome.WriteFault taken served line left ended ended' = ((line ≡ []) × IsUnder taken served) ⊎ IsProtocol taken served line left ended'
EndsAs outcome.Protocol taken served line left ended ended' = IsProtocol taken served line left ended'
EndsAs outcome.Spent taken served line left ended ended' =
    (line ≡ []) × AreAll taken served × (length taken ≡ 2 ^ 40) × HasNoFault (requests taken).1 × (ended' ≡ ended)

-- all of the text was written, or a front of it where a write failed
abbrev pub Writing : Outcome → Option (List ℕ) → Option (List ℕ) → Bytes → Type 0
Writing outcome.WriteFault held held' said = AppendsFront held held' said
Writing _ held held' said = Appends held held' said

-- a fault of the source or of the sink has its cause there
abbrev pub IsCaused : Outcome → ℕ → ℕ → ℕ → ℕ → Type 0
IsCaused outcome.ReadFault source source' sink sink' = Rose source source'
IsCaused outcome.WriteFault source source' sink sink' = Rose sink sink'
IsCaused _ source source' sink sink' = Unit {0}

-- A session at a desk: the bytes that it took, at most 2^40, the requests in them that it answered, each once and in order, and
-- what it wrote: the answers, and behind them the line of a fault of the wire.
pub record SessionParts {D : Type 0} (told : D → DeskState) (o : Outcome) (old new : D) (left left' held held' : Option (List ℕ)) (ended ended' : Bool) : Type 0 where
  pub taken : Bytes
  pub served : List (List Bytes)
  pub answers : List Answer
  pub line : Bytes
  pub took : Consumes left left' taken
  pub limit : length taken ≤ 2 ^ 40
  pub ends : EndsAs o taken served line left' ended ended'
  pub talk : Talks told old new served answers
  pub wrote : Writing o held held' (answers_text answers ++ line)

unfoldable pub Session : {D : Type 0} → (D → DeskState) → Outcome → D → D → Option (List ℕ) → Option (List ℕ) → Option (List ℕ) → Option (List ℕ) → Bool → Bool → Type 0
Session told o old new left left' held held' ended ended' = SessionParts told o old new left left' held held' ended ended'
