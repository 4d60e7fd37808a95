-- What the requests of one client are answered at a desk, one after the other.
use Rattle.std.specs.Prelude.{◌≡◌, ℕ, List, [], ◌∷◌, Result, Ok, Err}
use Rattle.std.specs.List.{flat_map}
use Rattle.kv_base.specs.Map.{Bytes}
use Rattle.redis_model.specs.declared.desk.DeskFault.{DeskFault}
use Rattle.redis_model.specs.declared.reply.Reply.{Reply}
use Rattle.redis_model.specs.Asks.{Ask, Call, due}
use Rattle.redis_model.specs.DeskState.{DeskState}
use Rattle.redis_model.specs.Desk.{TakesOnlyReading, TakesCall}
use Rattle.redis_model.specs.Limits.{IsWithin}
use Rattle.cmd_words.specs.Parsed.{parsed_as, IsParsed}
use Rattle.cmd_words.specs.declared.fault.CommandFault.{CommandFault}
use Rattle.cmd_words.specs.declared.parsed.Parsed.{Parsed}
use Rattle.cmd_words.specs.declared.parsed.Parsed.TheVariants as parsed
use Rattle.session.specs.declared.answer.Answer.{Answer}
use Rattle.session.specs.declared.answer.Answer.TheVariants as answer
use Rattle.session.specs.Answer.{say, desk_answer}

-- What is asked for goes to the desk, or has an answer of the session's own.
pub data Asked : Type 0 where
  ToDesk : Ask → Asked
  Own : Answer → Asked

-- what words ask for that were read so
abbrev pub asked : Result Parsed CommandFault → Asked
asked (Ok (parsed.Data c)) = ToDesk (Call c)
asked (Ok parsed.Quit) = Own answer.Quit
asked (Ok _) = Own answer.Unserved
asked (Err fault) = Own (answer.Refused fault)

-- a command is within the limits
abbrev pub IsLawful : Parsed → Type 0
IsLawful (parsed.Data c) = IsWithin c
IsLawful _ = Unit {0}

-- The desk was asked once, at a reading of its clock, and the answer is the desk's.
pub record Asks {D : Type 0} (told : D → DeskState) (old new : D) (ask : Ask) (answer : Answer) : Type 0 where
  pub now : ℕ
  pub mid : D
  pub reading : TakesOnlyReading (told old) (told mid) now
  pub result : Result Reply DeskFault
  pub call : TakesCall (told mid) (told new) now (due now ask) result
  pub says : answer ≡ desk_answer result

module _ {D : Type 0} (told : D → DeskState) where
  -- the desk is left alone by what it is not asked for
  abbrev pub TurnBy : D → D → Asked → Answer → Type 0
  TurnBy old new (ToDesk ask) answer = Asks told old new ask answer
  TurnBy old new (Own said) answer = (answer ≡ said) × (new ≡ old)

-- One request was answered, as what its words are read into; memory may have run out for that.
pub record Turn {D : Type 0} (told : D → DeskState) (old new : D) (words : List Bytes) (answer : Answer) : Type 0 where
  pub read : Result Parsed CommandFault
  pub is : IsParsed read (parsed_as words)
  pub turn : TurnBy told old new (asked read) answer

module _ {D : Type 0} (told : D → DeskState) where
  -- these requests were answered, each once and in order
  abbrev pub Talks : D → D → List (List Bytes) → List Answer → Type 0
  Talks old new [] [] = new ≡ old
  Talks old new [] (answer ∷ answers) = ⊥
  Talks old new (words ∷ others) [] = ⊥
  Talks old new (words ∷ others) (answer ∷ answers) = (mid : D) × Turn told old mid words answer × Talks mid new others answers

-- what is written for answers
abbrev pub answers_text : List Answer → Bytes
answers_text answers = flat_map say answers
