-- What a server says to the requests of one client, who is alone, by the machine, and why an answer is a fault.
use Rattle.std.specs.Prelude.{◌≡◌, ◌≢◌, ◌⊎◌, ◌≤◌, ◌<◌, ◌+◌, ℕ, IsFalse, List, [], ◌∷◌, ◌++◌, Option, Some, Result}
use Rattle.kv_base.specs.Map.{Bytes}
use Rattle.kv_outside.specs.Causes.{Rose}
use Rattle.batch_codec.specs.Batches.{Batch}
use Rattle.redis_model.specs.declared.command.Command.{Command}
use Rattle.redis_model.specs.declared.command.Cmds.{Cmds}
use Rattle.redis_model.specs.declared.command.Cmds.TheVariants.{One}
use Rattle.redis_model.specs.declared.desk.DeskFault.{DeskFault}
use Rattle.redis_model.specs.declared.desk.DeskFault.TheVariants as desk_fault
use Rattle.redis_model.specs.declared.history.Step.TheVariants.{Call}
use Rattle.redis_model.specs.declared.reply.Reply.{Reply}
use Rattle.redis_model.specs.About.{writes}
use Rattle.redis_model.specs.Apply.{due}
use Rattle.redis_model.specs.Asks as ask
use Rattle.redis_model.specs.Desk.{last_sequence, longest_body}
use Rattle.redis_model.specs.Machine.{State, step, moment_at, at_moment}
use Rattle.lives_model.specs.Rows.{Rows}
use Rattle.lives_model.specs.Means.{Means}
use Rattle.lives_model.specs.Plans.{IsPlanFor}
use Rattle.cmd_words.specs.Parsed.{parsed_as, IsParsed}
use Rattle.cmd_words.specs.declared.fault.CommandFault.{CommandFault}
use Rattle.cmd_words.specs.declared.parsed.Parsed.{Parsed}
use Rattle.session.specs.declared.answer.Answer.{Answer}
use Rattle.session.specs.declared.answer.Answer.TheVariants as answer
use Rattle.session.specs.Talk.{Asked, ToDesk, Own, asked}
use Rattle.log_store.specs.Playing.{batches_of, planned_for}

-- a store between two calls: the machine's state, the sequence of the last batch in the log, and how often a call to the
-- files has failed
pub record StoreState : Type 0 where
  pub state : State
  pub sequence : ℕ
  pub faults : ℕ

-- What carries the command out, on rows that mean the keys, has a body longer than a record can be.
pub record IsTooLong (old : StoreState) (now : ℕ) (c : Command) : Type 0 where
  pub rows : Rows
  pub means : Means rows (moment_at old.state now) (at_moment old.state now).keys
  pub batch : Batch
  pub answer : Reply
  pub until : Option ℕ
  pub plan : IsPlanFor rows (moment_at old.state now) old.sequence (at_moment old.state now).keys (One c) batch answer until
  pub long : longest_body < planned_for batch

-- Why a command has no reply, from one state of the store to the next: a call to the files failed in it, there is no
-- memory, or it touches a key and no sequence is left, or its batch is too long. There is no other cause.
abbrev pub HasFault : StoreState → StoreState → ℕ → Command → DeskFault → Type 0
HasFault old new now c desk_fault.IoError = Rose old.faults new.faults
HasFault old new now c desk_fault.NoMem = Unit {0}
HasFault old new now c desk_fault.SeqFull = (batches_of old.state now (One c) ≡ 1) × (old.sequence ≡ last_sequence)
HasFault old new now c desk_fault.TooBig = IsTooLong old now c × (old.sequence ≢ last_sequence)
HasFault old new now c _ = ⊥

-- the state is as it was, or as a command leaves it that only reads
abbrev pub LeavesState : State → ℕ → Command → State → Type 0
LeavesState old now c new = (new ≡ old) ⊎ (IsFalse (writes c) × (new ≡ (step old (Call now 0 c)).1))

-- A command at a reading of the clock has the machine's reply, and where it touches a key its batch has the next sequence; or
-- it has a fault with its cause, which leaves the keys and the log's last sequence as they were.
abbrev pub CommandAnswers : StoreState → ℕ → Command → Answer → StoreState → Type 0
CommandAnswers old now c (answer.Reply reply) new = (step old.state (Call now 0 c) ≡ (Some reply, new.state)) × (new.sequence ≡ old.sequence + batches_of old.state now (One c)) × (new.sequence ≤ last_sequence)
CommandAnswers old now c (answer.Fault fault) new = LeavesState old.state now c new.state × (new.sequence ≡ old.sequence) × HasFault old new now c fault
CommandAnswers old now c _ new = ⊥

-- What is asked for has this answer, at these readings of the clock: one where the machine is asked, for one command. What
-- asks nothing of it has an answer of its own, and leaves the store alone.
abbrev pub ExchangeBy : StoreState → Asked → List ℕ → Answer → StoreState → Type 0
ExchangeBy old (ToDesk (ask.Call c)) nows answer new = (now : ℕ) × (nows ≡ now ∷ []) × CommandAnswers old now (due now c) answer new × (old.faults ≤ new.faults)
ExchangeBy old (ToDesk _) nows answer new = ⊥
ExchangeBy old (Own said) nows answer new = (answer ≡ said) × (nows ≡ []) × (new ≡ old)

-- One request has this answer, as what its words are read into; memory may run out for that.
pub record Exchange (old : StoreState) (words : List Bytes) (nows : List ℕ) (answer : Answer) (new : StoreState) : Type 0 where
  pub read : Result Parsed CommandFault
  pub is : IsParsed read (parsed_as words)
  pub turn : ExchangeBy old (asked read) nows answer new

-- From one state of the store to another, these requests have these answers, in order, at these readings of the clock.
abbrev pub Dialog : StoreState → List (List Bytes) → List ℕ → List Answer → StoreState → Type 0
Dialog old [] nows [] new = (nows ≡ []) × (new ≡ old)
Dialog old [] nows (answer ∷ answers) new = ⊥
Dialog old (words ∷ others) nows [] new = ⊥
Dialog old (words ∷ others) nows (answer ∷ answers) new =
    (mid : StoreState) × (first : List ℕ) × (rest : List ℕ) × (nows ≡ first ++ rest) × Exchange old words first answer mid × Dialog mid others rest answers new

-- ---- what failed

-- A request asked for this command, whose amounts of time became deadlines at a reading, and was answered with a fault.
pub record HasFailed (words : List Bytes) (said : Answer) (ds : Cmds) : Type 0 where
  pub read : Result Parsed CommandFault
  pub is : IsParsed read (parsed_as words)
  pub command : Command
  pub asks : asked read ≡ ToDesk (ask.Call command)
  pub now : ℕ
  pub due : ds ≡ One (due now command)
  pub fault : DeskFault
  pub failed : said ≡ answer.Fault fault

-- one of these requests did, which had these answers
abbrev pub OneFailed : List (List Bytes) → List Answer → Cmds → Type 0
OneFailed (words ∷ others) (answer ∷ answers) ds = HasFailed words answer ds ⊎ OneFailed others answers ds
OneFailed _ _ ds = ⊥
