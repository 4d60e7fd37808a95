-- What one call of a desk is at a core: the events of its caller, among those of others.
use Rattle.std.specs.Prelude.{◌≡◌, ℕ, Bool, List, [], ◌∷◌, ◌++◌, Option, Some, None, Result, Ok, Err}
use Rattle.redis_model.specs.declared.reply.Reply.{Reply}
use Rattle.redis_model.specs.declared.command.Cmds.{Cmds}
use Rattle.redis_model.specs.declared.command.Cmds.TheVariants.{One, Many}
use Rattle.redis_model.specs.declared.history.Place.{Place}
use Rattle.redis_model.specs.declared.desk.DeskFault.{DeskFault}
use Rattle.redis_model.specs.Legal.{jobs_of}
use Rattle.redis_model.specs.Places.{steps_of}
use Rattle.redis_model.specs.Asks as asks
use Rattle.redis_model.specs.Asks.{Ask}
use Rattle.redis_model.specs.Desk.{mine, AreEnded, IsTicked, IsWithheld}
use Rattle.core_model.specs.Runs.{Event, Read, Commit, Rerun, Play, Pin, LetGo, Look, Refuse, adds, answer_in}

-- the places that events add
abbrev pub places_of : List Event → List Place
places_of [] = []
places_of (e ∷ es) = adds e ++ places_of es

-- ---- the event that answers

-- who asked, at which reading, and what
pub record AskBy : Type 0 where
  pub caller : ℕ
  pub now : ℕ
  pub ask : Ask

-- one command, or a transaction
abbrev pub ask_for : Cmds → Ask
ask_for (One c) = asks.Call c
ask_for (Many cs) = asks.Exec cs

-- what an event with a reply answers
abbrev pub asked_in : Event → Option AskBy
asked_in (Read now caller c answer) = Some (record { caller = caller; now = now; ask = asks.Call c })
asked_in (Commit w note) = Some (record { caller = w.caller; now = w.now; ask = ask_for w.ds })
asked_in (Rerun caller now ds view batch answer note) = Some (record { caller = caller; now = now; ask = ask_for ds })
asked_in (Play caller now ds batch answer note) = Some (record { caller = caller; now = now; ask = ask_for ds })
asked_in (Pin now caller answer) = Some (record { caller = caller; now = now; ask = asks.Pin })
asked_in (LetGo now caller answer) = Some (record { caller = caller; now = now; ask = asks.Unpin })
asked_in (Look now caller c answer) = Some (record { caller = caller; now = now; ask = asks.Call c })
asked_in (Refuse now caller ds answer) = Some (record { caller = caller; now = now; ask = ask_for ds })
asked_in _ = None

-- ---- the events of a call

-- One of them answers what was asked. Before it the caller has at most a glance at the same reading, and no job; behind it jobs
-- alone, each of which ends. All other events are those of others, or add no place.
pub record AnswersAsk (caller now : ℕ) (ask : Ask) (reply : Reply) (es : List Event) : Type 0 where
  pub before : List Event
  pub own : Event
  pub behind : List Event
  pub are : es ≡ before ++ own ∷ behind
  pub asked : asked_in own ≡ Some (record { caller = caller; now = now; ask = ask })
  pub answer : answer_in own ≡ Some reply
  pub ticked : IsTicked caller now (mine caller (places_of before))
  pub idle : jobs_of caller (steps_of (places_of before)) ≡ []
  pub once : mine caller (places_of behind) ≡ []
  pub ended : AreEnded (jobs_of caller (steps_of (places_of behind)))

-- A call that failed has at most one event of the caller's that is no job, and that one changes no key.
pub record FailsAsk (caller now : ℕ) (pinned : Bool) (ask : Ask) (es : List Event) : Type 0 where
  pub withheld : IsWithheld caller pinned now ask (mine caller (places_of es))
  pub ended : AreEnded (jobs_of caller (steps_of (places_of es)))

-- the events of a call with this answer, of a caller with a pin or without one
abbrev pub AreOfCall : ℕ → ℕ → Bool → Ask → Result Reply DeskFault → List Event → Type 0
AreOfCall caller now pinned ask (Ok reply) es = AnswersAsk caller now ask reply es
AreOfCall caller now pinned ask (Err e) es = FailsAsk caller now pinned ask es
