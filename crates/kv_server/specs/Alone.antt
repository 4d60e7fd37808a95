-- A desk of one caller, who is alone: what it has seen is the whole history.
use Rattle.std.specs.Prelude.{◌≡◌, ◌+◌, ◌==◌, ℕ, if◌then◌else◌, List, [], ◌∷◌, Result, Ok, Err}
use Rattle.redis_model.specs.declared.command.Command.{Command}
use Rattle.redis_model.specs.declared.command.Cmds.TheVariants.{One}
use Rattle.redis_model.specs.declared.desk.DeskFault.{DeskFault}
use Rattle.redis_model.specs.declared.reply.Reply.{Reply}
use Rattle.redis_model.specs.declared.history.Step.{Step}
use Rattle.redis_model.specs.declared.history.Step.TheVariants.{Call}
use Rattle.redis_model.specs.declared.history.Place.{Place}
use Rattle.redis_model.specs.declared.history.Note.{Note}
use Rattle.redis_model.specs.declared.history.Note.TheVariants.{Bare, Appended}
use Rattle.redis_model.specs.Machine.{State, step}
use Rattle.redis_model.specs.Legal.{IsLegal}
use Rattle.redis_model.specs.Asks as ask
use Rattle.redis_model.specs.Desk.{Follows, LeavesPlaces}
use Rattle.redis_model.specs.Places.{steps_of, state_at, sequences, GoUp}
use Rattle.log_store.specs.Playing.{batches_of}

-- each entry is a call of the caller 0
abbrev pub IsOwnCall : Step → Type 0
IsOwnCall (Call now caller c) = caller ≡ 0
IsOwnCall _ = ⊥

abbrev pub AreOwnCalls : List Place → Type 0
AreOwnCalls [] = Unit {0}
AreOwnCalls (p ∷ ps) = IsOwnCall p.what × AreOwnCalls ps

-- The history is legal, has the calls of one caller alone, and leaves nobody a pin.
pub record IsAlone (first : State) (seen : List Place) : Type 0 where
  pub calls : AreOwnCalls seen
  pub legal : IsLegal first (steps_of seen)
  pub free : (state_at first seen).pins ≡ []

-- ---- batches

-- how many batches an entry appended that found this state
abbrev pub batches_at : State → Step → ℕ
batches_at s (Call now caller c) = batches_of s now (One c)
batches_at s _ = 0

-- how many batches the calls at these places appended
abbrev pub batches_in : State → List Place → ℕ
batches_in s [] = 0
batches_in s (p ∷ ps) = batches_at s p.what + batches_in (step s p.what).1 ps

-- What is noted of a call that planned a body of so many bytes: the sequence of its batch, which is the next one, where
-- there was something to write.
abbrev pub note_of : ℕ → ℕ → Note
note_of sequence planned = if planned == 0 then Bare else Appended (sequence + 1)

-- ---- what the desk's calls leave

-- how many batches a call appended that found this state
abbrev pub batches_by : State → ℕ → Command → Result Reply DeskFault → ℕ
batches_by s now c (Ok reply) = batches_of s now (One c)
batches_by s now c (Err fault) = 0

-- The history goes on by a call, after which this is the machine's state, and this the sequence of the last batch that is
-- noted.
pub record CallGoesOn (first : State) (seen : List Place) (now : ℕ) (c : Command) (result : Result Reply DeskFault) (s : State) (begun last : ℕ) : Type 0 where
  pub after : List Place
  pub alone : IsAlone first after
  pub state : state_at first after ≡ s
  pub follows : Follows 0 seen after
  pub leaves : LeavesPlaces 0 first seen now (ask.Call c) result after
  pub batches : batches_in first after ≡ batches_in first seen + batches_by (state_at first seen) now c result
  pub noted : GoUp begun (sequences after) last
