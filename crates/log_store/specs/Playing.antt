-- What a call of commands leaves of a store and of its log.
use Rattle.std.specs.Prelude.{◌≡◌, ◌≢◌, ◌⊎◌, ℕ, ◌+◌, ◌-◌, ◌≤◌, ◌<◌, ◌^◌, ◌==◌, IsTrue, if◌then◌else◌, length, min, Option, Some}
use Rattle.kv_base.specs.Map.{Bytes, size}
use Rattle.kv_outside.specs.Causes.{Rose}
use Rattle.batch_codec.specs.Batches.{Batch, are_rows}
use Rattle.batch_codec.specs.Bodies.{body_of}
use Rattle.redis_model.specs.declared.command.Cmds.{Cmds}
use Rattle.redis_model.specs.declared.command.Cmds.TheVariants.{One, Many}
use Rattle.redis_model.specs.declared.desk.DeskFault.{DeskFault}
use Rattle.redis_model.specs.declared.desk.DeskFault.TheVariants as fault
use Rattle.redis_model.specs.declared.history.Step.{Step}
use Rattle.redis_model.specs.declared.history.Step.TheVariants.{Call, Exec}
use Rattle.redis_model.specs.declared.reply.Reply.{Reply}
use Rattle.redis_model.specs.Desk.{last_sequence, longest_body}
use Rattle.redis_model.specs.Machine.{State, step, moment_at, at_moment}
use Rattle.lives_model.specs.Plans.{IsPlanFor}
use Rattle.lives_model.specs.WrittenKeys.{touched_in}
use Rattle.log_store.specs.Keeping.{KeptState, StandsFor, ComesToKeys}

-- the entry of one command or of several, of the only caller
abbrev pub entry : ℕ → Cmds → Step
entry now (One c) = Call now 0 c
entry now (Many cs) = Exec now 0 cs

-- From each state that the store stood for, the machine gives this reply, and the store stands for the state after it.
pub record Plays (old new : KeptState) (now : ℕ) (commands : Cmds) (reply : Reply) : Type 0 where
  pub answer : (s : State) → StandsFor old s → (step s (entry now commands)).0 ≡ Some reply
  pub stands : (s : State) → StandsFor old s → StandsFor new (step s (entry now commands)).1

-- The rows, the floor, and the moment and the sequence of the last batch are as they were.
pub record IsUnchanged (old new : KeptState) : Type 0 where
  pub rows : new.rows ≡ old.rows
  pub floor : new.floor ≡ old.floor
  pub written : new.written ≡ old.written
  pub sequence : new.sequence ≡ old.sequence

-- why commands have no reply, by the last sequence that they met and the bytes of the body that they planned
abbrev pub PlayFails : ℕ → ℕ → ℕ → ℕ → DeskFault → Type 0
PlayFails before now sequence planned fault.IoError = Rose before now
PlayFails before now sequence planned fault.NoMem = Unit {0}
PlayFails before now sequence planned fault.SeqFull = (0 < planned) × (sequence ≡ last_sequence)
PlayFails before now sequence planned fault.TooBig = (longest_body < planned) × (sequence ≢ last_sequence)
PlayFails before now sequence planned _ = ⊥

-- ---- what is written

-- the bytes of the body of a batch, as far as they can be counted, and none where there is nothing to write
abbrev pub planned_for : Batch → ℕ
planned_for b = if size b == 0 then 0 else min (length (body_of 0 0 b)) (2 ^ 64 - 1)

-- A batch with its moment and its body can be written behind a last sequence, at a floor.
pub record IsWrite (sequence floor : ℕ) (batch : Batch) (moment : ℕ) (body : Bytes) : Type 0 where
  pub room : sequence < last_sequence
  pub later : floor ≤ moment
  pub early : moment ≤ 2 ^ 61
  pub some : 0 < size batch
  pub rows : IsTrue (are_rows batch.entries)
  pub fits : length body ≤ longest_body
  pub is : body ≡ body_of (sequence + 1) moment batch

-- one batch is written where a body was planned
abbrev pub batches : ℕ → ℕ
batches planned = if planned == 0 then 0 else 1

-- one batch where the commands touch a key, else none
abbrev pub batches_of : State → ℕ → Cmds → ℕ
batches_of s now ds = if length (touched_in (at_moment s now).keys (moment_at s now) ds) == 0 then 0 else 1

-- so many bytes has the body of a batch that carries the commands out on the keys that the store stands for
pub record IsBodyOfPlan (store : KeptState) (now : ℕ) (s : State) (ds : Cmds) (planned : ℕ) : Type 0 where
  pub batch : Batch
  pub answer : Reply
  pub until : Option ℕ
  pub plan : IsPlanFor store.rows (moment_at s now) store.sequence (at_moment s now).keys ds batch answer until
  pub bytes : planned ≡ planned_for batch

-- Nothing was to be written, or the body of what carries the commands out.
abbrev pub IsSized : KeptState → ℕ → State → Cmds → ℕ → Type 0
IsSized store now s ds planned = (planned ≡ 0) ⊎ IsBodyOfPlan store now s ds planned

-- ---- what a crash leaves

-- the log comes to the keys before the commands, or to those after them
abbrev pub IsBeforeOrAfter : State → ℕ → Cmds → Bytes → Type 0
IsBeforeOrAfter s now commands bytes =
    ComesToKeys (moment_at s now) (at_moment s now).keys bytes ⊎ ComesToKeys (moment_at s now) (step s (entry now commands)).1.keys bytes
