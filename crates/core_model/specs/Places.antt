-- What the places of a history come to beside what `redis_model` says of them: the batches of a stripe, what ticks saw, and
-- which jobs are open.
use Rattle.std.specs.Prelude.{ℕ, if◌then◌else◌, List, [], ◌∷◌, Option, Some, None}
use Rattle.std.specs.List.{Contains}
use Rattle.redis_model.specs.declared.history.Step.{Step}
use Rattle.redis_model.specs.declared.history.Step.TheVariants.{Tick, Call, Exec, Job}
use Rattle.redis_model.specs.declared.history.JobKind.TheVariants.{Flush, Compact}
use Rattle.redis_model.specs.declared.history.JobMark.{JobMark}
use Rattle.redis_model.specs.declared.history.JobMark.TheVariants.{Begun, Done, Dropped, Idle, Met}
use Rattle.redis_model.specs.declared.history.Mark.{Mark}
use Rattle.redis_model.specs.declared.history.ReadView.{ReadView}
use Rattle.redis_model.specs.declared.history.Task.{Task}
use Rattle.redis_model.specs.declared.history.Note.{Note}
use Rattle.redis_model.specs.declared.history.Note.TheVariants.{Saw, Appended, Began}
use Rattle.redis_model.specs.declared.history.Place.{Place}
use Rattle.redis_model.specs.About.{keys_of}
use Rattle.redis_model.specs.Stripes.{has_stripe}
use Rattle.redis_model.specs.Machine.{State, step}
use Rattle.redis_model.specs.Places.{put_before}

-- ---- what was appended

-- the sequence of the batch that an entry appended, where its command has the stripe; a transaction has all
abbrev pub appended_at : ℕ → Step → Note → Option ℕ
appended_at b (Call now caller c) (Appended seq) = if has_stripe (keys_of c) b then Some seq else None
appended_at b (Exec now caller cs) (Appended seq) = Some seq
appended_at b _ _ = None

-- the sequences of all batches of a stripe
abbrev pub sequences_of : ℕ → List Place → List ℕ
sequences_of b [] = []
sequences_of b (p ∷ ps) = put_before (appended_at b p.what p.note) (sequences_of b ps)

-- ---- what ticks saw

-- a view has this count of a stripe
abbrev pub HasMark : ReadView → ℕ → ℕ → Type 0
HasMark view b n = let mark : Mark = record { stripe = b; count = n } in Contains view.marks mark

-- what holds of the view of a tick, and of the state right after it
abbrev pub OfTick : (State → ReadView → Type 0) → State → Step → Note → Type 0
OfTick P s (Tick now caller) (Saw view) = P s view
OfTick P s (Tick now caller) _ = ⊥
OfTick P s _ _ = Unit {0}

-- and so it is with each tick of a history
abbrev pub OfEachTick : (State → ReadView → Type 0) → State → List Place → Type 0
OfEachTick P s [] = Unit {0}
OfEachTick P s (p ∷ ps) = OfTick P (step s p.what).1 p.what p.note × OfEachTick P (step s p.what).1 ps

-- ---- which jobs are open

-- an open job: its caller, and the note of the entry at which it began
pub record OpenJob : Type 0 where
  pub caller : ℕ
  pub note : Note

-- the job that is open after a mark of its kind
abbrev pub marked : Option OpenJob → ℕ → JobMark → Note → Option OpenJob
marked o caller Begun note = Some (record { caller = caller; note = note })
marked o caller Done note = None
marked o caller Dropped note = None
marked o caller Idle note = o
marked o caller Met note = o

-- the open flush after a place, and the open compaction
abbrev pub flush_after : Option OpenJob → Step → Note → Option OpenJob
flush_after o (Job caller Flush mark) note = marked o caller mark note
flush_after o _ note = o

-- the same of compactions
abbrev pub compact_after : Option OpenJob → Step → Note → Option OpenJob
compact_after o (Job caller Compact mark) note = marked o caller mark note
compact_after o _ note = o

-- the flush that is open after a list of places
abbrev pub open_flush : Option OpenJob → List Place → Option OpenJob
open_flush o [] = o
open_flush o (p ∷ ps) = open_flush (flush_after o p.what p.note) ps

-- and the compaction
abbrev pub open_compact : Option OpenJob → List Place → Option OpenJob
open_compact o [] = o
open_compact o (p ∷ ps) = open_compact (compact_after o p.what p.note) ps

-- the task of a job that began
abbrev pub task_in : Note → Option Task
task_in (Began asked task) = Some task
task_in _ = None
