-- Which histories are legal, and what of a history is a caller's own. All of it is this server's own.
use Rattle.std.specs.Prelude.{◌≡◌, ℕ, ◌==◌, Bool, false, IsTrue, IsFalse, IsSome, IsNone, List, [], ◌∷◌, filter, Option, Some, None}
use Rattle.redis_model.specs.declared.command.Cmds.{Cmds}
use Rattle.redis_model.specs.declared.command.Cmds.TheVariants.{One, Many}
use Rattle.redis_model.specs.About.{writes}
use Rattle.redis_model.specs.declared.history.Step.{Step}
use Rattle.redis_model.specs.declared.history.Step.TheVariants.{Tick, Call, Exec, PinNow, PinnedRead, PinnedRefused, Unpin, Job}
use Rattle.redis_model.specs.declared.history.JobKind.{JobKind}
use Rattle.redis_model.specs.declared.history.JobKind.TheVariants.{Flush, Compact, Counts}
use Rattle.redis_model.specs.declared.history.JobMark.{JobMark}
use Rattle.redis_model.specs.declared.history.JobMark.TheVariants.{Begun, Done, Dropped, Idle, Met}
use Rattle.redis_model.specs.Machine.{State, pin_of, step}

-- a pin refuses a writing command, and several commands whatever they are
abbrev pub IsRefusedUnderPin : Cmds → Type 0
IsRefusedUnderPin (One c) = IsTrue (writes c)
IsRefusedUnderPin (Many cs) = Unit {0}

-- ---- jobs

-- the caller of the job that is open, of each kind
pub record Jobs : Type 0 where
  pub flush : Option ℕ
  pub compact : Option ℕ

abbrev pub no_jobs : Jobs
no_jobs = record { flush = None; compact = None }

-- the caller whose job of a kind is open
abbrev pub open_job : Jobs → JobKind → Option ℕ
open_job j Flush = j.flush
open_job j Compact = j.compact
open_job j Counts = None

abbrev pub with_job : Jobs → JobKind → Option ℕ → Jobs
with_job j Flush o = record j { flush = o }
with_job j Compact o = record j { compact = o }
with_job j Counts o = j

-- the job that is open after a mark, where this one was open before
abbrev pub job_after : Option ℕ → ℕ → JobMark → Option ℕ
job_after o caller Begun = Some caller
job_after o caller Done = None
job_after o caller Dropped = None
job_after o caller Idle = o
job_after o caller Met = o

-- and after an entry of a history
abbrev pub jobs_after : Jobs → Step → Jobs
jobs_after j (Job caller kind mark) = with_job j kind (job_after (open_job j kind) caller mark)
jobs_after j _ = j

-- A mark may stand where this job of its kind is open: a job begins, or has nothing to do, where none is open, it is met
-- where one is, and its own caller ends it. Counting is done at once, so no such job is ever open.
abbrev pub MayMark : Option ℕ → ℕ → JobKind → JobMark → Type 0
MayMark o caller Counts mark = mark ≡ Idle
MayMark o caller kind Begun = IsNone o
MayMark o caller kind Idle = IsNone o
MayMark o caller kind Met = IsSome o
MayMark o caller kind Done = o ≡ Some caller
MayMark o caller kind Dropped = o ≡ Some caller

-- ---- histories

-- An entry may stand where a caller without a pin calls, one with a pin reads or is refused, and a job is marked by the
-- rule for jobs.
abbrev pub MayStep : State → Jobs → Step → Type 0
MayStep s j (Tick now caller) = Unit {0}
MayStep s j (Call now caller c) = IsNone (pin_of s caller)
MayStep s j (Exec now caller cs) = IsNone (pin_of s caller)
MayStep s j (PinNow now caller) = Unit {0}
MayStep s j (PinnedRead now caller c) = IsSome (pin_of s caller) × IsFalse (writes c)
MayStep s j (PinnedRefused now caller cs) = IsSome (pin_of s caller) × IsRefusedUnderPin cs
MayStep s j (Unpin now caller) = Unit {0}
MayStep s j (Job caller kind mark) = MayMark (open_job j kind) caller kind mark

-- each entry may stand where it stands
abbrev pub IsLegalFrom : State → Jobs → List Step → Type 0
IsLegalFrom s j [] = Unit {0}
IsLegalFrom s j (e ∷ es) = MayStep s j e × IsLegalFrom (step s e).1 (jobs_after j e) es

-- a history from a state in which no job is open
abbrev pub IsLegal : State → List Step → Type 0
IsLegal s es = IsLegalFrom s no_jobs es

-- the entries of a caller but its jobs, and its jobs
abbrev pub is_call_of : ℕ → Step → Bool
is_call_of c (Tick now caller) = caller == c
is_call_of c (Call now caller cmd) = caller == c
is_call_of c (Exec now caller cmds) = caller == c
is_call_of c (PinNow now caller) = caller == c
is_call_of c (PinnedRead now caller cmd) = caller == c
is_call_of c (PinnedRefused now caller cmds) = caller == c
is_call_of c (Unpin now caller) = caller == c
is_call_of c (Job caller kind mark) = false

abbrev pub is_job_of : ℕ → Step → Bool
is_job_of c (Job caller kind mark) = caller == c
is_job_of c _ = false

abbrev pub calls_of : ℕ → List Step → List Step
calls_of c es = filter (is_call_of c) es

abbrev pub jobs_of : ℕ → List Step → List Step
jobs_of c es = filter (is_job_of c) es
