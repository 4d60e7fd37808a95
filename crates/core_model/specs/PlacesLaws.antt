-- A history that goes on by one place.
use Rattle.std.proofs.Common.{◌≡◌, ℕ, zero, suc, List, [], ◌∷◌, ◌++◌, refl, sym, ap, subst, ◌∙◌, length, arith}
use Rattle.std.specs.Prelude.{max, Option, Some, None, option_map}
use Rattle.std.specs.List.{Contains}
use Rattle.std.proofs.lemmas.List.{map-append}
use Rattle.redis_model.specs.declared.history.Step.{Step}
use Rattle.redis_model.specs.declared.history.Step.TheVariants.{Tick, Call, Exec, PinNow, PinnedRead, PinnedRefused, Unpin, Job}
use Rattle.redis_model.specs.declared.history.JobKind.TheVariants as kind
use Rattle.redis_model.specs.declared.history.JobMark.TheVariants.{Begun, Done, Dropped, Idle, Met}
use Rattle.redis_model.specs.Apply.{counted_now}
use Rattle.redis_model.specs.Machine.{State, step, run, reply_at}
use Rattle.redis_model.specs.Legal.{Jobs, no_jobs, jobs_after, MayStep, IsLegal}
use Rattle.redis_model.specs.MachineLaws.{run-append, jobs_left, IsLegalFrom-append}
use Rattle.core_model.specs.Places.{OpenJob, appended_at, sequences_of, OfTick, OfEachTick, flush_after, compact_after, open_flush, open_compact}
use Rattle.redis_model.specs.declared.history.Place.{Place}
use Rattle.redis_model.specs.declared.history.Note.{Note}
use Rattle.redis_model.specs.declared.history.Note.TheVariants.{Bare, Saw, Appended, Began, Found, Counted}
use Rattle.redis_model.specs.declared.history.ReadView.{ReadView}
use Rattle.redis_model.specs.Places.{steps_of, state_at, appended_by, put_before, sequences}

-- a list with one item more
abbrev pub with_place : List Place → Place → List Place
with_place seen p = seen ++ p ∷ []

-- ---- the machine

-- its entries go on by one entry
pub steps_with_place : (seen : List Place) (p : Place) → steps_of (with_place seen p) ≡ steps_of seen ++ p.what ∷ []
steps_with_place seen p = map-append (λ (q : Place). q.what) seen (p ∷ [])

-- and so does the machine
pub state_with_place : (s : State) (seen : List Place) (p : Place) → state_at s (with_place seen p) ≡ (step (state_at s seen) p.what).1
state_with_place s seen p = ap (run s) (steps_with_place seen p) ∙ run-append s (steps_of seen) (p.what ∷ [])

-- what an entry answers is the reply at its place
pub reply_more : (s : State) (seen : List Place) (p : Place) → reply_at s (steps_of (with_place seen p)) (length seen) ≡ (step (state_at s seen) p.what).0
reply_more s seen p = ap (λ (es : List Step). reply_at s es (length seen)) (steps_with_place seen p) ∙ at_end s seen
  where
    at_end : (s : State) (places : List Place) → reply_at s (steps_of places ++ p.what ∷ []) (length places) ≡ (step (state_at s places) p.what).0
    at_end s [] = refl
    at_end s (q ∷ places) = at_end (step s q.what).1 places

-- it stays legal by an entry that may stand there
pub legal_more : (s : State) (seen : List Place) (p : Place) → IsLegal s (steps_of seen) → MayStep (state_at s seen) (jobs_left no_jobs (steps_of seen)) p.what → IsLegal s (steps_of (with_place seen p))
legal_more s seen p legal may =
    subst (IsLegal s) (sym (steps_with_place seen p)) (IsLegalFrom-append s no_jobs (steps_of seen) (p.what ∷ []) legal (may, tt))

-- ---- batches

abbrev listed : Option ℕ → List ℕ
listed o = put_before o []

put_append : (o : Option ℕ) (rest more : List ℕ) → put_before o (rest ++ more) ≡ put_before o rest ++ more
put_append None rest more = refl
put_append (Some n) rest more = refl

-- its batches go on by what the place appended
pub sequences_more : (seen : List Place) (p : Place) → sequences (with_place seen p) ≡ sequences seen ++ put_before (appended_by p.what p.note) []
sequences_more [] p = refl
sequences_more (q ∷ seen) p = ap (put_before (appended_by q.what q.note)) (sequences_more seen p) ∙ put_append (appended_by q.what q.note) (sequences seen) (listed (appended_by p.what p.note))

-- and so do those of a stripe
pub sequences_of_more : (b : ℕ) (seen : List Place) (p : Place) → sequences_of b (with_place seen p) ≡ sequences_of b seen ++ put_before (appended_at b p.what p.note) []
sequences_of_more b [] p = refl
sequences_of_more b (q ∷ seen) p = ap (put_before (appended_at b q.what q.note)) (sequences_of_more b seen p) ∙ put_append (appended_at b q.what q.note) (sequences_of b seen) (listed (appended_at b p.what p.note))

-- ---- ticks

-- what holds of each tick, and of the new place, holds of each tick of the longer history
pub ticks_more : (P : State → ReadView → Type 0) (s : State) (seen : List Place) (p : Place) → OfEachTick P s seen → OfTick P (step (state_at s seen) p.what).1 p.what p.note → OfEachTick P s (with_place seen p)
ticks_more P s [] p all last = (last, tt)
ticks_more P s (q ∷ seen) p all last = (all.0, ticks_more P (step s q.what).1 seen p all.1 last)

tick_weaker : (P Q : State → ReadView → Type 0) → ((s : State) (view : ReadView) → P s view → Q s view) → (s : State) (what : Step) (note : Note) → OfTick P s what note → OfTick Q s what note
tick_weaker P Q h s (Tick now caller) (Saw view) p = h s view p
tick_weaker P Q h s (Tick now caller) Bare p = p
tick_weaker P Q h s (Tick now caller) (Appended n) p = p
tick_weaker P Q h s (Tick now caller) (Began asked task) p = p
tick_weaker P Q h s (Tick now caller) (Found asked) p = p
tick_weaker P Q h s (Tick now caller) (Counted ns) p = p
tick_weaker P Q h s (Call now caller c) note p = tt
tick_weaker P Q h s (Exec now caller cs) note p = tt
tick_weaker P Q h s (PinNow now caller) note p = tt
tick_weaker P Q h s (PinnedRead now caller c) note p = tt
tick_weaker P Q h s (PinnedRefused now caller cs) note p = tt
tick_weaker P Q h s (Unpin now caller) note p = tt
tick_weaker P Q h s (Job caller kind sign) note p = tt

-- what follows from what holds of each tick holds of each, too
pub ticks_weaker : (P Q : State → ReadView → Type 0) → ((s : State) (view : ReadView) → P s view → Q s view) → (s : State) (seen : List Place) → OfEachTick P s seen → OfEachTick Q s seen
ticks_weaker P Q h s [] all = tt
ticks_weaker P Q h s (q ∷ seen) all = (tick_weaker P Q h (step s q.what).1 q.what q.note all.0, ticks_weaker P Q h (step s q.what).1 seen all.1)

-- a tick that is one of the places: what holds of it, and of the state that it came to
pub record Ticked (P : State → ReadView → Type 0) (now caller : ℕ) (view : ReadView) : Type 0 where
  pub before : State
  pub holds : P (step before (Tick now caller)).1 view

-- it holds of a tick that is there
pub tick_there : (P : State → ReadView → Type 0) (s : State) (seen : List Place) (now caller : ℕ) (view : ReadView) → OfEachTick P s seen → Contains seen (record { what = Tick now caller; note = Saw view }) → Ticked P now caller view
tick_there P s [] now caller view all (k, low, is) = absurd (omega arith)
tick_there P s (q ∷ seen) now caller view all (zero, low, is) =
    record { before = s; holds = subst (λ (p : Place). OfTick P (step s p.what).1 p.what p.note) is all.0 }
tick_there P s (q ∷ seen) now caller view all (suc k, low, is) = tick_there P (step s q.what).1 seen now caller view all.1 (k, omega arith, is)

-- the moment of a tick is not below its reading
pub ticks_at : (s : State) (now caller : ℕ) → (step s (Tick now caller)).1.floor ≡ max s.floor (counted_now now)
unfolding step
ticks_at s now caller = refl

-- ---- jobs

-- the open flush goes on by the mark
pub flush_more : (o : Option OpenJob) (seen : List Place) (p : Place) → open_flush o (with_place seen p) ≡ flush_after (open_flush o seen) p.what p.note
flush_more o [] p = refl
flush_more o (q ∷ seen) p = flush_more (flush_after o q.what q.note) seen p

-- and so does the open compaction
pub compact_more : (o : Option OpenJob) (seen : List Place) (p : Place) → open_compact o (with_place seen p) ≡ compact_after (open_compact o seen) p.what p.note
compact_more o [] p = refl
compact_more o (q ∷ seen) p = compact_more (compact_after o q.what q.note) seen p

-- the caller of an open job
abbrev pub caller_of : Option OpenJob → Option ℕ
caller_of = option_map (λ (j : OpenJob). j.caller)

-- the callers of open jobs
abbrev pub callers : Option OpenJob → Option OpenJob → Jobs
callers f c = record { flush = caller_of f; compact = caller_of c }

-- a mark changes the jobs of a legal history as it changes these
pub callers_by : (f c : Option OpenJob) (what : Step) (note : Note) → jobs_after (callers f c) what ≡ callers (flush_after f what note) (compact_after c what note)
callers_by f c (Tick now caller) note = refl
callers_by f c (Call now caller cmd) note = refl
callers_by f c (Exec now caller cs) note = refl
callers_by f c (PinNow now caller) note = refl
callers_by f c (PinnedRead now caller cmd) note = refl
callers_by f c (PinnedRefused now caller cs) note = refl
callers_by f c (Unpin now caller) note = refl
callers_by f c (Job caller kind.Flush Begun) note = refl
callers_by f c (Job caller kind.Flush Done) note = refl
callers_by f c (Job caller kind.Flush Dropped) note = refl
callers_by f c (Job caller kind.Flush Idle) note = refl
callers_by f c (Job caller kind.Flush Met) note = refl
callers_by f c (Job caller kind.Compact Begun) note = refl
callers_by f c (Job caller kind.Compact Done) note = refl
callers_by f c (Job caller kind.Compact Dropped) note = refl
callers_by f c (Job caller kind.Compact Idle) note = refl
callers_by f c (Job caller kind.Compact Met) note = refl
callers_by f c (Job caller kind.Counts sign) note = refl

-- so does a list of places
pub callers_left : (f c : Option OpenJob) (seen : List Place) → jobs_left (callers f c) (steps_of seen) ≡ callers (open_flush f seen) (open_compact c seen)
callers_left f c [] = refl
callers_left f c (q ∷ seen) = ap (λ (j : Jobs). jobs_left j (steps_of seen)) (callers_by f c q.what q.note) ∙ callers_left (flush_after f q.what q.note) (compact_after c q.what q.note) seen

-- the jobs that are open after a history
pub jobs_open : (seen : List Place) → jobs_left no_jobs (steps_of seen) ≡ callers (open_flush None seen) (open_compact None seen)
jobs_open seen = callers_left None None seen
