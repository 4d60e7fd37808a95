-- The events of a core: each as a relation between the core before it and after it, and the place that it adds to the history.
use Rattle.std.specs.Prelude.{◌≡◌, ◌≢◌, ◌⊎◌, ℕ, ◌+◌, ◌<◌, ◌≤◌, max, length, Bool, true, not, if◌then◌else◌, List, [], ◌∷◌, ◌++◌, map, filter, Option, Some, None, IsTrue, IsFalse, IsSome, IsNone, IfSome}
use Rattle.std.specs.List.{Contains}
use Rattle.kv_base.specs.Map.{Bytes, empty}
use Rattle.kv_base.specs.Hash.{stripe}
use Rattle.batch_codec.specs.Batches.{Batch, are_rows}
use Rattle.batch_codec.specs.Bodies.{body_of}
use Rattle.kv_base.specs.declared.row.Row.{Row}
use Rattle.row_model.specs.Rows.{at, batch_rows}
use Rattle.row_model.specs.RowOrder.{merged}
use Rattle.redis_model.specs.declared.reply.Reply.{Reply}
use Rattle.redis_model.specs.declared.reply.Reply.TheVariants as reply
use Rattle.redis_model.specs.declared.reply.ReplyError.TheVariants.{Pinned, AlreadyPinned, NotPinned}
use Rattle.redis_model.specs.declared.command.Command.{Command}
use Rattle.redis_model.specs.declared.command.Cmds.{Cmds}
use Rattle.redis_model.specs.declared.command.Cmds.TheVariants.{One, Many}
use Rattle.redis_model.specs.declared.history.Step.{Step}
use Rattle.redis_model.specs.declared.history.Step.TheVariants.{Tick, Call, Exec, Job}
use Rattle.redis_model.specs.declared.history.JobKind.{JobKind}
use Rattle.redis_model.specs.declared.history.JobMark.{JobMark}
use Rattle.redis_model.specs.About.{keys_of, writes}
use Rattle.redis_model.specs.Keys.{among}
use Rattle.redis_model.specs.Stripes.{has_stripe}
use Rattle.redis_model.specs.Desk.{last_sequence, longest_body}
use Rattle.redis_model.specs.Legal.{IsRefusedUnderPin}
use Rattle.lives_model.specs.Plans.{IsPlanned, AreAsked, keys_in}
use Rattle.lives_model.specs.Lapses.{lapses}
use Rattle.core_model.specs.Sources.{Table, Sources, rows_in, together, all_rows, in_tables, in_levels, AreAscending}
use Rattle.redis_model.specs.declared.history.Place.{Place}
use Rattle.redis_model.specs.declared.history.ReadView.{ReadView}
use Rattle.redis_model.specs.declared.history.Task.{Task}
use Rattle.redis_model.specs.declared.history.Note.{Note}
use Rattle.redis_model.specs.declared.history.Note.TheVariants.{Bare, Saw, Appended}
use Rattle.core_model.specs.Places.{HasMark}
use Rattle.core_model.specs.Core.{IsCompactionChoice, current, PinAt, watcher_of, Flush, Compaction, Attempt, TriedEdit, CoreState, newest_rows, pin_at, is_at, event_moment, raised, levels_of, levels_with, with_flushed, inputs_of}
use Rattle.filter_laws.specs.declared.watcher.Watcher.{Watcher}

-- ---- a glance, and a reading command

-- The floor rises, and the last sequence, the rows and the counts of some stripes are handed out.
pub record Glances (old new : CoreState) (now : ℕ) (view : ReadView) : Type 0 where
  pub core : new ≡ raised old now
  pub seq : view.seq ≡ old.last
  pub moment : view.moment ≡ new.floor
  pub rows : view.rows.map ≡ newest_rows old
  pub marks : (b mark : ℕ) → HasMark view b mark → (b < 16) × (mark ≡ old.books b)

-- the place of a glance
abbrev pub tick : ℕ → ℕ → ReadView → Place
tick now caller view = record { what = Tick now caller; note = Saw view }

-- A reading command of a caller without a pin: the floor rises, and its plan on the rows has this reply.
pub record Reads (old new : CoreState) (now caller : ℕ) (c : Command) (reply : Reply) : Type 0 where
  pub core : new ≡ raised old now
  pub free : IsNone (pin_at old caller)
  pub asked : AreAsked (One c)
  pub reads : IsFalse (writes c)
  pub batch : Batch
  pub until : Option ℕ
  pub plan : IsPlanned (newest_rows new) new.floor new.last (One c) batch reply until

-- a place of which nothing else is known
abbrev pub bare_place : Step → Place
bare_place what = record { what = what; note = Bare }

-- ---- a batch

-- the entry of one command, or of a transaction
abbrev pub entry_with : ℕ → ℕ → Cmds → Step
entry_with now caller (One c) = Call now caller c
entry_with now caller (Many cs) = Exec now caller cs

-- a transaction counts on each stripe
abbrev pub counts_on : Cmds → ℕ → Bool
counts_on (One c) b = has_stripe (keys_of c) b
counts_on (Many cs) b = true

-- the core after a batch
abbrev pub core_with_batch : CoreState → Cmds → Batch → CoreState
core_with_batch core ds batch = record core {
  sources = record core.sources { memory = merged core.sources.memory (batch_rows (core.last + 1) batch) };
  last = core.last + 1;
  books = λ b. if counts_on ds b then core.books b + 1 else core.books b;
  attempt = None;
}

-- An empty batch changes nothing.
pub record IsQuiet (old new : CoreState) (batch : Batch) (note : Note) : Type 0 where
  pub nothing : batch ≡ empty
  pub core : new ≡ old
  pub bare : note ≡ Bare

-- Any other gets the next sequence, and is counted on the stripes of its commands.
pub record IsAppended (old new : CoreState) (ds : Cmds) (batch : Batch) (note : Note) : Type 0 where
  pub room : old.last < last_sequence
  pub fits : length (body_of (old.last + 1) old.floor batch) ≤ longest_body
  pub core : new ≡ core_with_batch old ds batch
  pub sequence : note ≡ Appended (old.last + 1)

-- a batch is appended, where it is not empty
abbrev pub Appends : CoreState → CoreState → Cmds → Batch → Note → Type 0
Appends old new ds batch note = IsQuiet old new batch note ⊎ ((batch ≢ empty) × IsAppended old new ds batch note)

-- commands of a caller without a pin, which can be asked for, and a batch on the grammar
pub record CanAppend (core : CoreState) (caller : ℕ) (ds : Cmds) (batch : Batch) : Type 0 where
  pub free : IsNone (pin_at core caller)
  pub asked : AreAsked ds
  pub rows : IsTrue (are_rows batch.entries)

-- ---- commit, exec, rerun and play

-- what a caller hands in: a reading, commands, what it saw at that reading, and its plan on that
pub record Work : Type 0 where
  pub caller : ℕ
  pub now : ℕ
  pub ds : Cmds
  pub view : ReadView
  pub batch : Batch
  pub answer : Reply
  pub until : Option ℕ

-- A tick of the caller saw it. The plan is one on what it saw, and for each key of the commands the count of its stripe is
-- the mark.
pub record CanCommit (core : CoreState) (seen : List Place) (w : Work) : Type 0 where
  pub own : CanAppend core w.caller w.ds w.batch
  pub ticked : Contains seen (tick w.now w.caller w.view)
  pub plan : IsPlanned w.view.rows.map w.view.moment w.view.seq w.ds w.batch w.answer w.until
  pub marks : (k : Bytes) → IsTrue (among (keys_in w.ds) k) → HasMark w.view (stripe k) (core.books (stripe k))

-- the plan has not lapsed, and its batch is appended
pub record Commits (old new : CoreState) (seen : List Place) (w : Work) (note : Note) : Type 0 where
  pub can : CanCommit old seen w
  pub current : IsFalse (lapses w.view.moment old.floor w.until w.ds)
  pub appends : Appends old new w.ds w.batch note

-- it has, and nothing changes
pub record Lapses (old new : CoreState) (seen : List Place) (w : Work) : Type 0 where
  pub can : CanCommit old seen w
  pub lapsed : IsTrue (lapses w.view.moment old.floor w.until w.ds)
  pub core : new ≡ old

-- A work that lapsed is planned anew on the newest rows, at the floor, and that batch is appended.
pub record Reruns (old new : CoreState) (seen : List Place) (caller now : ℕ) (ds : Cmds) (view : ReadView) (batch : Batch) (answer : Reply) (note : Note) : Type 0 where
  pub own : CanAppend old caller ds batch
  pub ticked : Contains seen (tick now caller view)
  pub until : Option ℕ
  pub plan : IsPlanned (newest_rows old) old.floor old.last ds batch answer until
  pub appends : Appends old new ds batch note

-- In one event the floor rises, commands are planned on the newest rows, and the batch is appended.
pub record PlaysCommands (old new : CoreState) (caller now : ℕ) (ds : Cmds) (batch : Batch) (answer : Reply) (note : Note) : Type 0 where
  pub own : CanAppend old caller ds batch
  pub until : Option ℕ
  pub plan : IsPlanned (newest_rows old) (event_moment old now) old.last ds batch answer until
  pub appends : Appends (raised old now) new ds batch note

-- the place of commands that wrote, or had nothing to write
abbrev pub batch_place : ℕ → ℕ → Cmds → Note → Place
batch_place now caller ds note = record { what = entry_with now caller ds; note = note }

-- ---- pins

-- the answer to a caller that has this pin
abbrev pub pin_answer : Option PinAt → Reply
pin_answer None = reply.Ok
pin_answer (Some p) = reply.Error AlreadyPinned

-- a caller without a pin gets one on the newest rows
abbrev pub with_pin : CoreState → ℕ → Option PinAt → CoreState
with_pin core caller None = record core { pins = core.pins ++ record { caller = caller; seq = core.last; moment = core.floor } ∷ [] }
with_pin core caller (Some p) = core

-- A caller keeps the keys as they are now.
pub record Pins (old new : CoreState) (now caller : ℕ) (answer : Reply) : Type 0 where
  pub core : new ≡ with_pin (raised old now) caller (pin_at old caller)
  pub reply : answer ≡ pin_answer (pin_at old caller)

-- the answer to a caller that had this pin
abbrev pub unpin_answer : Option PinAt → Reply
unpin_answer None = reply.Error NotPinned
unpin_answer (Some p) = reply.Ok

-- the caller's pin is gone
abbrev pub without_pin : CoreState → ℕ → Option PinAt → CoreState
without_pin core caller None = core
without_pin core caller (Some p) = record core { pins = filter (λ q. not (is_at caller q)) core.pins }

-- A caller lets its pin go.
pub record Unpins (old new : CoreState) (now caller : ℕ) (answer : Reply) : Type 0 where
  pub core : new ≡ without_pin (raised old now) caller (pin_at old caller)
  pub reply : answer ≡ unpin_answer (pin_at old caller)

-- a reading command of a caller with a pin: its plan on the rows at the pin has this reply
pub record LooksPinned (old new : CoreState) (now caller : ℕ) (c : Command) (answer : Reply) : Type 0 where
  pub core : new ≡ raised old now
  pub pin : PinAt
  pub found : pin_at old caller ≡ Some pin
  pub asked : AreAsked (One c)
  pub reads : IsFalse (writes c)
  pub batch : Batch
  pub until : Option ℕ
  pub plan : IsPlanned (at (rows_in old.sources) pin.seq) pin.moment pin.seq (One c) batch answer until

-- A writing command, or a transaction, of a caller with a pin is refused.
pub record RefusesPinned (old new : CoreState) (now caller : ℕ) (ds : Cmds) (answer : Reply) : Type 0 where
  pub core : new ≡ raised old now
  pub pinned : IsSome (pin_at old caller)
  pub refused : IsRefusedUnderPin ds
  pub reply : answer ≡ reply.Error Pinned

-- ---- what waits to be mended

-- after a call: what waited before, or nothing any more
abbrev pub IsMended : {X : Type 0} → Option X → Option X → Type 0
IsMended old new = (new ≡ old) ⊎ (new ≡ None)

-- ---- flushes

-- a frozen memtable that waits is taken, else the memtable is frozen
abbrev pub frozen_of : Sources → Option (List Row) → Sources
frozen_of s (Some rows) = s
frozen_of s None = record s { memory = []; frozen = Some s.memory }

-- the rows that are to be flushed
abbrev pub to_flush : Sources → Option (List Row) → List Row
to_flush s (Some rows) = rows
to_flush s None = s.memory

-- where the memtable is frozen, the log is mended with it
abbrev pub attempt_after : Option (List Row) → Option Attempt → Option Attempt
attempt_after (Some rows) o = o
attempt_after None o = None

-- the core with an open flush
abbrev pub with_flush : CoreState → ℕ → CoreState
with_flush core caller = record core {
  sources = frozen_of core.sources core.sources.frozen;
  flush = Some (record { caller = caller; run = core.next_run; rows = to_flush core.sources core.sources.frozen });
  attempt = attempt_after core.sources.frozen core.attempt;
  next_run = core.next_run + 1;
}

-- A flush begins, where none is open and there are rows for it.
pub record Freezes (old new : CoreState) (caller : ℕ) (task : Task) : Type 0 where
  pub none : old.flush ≡ None
  pub some : 0 < length (to_flush old.sources old.sources.frozen)
  pub core : new ≡ with_flush old caller
  pub task_is : task ≡ record { run = old.next_run; level = 0; gone = []; rows = record { rows = to_flush old.sources old.sources.frozen } }

-- a table comes to be the first of level 0
abbrev pub put_in_front : Table → List (List Table) → List (List Table)
put_in_front t [] = (t ∷ []) ∷ []
put_in_front t (top ∷ deeper) = (t ∷ top) ∷ deeper

-- the table of the frozen rows becomes the first of level 0
pub record InstallsFlush (old new : CoreState) (caller : ℕ) (t : Table) : Type 0 where
  pub flush : Flush
  pub open_ : old.flush ≡ Some flush
  pub own : flush.caller ≡ caller
  pub run : t.run ≡ flush.run
  pub rows : t.rows ≡ flush.rows
  pub core : new ≡ record old {
    sources = record old.sources { frozen = None; levels = put_in_front t old.sources.levels };
    flush = None;
    tried = None;
    log = old.log + 1;
    manifest_floor = old.floor;
  }

-- It is given up, or its end failed: the frozen rows wait again.
pub record DropsFlush (old new : CoreState) (caller : ℕ) : Type 0 where
  pub flush : Flush
  pub open_ : old.flush ≡ Some flush
  pub own : flush.caller ≡ caller
  pub tried : Option TriedEdit
  pub mended : IsMended old.tried tried
  pub core : new ≡ record old { flush = None; tried = tried }

-- ---- compactions

-- what a compaction leaves of its inputs, by the watchers, the inputs in order, the rows of deeper levels and all rows
abbrev pub Filter : Type 0
Filter = List Watcher → List Row → List Row → List Row → List Row

-- without a filter it leaves them all
abbrev pub keep_all : Filter
keep_all watch inputs deeper all = inputs

-- who watches a compaction that begins now: each pin, and the newest rows
abbrev pub watchers : CoreState → List Watcher
watchers core = map watcher_of core.pins ++ record { seq = core.last; moment = core.floor } ∷ []

-- A compaction begins, where none is open and its choice is fit. The filter says which rows it is to leave.
pub record BeginsCompact (filter : Filter) (old new : CoreState) (caller : ℕ) (job : Compaction) : Type 0 where
  pub none : old.compact ≡ None
  pub own : job.caller ≡ caller
  pub run : job.run ≡ old.next_run
  pub level : job.level ≡ length job.choice.above
  pub levels : old.sources.levels ≡ levels_of job.choice
  pub choice : IsCompactionChoice job.choice
  pub some : 0 < length job.choice.chosen
  pub all : job.all ≡ rows_in old.sources
  pub watch : job.watch ≡ watchers old
  pub rows : job.rows ≡ filter job.watch (together (inputs_of job.choice)) (all_rows (in_levels job.choice.deeper)) job.all
  pub core : new ≡ record old { compact = Some job; next_run = old.next_run + 1 }

-- The outputs hold the rows of the task in order, and stand in the place of the inputs.
pub record InstallsCompact (old new : CoreState) (caller : ℕ) (outputs : List Table) : Type 0 where
  pub job : Compaction
  pub open_ : old.compact ≡ Some job
  pub own : job.caller ≡ caller
  pub rows : all_rows (in_tables outputs) ≡ job.rows
  pub ascending : AreAscending (in_tables outputs)
  pub flushed : List Table
  pub since : old.sources.levels ≡ levels_of (with_flushed flushed job.choice)
  pub core : new ≡ record old {
    sources = record old.sources { levels = levels_with (with_flushed flushed job.choice) outputs };
    compact = None;
    attempt = None;
    tried = None;
    manifest_floor = max old.manifest_floor (current job.watch).moment;
  }

-- the edit of its end was tried, after the log was mended
pub record IsTriedBy (old : CoreState) (job : Compaction) (edit : TriedEdit) : Type 0 where
  pub outputs : List Table
  pub rows : all_rows (in_tables outputs) ≡ job.rows
  pub ascending : AreAscending (in_tables outputs)
  pub flushed : List Table
  pub since : old.sources.levels ≡ levels_of (with_flushed flushed job.choice)
  pub levels : edit.levels ≡ levels_with (with_flushed flushed job.choice) outputs
  pub floor : edit.floor ≡ max old.manifest_floor (current job.watch).moment

-- It is given up, or its end failed: then its edit may wait to be mended.
pub record DropsCompact (old new : CoreState) (caller : ℕ) : Type 0 where
  pub job : Compaction
  pub open_ : old.compact ≡ Some job
  pub own : job.caller ≡ caller
  pub attempt : Option Attempt
  pub mended : IsMended old.attempt attempt
  pub tried : Option TriedEdit
  pub waits : IsMended old.tried tried ⊎ ((attempt ≡ None) × IfSome tried (IsTriedBy old job))
  pub core : new ≡ record old { compact = None; attempt = attempt; tried = tried }

-- ---- marks of jobs

-- the place of a job's mark
abbrev pub mark : ℕ → JobKind → JobMark → Note → Place
mark caller kind sign note = record { what = Job caller kind sign; note = note }

-- nothing to do, where none is open; or one is
pub record FindsNoFlush (old new : CoreState) : Type 0 where
  pub none : old.flush ≡ None
  pub core : new ≡ old

-- a flush is open already
pub record MeetsFlush (old new : CoreState) : Type 0 where
  pub some : IsSome old.flush
  pub core : new ≡ old

-- there is no compaction to begin
pub record FindsNoCompact (old new : CoreState) : Type 0 where
  pub none : old.compact ≡ None
  pub core : new ≡ old

-- a compaction is open already
pub record MeetsCompact (old new : CoreState) : Type 0 where
  pub some : IsSome old.compact
  pub core : new ≡ old

-- ---- faults

-- A call that failed leaves rows, pins and jobs as they were. What waited to be mended waits still, or was mended.
pub record FailsCall (old new : CoreState) : Type 0 where
  pub attempt : Option Attempt
  pub mended : IsMended old.attempt attempt
  pub tried : Option TriedEdit
  pub mended_too : IsMended old.tried tried
  pub core : new ≡ record old { attempt = attempt; tried = tried }

-- the core after an append that failed at its gate: the batch waits to be mended
abbrev pub with_attempt : CoreState → Batch → CoreState
with_attempt core batch = record core { attempt = Some (record { batch = batch; moment = core.floor }) }

-- a commit that failed so
pub record FailsCommit (old new : CoreState) (seen : List Place) (w : Work) : Type 0 where
  pub can : CanCommit old seen w
  pub current : IsFalse (lapses w.view.moment old.floor w.until w.ds)
  pub room : old.last < last_sequence
  pub core : new ≡ with_attempt old w.batch

-- and a rerun
pub record FailsRerun (old new : CoreState) (seen : List Place) (caller now : ℕ) (ds : Cmds) (view : ReadView) (batch : Batch) (answer : Reply) : Type 0 where
  pub own : CanAppend old caller ds batch
  pub ticked : Contains seen (tick now caller view)
  pub until : Option ℕ
  pub plan : IsPlanned (newest_rows old) old.floor old.last ds batch answer until
  pub room : old.last < last_sequence
  pub core : new ≡ with_attempt old batch
