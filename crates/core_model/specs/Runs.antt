-- Every list of events: what each is, the places that it adds, and what the call is answered.
use Rattle.std.specs.Prelude.{◌≡◌, ℕ, Bool, List, [], ◌∷◌, ◌++◌, map, length, Option, Some, None}
use Rattle.batch_codec.specs.Batches.{Batch}
use Rattle.redis_model.specs.declared.reply.Reply.{Reply}
use Rattle.redis_model.specs.declared.command.Command.{Command}
use Rattle.redis_model.specs.declared.command.Cmds.{Cmds}
use Rattle.redis_model.specs.declared.history.Step.TheVariants.{Call, PinNow, PinnedRead, PinnedRefused, Unpin}
use Rattle.redis_model.specs.declared.history.JobKind.TheVariants as kind
use Rattle.redis_model.specs.declared.history.JobMark.TheVariants.{Begun, Done, Dropped, Idle, Met}
use Rattle.redis_model.specs.Machine.{State, step}
use Rattle.core_model.specs.Sources.{Table}
use Rattle.redis_model.specs.declared.history.Place.{Place}
use Rattle.redis_model.specs.declared.history.ReadView.{ReadView}
use Rattle.redis_model.specs.declared.history.Task.{Task}
use Rattle.redis_model.specs.declared.history.JobAsked.TheVariants as want
use Rattle.redis_model.specs.declared.history.Note.{Note}
use Rattle.redis_model.specs.declared.history.Note.TheVariants.{Bare, Began, Found, Counted}
use Rattle.redis_model.specs.Places.{state_at}
use Rattle.core_model.specs.Core.{Compaction, CoreState, compact_task}
use Rattle.filter_laws.specs.Kept.{kept_rows}
use Rattle.core_model.specs.Events.{Glances, Reads, Work, Commits, Lapses, Reruns, PlaysCommands, Pins, Unpins, LooksPinned, RefusesPinned, Freezes, InstallsFlush, DropsFlush, FindsNoFlush, MeetsFlush, BeginsCompact, InstallsCompact, DropsCompact, FindsNoCompact, MeetsCompact, FailsCall, FailsCommit, FailsRerun, tick, bare_place, batch_place, mark}

-- A call of a core, with what it was given and what it answered.
pub data Event : Type 0 where
  Glance : ℕ → ℕ → ReadView → Event
  Read : ℕ → ℕ → Command → Reply → Event
  Commit : Work → Note → Event
  Lapse : Work → Event
  Rerun : ℕ → ℕ → Cmds → ReadView → Batch → Reply → Note → Event
  Play : ℕ → ℕ → Cmds → Batch → Reply → Note → Event
  Pin : ℕ → ℕ → Reply → Event
  LetGo : ℕ → ℕ → Reply → Event
  Look : ℕ → ℕ → Command → Reply → Event
  Refuse : ℕ → ℕ → Cmds → Reply → Event
  Freeze : ℕ → Bool → Task → Event
  NoFlush : ℕ → Bool → Event
  OtherFlush : ℕ → Bool → Event
  InstallFlush : ℕ → Table → Event
  DropFlush : ℕ → Event
  BeginCompact : ℕ → Option ℕ → Compaction → Event
  NoCompact : ℕ → Option ℕ → Event
  OtherCompact : ℕ → Option ℕ → Event
  InstallCompact : ℕ → List Table → Event
  DropCompact : ℕ → Event
  CountLevels : ℕ → List ℕ → Event
  FailCommit : Work → Event
  FailRerun : ℕ → ℕ → Cmds → ReadView → Batch → Reply → Event
  Fail : Event

-- it leads from the core before to the core after
abbrev pub Happens : List Place → CoreState → Event → CoreState → Type 0
Happens seen old (Glance now caller view) new = Glances old new now view
Happens seen old (Read now caller c answer) new = Reads old new now caller c answer
Happens seen old (Commit w note) new = Commits old new seen w note
Happens seen old (Lapse w) new = Lapses old new seen w
Happens seen old (Rerun caller now ds view batch answer note) new = Reruns old new seen caller now ds view batch answer note
Happens seen old (Play caller now ds batch answer note) new = PlaysCommands old new caller now ds batch answer note
Happens seen old (Pin now caller answer) new = Pins old new now caller answer
Happens seen old (LetGo now caller answer) new = Unpins old new now caller answer
Happens seen old (Look now caller c answer) new = LooksPinned old new now caller c answer
Happens seen old (Refuse now caller ds answer) new = RefusesPinned old new now caller ds answer
Happens seen old (Freeze caller forced task) new = Freezes old new caller task
Happens seen old (NoFlush caller forced) new = FindsNoFlush old new
Happens seen old (OtherFlush caller forced) new = MeetsFlush old new
Happens seen old (InstallFlush caller t) new = InstallsFlush old new caller t
Happens seen old (DropFlush caller) new = DropsFlush old new caller
Happens seen old (BeginCompact caller named job) new = BeginsCompact kept_rows old new caller job
Happens seen old (NoCompact caller named) new = FindsNoCompact old new
Happens seen old (OtherCompact caller named) new = MeetsCompact old new
Happens seen old (InstallCompact caller outputs) new = InstallsCompact old new caller outputs
Happens seen old (DropCompact caller) new = DropsCompact old new caller
Happens seen old (CountLevels caller counts) new = (new ≡ old) × (counts ≡ map length old.sources.levels)
Happens seen old (FailCommit w) new = FailsCommit old new seen w
Happens seen old (FailRerun caller now ds view batch answer) new = FailsRerun old new seen caller now ds view batch answer
Happens seen old Fail new = FailsCall old new

-- the places that it adds, one at most
abbrev pub adds : Event → List Place
adds (Glance now caller view) = tick now caller view ∷ []
adds (Read now caller c answer) = bare_place (Call now caller c) ∷ []
adds (Commit w note) = batch_place w.now w.caller w.ds note ∷ []
adds (Lapse w) = []
adds (Rerun caller now ds view batch answer note) = batch_place now caller ds note ∷ []
adds (Play caller now ds batch answer note) = batch_place now caller ds note ∷ []
adds (Pin now caller answer) = bare_place (PinNow now caller) ∷ []
adds (LetGo now caller answer) = bare_place (Unpin now caller) ∷ []
adds (Look now caller c answer) = bare_place (PinnedRead now caller c) ∷ []
adds (Refuse now caller ds answer) = bare_place (PinnedRefused now caller ds) ∷ []
adds (Freeze caller forced task) = mark caller kind.Flush Begun (Began (want.Flush forced) task) ∷ []
adds (NoFlush caller forced) = mark caller kind.Flush Idle (Found (want.Flush forced)) ∷ []
adds (OtherFlush caller forced) = mark caller kind.Flush Met (Found (want.Flush forced)) ∷ []
adds (InstallFlush caller t) = mark caller kind.Flush Done Bare ∷ []
adds (DropFlush caller) = mark caller kind.Flush Dropped Bare ∷ []
adds (BeginCompact caller named job) = mark caller kind.Compact Begun (Began (want.Compact named) (compact_task job)) ∷ []
adds (NoCompact caller named) = mark caller kind.Compact Idle (Found (want.Compact named)) ∷ []
adds (OtherCompact caller named) = mark caller kind.Compact Met (Found (want.Compact named)) ∷ []
adds (InstallCompact caller outputs) = mark caller kind.Compact Done Bare ∷ []
adds (DropCompact caller) = mark caller kind.Compact Dropped Bare ∷ []
adds (CountLevels caller counts) = mark caller kind.Counts Idle (Counted counts) ∷ []
adds (FailCommit w) = []
adds (FailRerun caller now ds view batch answer) = []
adds Fail = []

-- the reply that the call is answered, where it is answered by one
abbrev pub answer_in : Event → Option Reply
answer_in (Read now caller c answer) = Some answer
answer_in (Commit w note) = Some w.answer
answer_in (Rerun caller now ds view batch answer note) = Some answer
answer_in (Play caller now ds batch answer note) = Some answer
answer_in (Pin now caller answer) = Some answer
answer_in (LetGo now caller answer) = Some answer
answer_in (Look now caller c answer) = Some answer
answer_in (Refuse now caller ds answer) = Some answer
answer_in _ = None

-- the machine gives that reply at the place
abbrev pub IsAnsweredAt : State → List Place → Option Reply → Type 0
IsAnsweredAt s [] answer = answer ≡ None
IsAnsweredAt s (p ∷ ps) answer = (step s p.what).0 ≡ answer

-- ---- lists of events

-- the history behind a list of events
abbrev pub seen_after : List Place → List Event → List Place
seen_after seen [] = seen
seen_after seen (e ∷ es) = seen_after (seen ++ adds e) es

-- one after the other they lead from the first core to the last
abbrev pub IsCoreRun : List Place → CoreState → List Event → CoreState → Type 0
IsCoreRun seen core [] new = new ≡ core
IsCoreRun seen core (e ∷ es) new = (mid : CoreState) × Happens seen core e mid × IsCoreRun (seen ++ adds e) mid es new

-- each is answered as the machine answers at its place
abbrev pub AreAnswered : State → List Place → List Event → Type 0
AreAnswered first seen [] = Unit {0}
AreAnswered first seen (e ∷ es) = IsAnsweredAt (state_at first seen) (adds e) (answer_in e) × AreAnswered first (seen ++ adds e) es
