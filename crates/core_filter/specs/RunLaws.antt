-- The theorem: every list of events keeps the relation, and each call is answered as the machine answers it.
use Rattle.std.proofs.Common.{◌≡◌, ℕ, ◌+◌, List, [], ◌∷◌, ◌++◌, refl, sym, ap, subst, ◌∙◌, Bool, append-nil, inl, inr, arith}
use Rattle.std.specs.Prelude.{Option, Some, None, IfSome}
use Rattle.batch_codec.specs.Batches.{Batch}
use Rattle.redis_model.specs.declared.reply.Reply.{Reply}
use Rattle.redis_model.specs.declared.command.Command.{Command}
use Rattle.redis_model.specs.declared.command.Cmds.{Cmds}
use Rattle.redis_model.specs.declared.history.Step.TheVariants.{Tick, Call, PinNow, PinnedRead, PinnedRefused, Unpin, Job}
use Rattle.redis_model.specs.declared.history.JobKind.{JobKind}
use Rattle.redis_model.specs.declared.history.JobKind.TheVariants as kind
use Rattle.redis_model.specs.declared.history.JobMark.{JobMark}
use Rattle.redis_model.specs.declared.history.JobMark.TheVariants.{Begun, Done, Dropped, Idle, Met}
use Rattle.redis_model.specs.Machine.{State, step}
use Rattle.redis_model.specs.Value.{alive}
use Rattle.lives_model.specs.Plans.{IsPlanned, IsPlanFor, AreAsked}
use Rattle.lives_model.specs.IssuedLaws.{issued_is_ready}
use Rattle.core_model.specs.Sources.{Table, rows_in}
use Rattle.redis_model.specs.declared.history.Place.{Place}
use Rattle.redis_model.specs.declared.history.ReadView.{ReadView}
use Rattle.redis_model.specs.declared.history.Task.{Task}
use Rattle.redis_model.specs.declared.history.JobAsked.TheVariants as want
use Rattle.redis_model.specs.declared.history.Note.{Note}
use Rattle.redis_model.specs.declared.history.Note.TheVariants.{Bare, Began, Found, Counted}
use Rattle.redis_model.specs.Places.{state_at, Opening}
use Rattle.core_model.specs.Core.{PinAt, Flush, flushed_above, flushed_front, Compaction, CoreState, pin_at, newest_rows, event_moment, raised, compact_task}
use Rattle.core_model.specs.Stands.{IsSince, Stands}
use Rattle.filter_laws.specs.Kept.{kept_rows}
use Rattle.core_model.specs.Events.{Glances, Reads, Work, Commits, Reruns, PlaysCommands, Pins, Unpins, LooksPinned, RefusesPinned, Freezes, InstallsFlush, DropsFlush, BeginsCompact, DropsCompact, FailsCall, Appends, with_pin, without_pin, put_in_front, with_attempt, with_flush, tick, bare_place, batch_place, mark}
use Rattle.core_model.specs.PlacesLaws.{with_place}
use Rattle.lives_model.specs.IssuedRowLaws.{shown_is_issued}
use Rattle.core_events.specs.GoingLaws.{later_keys}
use Rattle.core_events.specs.RaisingLaws.{glance_stands}
use Rattle.core_events.specs.CommittingLaws.{was_seen, same_core, planned_carried, play_stands, rerun_stands, commit_stands, commit_carried}
use Rattle.core_events.specs.AppendingLaws.{IsCarried}
use Rattle.core_events.specs.PinningLaws.{read_stands, pin_stands, unpin_stands, look_stands, refuse_stands}
use Rattle.core_events.specs.FlushingLaws.{freeze_stands, install_flush_stands, drop_flush_stands, drop_compact_stands, find_no_flush_stands, meet_flush_stands, find_no_compact_stands, meet_compact_stands, count_stands, fail_stands, waiting_stands, frozen_rows, same_lists, same_sources}
use Rattle.core_events.specs.CompactingLaws.{begin_compact_stands}
use Rattle.core_model.specs.Filtered.{IsFiltered, StandsFiltered}
use Rattle.core_filter.specs.WatchingLaws.{still_filtered, raised_filtered, pinned_filtered, unpinned_filtered, begin_filtered, carried_filtered, planned_lives, commit_lives, HasNewLives}
use Rattle.core_filter.specs.FilteringLaws.{install_filtered_stands}
use Rattle.core_model.specs.Runs.{Event, Glance, Read, Commit, Lapse, Rerun, Play, Pin, LetGo, Look, Refuse, Freeze, NoFlush, OtherFlush, InstallFlush, DropFlush, BeginCompact, NoCompact, OtherCompact, InstallCompact, DropCompact, CountLevels, FailCommit, FailRerun, Fail, Happens, adds, answer_in, IsAnsweredAt, seen_after, IsCoreRun, AreAnswered}

-- ---- an open compaction under each event

-- it is filtered as before, where it is open as before
filtered_on : (core new : CoreState) → new.compact ≡ core.compact → ((job : Compaction) → core.compact ≡ Some job → IsFiltered core job → IsFiltered new job) → IfSome core.compact (IsFiltered core) → IfSome new.compact (IsFiltered new)
filtered_on core new same still filtered = subst (λ (o : Option Compaction). IfSome o (IsFiltered new)) (sym same) (by_open core.compact refl filtered)
  where
    by_open : (o : Option Compaction) → core.compact ≡ o → IfSome o (IsFiltered core) → IfSome o (IsFiltered new)
    by_open None e h = tt
    by_open (Some job) e h = still job e h

since_of : (opening : Opening) (core : CoreState) (seen : List Place) (job : Compaction) → Stands opening core seen → core.compact ≡ Some job → IsSince core job
since_of opening core seen job stands is = subst (λ (o : Option Compaction). IfSome o (IsSince core)) is stands.jobs.since

-- the floor rises
floor_filtered : (core : CoreState) (now : ℕ) → IfSome core.compact (IsFiltered core) → IfSome core.compact (IsFiltered (raised core now))
floor_filtered core now filtered = filtered_on core (raised core now) refl (λ job is h. raised_filtered core now job h) filtered

-- sources with the same rows
rows_filtered : (core new : CoreState) → new.compact ≡ core.compact → new.last ≡ core.last → new.floor ≡ core.floor → new.pins ≡ core.pins → rows_in new.sources ≡ rows_in core.sources → IfSome core.compact (IsFiltered core) → IfSome new.compact (IsFiltered new)
rows_filtered core new compact last floor pins rows filtered = filtered_on core new compact (λ job is h. still_filtered core new job (omega (arith, floor)) last pins rows h) filtered

-- ---- small things

unflushed : (above : List (List Table)) (front others : List Table) (deeper : List (List Table)) → flushed_above [] above ++ (flushed_front [] above front ++ others) ∷ deeper ≡ above ++ (front ++ others) ∷ deeper
unflushed [] front others deeper = refl
unflushed (top ∷ above) front others deeper = refl

-- the plan that a planner made on the newest rows
pub plan_made : (opening : Opening) (core : CoreState) (seen : List Place) (now : ℕ) (ds : Cmds) (batch : Batch) (answer : Reply) (until : Option ℕ) → Stands opening core seen → AreAsked ds
    → IsPlanned (newest_rows core) (event_moment core now) core.last ds batch answer until → IsPlanFor (newest_rows core) (event_moment core now) core.last (alive (state_at opening.state seen).keys (event_moment core now)) ds batch answer until
plan_made opening core seen now ds batch answer until stands asked planned =
    planned.plan (alive (state_at opening.state seen).keys (event_moment core now))
    (later_keys (newest_rows core) core.floor (event_moment core now) (state_at opening.state seen).keys (omega arith) stands.keys.means)
    (issued_is_ready (newest_rows core) (event_moment core now) core.last ds stands.counts.limit asked (shown_is_issued (rows_in core.sources) core.last stands.rows.issued))

-- ---- each event

no_reply_of_tick : (s : State) (now caller : ℕ) → (step s (Tick now caller)).0 ≡ None
unfolding step
no_reply_of_tick s now caller = refl

no_reply_of_job : (s : State) (caller : ℕ) (k : JobKind) (sign : JobMark) → (step s (Job caller k sign)).0 ≡ None
unfolding step
no_reply_of_job s caller k sign = refl

module _ (opening : Opening) (core new : CoreState) (seen : List Place) (whole : StandsFiltered opening core seen) where
  abbrev s : State
  s = state_at opening.state seen

  -- a glance
  pub glance_whole : (now caller : ℕ) (view : ReadView) → Glances core new now view → StandsFiltered opening new (with_place seen (tick now caller view))
  glance_whole now caller view g = record {
    stands = glance_stands opening core new seen now caller view whole.stands g;
    filtered = subst (λ (c : CoreState). IfSome c.compact (IsFiltered c)) (sym g.core) (floor_filtered core now whole.filtered);
  }

  -- a reading command
  pub read_whole : (now caller : ℕ) (c : Command) (answer : Reply) → Reads core new now caller c answer → StandsFiltered opening new (with_place seen (bare_place (Call now caller c)))
  read_whole now caller c answer r = record {
    stands = (read_stands opening core new seen now caller c answer whole.stands r).0;
    filtered = subst (λ (x : CoreState). IfSome x.compact (IsFiltered x)) (sym r.core) (floor_filtered core now whole.filtered);
  }

  -- the compaction stays open under a batch
  appends_compact : (mid : CoreState) (ds : Cmds) (batch : Batch) (note : Note) → Appends mid new ds batch note → new.compact ≡ mid.compact
  appends_compact mid ds batch note (inl q) = ap (λ (c : CoreState). c.compact) q.core
  appends_compact mid ds batch note (inr p) = ap (λ (c : CoreState). c.compact) p.1.core

  append_filtered : (now caller : ℕ) (ds : Cmds) (batch : Batch) (answer : Reply) (note : Note) → IsCarried core (state_at opening.state seen) (event_moment core now) ds batch answer → HasNewLives core (event_moment core now) ds batch
      → Appends (raised core now) new ds batch note → IfSome new.compact (IsFiltered new)
  append_filtered now caller ds batch answer note carried lives appends =
      filtered_on core new (appends_compact (raised core now) ds batch note appends)
      (λ job is h. carried_filtered opening core new seen now caller ds batch answer note job whole.stands (since_of opening core seen job whole.stands is) carried lives appends h) whole.filtered

  -- commands that are planned and written at once
  pub play_whole : (caller now : ℕ) (ds : Cmds) (batch : Batch) (answer : Reply) (note : Note) → PlaysCommands core new caller now ds batch answer note → StandsFiltered opening new (with_place seen (batch_place now caller ds note))
  play_whole caller now ds batch answer note p = record {
    stands = (play_stands opening core new seen caller now ds batch answer note whole.stands p).0;
    filtered = append_filtered now caller ds batch answer note (planned_carried opening core seen now ds batch answer p.until whole.stands p.own.asked p.own.rows p.plan)
        (planned_lives opening core seen (event_moment core now) (alive s.keys (event_moment core now)) ds batch answer p.until whole.stands (plan_made opening core seen now ds batch answer p.until whole.stands p.own.asked p.plan)) p.appends;
  }

  -- commands that are planned anew
  pub rerun_whole : (caller now : ℕ) (ds : Cmds) (view : ReadView) (batch : Batch) (answer : Reply) (note : Note) → Reruns core new seen caller now ds view batch answer note → StandsFiltered opening new (with_place seen (batch_place now caller ds note))
  rerun_whole caller now ds view batch answer note r =
      let was = was_seen opening core seen now caller view whole.stands r.ticked in
      let same = same_core core now was.early in
      let plan : IsPlanned (newest_rows core) (event_moment core now) core.last ds batch answer r.until = subst (λ (t : ℕ). IsPlanned (newest_rows core) t core.last ds batch answer r.until) (sym (ap (λ (c : CoreState). c.floor) same)) r.plan in
      record {
        stands = (rerun_stands opening core new seen caller now ds view batch answer note whole.stands r).0;
        filtered = append_filtered now caller ds batch answer note (planned_carried opening core seen now ds batch answer r.until whole.stands r.own.asked r.own.rows plan)
            (planned_lives opening core seen (event_moment core now) (alive s.keys (event_moment core now)) ds batch answer r.until whole.stands (plan_made opening core seen now ds batch answer r.until whole.stands r.own.asked plan))
            (subst (λ (c : CoreState). Appends c new ds batch note) (sym same) r.appends);
      }

  -- a plan on what was seen
  pub commit_whole : (w : Work) (note : Note) → Commits core new seen w note → StandsFiltered opening new (with_place seen (batch_place w.now w.caller w.ds note))
  commit_whole w note c =
      let was = was_seen opening core seen w.now w.caller w.view whole.stands c.can.ticked in
      let same = same_core core w.now was.early in
      let at_it : core.floor ≡ event_moment core w.now = sym (ap (λ (x : CoreState). x.floor) same) in
      record {
        stands = (commit_stands opening core new seen w note whole.stands c).0;
        filtered = append_filtered w.now w.caller w.ds w.batch w.answer note
            (subst (λ (t : ℕ). IsCarried core s t w.ds w.batch w.answer) at_it (commit_carried opening core seen w whole.stands c.can was c.current))
            (subst (λ (t : ℕ). HasNewLives core t w.ds w.batch) at_it (commit_lives opening core seen w whole.stands c.can was c.current))
            (subst (λ (x : CoreState). Appends x new w.ds w.batch note) (sym same) c.appends);
      }

  -- a pin
  pub pin_whole : (now caller : ℕ) (answer : Reply) → Pins core new now caller answer → StandsFiltered opening new (with_place seen (bare_place (PinNow now caller)))
  pin_whole now caller answer p = record {
    stands = (pin_stands opening core new seen now caller answer whole.stands p).0;
    filtered = subst (λ (c : CoreState). IfSome c.compact (IsFiltered c)) (sym p.core) (by_pin (pin_at core caller));
  }
    where
      by_pin : (o : Option PinAt) → IfSome (with_pin (raised core now) caller o).compact (IsFiltered (with_pin (raised core now) caller o))
      by_pin None = filtered_on core (with_pin (raised core now) caller None) refl (λ job is h. pinned_filtered core now caller job h) whole.filtered
      by_pin (Some q) = floor_filtered core now whole.filtered

  -- and its end
  pub unpin_whole : (now caller : ℕ) (answer : Reply) → Unpins core new now caller answer → StandsFiltered opening new (with_place seen (bare_place (Unpin now caller)))
  unpin_whole now caller answer u = record {
    stands = (unpin_stands opening core new seen now caller answer whole.stands u).0;
    filtered = subst (λ (c : CoreState). IfSome c.compact (IsFiltered c)) (sym u.core) (by_pin (pin_at core caller));
  }
    where
      by_pin : (o : Option PinAt) → IfSome (without_pin (raised core now) caller o).compact (IsFiltered (without_pin (raised core now) caller o))
      by_pin None = floor_filtered core now whole.filtered
      by_pin (Some q) = filtered_on core (without_pin (raised core now) caller (Some q)) refl (λ job is h. unpinned_filtered core now caller job h) whole.filtered

  -- a look at the rows of a pin
  pub look_whole : (now caller : ℕ) (c : Command) (answer : Reply) → LooksPinned core new now caller c answer → StandsFiltered opening new (with_place seen (bare_place (PinnedRead now caller c)))
  look_whole now caller c answer l = record {
    stands = (look_stands opening core new seen now caller c answer whole.stands l).0;
    filtered = subst (λ (x : CoreState). IfSome x.compact (IsFiltered x)) (sym l.core) (floor_filtered core now whole.filtered);
  }

  -- a refusal under a pin
  pub refuse_whole : (now caller : ℕ) (ds : Cmds) (answer : Reply) → RefusesPinned core new now caller ds answer → StandsFiltered opening new (with_place seen (bare_place (PinnedRefused now caller ds)))
  refuse_whole now caller ds answer r = record {
    stands = (refuse_stands opening core new seen now caller ds answer whole.stands r).0;
    filtered = subst (λ (x : CoreState). IfSome x.compact (IsFiltered x)) (sym r.core) (floor_filtered core now whole.filtered);
  }

  -- a flush that begins
  pub freeze_whole : (caller : ℕ) (forced : Bool) (task : Task) → Freezes core new caller task → StandsFiltered opening new (with_place seen (mark caller kind.Flush Begun (Began (want.Flush forced) task)))
  freeze_whole caller forced task f = record {
    stands = freeze_stands opening core new seen caller (want.Flush forced) task whole.stands f;
    filtered = subst (λ (c : CoreState). IfSome c.compact (IsFiltered c)) (sym f.core) (rows_filtered core (with_flush core caller) refl refl refl refl (frozen_rows core.sources core.sources.frozen refl) whole.filtered);
  }

  -- and ends
  pub install_flush_whole : (caller : ℕ) (t : Table) → InstallsFlush core new caller t → StandsFiltered opening new (with_place seen (mark caller kind.Flush Done Bare))
  install_flush_whole caller t i = record {
    stands = install_flush_stands opening core new seen caller Bare t whole.stands i;
    filtered = subst (λ (c : CoreState). IfSome c.compact (IsFiltered c)) (sym i.core) (rows_filtered core (record core {
      sources = record core.sources { frozen = None; levels = put_in_front t core.sources.levels };
      flush = None;
      tried = None;
      log = core.log + 1;
      manifest_floor = core.floor;
    }) refl refl refl refl
        (same_sources core.sources (record core.sources { frozen = None; levels = put_in_front t core.sources.levels })
        (same_lists core.sources t i.flush.rows (subst (λ (o : Option Flush). IfSome o (λ f. core.sources.frozen ≡ Some f.rows)) i.open_ whole.stands.jobs.frozen) i.rows)) whole.filtered);
  }

  -- or is given up
  pub drop_flush_whole : (caller : ℕ) → DropsFlush core new caller → StandsFiltered opening new (with_place seen (mark caller kind.Flush Dropped Bare))
  drop_flush_whole caller d = record {
    stands = drop_flush_stands opening core new seen caller Bare whole.stands d;
    filtered = subst (λ (c : CoreState). IfSome c.compact (IsFiltered c)) (sym d.core) (rows_filtered core (record core { flush = None; tried = d.tried }) refl refl refl refl refl whole.filtered);
  }

  -- a compaction that begins
  pub begin_whole : (caller : ℕ) (named : Option ℕ) (job : Compaction) → BeginsCompact kept_rows core new caller job → StandsFiltered opening new (with_place seen (mark caller kind.Compact Begun (Began (want.Compact named) (compact_task job))))
  begin_whole caller named job b =
      let stands = begin_compact_stands kept_rows opening core new seen caller (want.Compact named) job whole.stands b in
      record {
        stands = stands;
        filtered = subst (λ (c : CoreState). IfSome c.compact (IsFiltered c)) (sym b.core)
            (begin_filtered opening core new seen caller job whole.stands b (record { choice = b.choice; flushed = []; levels = b.levels ∙ sym (unflushed job.choice.above job.choice.front (job.choice.chosen ++ job.choice.behind) _) }));
      }

  -- or is given up
  pub drop_compact_whole : (caller : ℕ) → DropsCompact core new caller → StandsFiltered opening new (with_place seen (mark caller kind.Compact Dropped Bare))
  drop_compact_whole caller d = record {
    stands = drop_compact_stands opening core new seen caller Bare whole.stands d;
    filtered = subst (λ (c : CoreState). IfSome c.compact (IsFiltered c)) (sym d.core) tt;
  }

  -- a call that failed
  pub fail_whole : FailsCall core new → StandsFiltered opening new seen
  fail_whole f = record {
    stands = fail_stands opening core new seen whole.stands f;
    filtered = subst (λ (c : CoreState). IfSome c.compact (IsFiltered c)) (sym f.core) (rows_filtered core (record core { attempt = f.attempt; tried = f.tried }) refl refl refl refl refl whole.filtered);
  }

  -- a batch that failed at its gate
  pub attempt_whole : (batch : Batch) → new ≡ with_attempt core batch → StandsFiltered opening new seen
  attempt_whole batch is = subst (λ (c : CoreState). StandsFiltered opening c seen) (sym is) (record {
    stands = waiting_stands opening core seen (Some (record { batch = batch; moment = core.floor })) core.tried whole.stands;
    filtered = rows_filtered core (with_attempt core batch) refl refl refl refl refl whole.filtered;
  })

  -- where the core is the same
  same_whole : (p : Place) → new ≡ core → Stands opening new (with_place seen p) → StandsFiltered opening new (with_place seen p)
  same_whole p same stands = record { stands = stands; filtered = subst (λ (c : CoreState). IfSome c.compact (IsFiltered c)) (sym same) whole.filtered }

  -- ---- the theorem

  -- each event keeps the relation
  pub event_whole : (e : Event) → Happens seen core e new → StandsFiltered opening new (seen ++ adds e)
  event_whole (Glance now caller view) h = glance_whole now caller view h
  event_whole (Read now caller c answer) h = read_whole now caller c answer h
  event_whole (Commit w note) h = commit_whole w note h
  event_whole (Lapse w) h = subst (StandsFiltered opening new) (sym (append-nil seen)) (subst (λ (c : CoreState). StandsFiltered opening c seen) (sym h.core) whole)
  event_whole (Rerun caller now ds view batch answer note) h = rerun_whole caller now ds view batch answer note h
  event_whole (Play caller now ds batch answer note) h = play_whole caller now ds batch answer note h
  event_whole (Pin now caller answer) h = pin_whole now caller answer h
  event_whole (LetGo now caller answer) h = unpin_whole now caller answer h
  event_whole (Look now caller c answer) h = look_whole now caller c answer h
  event_whole (Refuse now caller ds answer) h = refuse_whole now caller ds answer h
  event_whole (Freeze caller forced task) h = freeze_whole caller forced task h
  event_whole (NoFlush caller forced) h = same_whole (mark caller kind.Flush Idle (Found (want.Flush forced))) h.core (find_no_flush_stands opening core seen caller (Found (want.Flush forced)) whole.stands new h)
  event_whole (OtherFlush caller forced) h = same_whole (mark caller kind.Flush Met (Found (want.Flush forced))) h.core (meet_flush_stands opening core seen caller (Found (want.Flush forced)) whole.stands new h)
  event_whole (InstallFlush caller t) h = install_flush_whole caller t h
  event_whole (DropFlush caller) h = drop_flush_whole caller h
  event_whole (BeginCompact caller named job) h = begin_whole caller named job h
  event_whole (NoCompact caller named) h = same_whole (mark caller kind.Compact Idle (Found (want.Compact named))) h.core (find_no_compact_stands opening core seen caller (Found (want.Compact named)) whole.stands new h)
  event_whole (OtherCompact caller named) h = same_whole (mark caller kind.Compact Met (Found (want.Compact named))) h.core (meet_compact_stands opening core seen caller (Found (want.Compact named)) whole.stands new h)
  event_whole (InstallCompact caller outputs) h = install_filtered_stands opening core new seen caller Bare outputs whole h
  event_whole (DropCompact caller) h = drop_compact_whole caller h
  event_whole (CountLevels caller counts) h =
      same_whole (mark caller kind.Counts Idle (Counted counts)) h.0 (subst (λ (c : CoreState). Stands opening c (with_place seen (mark caller kind.Counts Idle (Counted counts)))) (sym h.0) (count_stands opening core seen caller (Counted counts) whole.stands))
  event_whole (FailCommit w) h = subst (StandsFiltered opening new) (sym (append-nil seen)) (attempt_whole w.batch h.core)
  event_whole (FailRerun caller now ds view batch answer) h = subst (StandsFiltered opening new) (sym (append-nil seen)) (attempt_whole batch h.core)
  event_whole Fail h = subst (StandsFiltered opening new) (sym (append-nil seen)) (fail_whole h)

  -- and is answered as the machine answers at its place
  pub event_answers : (e : Event) → Happens seen core e new → IsAnsweredAt (state_at opening.state seen) (adds e) (answer_in e)
  event_answers (Glance now caller view) h = no_reply_of_tick s now caller
  event_answers (Read now caller c answer) h = (read_stands opening core new seen now caller c answer whole.stands h).1
  event_answers (Commit w note) h = (commit_stands opening core new seen w note whole.stands h).1
  event_answers (Lapse w) h = refl
  event_answers (Rerun caller now ds view batch answer note) h = (rerun_stands opening core new seen caller now ds view batch answer note whole.stands h).1
  event_answers (Play caller now ds batch answer note) h = (play_stands opening core new seen caller now ds batch answer note whole.stands h).1
  event_answers (Pin now caller answer) h = (pin_stands opening core new seen now caller answer whole.stands h).1
  event_answers (LetGo now caller answer) h = (unpin_stands opening core new seen now caller answer whole.stands h).1
  event_answers (Look now caller c answer) h = (look_stands opening core new seen now caller c answer whole.stands h).1
  event_answers (Refuse now caller ds answer) h = (refuse_stands opening core new seen now caller ds answer whole.stands h).1
  event_answers (Freeze caller forced task) h = no_reply_of_job s caller kind.Flush Begun
  event_answers (NoFlush caller forced) h = no_reply_of_job s caller kind.Flush Idle
  event_answers (OtherFlush caller forced) h = no_reply_of_job s caller kind.Flush Met
  event_answers (InstallFlush caller t) h = no_reply_of_job s caller kind.Flush Done
  event_answers (DropFlush caller) h = no_reply_of_job s caller kind.Flush Dropped
  event_answers (BeginCompact caller named job) h = no_reply_of_job s caller kind.Compact Begun
  event_answers (NoCompact caller named) h = no_reply_of_job s caller kind.Compact Idle
  event_answers (OtherCompact caller named) h = no_reply_of_job s caller kind.Compact Met
  event_answers (InstallCompact caller outputs) h = no_reply_of_job s caller kind.Compact Done
  event_answers (DropCompact caller) h = no_reply_of_job s caller kind.Compact Dropped
  event_answers (CountLevels caller counts) h = no_reply_of_job s caller kind.Counts Idle
  event_answers (FailCommit w) h = refl
  event_answers (FailRerun caller now ds view batch answer) h = refl
  event_answers Fail h = refl

-- so does every list of events
pub run_whole : (opening : Opening) (core new : CoreState) (seen : List Place) (es : List Event) → StandsFiltered opening core seen → IsCoreRun seen core es new → StandsFiltered opening new (seen_after seen es)
run_whole opening core new seen [] whole run = subst (λ (c : CoreState). StandsFiltered opening c seen) (sym run) whole
run_whole opening core new seen (e ∷ es) whole (mid, first, rest) = run_whole opening mid new (seen ++ adds e) es (event_whole opening core mid seen whole e first) rest

-- and each call is answered as the machine answers it
pub run_answers : (opening : Opening) (core new : CoreState) (seen : List Place) (es : List Event) → StandsFiltered opening core seen → IsCoreRun seen core es new → AreAnswered opening.state seen es
run_answers opening core new seen [] whole run = tt
run_answers opening core new seen (e ∷ es) whole (mid, first, rest) =
    (event_answers opening core mid seen whole e first, run_answers opening mid new (seen ++ adds e) es (event_whole opening core mid seen whole e first) rest)
