-- Every list of events keeps, of a map, what it is after the batches that were acknowledged.
use Rattle.std.proofs.Common.{◌≡◌, ℕ, ◌+◌, ◌≤◌, List, [], ◌∷◌, ◌++◌, refl, sym, ap, subst, ◌∙◌, true, append-nil, inl, inr, arith}
use Rattle.std.proofs.lemmas.List.{take_all}
use Rattle.std.specs.Prelude.{nat_le, not, filter, max, Option, Some, None, IsTrue, IfSome}
use Rattle.std.specs.List.{list_all}
use Rattle.kv_base.specs.Map.{Bytes}
use Rattle.kv_base.specs.Hash.{stripe}
use Rattle.kv_base.specs.RawKeys.{is_key}
use Rattle.batch_codec.specs.Batches.{Batch, after}
use Rattle.kv_base.specs.declared.row.Row.{Row}
use Rattle.row_model.specs.Rows.{at}
use Rattle.redis_model.specs.declared.reply.Reply.{Reply}
use Rattle.redis_model.specs.declared.command.Cmds.{Cmds}
use Rattle.redis_model.specs.declared.history.Step.TheVariants.{Call, PinNow, PinnedRead, PinnedRefused, Unpin}
use Rattle.redis_model.specs.declared.history.JobKind.{JobKind}
use Rattle.redis_model.specs.declared.history.JobKind.TheVariants as kind
use Rattle.redis_model.specs.declared.history.JobMark.{JobMark}
use Rattle.redis_model.specs.declared.history.JobMark.TheVariants.{Begun, Done, Dropped, Idle, Met}
use Rattle.redis_model.specs.Keys.{among}
use Rattle.redis_model.specs.Value.{alive}
use Rattle.lives_model.specs.Rows.{Rows}
use Rattle.lives_model.specs.Clean.{clean}
use Rattle.lives_model.specs.Plans.{IsPlanFor, IsPlanned, IsFresh, AreAsked, keys_in, version}
use Rattle.lives_model.specs.Issued.{IsIssued}
use Rattle.lives_model.specs.JoinedBatchLaws.{after-empty}
use Rattle.core_model.specs.Sources.{Table, rows_in}
use Rattle.core_model.specs.Places.{sequences_of}
use Rattle.redis_model.specs.declared.history.Place.{Place}
use Rattle.redis_model.specs.declared.history.ReadView.{ReadView}
use Rattle.redis_model.specs.declared.history.JobAsked.TheVariants as want
use Rattle.redis_model.specs.declared.history.Note.{Note}
use Rattle.redis_model.specs.declared.history.Note.TheVariants.{Bare, Began, Found, Counted, Appended}
use Rattle.redis_model.specs.Places.{state_at, Opening}
use Rattle.core_model.specs.Core.{PinAt, Attempt, TriedEdit, Flush, current, CoreState, is_at, pin_at, newest_rows, event_moment, raised, levels_with, with_flushed, compact_task}
use Rattle.core_model.specs.Stands.{IsSince}
use Rattle.core_model.specs.Events.{Work, Commits, Reruns, PlaysCommands, InstallsCompact, InstallsFlush, Appends, with_pin, without_pin, with_flush, put_in_front, tick, bare_place, batch_place, mark}
use Rattle.lives_model.specs.IssuedRowLaws.{shown_is_issued, plan_has_none_from}
use Rattle.lives_model.specs.IssuedRows.{HasNoneFrom}
use Rattle.core_model.specs.PlacesLaws.{with_place}
use Rattle.core_events.specs.GoingLaws.{WritesNothing}
use Rattle.core_events.specs.RaisingLaws.{tick_quiet}
use Rattle.core_events.specs.AppendingLaws.{IsCarried}
use Rattle.core_events.specs.CommittingLaws.{WasSeen, was_seen, same_core, entry_quiet, planned_carried, commit_carried, new_plan, old_plan, still_ready, mark_of, whole}
use Rattle.core_events.specs.FlushingLaws.{frozen_rows, same_lists, same_sources}
use Rattle.core_model.specs.Filtered.{IsFiltered, StandsFiltered}
use Rattle.core_filter.specs.FilteringLaws.{newest_filtered}
use Rattle.core_keeps.specs.KeptBy.{kept_after, kept_by}
use Rattle.core_keeps.specs.Keeps.{last_at, KeepsCore}
use Rattle.core_keeps.specs.KeepLaws.{last_upto, last_at_low, still_keeps, append_keeps}
use Rattle.core_model.specs.Runs.{Event, Glance, Read, Commit, Lapse, Rerun, Play, Pin, LetGo, Look, Refuse, Freeze, NoFlush, OtherFlush, InstallFlush, DropFlush, BeginCompact, NoCompact, OtherCompact, InstallCompact, DropCompact, CountLevels, FailCommit, FailRerun, Fail, Happens, adds, seen_after, IsCoreRun}
use Rattle.core_filter.specs.RunLaws.{plan_made, event_whole}

-- ---- plans

-- a batch without rows from a bound on has none from a greater one on
none_from : (b : Batch) (bound more : ℕ) → bound ≤ more → HasNoneFrom b bound → HasNoneFrom b more
none_from b bound more le none k key side v subkey high fits = none k key side v subkey (omega arith) fits

mark_quiet : (caller : ℕ) (k : JobKind) (sign : JobMark) (note : Note) → WritesNothing (mark caller k sign note)
mark_quiet caller k sign note = record { whole = refl; each = λ b. refl }

-- ---- events

module _ (opening : Opening) (core new : CoreState) (seen : List Place) (stood : StandsFiltered opening core seen) (c : Rows) (keeps : KeepsCore opening core seen c) where
  -- the floor rises, and pins may change
  raised_keeps : (now : ℕ) (pins : List PinAt) (p : Place) → WritesNothing p → KeepsCore opening (record core { floor = event_moment core now; pins = pins }) (with_place seen p) c
  raised_keeps now pins p quiet = still_keeps opening core (record core { floor = event_moment core now; pins = pins }) seen p c quiet (omega arith) (let a = keeps.floor in omega arith) (λ t le. refl) keeps

  -- the core is the same
  same_keeps : (p : Place) → WritesNothing p → new ≡ core → KeepsCore opening new (with_place seen p) c
  same_keeps p quiet same = subst (λ (x : CoreState). KeepsCore opening x (with_place seen p) c) (sym same) (still_keeps opening core core seen p c quiet (omega arith) keeps.floor (λ t le. refl) keeps)

  -- a batch, or none
  appended_keeps : (now caller : ℕ) (ds : Cmds) (batch : Batch) (answer : Reply) (note : Note) (until : Option ℕ) (base : ℕ) → IsCarried core (state_at opening.state seen) (event_moment core now) ds batch answer
      → IsPlanFor (newest_rows core) (event_moment core now) base (alive (state_at opening.state seen).keys (event_moment core now)) ds batch answer until
      → ((k : Bytes) → IsTrue (among (keys_in ds) k) → IsTrue (is_key k) → IsFresh (newest_rows core) (version base 0) k × (last_at opening seen (stripe k) ≤ base)) → base ≤ core.last → HasNoneFrom batch (version (core.last + 1) 0)
      → Appends (raised core now) new ds batch note → KeepsCore opening new (with_place seen (batch_place now caller ds note)) (after c batch)
  appended_keeps now caller ds batch answer note until base carried plan free low none (inl q) =
      subst (λ (n : Note). KeepsCore opening new (with_place seen (batch_place now caller ds n)) (after c batch)) (sym q.bare)
      (subst (λ (x : CoreState). KeepsCore opening x (with_place seen (batch_place now caller ds Bare)) (after c batch)) (sym q.core)
      (subst (KeepsCore opening (raised core now) (with_place seen (batch_place now caller ds Bare))) (sym (ap (after c) q.nothing ∙ after-empty c))
      (raised_keeps now core.pins (batch_place now caller ds Bare) (entry_quiet now caller ds))))
  appended_keeps now caller ds batch answer note until base carried plan free low none (inr p) =
      subst (λ (n : Note). KeepsCore opening new (with_place seen (batch_place now caller ds n)) (after c batch)) (sym p.1.sequence)
      (subst (λ (x : CoreState). KeepsCore opening x (with_place seen (batch_place now caller ds (Appended (core.last + 1)))) (after c batch)) (sym p.1.core)
      (append_keeps opening core seen now caller ds batch answer until base c stood.stands carried plan free low none keeps))

  -- commands that are planned on the newest rows
  planned_keeps : (now caller : ℕ) (ds : Cmds) (batch : Batch) (answer : Reply) (note : Note) (until : Option ℕ) → IsCarried core (state_at opening.state seen) (event_moment core now) ds batch answer → AreAsked ds
      → IsPlanned (newest_rows core) (event_moment core now) core.last ds batch answer until → Appends (raised core now) new ds batch note → KeepsCore opening new (with_place seen (batch_place now caller ds note)) (after c batch)
  planned_keeps now caller ds batch answer note until carried asked planned appends =
      let plan = plan_made opening core seen now ds batch answer until stood.stands asked planned in
      let issued : IsIssued (newest_rows core) core.last = shown_is_issued (rows_in core.sources) core.last stood.stands.rows.issued in
      appended_keeps now caller ds batch answer note until core.last carried plan
      (λ k named key. (issued.versions.rows k key, last_at_low opening core seen (stripe k) stood.stands)) (omega arith)
      (plan_has_none_from (newest_rows core) (event_moment core now) core.last (alive (state_at opening.state seen).keys (event_moment core now)) ds batch answer until asked issued.versions plan) appends

  play_keeps : (caller now : ℕ) (ds : Cmds) (batch : Batch) (answer : Reply) (note : Note) → PlaysCommands core new caller now ds batch answer note → KeepsCore opening new (with_place seen (batch_place now caller ds note)) (after c batch)
  play_keeps caller now ds batch answer note p =
      planned_keeps now caller ds batch answer note p.until (planned_carried opening core seen now ds batch answer p.until stood.stands p.own.asked p.own.rows p.plan) p.own.asked p.plan p.appends

  rerun_keeps : (caller now : ℕ) (ds : Cmds) (view : ReadView) (batch : Batch) (answer : Reply) (note : Note) → Reruns core new seen caller now ds view batch answer note → KeepsCore opening new (with_place seen (batch_place now caller ds note)) (after c batch)
  rerun_keeps caller now ds view batch answer note r =
      let was = was_seen opening core seen now caller view stood.stands r.ticked in
      let same = same_core core now was.early in
      let plan : IsPlanned (newest_rows core) (event_moment core now) core.last ds batch answer r.until = subst (λ (t : ℕ). IsPlanned (newest_rows core) t core.last ds batch answer r.until) (sym (ap (λ (x : CoreState). x.floor) same)) r.plan in
      planned_keeps now caller ds batch answer note r.until (planned_carried opening core seen now ds batch answer r.until stood.stands r.own.asked r.own.rows plan) r.own.asked plan
      (subst (λ (x : CoreState). Appends x new ds batch note) (sym same) r.appends)

  commit_keeps : (w : Work) (note : Note) → Commits core new seen w note → KeepsCore opening new (with_place seen (batch_place w.now w.caller w.ds note)) (after c w.batch)
  commit_keeps w note m =
      let same = same_core core w.now was.early in
      let at_it : core.floor ≡ event_moment core w.now = sym (ap (λ (x : CoreState). x.floor) same) in
      let since = was.holds.since in
      let up_to = was.holds.written in
      appended_keeps w.now w.caller w.ds w.batch w.answer note w.until w.view.seq
      (subst (λ (t : ℕ). IsCarried core (state_at opening.state seen) t w.ds w.batch w.answer) at_it (commit_carried opening core seen w stood.stands m.can was m.current))
      (subst (λ (t : ℕ). IsPlanFor (newest_rows core) t w.view.seq (alive (state_at opening.state seen).keys t) w.ds w.batch w.answer w.until) at_it (new_plan opening core seen w stood.stands m.can was m.current))
      (λ k named key. ((still_ready opening core seen w stood.stands m.can was).above k named, last_upto opening.last w.view.seq (sequences_of (stripe k) seen) since (all_old k named)))
      (omega (arith, up_to))
      (none_from w.batch (version (w.view.seq + 1) 0) (version (core.last + 1) 0) (omega (arith, up_to))
      (plan_has_none_from w.view.rows.map w.view.moment w.view.seq was.state.keys w.ds w.batch w.answer w.until m.can.own.asked was.holds.issued.versions (old_plan opening core seen w stood.stands m.can was)))
      (subst (λ (x : CoreState). Appends x new w.ds w.batch note) (sym same) m.appends)
    where
      was : WasSeen opening core seen w.now w.view
      was = was_seen opening core seen w.now w.caller w.view stood.stands m.can.ticked

      all_old : (k : Bytes) → IsTrue (among (keys_in w.ds) k) → list_all (λ n. nat_le n w.view.seq) (sequences_of (stripe k) seen) ≡ true
      all_old k named =
          let it = was_seen opening core seen w.now w.caller w.view stood.stands m.can.ticked in
          let size = whole opening core seen w stood.stands m.can it k named in
          subst (λ (ns : List ℕ). list_all (λ n. nat_le n w.view.seq) ns ≡ true) (take_all (core.books (stripe k)) (sequences_of (stripe k) seen) (omega (arith, size))) (mark_of opening core seen w stood.stands m.can it k named).old

  pin_keeps : (now caller : ℕ) (o : Option PinAt) → KeepsCore opening (with_pin (raised core now) caller o) (with_place seen (bare_place (PinNow now caller))) c
  pin_keeps now caller None = raised_keeps now (core.pins ++ record { caller = caller; seq = core.last; moment = event_moment core now } ∷ []) (bare_place (PinNow now caller)) (record { whole = refl; each = λ b. refl })
  pin_keeps now caller (Some p) = raised_keeps now core.pins (bare_place (PinNow now caller)) (record { whole = refl; each = λ b. refl })

  unpin_keeps : (now caller : ℕ) (o : Option PinAt) → KeepsCore opening (without_pin (raised core now) caller o) (with_place seen (bare_place (Unpin now caller))) c
  unpin_keeps now caller None = raised_keeps now core.pins (bare_place (Unpin now caller)) (record { whole = refl; each = λ b. refl })
  unpin_keeps now caller (Some p) = raised_keeps now (filter (λ q. not (is_at caller q)) core.pins) (bare_place (Unpin now caller)) (record { whole = refl; each = λ b. refl })

  -- the sources change, and the same rows are in them
  moved_keeps : (x : CoreState) (p : Place) → WritesNothing p → core.manifest_floor ≤ x.manifest_floor → x.manifest_floor ≤ x.floor → x.last ≡ core.last → rows_in x.sources ≡ rows_in core.sources → KeepsCore opening x (with_place seen p) c
  moved_keeps x p quiet up low last rows =
      still_keeps opening core x seen p c quiet up low (λ t le. ap (λ (q : ℕ). clean (at (rows_in x.sources) q) t) last ∙ ap (λ (rs : List Row). clean (at rs core.last) t) rows) keeps

  install_flush_keeps : (caller : ℕ) (t : Table) → InstallsFlush core new caller t → KeepsCore opening new (with_place seen (mark caller kind.Flush Done Bare)) c
  install_flush_keeps caller t i = subst (λ (x : CoreState). KeepsCore opening x (with_place seen (mark caller kind.Flush Done Bare)) c) (sym i.core) (moved_keeps (record core {
    sources = record core.sources { frozen = None; levels = put_in_front t core.sources.levels };
    flush = None;
    tried = None;
    log = core.log + 1;
    manifest_floor = core.floor;
  }) (mark caller kind.Flush Done Bare) (mark_quiet caller kind.Flush Done Bare) keeps.floor (omega arith) refl
      (same_sources core.sources (record core.sources { frozen = None; levels = put_in_front t core.sources.levels })
      (same_lists core.sources t i.flush.rows (subst (λ (o : Option Flush). IfSome o (λ f. core.sources.frozen ≡ Some f.rows)) i.open_ stood.stands.jobs.frozen) i.rows)))

  -- what a compaction leaves out does not count from its last watcher's moment on, and that is recorded
  install_compact_keeps : (caller : ℕ) (outputs : List Table) → InstallsCompact core new caller outputs → KeepsCore opening new (with_place seen (mark caller kind.Compact Done Bare)) c
  install_compact_keeps caller outputs i = subst (λ (x : CoreState). KeepsCore opening x (with_place seen (mark caller kind.Compact Done Bare)) c) (sym i.core)
      (still_keeps opening core (record core {
        sources = record core.sources { levels = levels_with (with_flushed i.flushed i.job.choice) outputs };
        compact = None;
        attempt = None;
        tried = None;
        manifest_floor = max core.manifest_floor (current i.job.watch).moment;
      }) seen (mark caller kind.Compact Done Bare) c (mark_quiet caller kind.Compact Done Bare) (omega arith) (let a = keeps.floor in let b = filtered.past in omega (arith, a, b))
      (λ t le. sym (newest_filtered opening core seen stood.stands i.job since filtered outputs i.rows i.ascending t (omega arith))) keeps)
    where
      since : IsSince core i.job
      since = record { choice = (subst (λ o. IfSome o (IsSince core)) i.open_ stood.stands.jobs.since).choice; flushed = i.flushed; levels = i.since }

      filtered : IsFiltered core i.job
      filtered = subst (λ o. IfSome o (IsFiltered core)) i.open_ stood.filtered

  -- what waits to be mended is no matter of the newest rows
  waiting_keeps : (attempt : Option Attempt) (tried : Option TriedEdit) → KeepsCore opening (record core { attempt = attempt; tried = tried }) seen c
  waiting_keeps attempt tried = record { floor = keeps.floor; grammar = keeps.grammar; sound = keeps.sound; same = keeps.same; fresh = keeps.fresh }

  -- ---- each event

  -- each event keeps what the map is after it
  pub event_keeps : (e : Event) → Happens seen core e new → KeepsCore opening new (seen ++ adds e) (kept_after e c)
  event_keeps (Glance now caller view) h = subst (λ (x : CoreState). KeepsCore opening x (with_place seen (tick now caller view)) c) (sym h.core) (raised_keeps now core.pins (tick now caller view) (tick_quiet now caller view))
  event_keeps (Read now caller cmd answer) h = subst (λ (x : CoreState). KeepsCore opening x (with_place seen (bare_place (Call now caller cmd))) c) (sym h.core) (raised_keeps now core.pins (bare_place (Call now caller cmd)) (record { whole = refl; each = λ b. refl }))
  event_keeps (Commit w note) h = commit_keeps w note h
  event_keeps (Lapse w) h = subst (λ (ps : List Place). KeepsCore opening new ps c) (sym (append-nil seen)) (subst (λ (x : CoreState). KeepsCore opening x seen c) (sym h.core) keeps)
  event_keeps (Rerun caller now ds view batch answer note) h = rerun_keeps caller now ds view batch answer note h
  event_keeps (Play caller now ds batch answer note) h = play_keeps caller now ds batch answer note h
  event_keeps (Pin now caller answer) h = subst (λ (x : CoreState). KeepsCore opening x (with_place seen (bare_place (PinNow now caller))) c) (sym h.core) (pin_keeps now caller (pin_at core caller))
  event_keeps (LetGo now caller answer) h = subst (λ (x : CoreState). KeepsCore opening x (with_place seen (bare_place (Unpin now caller))) c) (sym h.core) (unpin_keeps now caller (pin_at core caller))
  event_keeps (Look now caller cmd answer) h = subst (λ (x : CoreState). KeepsCore opening x (with_place seen (bare_place (PinnedRead now caller cmd))) c) (sym h.core) (raised_keeps now core.pins (bare_place (PinnedRead now caller cmd)) (record { whole = refl; each = λ b. refl }))
  event_keeps (Refuse now caller ds answer) h = subst (λ (x : CoreState). KeepsCore opening x (with_place seen (bare_place (PinnedRefused now caller ds))) c) (sym h.core) (raised_keeps now core.pins (bare_place (PinnedRefused now caller ds)) (record { whole = refl; each = λ b. refl }))
  event_keeps (Freeze caller forced task) h = subst (λ (x : CoreState). KeepsCore opening x (with_place seen (mark caller kind.Flush Begun (Began (want.Flush forced) task))) c) (sym h.core)
      (moved_keeps (with_flush core caller) (mark caller kind.Flush Begun (Began (want.Flush forced) task)) (mark_quiet caller kind.Flush Begun (Began (want.Flush forced) task)) (omega arith) keeps.floor refl (frozen_rows core.sources core.sources.frozen refl))
  event_keeps (NoFlush caller forced) h = same_keeps (mark caller kind.Flush Idle (Found (want.Flush forced))) (mark_quiet caller kind.Flush Idle (Found (want.Flush forced))) h.core
  event_keeps (OtherFlush caller forced) h = same_keeps (mark caller kind.Flush Met (Found (want.Flush forced))) (mark_quiet caller kind.Flush Met (Found (want.Flush forced))) h.core
  event_keeps (InstallFlush caller t) h = install_flush_keeps caller t h
  event_keeps (DropFlush caller) h = subst (λ (x : CoreState). KeepsCore opening x (with_place seen (mark caller kind.Flush Dropped Bare)) c) (sym h.core)
      (moved_keeps (record core { flush = None; tried = h.tried }) (mark caller kind.Flush Dropped Bare) (mark_quiet caller kind.Flush Dropped Bare) (omega arith) keeps.floor refl refl)
  event_keeps (BeginCompact caller named job) h = subst (λ (x : CoreState). KeepsCore opening x (with_place seen (mark caller kind.Compact Begun (Began (want.Compact named) (compact_task job)))) c) (sym h.core)
      (moved_keeps (record core { compact = Some job; next_run = core.next_run + 1 }) (mark caller kind.Compact Begun (Began (want.Compact named) (compact_task job))) (mark_quiet caller kind.Compact Begun (Began (want.Compact named) (compact_task job))) (omega arith) keeps.floor refl refl)
  event_keeps (NoCompact caller named) h = same_keeps (mark caller kind.Compact Idle (Found (want.Compact named))) (mark_quiet caller kind.Compact Idle (Found (want.Compact named))) h.core
  event_keeps (OtherCompact caller named) h = same_keeps (mark caller kind.Compact Met (Found (want.Compact named))) (mark_quiet caller kind.Compact Met (Found (want.Compact named))) h.core
  event_keeps (InstallCompact caller outputs) h = install_compact_keeps caller outputs h
  event_keeps (DropCompact caller) h = subst (λ (x : CoreState). KeepsCore opening x (with_place seen (mark caller kind.Compact Dropped Bare)) c) (sym h.core)
      (moved_keeps (record core { compact = None; attempt = h.attempt; tried = h.tried }) (mark caller kind.Compact Dropped Bare) (mark_quiet caller kind.Compact Dropped Bare) (omega arith) keeps.floor refl refl)
  event_keeps (CountLevels caller counts) h = same_keeps (mark caller kind.Counts Idle (Counted counts)) (mark_quiet caller kind.Counts Idle (Counted counts)) h.0
  event_keeps (FailCommit w) h = subst (λ (ps : List Place). KeepsCore opening new ps c) (sym (append-nil seen)) (subst (λ (x : CoreState). KeepsCore opening x seen c) (sym h.core) (waiting_keeps (Some (record { batch = w.batch; moment = core.floor })) core.tried))
  event_keeps (FailRerun caller now ds view batch answer) h = subst (λ (ps : List Place). KeepsCore opening new ps c) (sym (append-nil seen)) (subst (λ (x : CoreState). KeepsCore opening x seen c) (sym h.core) (waiting_keeps (Some (record { batch = batch; moment = core.floor })) core.tried))
  event_keeps Fail h = subst (λ (ps : List Place). KeepsCore opening new ps c) (sym (append-nil seen)) (subst (λ (x : CoreState). KeepsCore opening x seen c) (sym h.core) (waiting_keeps h.attempt h.tried))

-- every list of events
pub run_keeps : (opening : Opening) (core new : CoreState) (seen : List Place) (es : List Event) (c : Rows) → StandsFiltered opening core seen → KeepsCore opening core seen c → IsCoreRun seen core es new → KeepsCore opening new (seen_after seen es) (kept_by es c)
run_keeps opening core new seen [] c stood keeps run = subst (λ (x : CoreState). KeepsCore opening x seen c) (sym run) keeps
run_keeps opening core new seen (e ∷ es) c stood keeps (mid, first, rest) =
    run_keeps opening mid new (seen ++ adds e) es (kept_after e c) (event_whole opening core mid seen stood e first) (event_keeps opening core mid seen stood c keeps e first) rest
