-- A batch whose append failed at its gate may be there after a crash. Until it is mended, the core would keep the map after it, too.
use Rattle.std.proofs.Common.{◌≡◌, ℕ, ◌+◌, ◌<◌, ◌≤◌, List, [], ◌∷◌, ◌++◌, refl, sym, ap, subst, ◌∙◌, Bool, true, false, cond, append-nil, inl, inr, arith}
use Rattle.std.proofs.lemmas.List.{take_all}
use Rattle.std.specs.Prelude.{nat_le, not, filter, is_some, Option, Some, None, IsTrue, IfSome}
use Rattle.std.specs.List.{list_all, Contains}
use Rattle.kv_base.specs.Map.{Bytes}
use Rattle.kv_base.specs.Hash.{stripe}
use Rattle.kv_base.specs.RawKeys.{is_key}
use Rattle.batch_codec.specs.Batches.{Batch, after}
use Rattle.kv_base.specs.declared.row.Row.{Row}
use Rattle.row_model.specs.Rows.{at, batch_rows}
use Rattle.redis_model.specs.declared.reply.Reply.{Reply}
use Rattle.redis_model.specs.declared.command.Cmds.{Cmds}
use Rattle.redis_model.specs.declared.history.Step.TheVariants.{Call, PinNow, PinnedRead, PinnedRefused, Unpin}
use Rattle.redis_model.specs.declared.history.JobKind.{JobKind}
use Rattle.redis_model.specs.declared.history.JobKind.TheVariants as kind
use Rattle.redis_model.specs.declared.history.JobMark.{JobMark}
use Rattle.redis_model.specs.declared.history.JobMark.TheVariants.{Begun, Done, Dropped, Idle, Met}
use Rattle.redis_model.specs.Desk.{last_sequence}
use Rattle.redis_model.specs.Keys.{among}
use Rattle.redis_model.specs.Value.{alive}
use Rattle.redis_model.specs.Machine.{State, step, fold}
use Rattle.redis_model.specs.MachineLaws.{step_floor}
use Rattle.lives_model.specs.Rows.{Rows, IsOnGrammar}
use Rattle.lives_model.specs.Clean.{clean}
use Rattle.lives_model.specs.CleanLaws.{clean_means, means_later}
use Rattle.lives_model.specs.GrammarLaws.{after_on_grammar}
use Rattle.lives_model.specs.Means.{Means, IsSound}
use Rattle.lives_model.specs.Plans.{IsPlanFor, IsPlanned, IsFresh, keys_in, version}
use Rattle.lives_model.specs.Issued.{IsIssued}
use Rattle.lives_model.specs.JoinedBatchLaws.{after-empty}
use Rattle.core_model.specs.Sources.{rows_in}
use Rattle.core_model.specs.Places.{sequences_of}
use Rattle.redis_model.specs.declared.history.Place.{Place}
use Rattle.redis_model.specs.declared.history.ReadView.{ReadView}
use Rattle.redis_model.specs.declared.history.JobAsked.TheVariants as want
use Rattle.redis_model.specs.declared.history.Note.{Note}
use Rattle.redis_model.specs.declared.history.Note.TheVariants.{Bare, Began, Found, Counted}
use Rattle.redis_model.specs.Places.{appended_by, state_at, Opening}
use Rattle.core_model.specs.Core.{PinAt, Attempt, Flush, CoreState, is_at, pin_at, newest_rows, event_moment, raised, compact_task}
use Rattle.core_model.specs.Stands.{Stands}
use Rattle.core_model.specs.Events.{Work, FailsCommit, FailsRerun, Appends, IsMended, with_attempt, with_pin, without_pin, with_flush, attempt_after, put_in_front, tick, bare_place, batch_place, mark}
use Rattle.core_model.specs.RowsLaws.{at_on_grammar}
use Rattle.lives_model.specs.IssuedRowLaws.{shown_is_issued}
use Rattle.core_model.specs.PlacesLaws.{with_place}
use Rattle.core_events.specs.GoingLaws.{WritesNothing, later_keys}
use Rattle.core_events.specs.RaisingLaws.{tick_quiet}
use Rattle.core_events.specs.AppendingLaws.{IsCarried}
use Rattle.core_events.specs.CommittingLaws.{was_seen, same_core, entry_quiet, planned_carried, commit_carried, new_plan, still_ready, mark_of, whole}
use Rattle.core_keeps.specs.CleanAfterLaws.{same_after}
use Rattle.core_events.specs.FlushingLaws.{frozen_rows, same_lists, same_sources}
use Rattle.core_model.specs.Filtered.{StandsFiltered}
use Rattle.core_keeps.specs.Keeps.{last_written, written_at, last_at, KeepsCore, KeepsAttempt}
use Rattle.core_keeps.specs.KeepLaws.{last_upto, last_at_low, still_written}
use Rattle.core_model.specs.Runs.{Event, Glance, Read, Commit, Lapse, Rerun, Play, Pin, LetGo, Look, Refuse, Freeze, NoFlush, OtherFlush, InstallFlush, DropFlush, BeginCompact, NoCompact, OtherCompact, InstallCompact, DropCompact, CountLevels, FailCommit, FailRerun, Fail, Happens, adds, seen_after, IsCoreRun}
use Rattle.core_filter.specs.RunLaws.{plan_made, event_whole}
use Rattle.core_keeps.specs.KeptBy.{kept_after, kept_by}
use Rattle.core_keeps.specs.KeepRunLaws.{event_keeps}

-- ---- the last batch is not above the floor

written_low : (f : ℕ) (s : State) (seen : List Place) → f ≤ s.floor → last_written f s seen ≤ (state_at s seen).floor
written_low f s [] low = low
written_low f s (p ∷ ps) low = written_low (cond (is_some (appended_by p.what p.note)) (step s p.what).1.floor f) (step s p.what).1 ps (by_test (is_some (appended_by p.what p.note)))
  where
    by_test : (b : Bool) → cond b (step s p.what).1.floor f ≤ (step s p.what).1.floor
    by_test true = omega arith
    by_test false = let up = step_floor s p.what in omega (arith, up, low)

-- the last batch is not of a moment above the floor
pub written_at_low : (opening : Opening) (core : CoreState) (seen : List Place) → Stands opening core seen → written_at opening seen ≤ core.floor
written_at_low opening core seen stands = let low = written_low opening.state.floor opening.state seen (omega arith) in let is = stands.keys.floor in omega (arith, low, is)

-- ---- what a batch leaves of a map that is kept

-- Behind the batch the same counts of the map as of the newest rows, and it means keys.
pub record LeavesAlike (core : CoreState) (c : Rows) (batch : Batch) (moment : ℕ) : Type 0 where
  pub sound : (t : ℕ) → moment ≤ t → IsSound (after c batch) t
  pub same : (t : ℕ) → core.manifest_floor ≤ t → clean (after (newest_rows core) batch) t ≡ clean (after c batch) t

-- so it is with the batch of a plan on the newest rows
pub batch_leaves : (opening : Opening) (core : CoreState) (seen : List Place) (moment : ℕ) (ds : Cmds) (batch : Batch) (answer : Reply) (until : Option ℕ) (base : ℕ) (c : Rows) → Stands opening core seen → core.floor ≤ moment
    → IsCarried core (state_at opening.state seen) moment ds batch answer → IsPlanFor (newest_rows core) moment base (alive (state_at opening.state seen).keys moment) ds batch answer until
    → ((k : Bytes) → IsTrue (among (keys_in ds) k) → IsTrue (is_key k) → IsFresh (newest_rows core) (version base 0) k × (last_at opening seen (stripe k) ≤ base)) → KeepsCore opening core seen c → LeavesAlike core c batch moment
batch_leaves opening core seen moment ds batch answer until base c stands late carried plan free keeps = record {
  sound = λ t le. record {
    map = alive (fold (alive (state_at opening.state seen).keys moment) moment ds).1 t;
    means = means_later (after c batch) moment t (fold (alive (state_at opening.state seen).keys moment) moment ds).1 le
        (clean_means (after (newest_rows core) batch) (after c batch) moment (fold (alive (state_at opening.state seen).keys moment) moment ds).1 (after_on_grammar (newest_rows core) batch on carried.texts) (after_on_grammar c batch keeps.grammar carried.texts) (alike moment above_manifest) carried.means);
  };
  same = alike;
}
  where
    on : IsOnGrammar (newest_rows core)
    on = at_on_grammar (rows_in core.sources) core.last stands.rows.grammar

    above_manifest : core.manifest_floor ≤ moment
    above_manifest = let a = keeps.floor in omega (arith, a, late)

    means : Means (newest_rows core) moment (alive (state_at opening.state seen).keys moment)
    means = later_keys (newest_rows core) core.floor moment (state_at opening.state seen).keys late stands.keys.means

    older : (q : ℕ) (k : Bytes) → q ≤ base → IsFresh c (version q 0) k → IsFresh c (version base 0) k
    older q k le fresh side v subkey high fits = fresh side v subkey (omega arith) fits

    alike : (t : ℕ) → core.manifest_floor ≤ t → clean (after (newest_rows core) batch) t ≡ clean (after c batch) t
    alike t le = same_after (newest_rows core) c moment t base (alive (state_at opening.state seen).keys moment) ds batch answer until on keeps.grammar means (keeps.same moment above_manifest) (keeps.same t le)
        (λ k named key. ((free k named key).0, older (last_at opening seen (stripe k)) k (free k named key).1 (keeps.fresh k key))) plan

-- ---- a batch that was tried

module _ (opening : Opening) (core new : CoreState) (seen : List Place) (stood : StandsFiltered opening core seen) (c : Rows) (keeps : KeepsCore opening core seen c) where
  -- it waits
  tried_batch : (ds : Cmds) (batch : Batch) (answer : Reply) (until : Option ℕ) (base : ℕ) → core.last < last_sequence → IsCarried core (state_at opening.state seen) core.floor ds batch answer
      → IsPlanFor (newest_rows core) core.floor base (alive (state_at opening.state seen).keys core.floor) ds batch answer until
      → ((k : Bytes) → IsTrue (among (keys_in ds) k) → IsTrue (is_key k) → IsFresh (newest_rows core) (version base 0) k × (last_at opening seen (stripe k) ≤ base))
      → KeepsAttempt opening (with_attempt core batch) seen c (record { batch = batch; moment = core.floor })
  tried_batch ds batch answer until base room carried plan free =
      let leaves = batch_leaves opening core seen core.floor ds batch answer until base c stood.stands (omega arith) carried plan free keeps in
      record {
        room = room;
        texts = carried.texts;
        later = written_at_low opening core seen stood.stands;
        past = omega arith;
        issued = carried.issued;
        sound = leaves.sound;
        same = λ t le late. leaves.same t le;
      }

  failed_commit : (w : Work) → FailsCommit core new seen w → KeepsAttempt opening (with_attempt core w.batch) seen c (record { batch = w.batch; moment = core.floor })
  failed_commit w m =
      let was = was_seen opening core seen w.now w.caller w.view stood.stands m.can.ticked in
      let since = was.holds.since in
      tried_batch w.ds w.batch w.answer w.until w.view.seq m.room (commit_carried opening core seen w stood.stands m.can was m.current) (new_plan opening core seen w stood.stands m.can was m.current)
      (λ k named key. ((still_ready opening core seen w stood.stands m.can was).above k named, last_upto opening.last w.view.seq (sequences_of (stripe k) seen) since (all_old k named)))
    where
      all_old : (k : Bytes) → IsTrue (among (keys_in w.ds) k) → list_all (λ n. nat_le n w.view.seq) (sequences_of (stripe k) seen) ≡ true
      all_old k named =
          let it = was_seen opening core seen w.now w.caller w.view stood.stands m.can.ticked in
          let size = whole opening core seen w stood.stands m.can it k named in
          subst (λ (ns : List ℕ). list_all (λ n. nat_le n w.view.seq) ns ≡ true) (take_all (core.books (stripe k)) (sequences_of (stripe k) seen) (omega (arith, size))) (mark_of opening core seen w stood.stands m.can it k named).old

  failed_rerun : (caller now : ℕ) (ds : Cmds) (view : ReadView) (batch : Batch) (answer : Reply) → FailsRerun core new seen caller now ds view batch answer
      → KeepsAttempt opening (with_attempt core batch) seen c (record { batch = batch; moment = core.floor })
  failed_rerun caller now ds view batch answer r =
      let was = was_seen opening core seen now caller view stood.stands r.ticked in
      let same = ap (λ (x : CoreState). x.floor) (same_core core now was.early) in
      let planned : IsPlanned (newest_rows core) (event_moment core now) core.last ds batch answer r.until = subst (λ (t : ℕ). IsPlanned (newest_rows core) t core.last ds batch answer r.until) (sym same) r.plan in
      let issued : IsIssued (newest_rows core) core.last = shown_is_issued (rows_in core.sources) core.last stood.stands.rows.issued in
      tried_batch ds batch answer r.until core.last r.room
      (subst (λ (t : ℕ). IsCarried core (state_at opening.state seen) t ds batch answer) same (planned_carried opening core seen now ds batch answer r.until stood.stands r.own.asked r.own.rows planned))
      (subst (λ (t : ℕ). IsPlanFor (newest_rows core) t core.last (alive (state_at opening.state seen).keys t) ds batch answer r.until) same (plan_made opening core seen now ds batch answer r.until stood.stands r.own.asked planned))
      (λ k named key. (issued.versions.rows k key, last_at_low opening core seen (stripe k) stood.stands))

  -- ---- and waits on

  module _ (waits : IfSome core.attempt (KeepsAttempt opening core seen c)) where
    -- nothing is appended, and the same rows are there
    still_waits : (x : CoreState) (p : Place) → WritesNothing p → x.last ≡ core.last → core.floor ≤ x.floor → core.manifest_floor ≤ x.manifest_floor → rows_in x.sources ≡ rows_in core.sources → x.attempt ≡ core.attempt
        → IfSome x.attempt (KeepsAttempt opening x (with_place seen p) c)
    still_waits x p quiet last floor up rows same = subst (λ (o : Option Attempt). IfSome o (KeepsAttempt opening x (with_place seen p) c)) (sym same) (by_attempt core.attempt waits)
      where
        is_newest : newest_rows x ≡ newest_rows core
        is_newest = ap (λ (q : ℕ). at (rows_in x.sources) q) last ∙ ap (λ (rs : List Row). at rs core.last) rows

        by_attempt : (o : Option Attempt) → IfSome o (KeepsAttempt opening core seen c) → IfSome o (KeepsAttempt opening x (with_place seen p) c)
        by_attempt None h = tt
        by_attempt (Some a) h = record {
          room = subst (λ (q : ℕ). q < last_sequence) (sym last) h.room;
          texts = h.texts;
          later = subst (λ (n : ℕ). n ≤ a.moment) (sym (still_written opening seen p quiet)) h.later;
          past = let b = h.past in omega (arith, b, floor);
          issued = λ row there. h.issued row (subst (λ (q : ℕ). Contains (batch_rows (q + 1) a.batch) row) last there);
          sound = h.sound;
          same = λ t le late. ap (λ (d : Rows). clean (after d a.batch) t) is_newest ∙ h.same t (omega (arith, le, up)) late;
        }

    -- the core is the same
    same_waits : (p : Place) → WritesNothing p → new ≡ core → IfSome new.attempt (KeepsAttempt opening new (with_place seen p) c)
    same_waits p quiet same = subst (λ (x : CoreState). IfSome x.attempt (KeepsAttempt opening x (with_place seen p) c)) (sym same) (still_waits core p quiet refl (omega arith) (omega arith) refl refl)

    raised_waits : (now : ℕ) (pins : List PinAt) (p : Place) → WritesNothing p → IfSome core.attempt (KeepsAttempt opening (record core { floor = event_moment core now; pins = pins }) (with_place seen p) c)
    raised_waits now pins p quiet = still_waits (record core { floor = event_moment core now; pins = pins }) p quiet refl (omega arith) (omega arith) refl refl

    appended_waits : (now caller : ℕ) (ds : Cmds) (batch : Batch) (note : Note) → Appends (raised core now) new ds batch note → IfSome new.attempt (KeepsAttempt opening new (with_place seen (batch_place now caller ds note)) (after c batch))
    appended_waits now caller ds batch note (inl q) =
        subst (λ (n : Note). IfSome new.attempt (KeepsAttempt opening new (with_place seen (batch_place now caller ds n)) (after c batch))) (sym q.bare)
        (subst (λ (x : CoreState). IfSome x.attempt (KeepsAttempt opening x (with_place seen (batch_place now caller ds Bare)) (after c batch))) (sym q.core)
        (subst (λ (d : Rows). IfSome core.attempt (KeepsAttempt opening (raised core now) (with_place seen (batch_place now caller ds Bare)) d)) (sym (ap (after c) q.nothing ∙ after-empty c))
        (raised_waits now core.pins (batch_place now caller ds Bare) (entry_quiet now caller ds))))
    appended_waits now caller ds batch note (inr p) = subst (λ (x : CoreState). IfSome x.attempt (KeepsAttempt opening x (with_place seen (batch_place now caller ds note)) (after c batch))) (sym p.1.core) tt

    -- mended or not
    mended_waits : (x : CoreState) (p : Place) → WritesNothing p → x.last ≡ core.last → core.floor ≤ x.floor → core.manifest_floor ≤ x.manifest_floor → rows_in x.sources ≡ rows_in core.sources → IsMended core.attempt x.attempt
        → IfSome x.attempt (KeepsAttempt opening x (with_place seen p) c)
    mended_waits x p quiet last floor up rows (inl same) = still_waits x p quiet last floor up rows same
    mended_waits x p quiet last floor up rows (inr none) = subst (λ (o : Option Attempt). IfSome o (KeepsAttempt opening x (with_place seen p) c)) (sym none) tt

    pin_waits : (now caller : ℕ) (o : Option PinAt) → IfSome (with_pin (raised core now) caller o).attempt (KeepsAttempt opening (with_pin (raised core now) caller o) (with_place seen (bare_place (PinNow now caller))) c)
    pin_waits now caller None = raised_waits now (core.pins ++ record { caller = caller; seq = core.last; moment = event_moment core now } ∷ []) (bare_place (PinNow now caller)) (record { whole = refl; each = λ b. refl })
    pin_waits now caller (Some p) = raised_waits now core.pins (bare_place (PinNow now caller)) (record { whole = refl; each = λ b. refl })

    unpin_waits : (now caller : ℕ) (o : Option PinAt) → IfSome (without_pin (raised core now) caller o).attempt (KeepsAttempt opening (without_pin (raised core now) caller o) (with_place seen (bare_place (Unpin now caller))) c)
    unpin_waits now caller None = raised_waits now core.pins (bare_place (Unpin now caller)) (record { whole = refl; each = λ b. refl })
    unpin_waits now caller (Some p) = raised_waits now (filter (λ q. not (is_at caller q)) core.pins) (bare_place (Unpin now caller)) (record { whole = refl; each = λ b. refl })

    freeze_mends : (o : Option (List Row)) → IsMended core.attempt (attempt_after o core.attempt)
    freeze_mends None = inr refl
    freeze_mends (Some rows) = inl refl

    quiet_mark : (caller : ℕ) (k : JobKind) (sign : JobMark) (note : Note) → WritesNothing (mark caller k sign note)
    quiet_mark caller k sign note = record { whole = refl; each = λ b. refl }

    -- what waits after a call that made no entry
    no_entry : (x : CoreState) → x.last ≡ core.last → core.floor ≤ x.floor → core.manifest_floor ≤ x.manifest_floor → rows_in x.sources ≡ rows_in core.sources → IsMended core.attempt x.attempt → IfSome x.attempt (KeepsAttempt opening x seen c)
    no_entry x last floor up rows (inr none) = subst (λ (o : Option Attempt). IfSome o (KeepsAttempt opening x seen c)) (sym none) tt
    no_entry x last floor up rows (inl same) = subst (λ (o : Option Attempt). IfSome o (KeepsAttempt opening x seen c)) (sym same) (by_attempt core.attempt waits)
      where
        is_newest : newest_rows x ≡ newest_rows core
        is_newest = ap (λ (q : ℕ). at (rows_in x.sources) q) last ∙ ap (λ (rs : List Row). at rs core.last) rows

        by_attempt : (o : Option Attempt) → IfSome o (KeepsAttempt opening core seen c) → IfSome o (KeepsAttempt opening x seen c)
        by_attempt None h = tt
        by_attempt (Some a) h = record {
          room = subst (λ (q : ℕ). q < last_sequence) (sym last) h.room;
          texts = h.texts;
          later = h.later;
          past = let b = h.past in omega (arith, b, floor);
          issued = λ row there. h.issued row (subst (λ (q : ℕ). Contains (batch_rows (q + 1) a.batch) row) last there);
          sound = h.sound;
          same = λ t le late. ap (λ (d : Rows). clean (after d a.batch) t) is_newest ∙ h.same t (omega (arith, le, up)) late;
        }

    abbrev Waits : CoreState → List Place → Rows → Type 0
    Waits x ps d = IfSome x.attempt (KeepsAttempt opening x ps d)

    pub event_waits : (e : Event) → Happens seen core e new → IfSome new.attempt (KeepsAttempt opening new (seen ++ adds e) (kept_after e c))
    event_waits (Glance now caller view) h = subst (λ (x : CoreState). Waits x (with_place seen (tick now caller view)) c) (sym h.core) (raised_waits now core.pins (tick now caller view) (tick_quiet now caller view))
    event_waits (Read now caller cmd answer) h = subst (λ (x : CoreState). Waits x (with_place seen (bare_place (Call now caller cmd))) c) (sym h.core) (raised_waits now core.pins (bare_place (Call now caller cmd)) (record { whole = refl; each = λ b. refl }))
    event_waits (Commit w note) h =
        let was = was_seen opening core seen w.now w.caller w.view stood.stands h.can.ticked in
        appended_waits w.now w.caller w.ds w.batch note (subst (λ (x : CoreState). Appends x new w.ds w.batch note) (sym (same_core core w.now was.early)) h.appends)
    event_waits (Lapse w) h = subst (λ (ps : List Place). Waits new ps c) (sym (append-nil seen)) (subst (λ (x : CoreState). Waits x seen c) (sym h.core) waits)
    event_waits (Rerun caller now ds view batch answer note) h =
        let was = was_seen opening core seen now caller view stood.stands h.ticked in
        appended_waits now caller ds batch note (subst (λ (x : CoreState). Appends x new ds batch note) (sym (same_core core now was.early)) h.appends)
    event_waits (Play caller now ds batch answer note) h = appended_waits now caller ds batch note h.appends
    event_waits (Pin now caller answer) h = subst (λ (x : CoreState). Waits x (with_place seen (bare_place (PinNow now caller))) c) (sym h.core) (pin_waits now caller (pin_at core caller))
    event_waits (LetGo now caller answer) h = subst (λ (x : CoreState). Waits x (with_place seen (bare_place (Unpin now caller))) c) (sym h.core) (unpin_waits now caller (pin_at core caller))
    event_waits (Look now caller cmd answer) h = subst (λ (x : CoreState). Waits x (with_place seen (bare_place (PinnedRead now caller cmd))) c) (sym h.core) (raised_waits now core.pins (bare_place (PinnedRead now caller cmd)) (record { whole = refl; each = λ b. refl }))
    event_waits (Refuse now caller ds answer) h = subst (λ (x : CoreState). Waits x (with_place seen (bare_place (PinnedRefused now caller ds))) c) (sym h.core) (raised_waits now core.pins (bare_place (PinnedRefused now caller ds)) (record { whole = refl; each = λ b. refl }))
    event_waits (Freeze caller forced task) h = subst (λ (x : CoreState). Waits x (with_place seen (mark caller kind.Flush Begun (Began (want.Flush forced) task))) c) (sym h.core)
        (mended_waits (with_flush core caller) (mark caller kind.Flush Begun (Began (want.Flush forced) task)) (quiet_mark caller kind.Flush Begun (Began (want.Flush forced) task)) refl (omega arith) (omega arith) (frozen_rows core.sources core.sources.frozen refl) (freeze_mends core.sources.frozen))
    event_waits (NoFlush caller forced) h = same_waits (mark caller kind.Flush Idle (Found (want.Flush forced))) (quiet_mark caller kind.Flush Idle (Found (want.Flush forced))) h.core
    event_waits (OtherFlush caller forced) h = same_waits (mark caller kind.Flush Met (Found (want.Flush forced))) (quiet_mark caller kind.Flush Met (Found (want.Flush forced))) h.core
    event_waits (InstallFlush caller t) h = subst (λ (x : CoreState). Waits x (with_place seen (mark caller kind.Flush Done Bare)) c) (sym h.core) (still_waits (record core {
      sources = record core.sources { frozen = None; levels = put_in_front t core.sources.levels };
      flush = None;
      tried = None;
      log = core.log + 1;
      manifest_floor = core.floor;
    }) (mark caller kind.Flush Done Bare) (quiet_mark caller kind.Flush Done Bare) refl (omega arith) keeps.floor
        (same_sources core.sources (record core.sources { frozen = None; levels = put_in_front t core.sources.levels })
        (same_lists core.sources t h.flush.rows (subst (λ (o : Option Flush). IfSome o (λ f. core.sources.frozen ≡ Some f.rows)) h.open_ stood.stands.jobs.frozen) h.rows)) refl)
    event_waits (DropFlush caller) h = subst (λ (x : CoreState). Waits x (with_place seen (mark caller kind.Flush Dropped Bare)) c) (sym h.core)
        (still_waits (record core { flush = None; tried = h.tried }) (mark caller kind.Flush Dropped Bare) (quiet_mark caller kind.Flush Dropped Bare) refl (omega arith) (omega arith) refl refl)
    event_waits (BeginCompact caller named job) h = subst (λ (x : CoreState). Waits x (with_place seen (mark caller kind.Compact Begun (Began (want.Compact named) (compact_task job)))) c) (sym h.core)
        (still_waits (record core { compact = Some job; next_run = core.next_run + 1 }) (mark caller kind.Compact Begun (Began (want.Compact named) (compact_task job))) (quiet_mark caller kind.Compact Begun (Began (want.Compact named) (compact_task job))) refl (omega arith) (omega arith) refl refl)
    event_waits (NoCompact caller named) h = same_waits (mark caller kind.Compact Idle (Found (want.Compact named))) (quiet_mark caller kind.Compact Idle (Found (want.Compact named))) h.core
    event_waits (OtherCompact caller named) h = same_waits (mark caller kind.Compact Met (Found (want.Compact named))) (quiet_mark caller kind.Compact Met (Found (want.Compact named))) h.core
    event_waits (InstallCompact caller outputs) h = subst (λ (x : CoreState). Waits x (with_place seen (mark caller kind.Compact Done Bare)) c) (sym h.core) tt
    event_waits (DropCompact caller) h = subst (λ (x : CoreState). Waits x (with_place seen (mark caller kind.Compact Dropped Bare)) c) (sym h.core)
        (mended_waits (record core { compact = None; attempt = h.attempt; tried = h.tried }) (mark caller kind.Compact Dropped Bare) (quiet_mark caller kind.Compact Dropped Bare) refl (omega arith) (omega arith) refl h.mended)
    event_waits (CountLevels caller counts) h = same_waits (mark caller kind.Counts Idle (Counted counts)) (quiet_mark caller kind.Counts Idle (Counted counts)) h.0
    event_waits (FailCommit w) h = subst (λ (ps : List Place). Waits new ps c) (sym (append-nil seen)) (subst (λ (x : CoreState). Waits x seen c) (sym h.core) (failed_commit w h))
    event_waits (FailRerun caller now ds view batch answer) h = subst (λ (ps : List Place). Waits new ps c) (sym (append-nil seen)) (subst (λ (x : CoreState). Waits x seen c) (sym h.core) (failed_rerun caller now ds view batch answer h))
    event_waits Fail h = subst (λ (ps : List Place). Waits new ps c) (sym (append-nil seen)) (subst (λ (x : CoreState). Waits x seen c) (sym h.core) (no_entry (record core { attempt = h.attempt; tried = h.tried }) refl (omega arith) (omega arith) refl h.mended))

-- every list of events
pub run_waits : (opening : Opening) (core new : CoreState) (seen : List Place) (es : List Event) (c : Rows) → StandsFiltered opening core seen → KeepsCore opening core seen c → IfSome core.attempt (KeepsAttempt opening core seen c) → IsCoreRun seen core es new
    → IfSome new.attempt (KeepsAttempt opening new (seen_after seen es) (kept_by es c))
run_waits opening core new seen [] c stood keeps waits run = subst (λ (x : CoreState). IfSome x.attempt (KeepsAttempt opening x seen c)) (sym run) waits
run_waits opening core new seen (e ∷ es) c stood keeps waits (mid, first, rest) =
    run_waits opening mid new (seen ++ adds e) es (kept_after e c) (event_whole opening core mid seen stood e first) (event_keeps opening core mid seen stood c keeps e first) (event_waits opening core mid seen stood c keeps waits e first) rest
