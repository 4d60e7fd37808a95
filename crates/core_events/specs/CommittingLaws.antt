-- Events that carry commands out: from what was seen before or on the newest rows, with a batch or without one.
use Rattle.std.proofs.Common.{◌≡◌, ℕ, zero, suc, ◌+◌, ◌<◌, ◌≤◌, List, [], ◌∷◌, refl, sym, ap, subst, ◌∙◌, Bool, true, false, length, inl, inr, arith}
use Rattle.std.proofs.lemmas.Bool.Decides.{nat_tests}
use Rattle.std.proofs.lemmas.List.{take_all}
use Rattle.std.specs.Prelude.{nat_le, Option, Some, IsTrue, IsFalse, IsNone}
use Rattle.std.specs.List.{list_all, Contains}
use Rattle.kv_base.specs.Map.{Bytes, empty}
use Rattle.kv_base.specs.Hash.{stripe}
use Rattle.kv_base.specs.InversionLaws.{both_first, both_second}
use Rattle.kv_base.specs.RawKeys.{is_version}
use Rattle.batch_codec.specs.Batches.{Batch, after, are_rows}
use Rattle.kv_base.specs.declared.row.Row.{Row}
use Rattle.redis_model.specs.declared.reply.Reply.{Reply}
use Rattle.redis_model.specs.declared.command.Cmds.{Cmds}
use Rattle.redis_model.specs.declared.command.Cmds.TheVariants.{One, Many}
use Rattle.redis_model.specs.declared.history.Step.TheVariants.{Tick}
use Rattle.redis_model.specs.Apply.{counted_now}
use Rattle.redis_model.specs.Keys.{among}
use Rattle.redis_model.specs.Value.{RedisMap, alive}
use Rattle.redis_model.specs.Machine as machine
use Rattle.redis_model.specs.Machine.{State, step, fold}
use Rattle.redis_model.specs.MachineLaws.{jobs_left}
use Rattle.redis_model.specs.Legal.{no_jobs}
use Rattle.lives_model.specs.Rows.{Rows, row_key, Side}
use Rattle.lives_model.specs.RowKeys.{IsOfKey}
use Rattle.lives_model.specs.Means.{Means}
use Rattle.lives_model.specs.MeansOneLaws.{means_one}
use Rattle.lives_model.specs.Plans.{IsPlanFor, IsPlanned, IsReady, AreAsked, keys_in, version}
use Rattle.lives_model.specs.Issued.{IsIssued}
use Rattle.lives_model.specs.IssuedLaws.{issued_is_ready}
use Rattle.lives_model.specs.Lapses.{IsStillReady, lapses}
use Rattle.lives_model.specs.JoinedBatchLaws.{plan_means, after-empty}
use Rattle.lives_model.specs.WrittenKeyLaws.{plan_names}
use Rattle.key_locality.specs.Moments.{alive-twice}
use Rattle.plan_laws.specs.HoldsLater.{still_plan}
use Rattle.core_model.specs.Sources.{rows_in}
use Rattle.core_model.specs.Places.{sequences_of}
use Rattle.redis_model.specs.declared.history.Place.{Place}
use Rattle.redis_model.specs.declared.history.Note.{Note}
use Rattle.redis_model.specs.declared.history.Note.TheVariants.{Bare, Appended}
use Rattle.redis_model.specs.declared.history.ReadView.{ReadView}
use Rattle.redis_model.specs.Places.{state_at, steps_of, Opening}
use Rattle.core_model.specs.Core.{CoreState, newest_rows, pin_at, event_moment, raised}
use Rattle.core_model.specs.Stands.{ArePinned, IsSeenView, IsMarked, Stands}
use Rattle.core_model.specs.Events.{entry_with, batch_place, tick, Appends, Work, CanCommit, Commits, Reruns, PlaysCommands}
use Rattle.core_model.specs.RowsLaws.{at_on_grammar}
use Rattle.lives_model.specs.IssuedRowLaws.{shown_is_issued, fresh_by_rows, committed_rows_issued}
use Rattle.lives_model.specs.AskedKeyLaws.{asked_keys}
use Rattle.core_model.specs.PlacesLaws.{with_place, tick_there, ticks_at}
use Rattle.core_events.specs.GoingLaws.{WritesNothing, still_free, later_keys}
use Rattle.core_events.specs.RaisingLaws.{OnlyRaises, raised_stands, old_pins, same_moment}
use Rattle.core_events.specs.AppendingLaws.{IsCarried, entry_step, entry_may, entry_idle, no_tick, append_answers, append_stands, stripe_low}

-- ---- with a batch or without

-- commands that wrote nothing append no batch
pub entry_quiet : (now caller : ℕ) (ds : Cmds) → WritesNothing (batch_place now caller ds Bare)
entry_quiet now caller (One c) = record { whole = refl; each = λ b. refl }
entry_quiet now caller (Many cs) = record { whole = refl; each = λ b. refl }

module _ (opening : Opening) (core : CoreState) (seen : List Place) (now caller : ℕ) (ds : Cmds) (batch : Batch) (answer : Reply) (stands : Stands opening core seen)
    (carried : IsCarried core (state_at opening.state seen) (event_moment core now) ds batch answer) (free : IsNone (pin_at core caller)) where
  abbrev s : State
  s = state_at opening.state seen

  same : event_moment core now ≡ machine.moment_at s now
  same = same_moment core s now stands.keys.floor

  -- a batch that is empty leaves the keys
  keys_stay : batch ≡ empty → (fold (alive s.keys (event_moment core now)) (event_moment core now) ds).1 ≡ alive s.keys (event_moment core now)
  keys_stay none =
      means_one (newest_rows core) (event_moment core now) (fold (alive s.keys (event_moment core now)) (event_moment core now) ds).1 (alive s.keys (event_moment core now))
      (subst (λ (c : Rows). Means c (event_moment core now) (fold (alive s.keys (event_moment core now)) (event_moment core now) ds).1) (ap (after (newest_rows core)) none ∙ after-empty (newest_rows core)) carried.means)
      (later_keys (newest_rows core) core.floor (event_moment core now) s.keys (omega arith) stands.keys.means)

  only_raises : batch ≡ empty → OnlyRaises s (step s (entry_with now caller ds)).1 now
  only_raises none = subst (λ (t : State). OnlyRaises s t now) (sym (ap (λ (r : Option Reply × State). r.1) (entry_step s now caller ds))) (record {
    floor = refl;
    keys = ap (λ (m : RedisMap). alive m (machine.moment_at s now)) (subst (λ (t : ℕ). (fold (alive s.keys t) t ds).1 ≡ alive s.keys t) same (keys_stay none)) ∙ alive-twice s.keys (machine.moment_at s now);
  })

  quiet_stands : batch ≡ empty → Stands opening (raised core now) (with_place seen (batch_place now caller ds Bare))
  quiet_stands none =
      raised_stands opening core seen (batch_place now caller ds Bare) now core.pins stands (entry_quiet now caller ds) (entry_idle now caller ds Bare)
      (entry_may s (jobs_left no_jobs (steps_of seen)) now caller ds (still_free core caller s stands.pins free)) (only_raises none)
      (subst (λ (t : State). ArePinned (raised core now) core.pins t.pins) (sym (ap (λ (r : Option Reply × State). r.1) (entry_step s now caller ds)))
      (old_pins opening core seen (batch_place now caller ds Bare) now core.pins stands core.pins s.pins stands.pins))
      (no_tick (IsSeenView opening (raised core now) (with_place seen (batch_place now caller ds Bare))) (step s (entry_with now caller ds)).1 now caller ds Bare)

  -- what is carried out is answered by the machine, and the core stands for the history with it
  pub carried_stands : (new : CoreState) (note : Note) → Appends (raised core now) new ds batch note → Stands opening new (with_place seen (batch_place now caller ds note)) × ((step s (entry_with now caller ds)).0 ≡ Some answer)
  carried_stands new note (inl q) = (
    subst (λ (n : Note). Stands opening new (with_place seen (batch_place now caller ds n))) (sym q.bare)
        (subst (λ (c : CoreState). Stands opening c (with_place seen (batch_place now caller ds Bare))) (sym q.core) (quiet_stands q.nothing)),
    append_answers opening core seen now caller ds batch answer stands carried,
  )
  carried_stands new note (inr p) = (
    subst (λ (n : Note). Stands opening new (with_place seen (batch_place now caller ds n))) (sym p.1.sequence)
        (subst (λ (c : CoreState). Stands opening c (with_place seen (batch_place now caller ds (Appended (core.last + 1))))) (sym p.1.core)
        (append_stands opening core seen now caller ds batch answer stands carried p.1.room free)),
    append_answers opening core seen now caller ds batch answer stands carried,
  )

-- ---- a plan on the newest rows

-- at a moment that is not before the floor
pub planned_carried : (opening : Opening) (core : CoreState) (seen : List Place) (now : ℕ) (ds : Cmds) (batch : Batch) (answer : Reply) (until : Option ℕ) → Stands opening core seen → AreAsked ds → IsTrue (are_rows batch.entries)
    → IsPlanned (newest_rows core) (event_moment core now) core.last ds batch answer until → IsCarried core (state_at opening.state seen) (event_moment core now) ds batch answer
planned_carried opening core seen now ds batch answer until stands asked texts planned = record {
  asked = asked;
  texts = texts;
  reply = done.0;
  means = done.1;
  issued = committed_rows_issued (newest_rows core) moment core.last (core.last + 1) keys ds batch answer until (record {
    asked = asked;
    means = means;
    issued = issued;
    plan = plan;
    later = omega arith;
  });
  names = plan_names (newest_rows core) moment core.last keys ds batch answer until plan;
}
  where
    moment : ℕ
    moment = event_moment core now

    keys : RedisMap
    keys = alive (state_at opening.state seen).keys (event_moment core now)

    means : Means (newest_rows core) (event_moment core now) (alive (state_at opening.state seen).keys (event_moment core now))
    means = later_keys (newest_rows core) core.floor (event_moment core now) (state_at opening.state seen).keys (omega arith) stands.keys.means

    issued : IsIssued (newest_rows core) core.last
    issued = shown_is_issued (rows_in core.sources) core.last stands.rows.issued

    plan : IsPlanFor (newest_rows core) (event_moment core now) core.last (alive (state_at opening.state seen).keys (event_moment core now)) ds batch answer until
    plan = planned.plan (alive (state_at opening.state seen).keys (event_moment core now)) means
        (issued_is_ready (newest_rows core) (event_moment core now) core.last ds stands.counts.limit asked issued)

    done : (answer ≡ (fold (alive (state_at opening.state seen).keys (event_moment core now)) (event_moment core now) ds).0)
        × Means (after (newest_rows core) batch) (event_moment core now) (fold (alive (state_at opening.state seen).keys (event_moment core now)) (event_moment core now) ds).1
    done = plan_means (newest_rows core) (event_moment core now) core.last (alive (state_at opening.state seen).keys (event_moment core now)) ds batch answer until means plan

-- commands that are planned and carried out in one event
pub play_stands : (opening : Opening) (core new : CoreState) (seen : List Place) (caller now : ℕ) (ds : Cmds) (batch : Batch) (answer : Reply) (note : Note) → Stands opening core seen → PlaysCommands core new caller now ds batch answer note
    → Stands opening new (with_place seen (batch_place now caller ds note)) × ((step (state_at opening.state seen) (entry_with now caller ds)).0 ≡ Some answer)
play_stands opening core new seen caller now ds batch answer note stands plays =
    carried_stands opening core seen now caller ds batch answer stands
    (planned_carried opening core seen now ds batch answer plays.until stands plays.own.asked plays.own.rows plays.plan) plays.own.free new note plays.appends

-- ---- a reading that a tick had before

-- it moves the floor no more
pub same_core : (core : CoreState) (now : ℕ) → counted_now now ≤ core.floor → raised core now ≡ core
same_core core now low = ap (λ (f : ℕ). let c : CoreState = record core { floor = f } in c) (omega arith)

-- what the tick saw holds, and its reading is not above its moment
pub record WasSeen (opening : Opening) (core : CoreState) (seen : List Place) (now : ℕ) (view : ReadView) : Type 0 where
  pub state : State
  pub holds : IsSeenView opening core seen state view
  pub early : counted_now now ≤ core.floor

-- what a tick of the history saw was so
pub was_seen : (opening : Opening) (core : CoreState) (seen : List Place) (now caller : ℕ) (view : ReadView) → Stands opening core seen → Contains seen (tick now caller view) → WasSeen opening core seen now view
was_seen opening core seen now caller view stands there =
    let it = tick_there (IsSeenView opening core seen) opening.state seen now caller view stands.views there in
    let at = it.holds.moment ∙ ticks_at it.before now caller in
    let past = it.holds.past in
    record { state = (step it.before (Tick now caller)).1; holds = it.holds; early = omega (arith, at, past) }

-- ---- rerun

-- a plan that is made anew is carried out
pub rerun_stands : (opening : Opening) (core new : CoreState) (seen : List Place) (caller now : ℕ) (ds : Cmds) (view : ReadView) (batch : Batch) (answer : Reply) (note : Note) → Stands opening core seen
    → Reruns core new seen caller now ds view batch answer note → Stands opening new (with_place seen (batch_place now caller ds note)) × ((step (state_at opening.state seen) (entry_with now caller ds)).0 ≡ Some answer)
rerun_stands opening core new seen caller now ds view batch answer note stands reruns =
    let was = was_seen opening core seen now caller view stands reruns.ticked in
    let same = same_core core now was.early in
    carried_stands opening core seen now caller ds batch answer stands
    (planned_carried opening core seen now ds batch answer reruns.until stands reruns.own.asked reruns.own.rows
    (subst (λ (t : ℕ). IsPlanned (newest_rows core) t core.last ds batch answer reruns.until) (sym (ap (λ (c : CoreState). c.floor) same)) reruns.plan))
    reruns.own.free new note (subst (λ (c : CoreState). Appends c new ds batch note) (sym same) reruns.appends)

-- ---- commit

-- each of these numbers passes
each_number : (p : ℕ → Bool) (ns : List ℕ) (n : ℕ) → list_all p ns ≡ true → Contains ns n → p n ≡ true
each_number p [] n h (k, low, is) = absurd (omega arith)
each_number p (x ∷ ns) n h (zero, low, is) = subst (λ (y : ℕ). p y ≡ true) is (both_first (p x) (list_all p ns) h)
each_number p (x ∷ ns) n h (suc k, low, is) = each_number p ns n (both_second (p x) (list_all p ns) h) (k, omega arith, is)

module _ (opening : Opening) (core : CoreState) (seen : List Place) (w : Work) (stands : Stands opening core seen) (can : CanCommit core seen w) (was : WasSeen opening core seen w.now w.view) where
  abbrev base : ℕ
  base = w.view.seq

  -- a key of the commands has the mark of its stripe, which has no more batches since
  module _ (k : Bytes) (named : IsTrue (among (keys_in w.ds) k)) where
    pub mark_of : IsMarked core seen w.view (stripe k) (core.books (stripe k))
    mark_of = was.holds.marks (stripe k) (core.books (stripe k)) (can.marks k named)

    -- the stripe has no batches but those that the books count
    pub whole : core.books (stripe k) ≡ length (sequences_of (stripe k) seen)
    whole = stands.counts.books (stripe k) (stripe_low k)

    -- so no row of the key is newer than what was seen
    pub own_not_newer : (row : Row) → Contains (rows_in core.sources) row → IsOfKey k row.raw → row.seq ≤ base
    own_not_newer row there of = by_test (nat_le row.seq opening.last) refl
      where
        by_test : (t : Bool) → nat_le row.seq opening.last ≡ t → row.seq ≤ w.view.seq
        by_test true e = let old : row.seq ≤ opening.last = grind (arith, nat_tests) in let since = was.holds.since in omega (arith, old, since)
        by_test false e =
            let later : opening.last < row.seq = grind (arith, nat_tests) in
            let listed = stands.counts.rows row k there (asked_keys w.ds k can.own.asked named) of later in
            let all : list_all (λ n. nat_le n w.view.seq) (sequences_of (stripe k) seen) ≡ true =
            subst (λ (ns : List ℕ). list_all (λ n. nat_le n w.view.seq) ns ≡ true) (take_all (core.books (stripe k)) (sequences_of (stripe k) seen) (omega (arith, whole))) mark_of.old in
            let passes = each_number (λ n. nat_le n w.view.seq) (sequences_of (stripe k) seen) row.seq all listed in
            grind (arith, nat_tests)

    pub not_newer : (row : Row) (side : Side) (v : ℕ) (subkey : Bytes) → Contains (rows_in core.sources) row → row.seq ≤ core.last → IsTrue (is_version v) → row.raw ≡ row_key side k v subkey → row.seq ≤ base
    not_newer row side v subkey there low fits is = own_not_newer row there (inr (record { side = side; version = v; subkey = subkey; fits = fits; is = is }))

  -- what counts of the keys is what was seen, and no version is newer
  pub still_ready : IsStillReady w.view.rows.map (newest_rows core) core.floor w.view.seq (keys_in w.ds)
  still_ready = record {
    alike = λ k named. (mark_of k named).same (whole k named) k (asked_keys w.ds k can.own.asked named) refl;
    above = λ k named. fresh_by_rows (rows_in core.sources) core.last w.view.seq k (asked_keys w.ds k can.own.asked named) stands.rows.issued (not_newer k named);
  }

  seen_ready : IsReady w.view.rows.map w.view.moment (version w.view.seq 0) w.ds
  seen_ready =
      let low_seq = was.holds.written in
      let limit = stands.counts.limit in
      issued_is_ready w.view.rows.map w.view.moment w.view.seq w.ds (omega (arith, low_seq, limit)) can.own.asked was.holds.issued

  -- the plan on what was seen
  pub old_plan : IsPlanFor w.view.rows.map w.view.moment w.view.seq was.state.keys w.ds w.batch w.answer w.until
  old_plan = can.plan.plan was.state.keys was.holds.means seen_ready

  abbrev keys : RedisMap
  keys = alive (state_at opening.state seen).keys core.floor

  -- is one on the newest rows, where it has not lapsed
  pub new_plan : IsFalse (lapses w.view.moment core.floor w.until w.ds) → IsPlanFor (newest_rows core) core.floor w.view.seq keys w.ds w.batch w.answer w.until
  new_plan current = still_plan w.view.rows.map (newest_rows core) w.view.moment core.floor w.view.seq was.state.keys keys w.batch w.answer w.until w.ds (record {
    on_grammar = was.holds.grammar;
    on_grammar_too = at_on_grammar (rows_in core.sources) core.last stands.rows.grammar;
    means = was.holds.means;
    means_too = stands.keys.means;
    ready = seen_ready;
    plan = old_plan;
    moment = was.holds.past;
    still = still_ready;
    current = current;
  })

  -- so it carries the commands out there
  pub commit_carried : IsFalse (lapses w.view.moment core.floor w.until w.ds) → IsCarried core (state_at opening.state seen) core.floor w.ds w.batch w.answer
  commit_carried current =
      let done = plan_means (newest_rows core) core.floor w.view.seq keys w.ds w.batch w.answer w.until stands.keys.means (new_plan current) in
      record {
        asked = can.own.asked;
        texts = can.own.rows;
        reply = done.0;
        means = done.1;
        issued = let low_seq = was.holds.written in committed_rows_issued w.view.rows.map w.view.moment w.view.seq (core.last + 1) was.state.keys w.ds w.batch w.answer w.until (record {
          asked = can.own.asked;
          means = was.holds.means;
          issued = was.holds.issued;
          plan = old_plan;
          later = omega (arith, low_seq);
        });
        names = plan_names w.view.rows.map w.view.moment w.view.seq was.state.keys w.ds w.batch w.answer w.until old_plan;
      }

-- what was planned before is carried out as it was planned
pub commit_stands : (opening : Opening) (core new : CoreState) (seen : List Place) (w : Work) (note : Note) → Stands opening core seen → Commits core new seen w note
    → Stands opening new (with_place seen (batch_place w.now w.caller w.ds note)) × ((step (state_at opening.state seen) (entry_with w.now w.caller w.ds)).0 ≡ Some w.answer)
commit_stands opening core new seen w note stands commits =
    let was = was_seen opening core seen w.now w.caller w.view stands commits.can.ticked in
    let same = same_core core w.now was.early in
    carried_stands opening core seen w.now w.caller w.ds w.batch w.answer stands
    (subst (λ (t : ℕ). IsCarried core (state_at opening.state seen) t w.ds w.batch w.answer) (sym (ap (λ (c : CoreState). c.floor) same)) (commit_carried opening core seen w stands commits.can was commits.current))
    commits.can.own.free new note (subst (λ (c : CoreState). Appends c new w.ds w.batch note) (sym same) commits.appends)
