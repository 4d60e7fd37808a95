-- Every event but the end of a compaction keeps what holds of an open one.
use Rattle.std.proofs.Common.{◌≡◌, ℕ, zero, suc, ◌≤◌, List, [], ◌∷◌, ◌++◌, refl, sym, ap, subst, ◌∙◌, Bool, true, false, cond, inl, inr, arith}
use Rattle.std.proofs.lemmas.Bool.Decides.{nat_tests}
use Rattle.std.specs.Prelude.{◌+◌, nat_le, not, map, filter, Option, Some, IsFalse}
use Rattle.std.specs.List.{Contains}
use Rattle.kv_base.specs.declared.row.Row.{Row}
use Rattle.batch_codec.specs.Batches.{Batch}
use Rattle.redis_model.specs.declared.reply.Reply.{Reply}
use Rattle.redis_model.specs.declared.command.Cmds.{Cmds}
use Rattle.redis_model.specs.declared.history.Place.{Place}
use Rattle.redis_model.specs.declared.history.Note.{Note}
use Rattle.redis_model.specs.Places.{state_at, Opening}
use Rattle.redis_model.specs.Value.{RedisMap, alive}
use Rattle.redis_model.specs.Machine.{Pin}
use Rattle.lives_model.specs.Plans.{IsPlanFor}
use Rattle.lives_model.specs.Lapses.{lapses}
use Rattle.filter_laws.specs.declared.watcher.Watcher.{Watcher}
use Rattle.filter_laws.specs.Kept.{kept_rows}
use Rattle.filter_laws.specs.Filtered.{begun, AreIssuedBefore, StaysDead}
use Rattle.filter_laws.specs.FilteredLaws.{begins, dead_with_pin, dead_with_fewer_pins, dead_with_batch}
use Rattle.filter_laws.specs.IssuedInputLaws.{issued_before}
use Rattle.filter_laws.specs.KeptLaws.{all_pass}
use Rattle.core_model.specs.Sources.{rows_in}
use Rattle.core_model.specs.Core.{PinAt, watcher_of, current, Compaction, CoreState, inputs_of, newest_rows, is_at, event_moment, raised}
use Rattle.core_model.specs.Stands.{ArePinned, IsSince, Stands}
use Rattle.core_model.specs.Events.{Work, CanCommit, Appends, BeginsCompact, core_with_batch}
use Rattle.core_model.specs.Filtered.{inputs_in_order, filtering_of, IsFiltered}
use Rattle.core_model.specs.RowsLaws.{upto_each}
use Rattle.core_events.specs.AppendingLaws.{IsCarried, newest_new, older_new}
use Rattle.core_events.specs.CommittingLaws.{WasSeen, new_plan, own_not_newer}
use Rattle.core_events.specs.CompactingLaws.{same_together, inputs_there}

-- ---- events that write nothing

-- the floor rises, and rows and pins stay
pub still_filtered : (core new : CoreState) (job : Compaction) → core.floor ≤ new.floor → new.last ≡ core.last → new.pins ≡ core.pins → rows_in new.sources ≡ rows_in core.sources → IsFiltered core job → IsFiltered new job
still_filtered core new job floor last pins rows is = record {
  rows = is.rows;
  past = let a = is.past in omega (arith, a, floor);
  dead = subst (λ (ps : List PinAt). StaysDead (rows_in new.sources) new.last (map watcher_of ps) (filtering_of job)) (sym pins)
      (subst (λ (n : ℕ). StaysDead (rows_in new.sources) n (map watcher_of core.pins) (filtering_of job)) (sym last)
      (subst (λ (rs : List Row). StaysDead rs core.last (map watcher_of core.pins) (filtering_of job)) (sym rows) is.dead));
}

-- so where the floor alone does
pub raised_filtered : (core : CoreState) (now : ℕ) (job : Compaction) → IsFiltered core job → IsFiltered (raised core now) job
raised_filtered core now job is = still_filtered core (raised core now) job (omega arith) refl refl refl is

watchers-append : (ps qs : List PinAt) → map watcher_of (ps ++ qs) ≡ map watcher_of ps ++ map watcher_of qs
watchers-append [] qs = refl
watchers-append (p ∷ ps) qs = ap (λ (ws : List Watcher). watcher_of p ∷ ws) (watchers-append ps qs)

-- a pin is made
pub pinned_filtered : (core : CoreState) (now caller : ℕ) (job : Compaction) → IsFiltered core job
    → IsFiltered (record core { floor = event_moment core now; pins = core.pins ++ record { caller = caller; seq = core.last; moment = event_moment core now } ∷ [] }) job
pinned_filtered core now caller job is = record {
  rows = is.rows;
  past = late;
  dead = subst (λ (ws : List Watcher). StaysDead (rows_in core.sources) core.last ws (filtering_of job)) (sym (watchers-append core.pins (record { caller = caller; seq = core.last; moment = event_moment core now } ∷ [])))
      (dead_with_pin (rows_in core.sources) core.last (event_moment core now) (map watcher_of core.pins) (filtering_of job) late is.dead);
}
  where
    late : (current job.watch).moment ≤ event_moment core now
    late = let a = is.past in omega (arith, a)

among_watchers : (p : PinAt → Bool) (ps : List PinAt) (v : Watcher) → Contains (map watcher_of (filter p ps)) v → Contains (map watcher_of ps) v
among_watchers p [] v there = there
among_watchers p (x ∷ ps) v there = by_test (p x) there (λ rest. among_watchers p ps v rest)
  where
    further : Contains (map watcher_of ps) v → Contains (map watcher_of (x ∷ ps)) v
    further (k, low, is) = (suc k, omega arith, is)

    by_test : (b : Bool) → Contains (map watcher_of (cond b (x ∷ filter p ps) (filter p ps))) v → (Contains (map watcher_of (filter p ps)) v → Contains (map watcher_of ps) v) → Contains (map watcher_of (x ∷ ps)) v
    by_test true (zero, low, is) rest = (0, omega arith, is)
    by_test true (suc k, low, is) rest = further (rest (k, omega arith, is))
    by_test false h rest = further (rest h)

-- pins are let go
pub unpinned_filtered : (core : CoreState) (now caller : ℕ) (job : Compaction) → IsFiltered core job → IsFiltered (record core { floor = event_moment core now; pins = filter (λ q. not (is_at caller q)) core.pins }) job
unpinned_filtered core now caller job is = record {
  rows = is.rows;
  past = let a = is.past in omega (arith, a);
  dead = dead_with_fewer_pins (rows_in core.sources) core.last (map watcher_of core.pins) (map watcher_of (filter (λ q. not (is_at caller q)) core.pins)) (filtering_of job)
      (λ v there. among_watchers (λ q. not (is_at caller q)) core.pins v there) is.dead;
}

-- ---- a compaction begins

last_of_watch : (ws : List Watcher) (w : Watcher) → current (ws ++ w ∷ []) ≡ w
last_of_watch [] w = refl
last_of_watch (x ∷ []) w = refl
last_of_watch (x ∷ y ∷ ws) w = last_of_watch (y ∷ ws) w

-- each pin is of a sequence that was written
pins_written : (core : CoreState) (ps : List PinAt) (qs : List Pin) (v : Watcher) → ArePinned core ps qs → Contains (map watcher_of ps) v → v.seq ≤ core.last
pins_written core [] qs v are (k, low, is) = absurd (omega arith)
pins_written core (x ∷ ps) [] v are there = absurd are
pins_written core (x ∷ ps) (q ∷ qs) v are (zero, low, is) = subst (λ (w : Watcher). w.seq ≤ core.last) is are.0.written
pins_written core (x ∷ ps) (q ∷ qs) v are (suc k, low, is) = pins_written core ps qs v are.1 (k, omega arith, is)

-- it holds where a compaction begins
pub begin_filtered : (opening : Opening) (core new : CoreState) (seen : List Place) (caller : ℕ) (job : Compaction) → Stands opening core seen → BeginsCompact kept_rows core new caller job → IsSince core job
    → IsFiltered (record core { compact = Some job; next_run = core.next_run + 1 }) job
begin_filtered opening core new seen caller job stands b since = record {
  rows = b.rows;
  past = omega (arith, ap (λ (w : Watcher). w.moment) last);
  dead = subst (λ f. StaysDead (rows_in core.sources) core.last (map watcher_of core.pins) f) (sym same)
      (begins (rows_in core.sources) core.last core.floor (map watcher_of core.pins) (inputs_in_order job)
      (all_pass (λ (r : Row). nat_le r.seq core.last) (inputs_in_order job) (λ row there. low row (old_row row there)))
      (λ v there. pins_written core core.pins (state_at opening.state seen).pins v stands.pins there));
}
  where
    last : current job.watch ≡ record { seq = core.last; moment = core.floor }
    last = ap current b.watch ∙ last_of_watch (map watcher_of core.pins) (record { seq = core.last; moment = core.floor })

    same : filtering_of job ≡ begun (rows_in core.sources) core.last core.floor (map watcher_of core.pins) (inputs_in_order job)
    same = λ i. record { watch = b.watch i; now = last i; inputs = inputs_in_order job; all = b.all i }

    old_row : (row : Row) → Contains (inputs_in_order job) row → Contains (rows_in core.sources) row
    old_row row there = inputs_there opening core seen stands job since [] row ((same_together (inputs_of job.choice)).1 row there)

    low : (row : Row) → Contains (rows_in core.sources) row → nat_le row.seq core.last ≡ true
    low row there = let is = upto_each core.last (rows_in core.sources) row stands.rows.upto there in grind (arith, nat_tests)

-- ---- a batch is appended

-- It is the batch of a plan on the newest rows, and the versions of rows of its keys are below those that it gives to new lives.
pub record HasNewLives (core : CoreState) (moment : ℕ) (ds : Cmds) (b : Batch) : Type 0 where
  pub base : ℕ
  pub keys : RedisMap
  pub answer : Reply
  pub until : Option ℕ
  pub plan : IsPlanFor (newest_rows core) moment base keys ds b answer until
  pub issued : AreIssuedBefore (rows_in core.sources) ds base

-- as that of a plan on the newest rows
pub planned_lives : (opening : Opening) (core : CoreState) (seen : List Place) (moment : ℕ) (keys : RedisMap) (ds : Cmds) (b : Batch) (answer : Reply) (until : Option ℕ) → Stands opening core seen
    → IsPlanFor (newest_rows core) moment core.last keys ds b answer until → HasNewLives core moment ds b
planned_lives opening core seen moment keys ds b answer until stands plan = record {
  base = core.last;
  keys = keys;
  answer = answer;
  until = until;
  plan = plan;
  issued = issued_before (rows_in core.sources) ds core.last (λ row there. (stands.rows.issued row there).raw) (λ row k there named of. upto_each core.last (rows_in core.sources) row stands.rows.upto there);
}

-- and that of one on what was seen before, which has not lapsed
pub commit_lives : (opening : Opening) (core : CoreState) (seen : List Place) (w : Work) (stands : Stands opening core seen) (can : CanCommit core seen w) (was : WasSeen opening core seen w.now w.view)
    → IsFalse (lapses w.view.moment core.floor w.until w.ds) → HasNewLives core core.floor w.ds w.batch
commit_lives opening core seen w stands can was current = record {
  base = w.view.seq;
  keys = alive (state_at opening.state seen).keys core.floor;
  answer = w.answer;
  until = w.until;
  plan = new_plan opening core seen w stands can was current;
  issued = issued_before (rows_in core.sources) w.ds w.view.seq (λ row there. (stands.rows.issued row there).raw) (λ row k there named of. own_not_newer opening core seen w stands can was k named row there of);
}

-- a batch that carries commands out keeps the dead dead
pub carried_filtered : (opening : Opening) (core new : CoreState) (seen : List Place) (now caller : ℕ) (ds : Cmds) (batch : Batch) (answer : Reply) (note : Note) (job : Compaction) (stands : Stands opening core seen) → IsSince core job
    → IsCarried core (state_at opening.state seen) (event_moment core now) ds batch answer → HasNewLives core (event_moment core now) ds batch → Appends (raised core now) new ds batch note → IsFiltered core job → IsFiltered new job
carried_filtered opening core new seen now caller ds batch answer note job stands since carried lives (inl q) is = subst (λ (c : CoreState). IsFiltered c job) (sym q.core) (raised_filtered core now job is)
carried_filtered opening core new seen now caller ds batch answer note job stands since carried lives (inr p) is = subst (λ (c : CoreState). IsFiltered c job) (sym p.1.core) (record {
  rows = is.rows;
  past = late;
  dead = dead_with_batch (rows_in core.sources) (rows_in (core_with_batch (raised core now) ds batch).sources) core.last (map watcher_of core.pins) (filtering_of job) (event_moment core now) lives.base lives.keys ds batch lives.answer lives.until
      (λ s low. older_new opening core seen now caller ds batch answer stands carried s low)
      (newest_new opening core seen now caller ds batch answer stands carried) lives.plan late
      (λ row there. lives.issued row (inputs_there opening core seen stands job since [] row ((same_together (inputs_of job.choice)).1 row there))) is.dead;
})
  where
    late : (current job.watch).moment ≤ event_moment core now
    late = let a = is.past in omega (arith, a)
