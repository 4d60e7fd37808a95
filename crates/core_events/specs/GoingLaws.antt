-- What stays true of a core when the history goes on by one place.
use Rattle.std.proofs.Common.{◌≡◌, ℕ, suc, ◌≤◌, List, [], ◌∷◌, ◌++◌, refl, sym, ap, subst, ◌∙◌, Bool, true, false, cond, length, append-nil, arith}
use Rattle.std.specs.Prelude.{nat_le, ◌==◌, take, find, Option, Some, None, IsTrue, IsNone, IfSome, is_some}
use Rattle.std.specs.List.{list_all, Contains}
use Rattle.kv_base.specs.Map.{Bytes}
use Rattle.kv_base.specs.Hash.{stripe}
use Rattle.kv_base.specs.RawKeys.{is_key}
use Rattle.kv_base.specs.declared.row.Row.{Row}
use Rattle.row_model.specs.Rows.{at, are_row_texts}
use Rattle.redis_model.specs.Value.{RedisMap, alive}
use Rattle.redis_model.specs.Machine.{State, Pin, is_of, pin_of, step}
use Rattle.key_locality.specs.Moments.{alive-later}
use Rattle.lives_model.specs.Rows.{Rows, IsOnGrammar}
use Rattle.lives_model.specs.Means.{Means}
use Rattle.lives_model.specs.CleanLaws.{means_later}
use Rattle.lives_model.specs.Lapses.{CountsAlike}
use Rattle.core_model.specs.Sources.{rows_in}
use Rattle.core_model.specs.Places.{OpenJob, appended_at, sequences_of, OfTick, OfEachTick, flush_after, compact_after, open_flush, open_compact}
use Rattle.redis_model.specs.declared.history.Place.{Place}
use Rattle.redis_model.specs.declared.history.ReadView.{ReadView}
use Rattle.redis_model.specs.Places.{appended_by, put_before, sequences, state_at, Opening, GoUp}
use Rattle.core_model.specs.Core.{PinAt, Compaction, CoreState, newest_rows, is_at, pin_at, event_moment, raised}
use Rattle.core_model.specs.Stands.{ArePinned, AreCounted, IsMarked, IsSeenView, HasJobs, IsOpenFlush, IsOpenCompaction, IsSince}
use Rattle.core_model.specs.AlikeLaws.{alike_later}
use Rattle.core_model.specs.RowsLaws.{at_on_grammar}
use Rattle.core_model.specs.PlacesLaws.{with_place, sequences_more, sequences_of_more, ticks_more, ticks_weaker, flush_more, compact_more}

-- ---- places that append nothing and mark no job

-- A place that appended no batch.
pub record WritesNothing (p : Place) : Type 0 where
  pub whole : appended_by p.what p.note ≡ None
  pub each : (b : ℕ) → appended_at b p.what p.note ≡ None

-- A place that is no mark of a job.
pub record MarksNoJob (p : Place) : Type 0 where
  pub flush : (o : Option OpenJob) → flush_after o p.what p.note ≡ o
  pub compact : (o : Option OpenJob) → compact_after o p.what p.note ≡ o

same_sequences : (seen : List Place) (p : Place) → WritesNothing p → sequences (with_place seen p) ≡ sequences seen
same_sequences seen p quiet = sequences_more seen p ∙ ap (λ (o : Option ℕ). sequences seen ++ put_before o []) quiet.whole ∙ append-nil (sequences seen)

-- the batches of a stripe are as before
pub same_sequences_of : (b : ℕ) (seen : List Place) (p : Place) → WritesNothing p → sequences_of b (with_place seen p) ≡ sequences_of b seen
same_sequences_of b seen p quiet = sequences_of_more b seen p ∙ ap (λ (o : Option ℕ). sequences_of b seen ++ put_before o []) (quiet.each b) ∙ append-nil (sequences_of b seen)

-- the batches are counted as before
pub still_counted : (opening : Opening) (core new : CoreState) (seen : List Place) (p : Place) → WritesNothing p → new.last ≡ core.last → ((b : ℕ) → new.books b ≡ core.books b)
    → ((row : Row) → Contains (rows_in new.sources) row → Contains (rows_in core.sources) row) → AreCounted opening core seen → AreCounted opening new (with_place seen p)
still_counted opening core new seen p quiet last books rows counted = record {
  rising = subst (λ (ns : List ℕ). GoUp opening.last ns new.last) (sym (same_sequences seen p quiet)) (subst (GoUp opening.last (sequences seen)) (sym last) counted.rising);
  limit = let a = counted.limit in omega (arith, last);
  books = λ b low. books b ∙ counted.books b low ∙ ap length (sym (same_sequences_of b seen p quiet));
  rows = λ row k there key of later. subst (λ (ns : List ℕ). Contains ns row.seq) (sym (same_sequences_of (stripe k) seen p quiet)) (counted.rows row k (rows row there) key of later);
}

-- ---- what ticks saw

-- the sequence and the moment don't fall, and what counted alike still does
pub record KeepsViews (core new : CoreState) : Type 0 where
  pub last : core.last ≤ new.last
  pub floor : core.floor ≤ new.floor
  pub alike : (c : Rows) (k : Bytes) → IsOnGrammar c → IsTrue (is_key k) → CountsAlike c (newest_rows core) core.floor k → CountsAlike c (newest_rows new) new.floor k

still_marked : (core new : CoreState) (seen : List Place) (p : Place) (view : ReadView) (b mark : ℕ) → WritesNothing p → KeepsViews core new → IsOnGrammar view.rows.map → IsMarked core seen view b mark → IsMarked new (with_place seen p) view b mark
still_marked core new seen p view b mark quiet keeps on is = record {
  grown = subst (λ (ns : List ℕ). mark ≤ length ns) back is.grown;
  old = subst (λ (ns : List ℕ). IsTrue (list_all (λ n. nat_le n view.seq) (take mark ns))) back is.old;
  same = λ whole k key of. keeps.alike view.rows.map k on key (is.same (whole ∙ ap length (sym back)) k key of);
}
  where
    back : sequences_of b seen ≡ sequences_of b (with_place seen p)
    back = sym (same_sequences_of b seen p quiet)

-- what a tick saw stays so
pub still_seen : (opening : Opening) (core new : CoreState) (seen : List Place) (p : Place) → WritesNothing p → KeepsViews core new → (s : State) (view : ReadView) → IsSeenView opening core seen s view → IsSeenView opening new (with_place seen p) s view
still_seen opening core new seen p quiet keeps s view is = record {
  since = is.since;
  written = let a = is.written in let b = keeps.last in omega arith;
  moment = is.moment;
  past = let a = is.past in let b = keeps.floor in omega arith;
  grammar = is.grammar;
  means = is.means;
  issued = is.issued;
  marks = λ b mark there. still_marked core new seen p view b mark quiet keeps is.grammar (is.marks b mark there);
}

-- and so with each tick
pub still_views : (opening : Opening) (core new : CoreState) (seen : List Place) (p : Place) → WritesNothing p → KeepsViews core new → OfEachTick (IsSeenView opening core seen) opening.state seen
    → OfTick (IsSeenView opening new (with_place seen p)) (step (state_at opening.state seen) p.what).1 p.what p.note → OfEachTick (IsSeenView opening new (with_place seen p)) opening.state (with_place seen p)
still_views opening core new seen p quiet keeps views last =
    ticks_more (IsSeenView opening new (with_place seen p)) opening.state seen p
    (ticks_weaker (IsSeenView opening core seen) (IsSeenView opening new (with_place seen p)) (still_seen opening core new seen p quiet keeps) opening.state seen views) last

-- ---- pins

-- where the rows mean at each pin what they meant
pub still_pinned : (core new : CoreState) (ps : List PinAt) (qs : List Pin) → core.last ≤ new.last → core.floor ≤ new.floor
    → ((p : PinAt) (m : RedisMap) → Contains ps p → p.seq ≤ core.last → Means (at (rows_in core.sources) p.seq) p.moment m → Means (at (rows_in new.sources) p.seq) p.moment m) → ArePinned core ps qs → ArePinned new ps qs
still_pinned core new [] [] last floor means are = tt
still_pinned core new [] (q ∷ qs) last floor means are = are
still_pinned core new (p ∷ ps) [] last floor means are = are
still_pinned core new (p ∷ ps) (q ∷ qs) last floor means are = (
  record {
    caller = are.0.caller;
    moment = are.0.moment;
    means = means p q.seen (0, omega arith, refl) are.0.written are.0.means;
    written = let a = are.0.written in omega arith;
    past = let a = are.0.past in omega arith;
  },
  still_pinned core new ps qs last floor (λ x m there. means x m (further ps p x there)) are.1,
)
  where
    further : (ps : List PinAt) (p x : PinAt) → Contains ps x → Contains (p ∷ ps) x
    further ps p x (k, low, is) = (suc k, omega arith, is)

-- a caller has a pin in both or in neither
pub same_pin : (core : CoreState) (caller : ℕ) (ps : List PinAt) (qs : List Pin) → ArePinned core ps qs → is_some (find (is_at caller) ps) ≡ is_some (find (is_of caller) qs)
same_pin core caller [] [] are = refl
same_pin core caller [] (q ∷ qs) are = absurd are
same_pin core caller (p ∷ ps) [] are = absurd are
same_pin core caller (p ∷ ps) (q ∷ qs) are = ap (λ (n : ℕ). is_some (find_by (n == caller) (find (is_at caller) ps) p)) are.0.caller ∙ by_test (q.caller == caller) (same_pin core caller ps qs are.1)
  where
    find_by : Bool → Option PinAt → PinAt → Option PinAt
    find_by b o p = cond b (Some p) o

    by_test : (b : Bool) → is_some (find (is_at caller) ps) ≡ is_some (find (is_of caller) qs) → is_some (find_by b (find (is_at caller) ps) p) ≡ is_some (cond b (Some q) (find (is_of caller) qs))
    by_test true rest = refl
    by_test false rest = rest

-- so a caller that is free in the core is free in the machine
pub still_free : (core : CoreState) (caller : ℕ) (s : State) → ArePinned core core.pins s.pins → IsNone (pin_at core caller) → IsNone (pin_of s caller)
still_free core caller s are free = no_pin (find (is_of caller) s.pins) (sym (same_pin core caller core.pins s.pins are) ∙ none (find (is_at caller) core.pins) free)
  where
    none : (o : Option PinAt) → IsNone o → is_some o ≡ false
    none None h = refl
    none (Some p) h = absurd (cc)

    no_pin : (o : Option Pin) → is_some o ≡ false → IsNone o
    no_pin None e = refl
    no_pin (Some p) e = absurd (cc)

-- ---- jobs

-- a core with the same jobs, frozen rows and levels
pub still_jobs : (core new : CoreState) (seen : List Place) (p : Place) → MarksNoJob p → new.flush ≡ core.flush → new.compact ≡ core.compact → new.sources.frozen ≡ core.sources.frozen → new.sources.levels ≡ core.sources.levels
    → HasJobs core seen → HasJobs new (with_place seen p)
still_jobs core new seen p none flush compact frozen levels jobs = record {
  flush = subst (IsOpenFlush new.flush) (sym (flush_more None seen p ∙ none.flush (open_flush None seen))) (subst (λ o. IsOpenFlush o (open_flush None seen)) (sym flush) jobs.flush);
  compact = subst (IsOpenCompaction new.compact) (sym (compact_more None seen p ∙ none.compact (open_compact None seen))) (subst (λ o. IsOpenCompaction o (open_compact None seen)) (sym compact) jobs.compact);
  frozen = subst (λ o. IfSome o (λ f. new.sources.frozen ≡ Some f.rows)) (sym flush) (subst (λ (r : Option (List Row)). IfSome core.flush (λ f. r ≡ Some f.rows)) (sym frozen) jobs.frozen);
  since = subst (λ o. IfSome o (IsSince new)) (sym compact) (since_too core.compact jobs.since);
}
  where
    since_too : (o : Option Compaction) → IfSome o (IsSince core) → IfSome o (IsSince new)
    since_too None h = tt
    since_too (Some job) h = record { choice = h.choice; flushed = h.flushed; levels = levels ∙ h.levels }

-- ---- the floor

-- at a later moment the rows mean what is alive then
pub later_keys : (rows : Rows) (f u : ℕ) (m : RedisMap) → f ≤ u → Means rows f (alive m f) → Means rows u (alive m u)
later_keys rows f u m le means = subst (Means rows u) (alive-later m f u le) (means_later rows f u (alive m f) le means)

-- a floor that rises keeps what ticks saw
pub raised_keeps : (core : CoreState) (now : ℕ) → IsTrue (are_row_texts (rows_in core.sources)) → KeepsViews core (raised core now)
raised_keeps core now texts = record {
  last = omega arith;
  floor = omega arith;
  alike = λ c k on key alike. alike_later c (newest_rows core) core.floor (event_moment core now) k on (at_on_grammar (rows_in core.sources) core.last texts) key (omega arith) alike;
}
