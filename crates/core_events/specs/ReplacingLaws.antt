-- Events of jobs: sources change, and what the rows mean does not.
use Rattle.std.proofs.Common.{◌≡◌, ℕ, ◌<◌, List, refl, sym, ap, subst, ◌∙◌, arith}
use Rattle.std.specs.Prelude.{Option, Some, None, IsTrue, IsSome}
use Rattle.std.specs.List.{Contains}
use Rattle.kv_base.specs.Map.{Bytes}
use Rattle.kv_base.specs.Hash.{stripe}
use Rattle.kv_base.specs.RawKeys.{is_key}
use Rattle.kv_base.specs.declared.row.Row.{Row}
use Rattle.row_model.specs.Rows.{at}
use Rattle.redis_model.specs.declared.history.Step.TheVariants.{Job}
use Rattle.redis_model.specs.declared.history.JobKind.{JobKind}
use Rattle.redis_model.specs.declared.history.JobMark.{JobMark}
use Rattle.redis_model.specs.Value.{alive}
use Rattle.redis_model.specs.Machine.{State, step}
use Rattle.redis_model.specs.Legal.{Jobs, open_job, MayMark}
use Rattle.lives_model.specs.Rows.{Rows, IsOnGrammar}
use Rattle.lives_model.specs.RowKeys.{IsOfKey}
use Rattle.lives_model.specs.Clean.{clean}
use Rattle.lives_model.specs.CleanLaws.{clean_means}
use Rattle.lives_model.specs.Means.{Means}
use Rattle.lives_model.specs.Lapses.{CountsAlike}
use Rattle.core_model.specs.Sources.{rows_in, HasRowAt}
use Rattle.core_model.specs.Places.{OpenJob, sequences_of, open_flush, open_compact}
use Rattle.redis_model.specs.declared.history.Place.{Place}
use Rattle.redis_model.specs.declared.history.Note.{Note}
use Rattle.redis_model.specs.Places.{sequences, state_at, Opening, GoUp}
use Rattle.core_model.specs.Core.{PinAt, Flush, Compaction, CoreState, newest_rows}
use Rattle.core_model.specs.Stands.{MeansKeys, ArePinned, AreKept, AreCounted, IsOpenFlush, IsOpenCompaction, HasJobs, Stands}
use Rattle.core_model.specs.Events.{mark}
use Rattle.core_model.specs.AlikeLaws.{alike_through, alike_clean}
use Rattle.core_model.specs.RowsLaws.{at_on_grammar}
use Rattle.core_model.specs.PlacesLaws.{with_place, state_with_place, legal_more, jobs_open, callers, caller_of}
use Rattle.core_events.specs.GoingLaws.{WritesNothing, KeepsViews, still_counted, still_views, still_pinned}

-- ---- what an exchange of sources keeps

-- Sequence, floor, pins and books stay, and each raw key with a sequence was there before. What counts stays: of the newest rows
-- at the floor and later, and of the rows of each pin at its moment.
pub record KeepsRows (core new : CoreState) : Type 0 where
  pub last : new.last ≡ core.last
  pub floor : new.floor ≡ core.floor
  pub pins : new.pins ≡ core.pins
  pub books : (b : ℕ) → new.books b ≡ core.books b
  pub rows : AreKept new.sources core.last
  pub from : (row : Row) → Contains (rows_in new.sources) row → HasRowAt (rows_in core.sources) row
  pub newest_too : clean (at (rows_in core.sources) core.last) core.floor ≡ clean (at (rows_in new.sources) core.last) core.floor
  pub pinned_too : (p : PinAt) → Contains core.pins p → clean (at (rows_in core.sources) p.seq) p.moment ≡ clean (at (rows_in new.sources) p.seq) p.moment

mark_quiet : (caller : ℕ) (k : JobKind) (sign : JobMark) (note : Note) → WritesNothing (mark caller k sign note)
mark_quiet caller k sign note = record { whole = refl; each = λ b. refl }

mark_step : (s : State) (caller : ℕ) (k : JobKind) (sign : JobMark) → (step s (Job caller k sign)).1 ≡ s
unfolding step
mark_step s caller k sign = refl

module _ (opening : Opening) (core new : CoreState) (seen : List Place) (caller : ℕ) (k : JobKind) (sign : JobMark) (note : Note) (stands : Stands opening core seen) (keeps : KeepsRows core new) where
  abbrev place : Place
  place = mark caller k sign note

  abbrev s : State
  s = state_at opening.state seen

  on : (q : ℕ) → IsOnGrammar (at (rows_in core.sources) q)
  on q = at_on_grammar (rows_in core.sources) q stands.rows.grammar

  on_too : (q : ℕ) → IsOnGrammar (at (rows_in new.sources) q)
  on_too q = at_on_grammar (rows_in new.sources) q keeps.rows.grammar

  same_newest : newest_rows new ≡ at (rows_in new.sources) core.last
  same_newest = ap (at (rows_in new.sources)) keeps.last

  new_views : KeepsViews core new
  new_views = record {
    last = let e = keeps.last in omega (arith, e);
    floor = let e = keeps.floor in omega (arith, e);
    alike = λ c key fits short alike.
        subst (λ (t : ℕ). CountsAlike c (newest_rows new) t key) (sym keeps.floor)
        (subst (λ (d : Rows). CountsAlike c d core.floor key) (sym same_newest)
        (alike_through c (newest_rows core) (at (rows_in new.sources) core.last) core.floor key alike
        (alike_clean (newest_rows core) (at (rows_in new.sources) core.last) core.floor key keeps.newest_too)));
  }

  new_keys : MeansKeys new s
  new_keys = record {
    floor = keeps.floor ∙ stands.keys.floor;
    early = let a = stands.keys.early in let e = keeps.floor in omega (arith, e);
    means = subst (λ (t : ℕ). Means (newest_rows new) t (alive s.keys t)) (sym keeps.floor)
        (subst (λ (c : Rows). Means c core.floor (alive s.keys core.floor)) (sym same_newest)
        (clean_means (newest_rows core) (at (rows_in new.sources) core.last) core.floor (alive s.keys core.floor) (on core.last) (on_too core.last) keeps.newest_too stands.keys.means));
  }

  new_pins : ArePinned new new.pins s.pins
  new_pins = subst (λ (ps : List PinAt). ArePinned new ps s.pins) (sym keeps.pins)
      (still_pinned core new core.pins s.pins new_views.last new_views.floor
      (λ p m there low means. clean_means (at (rows_in core.sources) p.seq) (at (rows_in new.sources) p.seq) p.moment m (on p.seq) (on_too p.seq) (keeps.pinned_too p there) means) stands.pins)

  new_counts : AreCounted opening new (with_place seen place)
  new_counts =
      let still = still_counted opening core core seen place (mark_quiet caller k sign note) refl (λ b. refl) (λ row there. there) stands.counts in
      record {
        rising = subst (λ (n : ℕ). GoUp opening.last (sequences (with_place seen place)) n) (sym keeps.last) still.rising;
        limit = let a = still.limit in let e = keeps.last in omega (arith, e);
        books = λ b low. keeps.books b ∙ still.books b low;
        rows = λ row key there short of later. by_old row key short of later (keeps.from row there) still.rows;
      }
    where
      by_old : (row : Row) (key : Bytes) → IsTrue (is_key key) → IsOfKey key row.raw → opening.last < row.seq → HasRowAt (rows_in core.sources) row
          → ((r : Row) (j : Bytes) → Contains (rows_in core.sources) r → IsTrue (is_key j) → IsOfKey j r.raw → opening.last < r.seq → Contains (sequences_of (stripe j) (with_place seen place)) r.seq)
          → Contains (sequences_of (stripe key) (with_place seen place)) row.seq
      by_old row key short of later h rows =
          subst (λ (n : ℕ). Contains (sequences_of (stripe key) (with_place seen place)) n) h.seq
          (rows h.old key h.there short (subst (IsOfKey key) (sym h.raw) of) (subst (λ (n : ℕ). opening.last < n) (sym h.seq) later))

  -- the core stands for the history with the mark
  pub replaced_stands : MayMark (open_job (callers (open_flush None seen) (open_compact None seen)) k) caller k sign → HasJobs new (with_place seen place) → Stands opening new (with_place seen place)
  replaced_stands may jobs = record {
    legal = legal_more opening.state seen place stands.legal (subst (λ (j : Jobs). MayMark (open_job j k) caller k sign) (sym (jobs_open seen)) may);
    keys = subst (MeansKeys new) (sym here) new_keys;
    pins = subst (λ (t : State). ArePinned new new.pins t.pins) (sym here) new_pins;
    rows = subst (AreKept new.sources) (sym keeps.last) keeps.rows;
    counts = new_counts;
    views = still_views opening core new seen place (mark_quiet caller k sign note) new_views stands.views tt;
    jobs = jobs;
  }
    where
      here : state_at opening.state (with_place seen place) ≡ s
      here = state_with_place opening.state seen place ∙ mark_step s caller k sign

-- ---- which jobs are open

-- where none is open in the core none is in the history
pub no_flush : (f : Option Flush) (o : Option OpenJob) → IsOpenFlush f o → f ≡ None → o ≡ None
no_flush None None h e = refl
no_flush None (Some o) h e = absurd h
no_flush (Some f) None h e = absurd h
no_flush (Some f) (Some o) h e = absurd (cc)

-- the one of the core is that of the history
pub one_flush : (f : Option Flush) (o : Option OpenJob) (job : Flush) → IsOpenFlush f o → f ≡ Some job → caller_of o ≡ Some job.caller
one_flush None o job h e = absurd (cc)
one_flush (Some f) None job h e = absurd h
one_flush (Some f) (Some o) job h e = let is : f ≡ job = cc in ap (λ (n : ℕ). Some n) (h.0 ∙ ap (λ (x : Flush). x.caller) is)

-- where one is open in the core one is in the history
pub some_flush : (f : Option Flush) (o : Option OpenJob) → IsOpenFlush f o → IsSome f → IsSome (caller_of o)
some_flush None o h e = absurd (cc)
some_flush (Some f) None h e = absurd h
some_flush (Some f) (Some o) h e = refl

-- the same of compactions: where none is open
pub no_compact : (f : Option Compaction) (o : Option OpenJob) → IsOpenCompaction f o → f ≡ None → o ≡ None
no_compact None None h e = refl
no_compact None (Some o) h e = absurd h
no_compact (Some f) None h e = absurd h
no_compact (Some f) (Some o) h e = absurd (cc)

-- where this one is
pub one_compact : (f : Option Compaction) (o : Option OpenJob) (job : Compaction) → IsOpenCompaction f o → f ≡ Some job → caller_of o ≡ Some job.caller
one_compact None o job h e = absurd (cc)
one_compact (Some f) None job h e = absurd h
one_compact (Some f) (Some o) job h e = let is : f ≡ job = cc in ap (λ (n : ℕ). Some n) (h.0 ∙ ap (λ (x : Compaction). x.caller) is)

-- and where some one is
pub some_compact : (f : Option Compaction) (o : Option OpenJob) → IsOpenCompaction f o → IsSome f → IsSome (caller_of o)
some_compact None o h e = absurd (cc)
some_compact (Some f) None h e = absurd h
some_compact (Some f) (Some o) h e = refl
