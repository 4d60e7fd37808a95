-- The events of a flush, and the marks of jobs that find nothing to do: rows move between sources, and nothing else changes.
use Rattle.std.proofs.Common.{◌≡◌, ℕ, ◌+◌, List, [], ◌∷◌, ◌++◌, refl, sym, ap, subst, ◌∙◌, arith}
use Rattle.std.specs.Prelude.{Option, Some, None, IsTrue, IsNone, IfSome}
use Rattle.std.specs.List.{Contains}
use Rattle.kv_base.specs.declared.row.Row.{Row}
use Rattle.row_model.specs.Rows.{at, are_row_texts, are_upto, AreApart}
use Rattle.row_model.specs.RowLaws.{there_never}
use Rattle.redis_model.specs.declared.history.JobKind.{JobKind}
use Rattle.redis_model.specs.declared.history.JobKind.TheVariants as kind
use Rattle.redis_model.specs.declared.history.JobMark.{JobMark}
use Rattle.redis_model.specs.declared.history.JobMark.TheVariants.{Begun, Done, Dropped, Idle, Met}
use Rattle.redis_model.specs.Machine.{State, Pin}
use Rattle.redis_model.specs.Legal.{MayMark, open_job}
use Rattle.lives_model.specs.Clean.{clean}
use Rattle.core_model.specs.Sources.{Table, Sources, rows_in, all_rows, waiting, in_levels, newest_first, AreNewestFirst, AreLevelled}
use Rattle.filter_laws.specs.Replaced.{AreNewer}
use Rattle.core_model.specs.Places.{OpenJob, open_flush, open_compact}
use Rattle.redis_model.specs.declared.history.Place.{Place}
use Rattle.redis_model.specs.declared.history.Note.{Note}
use Rattle.redis_model.specs.declared.history.ReadView.{ReadView}
use Rattle.redis_model.specs.Places.{state_at, Opening}
use Rattle.redis_model.specs.declared.history.Task.{Task}
use Rattle.redis_model.specs.declared.history.JobAsked.{JobAsked}
use Rattle.redis_model.specs.declared.history.Note.TheVariants.{Began}
use Rattle.core_model.specs.Core.{PinAt, Flush, Compaction, Attempt, TriedEdit, CoreState, flushed_above, flushed_front}
use Rattle.core_model.specs.Stands.{ArePinned, IsSeenView, AreKept, IsOpenFlush, IsOpenCompaction, IsSince, Stands}
use Rattle.core_model.specs.Events.{Freezes, InstallsFlush, DropsFlush, FindsNoFlush, MeetsFlush, FindsNoCompact, MeetsCompact, DropsCompact, FailsCall, frozen_of, to_flush, with_flush, put_in_front, mark}
use Rattle.core_model.specs.PlacesLaws.{with_place, ticks_weaker, flush_more, compact_more, caller_of, callers}
use Rattle.core_events.specs.GoingLaws.{still_pinned}
use Rattle.core_events.specs.ReplacingLaws.{KeepsRows, replaced_stands, no_flush, one_flush, some_flush, no_compact, one_compact, some_compact}

-- ---- the same rows

-- sources with the same rows, in order
kept_sources : (sources other : Sources) (last : ℕ) → AreKept sources last → rows_in other ≡ rows_in sources → AreNewestFirst (newest_first other) → AreLevelled other.levels → AreKept other last
kept_sources sources other last kept same order levels = record {
  grammar = subst (λ (rows : List Row). IsTrue (are_row_texts rows)) (sym same) kept.grammar;
  upto = subst (λ (rows : List Row). IsTrue (are_upto last rows)) (sym same) kept.upto;
  issued = λ row there. kept.issued row (subst (λ (rows : List Row). Contains rows row) same there);
  apart = subst AreApart (sym same) kept.apart;
  order = order;
  levels = levels;
}

-- keep all that the rows mean
pub moved_rows : (opening : Opening) (core new : CoreState) (seen : List Place) → Stands opening core seen → new.last ≡ core.last → new.floor ≡ core.floor → new.pins ≡ core.pins → ((b : ℕ) → new.books b ≡ core.books b)
    → rows_in new.sources ≡ rows_in core.sources → AreNewestFirst (newest_first new.sources) → AreLevelled new.sources.levels → KeepsRows core new
moved_rows opening core new seen stands last floor pins books same order levels = record {
  last = last;
  floor = floor;
  pins = pins;
  books = books;
  rows = kept_sources core.sources new.sources core.last stands.rows same order levels;
  from = λ row there. record { old = row; there = subst (λ (rows : List Row). Contains rows row) same there; raw = refl; seq = refl };
  newest_too = ap (λ (rows : List Row). clean (at rows core.last) core.floor) (sym same);
  pinned_too = λ p there. ap (λ (rows : List Row). clean (at rows p.seq) p.moment) (sym same);
}

-- the very same sources
pub still_rows : (opening : Opening) (core new : CoreState) (seen : List Place) → Stands opening core seen → new.last ≡ core.last → new.floor ≡ core.floor → new.pins ≡ core.pins → ((b : ℕ) → new.books b ≡ core.books b)
    → new.sources ≡ core.sources → KeepsRows core new
still_rows opening core new seen stands last floor pins books same =
    moved_rows opening core new seen stands last floor pins books (ap rows_in same) (subst (λ (s : Sources). AreNewestFirst (newest_first s)) (sym same) stands.rows.order)
    (subst (λ (s : Sources). AreLevelled s.levels) (sym same) stands.rows.levels)

-- ---- freezing

-- no row is lost where a memtable is frozen
pub frozen_rows : (s : Sources) (o : Option (List Row)) → s.frozen ≡ o → rows_in (frozen_of s o) ≡ rows_in s
unfolding rows_in
frozen_rows s None e = ap (λ (o : Option (List Row)). s.memory ++ all_rows (waiting o ++ in_levels s.levels)) (sym e)
frozen_rows s (Some rows) e = refl

none_newer : (rows : List Row) → AreNewer [] rows
none_newer rows row other there behind is = absurd (there_never row there)

frozen_order : (s : Sources) (o : Option (List Row)) → s.frozen ≡ o → AreNewestFirst (newest_first s) → AreNewestFirst (newest_first (frozen_of s o))
frozen_order s None e order = (none_newer (all_rows (s.memory ∷ in_levels s.levels)), subst (λ (o : Option (List Row)). AreNewestFirst (s.memory ∷ (waiting o ++ in_levels s.levels))) e order)
frozen_order s (Some rows) e order = order

frozen_levels : (s : Sources) (o : Option (List Row)) → (frozen_of s o).levels ≡ s.levels
frozen_levels s None = refl
frozen_levels s (Some rows) = refl

frozen_is : (s : Sources) (o : Option (List Row)) → s.frozen ≡ o → (frozen_of s o).frozen ≡ Some (to_flush s o)
frozen_is s None e = refl
frozen_is s (Some rows) e = e

-- a compaction is open as before, where levels stay
since_with : (core new : CoreState) (o : Option Compaction) → new.sources.levels ≡ core.sources.levels → IfSome o (IsSince core) → IfSome o (IsSince new)
since_with core new None e h = tt
since_with core new (Some job) e h = record { choice = h.choice; flushed = h.flushed; levels = e ∙ h.levels }

-- a flush begins
pub freeze_stands : (opening : Opening) (core new : CoreState) (seen : List Place) (caller : ℕ) (asked : JobAsked) (task : Task) → Stands opening core seen → Freezes core new caller task
    → Stands opening new (with_place seen (mark caller kind.Flush Begun (Began asked task)))
freeze_stands opening core new seen caller asked task stands freezes =
    subst (λ (c : CoreState). Stands opening c (with_place seen place)) (sym freezes.core)
    (replaced_stands opening core (with_flush core caller) seen caller kind.Flush Begun (Began asked task) stands
    (moved_rows opening core (with_flush core caller) seen stands refl refl refl (λ b. refl) (frozen_rows core.sources core.sources.frozen refl) (frozen_order core.sources core.sources.frozen refl stands.rows.order)
    (subst AreLevelled (sym (frozen_levels core.sources core.sources.frozen)) stands.rows.levels))
    (subst (λ (o : Option OpenJob). IsNone (caller_of o)) (sym none) refl)
    (record {
      flush = subst (λ (o : Option OpenJob). IsOpenFlush (with_flush core caller).flush o) (sym (flush_more None seen place)) (refl, ap (λ (t : Task). Some t) freezes.task_is);
      compact = subst (IsOpenCompaction core.compact) (sym (compact_more None seen place)) stands.jobs.compact;
      frozen = frozen_is core.sources core.sources.frozen refl;
      since = since_with core (with_flush core caller) core.compact (frozen_levels core.sources core.sources.frozen) stands.jobs.since;
    }))
  where
    place : Place
    place = mark caller kind.Flush Begun (Began asked task)

    none : open_flush None seen ≡ None
    none = no_flush core.flush (open_flush None seen) stands.jobs.flush freezes.none

-- ---- installing

in_front_is : (t : Table) (levels : List (List Table)) → in_levels (put_in_front t levels) ≡ t.rows ∷ in_levels levels
in_front_is t [] = refl
in_front_is t (top ∷ deeper) = refl

in_front_levelled : (t : Table) (levels : List (List Table)) → AreLevelled levels → AreLevelled (put_in_front t levels)
in_front_levelled t [] h = tt
in_front_levelled t (top ∷ deeper) h = h

in_front_since : (t : Table) (more : List Table) (above : List (List Table)) (front others : List Table) (deeper : List (List Table))
    → put_in_front t (flushed_above more above ++ (flushed_front more above front ++ others) ∷ deeper) ≡ flushed_above (t ∷ more) above ++ (flushed_front (t ∷ more) above front ++ others) ∷ deeper
in_front_since t more [] front others deeper = refl
in_front_since t more (top ∷ above) front others deeper = refl

installed_since : (core new : CoreState) (t : Table) (o : Option Compaction) → new.sources.levels ≡ put_in_front t core.sources.levels → IfSome o (IsSince core) → IfSome o (IsSince new)
installed_since core new t None e h = tt
installed_since core new t (Some job) e h = record {
  choice = h.choice;
  flushed = t ∷ h.flushed;
  levels = e ∙ ap (put_in_front t) h.levels
      ∙ in_front_since t h.flushed job.choice.above job.choice.front (job.choice.chosen ++ job.choice.behind) ((job.choice.next_front ++ (job.choice.next_chosen ++ job.choice.next_behind)) ∷ job.choice.deeper);
}

-- where the frozen rows become the first table, the lists of rows are the same
pub same_lists : (s : Sources) (t : Table) (rows : List Row) → s.frozen ≡ Some rows → t.rows ≡ rows → newest_first (record s { frozen = None; levels = put_in_front t s.levels }) ≡ newest_first s
same_lists s t rows e same =
    ap (λ (ls : List (List Row)). s.memory ∷ ls) (in_front_is t s.levels)
    ∙ ap (λ (r : List Row). s.memory ∷ (r ∷ in_levels s.levels)) same
    ∙ ap (λ (o : Option (List Row)). s.memory ∷ (waiting o ++ in_levels s.levels)) (sym e)

-- sources with the same lists have the same rows
pub same_sources : (s other : Sources) → newest_first other ≡ newest_first s → rows_in other ≡ rows_in s
unfolding rows_in
same_sources s other e = ap all_rows e

-- a flush ends
pub install_flush_stands : (opening : Opening) (core new : CoreState) (seen : List Place) (caller : ℕ) (note : Note) (t : Table) → Stands opening core seen → InstallsFlush core new caller t
    → Stands opening new (with_place seen (mark caller kind.Flush Done note))
install_flush_stands opening core new seen caller note t stands installs =
    subst (λ (c : CoreState). Stands opening c (with_place seen place)) (sym installs.core)
    (replaced_stands opening core after seen caller kind.Flush Done note stands
    (moved_rows opening core after seen stands refl refl refl (λ b. refl) (same_sources core.sources after.sources lists)
    (subst AreNewestFirst (sym lists) stands.rows.order) (in_front_levelled t core.sources.levels stands.rows.levels))
    (one_flush core.flush (open_flush None seen) installs.flush stands.jobs.flush installs.open_ ∙ ap (λ (n : ℕ). Some n) installs.own)
    (record {
      flush = subst (IsOpenFlush None) (sym (flush_more None seen place)) tt;
      compact = subst (IsOpenCompaction core.compact) (sym (compact_more None seen place)) stands.jobs.compact;
      frozen = tt;
      since = installed_since core after t core.compact refl stands.jobs.since;
    }))
  where
    place : Place
    place = mark caller kind.Flush Done note

    after : CoreState
    after = record core {
      sources = record core.sources { frozen = None; levels = put_in_front t core.sources.levels };
      flush = None;
      tried = None;
      log = core.log + 1;
      manifest_floor = core.floor;
    }

    frozen : core.sources.frozen ≡ Some installs.flush.rows
    frozen = subst (λ (o : Option Flush). IfSome o (λ f. core.sources.frozen ≡ Some f.rows)) installs.open_ stands.jobs.frozen

    lists : newest_first (record core.sources { frozen = None; levels = put_in_front t core.sources.levels }) ≡ newest_first core.sources
    lists = same_lists core.sources t installs.flush.rows frozen installs.rows

-- ---- given up, and nothing to do

-- a flush is given up
pub drop_flush_stands : (opening : Opening) (core new : CoreState) (seen : List Place) (caller : ℕ) (note : Note) → Stands opening core seen → DropsFlush core new caller → Stands opening new (with_place seen (mark caller kind.Flush Dropped note))
drop_flush_stands opening core new seen caller note stands drops =
    subst (λ (c : CoreState). Stands opening c (with_place seen (mark caller kind.Flush Dropped note))) (sym drops.core)
    (replaced_stands opening core (record core { flush = None; tried = drops.tried }) seen caller kind.Flush Dropped note stands
    (still_rows opening core (record core { flush = None; tried = drops.tried }) seen stands refl refl refl (λ b. refl) refl)
    (one_flush core.flush (open_flush None seen) drops.flush stands.jobs.flush drops.open_ ∙ ap (λ (n : ℕ). Some n) drops.own)
    (record {
      flush = subst (IsOpenFlush None) (sym (flush_more None seen (mark caller kind.Flush Dropped note))) tt;
      compact = subst (IsOpenCompaction core.compact) (sym (compact_more None seen (mark caller kind.Flush Dropped note))) stands.jobs.compact;
      frozen = tt;
      since = since_with core (record core { flush = None; tried = drops.tried }) core.compact refl stands.jobs.since;
    }))

-- a compaction is given up
pub drop_compact_stands : (opening : Opening) (core new : CoreState) (seen : List Place) (caller : ℕ) (note : Note) → Stands opening core seen → DropsCompact core new caller → Stands opening new (with_place seen (mark caller kind.Compact Dropped note))
drop_compact_stands opening core new seen caller note stands drops =
    subst (λ (c : CoreState). Stands opening c (with_place seen (mark caller kind.Compact Dropped note))) (sym drops.core)
    (replaced_stands opening core (record core { compact = None; attempt = drops.attempt; tried = drops.tried }) seen caller kind.Compact Dropped note stands
    (still_rows opening core (record core { compact = None; attempt = drops.attempt; tried = drops.tried }) seen stands refl refl refl (λ b. refl) refl)
    (one_compact core.compact (open_compact None seen) drops.job stands.jobs.compact drops.open_ ∙ ap (λ (n : ℕ). Some n) drops.own)
    (record {
      flush = subst (IsOpenFlush core.flush) (sym (flush_more None seen (mark caller kind.Compact Dropped note))) stands.jobs.flush;
      compact = subst (IsOpenCompaction None) (sym (compact_more None seen (mark caller kind.Compact Dropped note))) tt;
      frozen = stands.jobs.frozen;
      since = tt;
    }))

-- a mark that leaves core and jobs as they are
module _ (opening : Opening) (core : CoreState) (seen : List Place) (caller : ℕ) (note : Note) (stands : Stands opening core seen) where
  idle_stands : (k : JobKind) (sign : JobMark) → MayMark (open_job (callers (open_flush None seen) (open_compact None seen)) k) caller k sign
      → open_flush None (with_place seen (mark caller k sign note)) ≡ open_flush None seen → open_compact None (with_place seen (mark caller k sign note)) ≡ open_compact None seen → Stands opening core (with_place seen (mark caller k sign note))
  idle_stands k sign may flush compact =
      replaced_stands opening core core seen caller k sign note stands (still_rows opening core core seen stands refl refl refl (λ b. refl) refl) may (record {
        flush = subst (IsOpenFlush core.flush) (sym flush) stands.jobs.flush;
        compact = subst (IsOpenCompaction core.compact) (sym compact) stands.jobs.compact;
        frozen = stands.jobs.frozen;
        since = stands.jobs.since;
      })

  -- there is nothing to flush
  pub find_no_flush_stands : (new : CoreState) → FindsNoFlush core new → Stands opening new (with_place seen (mark caller kind.Flush Idle note))
  find_no_flush_stands new finds = subst (λ (c : CoreState). Stands opening c (with_place seen (mark caller kind.Flush Idle note))) (sym finds.core)
      (idle_stands kind.Flush Idle (subst (λ (o : Option OpenJob). IsNone (caller_of o)) (sym (no_flush core.flush (open_flush None seen) stands.jobs.flush finds.none)) refl)
      (flush_more None seen (mark caller kind.Flush Idle note)) (compact_more None seen (mark caller kind.Flush Idle note)))

  -- a flush is open already
  pub meet_flush_stands : (new : CoreState) → MeetsFlush core new → Stands opening new (with_place seen (mark caller kind.Flush Met note))
  meet_flush_stands new meets = subst (λ (c : CoreState). Stands opening c (with_place seen (mark caller kind.Flush Met note))) (sym meets.core)
      (idle_stands kind.Flush Met (some_flush core.flush (open_flush None seen) stands.jobs.flush meets.some)
      (flush_more None seen (mark caller kind.Flush Met note)) (compact_more None seen (mark caller kind.Flush Met note)))

  -- there is nothing to compact
  pub find_no_compact_stands : (new : CoreState) → FindsNoCompact core new → Stands opening new (with_place seen (mark caller kind.Compact Idle note))
  find_no_compact_stands new finds = subst (λ (c : CoreState). Stands opening c (with_place seen (mark caller kind.Compact Idle note))) (sym finds.core)
      (idle_stands kind.Compact Idle (subst (λ (o : Option OpenJob). IsNone (caller_of o)) (sym (no_compact core.compact (open_compact None seen) stands.jobs.compact finds.none)) refl)
      (flush_more None seen (mark caller kind.Compact Idle note)) (compact_more None seen (mark caller kind.Compact Idle note)))

  -- a compaction is open already
  pub meet_compact_stands : (new : CoreState) → MeetsCompact core new → Stands opening new (with_place seen (mark caller kind.Compact Met note))
  meet_compact_stands new meets = subst (λ (c : CoreState). Stands opening c (with_place seen (mark caller kind.Compact Met note))) (sym meets.core)
      (idle_stands kind.Compact Met (some_compact core.compact (open_compact None seen) stands.jobs.compact meets.some)
      (flush_more None seen (mark caller kind.Compact Met note)) (compact_more None seen (mark caller kind.Compact Met note)))

  -- tables are counted
  pub count_stands : Stands opening core (with_place seen (mark caller kind.Counts Idle note))
  count_stands = idle_stands kind.Counts Idle refl (flush_more None seen (mark caller kind.Counts Idle note)) (compact_more None seen (mark caller kind.Counts Idle note))

-- ---- faults

-- what waits to be mended changes nothing
pub waiting_stands : (opening : Opening) (core : CoreState) (seen : List Place) (attempt : Option Attempt) (tried : Option TriedEdit) → Stands opening core seen → Stands opening (record core { attempt = attempt; tried = tried }) seen
waiting_stands opening core seen attempt tried stands = record {
  legal = stands.legal;
  keys = record { floor = stands.keys.floor; early = stands.keys.early; means = stands.keys.means };
  pins = pins_too core.pins (state_at opening.state seen).pins stands.pins;
  rows = stands.rows;
  counts = record { rising = stands.counts.rising; limit = stands.counts.limit; books = stands.counts.books; rows = stands.counts.rows };
  views = ticks_weaker (IsSeenView opening core seen) (IsSeenView opening (record core { attempt = attempt; tried = tried }) seen) seen_too opening.state seen stands.views;
  jobs = record { flush = stands.jobs.flush; compact = stands.jobs.compact; frozen = stands.jobs.frozen; since = since_with core (record core { attempt = attempt; tried = tried }) core.compact refl stands.jobs.since };
}
  where
    pins_too : (ps : List PinAt) (qs : List Pin) → ArePinned core ps qs → ArePinned (record core { attempt = attempt; tried = tried }) ps qs
    pins_too ps qs are = still_pinned core (record core { attempt = attempt; tried = tried }) ps qs (omega arith) (omega arith) (λ p m there low means. means) are

    seen_too : (s : State) (view : ReadView) → IsSeenView opening core seen s view → IsSeenView opening (record core { attempt = attempt; tried = tried }) seen s view
    seen_too s view is = record {
      since = is.since;
      written = is.written;
      moment = is.moment;
      past = is.past;
      grammar = is.grammar;
      means = is.means;
      issued = is.issued;
      marks = λ b n there. record { grown = (is.marks b n there).grown; old = (is.marks b n there).old; same = (is.marks b n there).same };
    }

-- a call that failed made no entry
pub fail_stands : (opening : Opening) (core new : CoreState) (seen : List Place) → Stands opening core seen → FailsCall core new → Stands opening new seen
fail_stands opening core new seen stands fails = subst (λ (c : CoreState). Stands opening c seen) (sym fails.core) (waiting_stands opening core seen fails.attempt fails.tried stands)
