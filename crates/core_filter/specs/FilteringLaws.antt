-- A compaction that leaves what the four rules say: its end keeps what counts for each pin, and of the newest rows.
use Rattle.std.proofs.Common.{◌≡◌, ℕ, zero, suc, ◌≤◌, List, [], ◌∷◌, ◌++◌, refl, sym, ap, subst, ◌∙◌, true, inl, inr, arith}
use Rattle.std.proofs.lemmas.Bool.Decides.{nat_tests}
use Rattle.std.proofs.lemmas.List.Elements.{Contains-append_left, Contains-append_right, Contains-append_cases}
use Rattle.std.specs.Prelude.{◌⊎◌, nat_le, max, map, None, IfSome}
use Rattle.std.specs.List.{Contains}
use Rattle.kv_base.specs.declared.row.Row.{Row}
use Rattle.row_model.specs.Rows.{at, is_row_text, are_row_texts, are_upto, AreApart, HaveSameRows}
use Rattle.redis_model.specs.declared.history.JobKind.TheVariants as kind
use Rattle.redis_model.specs.declared.history.JobMark.TheVariants.{Done}
use Rattle.redis_model.specs.declared.history.Place.{Place}
use Rattle.redis_model.specs.declared.history.Note.{Note}
use Rattle.redis_model.specs.Places.{Opening}
use Rattle.lives_model.specs.Clean.{clean}
use Rattle.lives_model.specs.Issued.{IsIssuedRow}
use Rattle.filter_laws.specs.declared.watcher.Watcher.{Watcher}
use Rattle.filter_laws.specs.Kept.{kept_rows, buried, is_dead_to_all, IsRowOrBurial}
use Rattle.filter_laws.specs.KeptRowLaws.{all_there}
use Rattle.filter_laws.specs.KeptLaws.{all_pass, kept_row, kept_on_grammar, kept_upto, kept_apart_from}
use Rattle.filter_laws.specs.Replaced.{ArePlaced}
use Rattle.filter_laws.specs.Filtered.{IsPutInPlace}
use Rattle.filter_laws.specs.FilteredLaws.{pins_see_alike, newest_alike}
use Rattle.core_model.specs.Sources.{Table, Sources, rows_in, all_rows, waiting, in_tables, in_levels, AreAscending}
use Rattle.core_model.specs.Core.{PinAt, watcher_of, current, Choice, IsCompactionChoice, Compaction, CoreState, newest_rows, inputs_of, levels_with, with_flushed}
use Rattle.core_model.specs.Stands.{AreKept, IsSince, Stands}
use Rattle.core_model.specs.Events.{InstallsCompact, mark}
use Rattle.core_model.specs.Filtered.{inputs_in_order, deeper_rows, filtering_of, IsFiltered, StandsFiltered}
use Rattle.core_model.specs.PlacesLaws.{with_place}
use Rattle.core_model.specs.RowsLaws.{upto_each}
use Rattle.core_events.specs.ReplacingLaws.{KeepsRows}
use Rattle.core_events.specs.SwappingLaws.{AllAt}
use Rattle.core_events.specs.CompactingLaws.{same_together, old_lists, new_lists, inputs_are, old_order, front_below, behind_above, behind_parted, new_order, new_levels, new_at, installed_stands}
use Rattle.core_filter.specs.PlacingLaws.{before_parts, after_parts, stays_placed}

-- the watcher of a pin
watcher_there : (ps : List PinAt) (p : PinAt) → Contains ps p → Contains (map watcher_of ps) (watcher_of p)
watcher_there [] p (k, low, is) = absurd (omega arith)
watcher_there (x ∷ ps) p (zero, low, is) = (0, omega arith, ap watcher_of is)
watcher_there (x ∷ ps) p (suc k, low, is) = let rest = watcher_there ps p (k, omega arith, is) in (suc rest.0, omega (arith, rest.1), rest.2)

-- a row that is issued, or its burial, is issued
left_issued : (watch : List Watcher) (inputs : List Row) (row o : Row) → IsIssuedRow row → (o ≡ row) ⊎ ((o ≡ buried row) × (is_dead_to_all watch inputs row ≡ true)) → IsIssuedRow o
left_issued watch inputs row o h (inl is) = subst IsIssuedRow (sym is) h
left_issued watch inputs row o h (inr both) = subst IsIssuedRow (sym both.0) (record { raw = h.raw; meta = λ k is. tt })

module _ (opening : Opening) (core : CoreState) (seen : List Place) (stands : Stands opening core seen) (job : Compaction) (since : IsSince core job) (filtered : IsFiltered core job) (outputs : List Table) (rows : all_rows (in_tables outputs) ≡ job.rows)
    (ascending : AreAscending (in_tables outputs)) where
  abbrev ch : Choice
  ch = with_flushed since.flushed job.choice

  abbrev s : Sources
  s = core.sources

  abbrev swapped : Sources
  swapped = record core.sources { levels = levels_with ch outputs }

  abbrev P : List (List Row)
  P = s.memory ∷ (waiting s.frozen ++ in_levels ch.above)

  abbrev F : List (List Row)
  F = in_tables ch.front

  abbrev C : List (List Row)
  C = in_tables ch.chosen

  abbrev B : List (List Row)
  B = in_tables ch.behind

  abbrev M : List (List Row)
  M = in_tables ch.next_front

  abbrev N : List (List Row)
  N = in_tables ch.next_chosen

  abbrev L : List (List Row)
  L = in_tables ch.next_behind

  abbrev D : List (List Row)
  D = in_levels ch.deeper

  abbrev O : List (List Row)
  O = in_tables outputs

  abbrev staying : List Row
  staying = all_rows (P ++ ((F ++ B) ++ ((M ++ L) ++ D)))

  abbrev I : List Row
  I = inputs_in_order job

  abbrev K : List Row
  K = kept_rows job.watch (inputs_in_order job) (deeper_rows job) job.all

  outs : all_rows O ≡ K
  outs = rows ∙ filtered.rows

  go_input : (row : Row) → Contains I row → Contains (all_rows (C ++ N)) row
  go_input row h = subst (λ (rs : List Row). Contains rs row) (inputs_are opening core seen stands job since outputs) ((same_together (inputs_of job.choice)).1 row h)

  input_go : (row : Row) → Contains (all_rows (C ++ N)) row → Contains I row
  input_go row h = (same_together (inputs_of job.choice)).0 row (subst (λ (rs : List Row). Contains rs row) (sym (inputs_are opening core seen stands job since outputs)) h)

  old_rows : rows_in s ≡ all_rows (P ++ ((F ++ (C ++ B)) ++ ((M ++ (N ++ L)) ++ D)))
  unfolding rows_in
  old_rows = ap all_rows (old_lists opening core seen stands job since outputs)

  new_rows : rows_in swapped ≡ all_rows (P ++ ((F ++ B) ++ ((M ++ (O ++ L)) ++ D)))
  unfolding rows_in
  new_rows = ap all_rows (new_lists opening core seen stands job since outputs)

  -- the rows before are those that stay and the inputs, and the rows afterwards those that stay and what is left
  old_same : HaveSameRows (staying ++ I) (rows_in s)
  old_same = (
    (λ row h. subst (λ (rs : List Row). Contains rs row) (sym old_rows) ((before_parts P F C B M N L D).1 row (elim (Contains-append_cases staying I row h) [
      | inl x ↦ Contains-append_left staying (all_rows (C ++ N)) row x
      | inr g ↦ Contains-append_right staying (all_rows (C ++ N)) row (go_input row g)
    ]))),
    (λ row h. elim (Contains-append_cases staying (all_rows (C ++ N)) row ((before_parts P F C B M N L D).0 row (subst (λ (rs : List Row). Contains rs row) old_rows h))) [
      | inl x ↦ Contains-append_left staying I row x
      | inr g ↦ Contains-append_right staying I row (input_go row g)
    ]),
  )

  new_same : HaveSameRows (staying ++ K) (rows_in swapped)
  new_same = (
    (λ row h. subst (λ (rs : List Row). Contains rs row) (sym new_rows) ((after_parts P F C B M N L D O).1 row (subst (λ (rs : List Row). Contains (staying ++ rs) row) (sym outs) h))),
    (λ row h. subst (λ (rs : List Row). Contains (staying ++ rs) row) outs ((after_parts P F C B M N L D O).0 row (subst (λ (rs : List Row). Contains rs row) new_rows h))),
  )

  input_old : (row : Row) → Contains I row → Contains (rows_in s) row
  input_old row h = old_same.0 row (Contains-append_right staying I row h)

  stay_old : (row : Row) → Contains staying row → Contains (rows_in s) row
  stay_old row h = old_same.0 row (Contains-append_left staying I row h)

  apart_inputs : AreApart I
  apart_inputs row other h k raw seq = stands.rows.apart row other (input_old row h) (input_old other k) raw seq

  apart_others : AreApart staying
  apart_others row other h k raw seq = stands.rows.apart row other (stay_old row h) (stay_old other k) raw seq

  placed : ArePlaced staying I (deeper_rows job)
  placed x row there h raw = stays_placed P F C B M N L D (old_order opening core seen stands job since outputs) (front_below opening core seen stands job since outputs) (behind_above opening core seen stands job since outputs)
      (behind_parted opening core seen stands job since outputs) x row there (go_input row h) raw

  put : IsPutInPlace (rows_in s) (rows_in swapped) staying (deeper_rows job) (filtering_of job)
  put = record {
    before = old_same;
    after_ = new_same;
    apart = λ row other h k raw seq. stands.rows.apart row other (old_same.0 row h) (old_same.0 other k) raw seq;
    placed = placed;
  }

  -- ---- the rows afterwards

  abbrev IsFrom : Row → Type 0
  IsFrom o = (row : Row) × Contains I row × IsRowOrBurial job.watch (inputs_in_order job) row o

  of_kept : (o : Row) → Contains K o → IsFrom o
  of_kept o h = kept_row job.watch (inputs_in_order job) (deeper_rows job) job.all o h

  new_apart : AreApart (rows_in swapped)
  new_apart row other h k raw seq = kept_apart_from job.watch (inputs_in_order job) (deeper_rows job) job.all staying apart_others apart_inputs placed row other (new_same.1 row h) (new_same.1 other k) raw seq

  at_inputs : AllAt (all_rows O) (all_rows (in_tables (inputs_of job.choice)))
  at_inputs row h =
      let it = of_kept row (subst (λ (rs : List Row). Contains rs row) outs h) in
      record { old = it.0; there = (same_together (inputs_of job.choice)).1 it.0 it.1; raw = sym it.2.raw; seq = sym it.2.seq }

  kept_texts : are_row_texts K ≡ true
  kept_texts = kept_on_grammar job.watch (inputs_in_order job) (deeper_rows job) job.all (all_pass is_row_text I (λ row h. all_there is_row_text (rows_in s) row stands.rows.grammar (input_old row h)))

  as_test : (row : Row) → row.seq ≤ core.last → nat_le row.seq core.last ≡ true
  as_test row low = grind (arith, nat_tests)

  kept_low : are_upto core.last K ≡ true
  kept_low = kept_upto job.watch (inputs_in_order job) (deeper_rows job) job.all core.last
      (all_pass (λ (r : Row). nat_le r.seq core.last) I (λ row h. as_test row (upto_each core.last (rows_in s) row stands.rows.upto (input_old row h))))

  -- rows and sources are in order afterwards
  pub filtered_kept : AreKept swapped core.last
  filtered_kept = record {
    grammar = all_pass is_row_text (rows_in swapped) (λ row h. elim (Contains-append_cases staying K row (new_same.1 row h)) [
      | inl x ↦ all_there is_row_text (rows_in s) row stands.rows.grammar (stay_old row x)
      | inr k ↦ all_there is_row_text K row kept_texts k
    ]);
    upto = all_pass (λ (r : Row). nat_le r.seq core.last) (rows_in swapped) (λ row h. elim (Contains-append_cases staying K row (new_same.1 row h)) [
      | inl x ↦ all_there (λ (r : Row). nat_le r.seq core.last) (rows_in s) row stands.rows.upto (stay_old row x)
      | inr k ↦ all_there (λ (r : Row). nat_le r.seq core.last) K row kept_low k
    ]);
    issued = λ row h. elim (Contains-append_cases staying K row (new_same.1 row h)) [
      | inl x ↦ stands.rows.issued row (stay_old row x)
      | inr k ↦ issued_from row (of_kept row k)
    ];
    apart = new_apart;
    order = new_order opening core seen stands job since outputs at_inputs ascending;
    levels = new_levels opening core seen stands job since outputs at_inputs ascending;
  }
    where
      issued_from : (o : Row) → IsFrom o → IsIssuedRow o
      issued_from o it = left_issued job.watch (inputs_in_order job) it.0 o (stands.rows.issued it.0 (input_old it.0 it.1)) it.2.is

  -- ---- what counts

  -- of the newest rows the same counts at each moment from that of the beginning on
  pub newest_filtered : (t : ℕ) → (current job.watch).moment ≤ t → clean (newest_rows core) t ≡ clean (at (rows_in swapped) core.last) t
  newest_filtered t late = sym (newest_alike (rows_in s) (rows_in swapped) staying (deeper_rows job) core.last (map watcher_of core.pins) (filtering_of job) put filtered.dead t late)

  -- and so it is with the rows of each pin at its moment
  pub pinned_filtered_too : (p : PinAt) → Contains core.pins p → clean (at (rows_in s) p.seq) p.moment ≡ clean (at (rows_in swapped) p.seq) p.moment
  pinned_filtered_too p there =
      sym (pins_see_alike (rows_in s) (rows_in swapped) staying (deeper_rows job) core.last (map watcher_of core.pins) (filtering_of job) put filtered.dead (watcher_of p) (watcher_there core.pins p there))

  abbrev installed : CoreState
  installed = record core { sources = swapped; compact = None; attempt = None; tried = None; manifest_floor = max core.manifest_floor (current job.watch).moment }

  -- so the exchange keeps what the events of jobs have to keep
  pub filtered_keeps : KeepsRows core installed
  filtered_keeps = record {
    last = refl;
    floor = refl;
    pins = refl;
    books = λ b. refl;
    rows = filtered_kept;
    from = new_at opening core seen stands job since outputs at_inputs ascending;
    newest_too = newest_filtered core.floor filtered.past;
    pinned_too = pinned_filtered_too;
  }

-- a compaction that leaves what the rules say ends, and no pin and no reader sees anything else
pub install_filtered_stands : (opening : Opening) (core new : CoreState) (seen : List Place) (caller : ℕ) (note : Note) (outputs : List Table) → StandsFiltered opening core seen → InstallsCompact core new caller outputs
    → StandsFiltered opening new (with_place seen (mark caller kind.Compact Done note))
install_filtered_stands opening core new seen caller note outputs whole installs =
    subst (λ (c : CoreState). StandsFiltered opening c (with_place seen (mark caller kind.Compact Done note))) (sym installs.core) (record {
      stands = installed_stands opening core (record core {
        sources = record core.sources { levels = levels_with (with_flushed installs.flushed installs.job.choice) outputs };
        compact = None;
        attempt = None;
        tried = None;
        manifest_floor = max core.manifest_floor (current installs.job.watch).moment;
      }) seen caller note installs.job whole.stands installs.open_ installs.own
          (filtered_keeps opening core seen whole.stands installs.job since filtered outputs installs.rows installs.ascending) refl refl refl;
      filtered = tt;
    })
  where
    choice : IsCompactionChoice installs.job.choice
    choice = (subst (λ o. IfSome o (IsSince core)) installs.open_ whole.stands.jobs.since).choice

    since : IsSince core installs.job
    since = record { choice = choice; flushed = installs.flushed; levels = installs.since }

    filtered : IsFiltered core installs.job
    filtered = subst (λ o. IfSome o (IsFiltered core)) installs.open_ whole.filtered

-- so it keeps what counts: of the newest rows at the floor, and of the rows of each pin at its moment
pub install_keeps_what_counts : (opening : Opening) (core new : CoreState) (seen : List Place) (caller : ℕ) (outputs : List Table) → StandsFiltered opening core seen → InstallsCompact core new caller outputs
    → (clean (newest_rows core) core.floor ≡ clean (newest_rows new) new.floor) × ((p : PinAt) → Contains core.pins p → clean (at (rows_in core.sources) p.seq) p.moment ≡ clean (at (rows_in new.sources) p.seq) p.moment)
install_keeps_what_counts opening core new seen caller outputs whole installs =
    subst (λ (c : CoreState). (clean (newest_rows core) core.floor ≡ clean (newest_rows c) c.floor) × ((p : PinAt) → Contains core.pins p → clean (at (rows_in core.sources) p.seq) p.moment ≡ clean (at (rows_in c.sources) p.seq) p.moment)) (sym installs.core)
    (let keeps = filtered_keeps opening core seen whole.stands installs.job since filtered outputs installs.rows installs.ascending in (keeps.newest_too, keeps.pinned_too))
  where
    since : IsSince core installs.job
    since = record { choice = (subst (λ o. IfSome o (IsSince core)) installs.open_ whole.stands.jobs.since).choice; flushed = installs.flushed; levels = installs.since }

    filtered : IsFiltered core installs.job
    filtered = subst (λ o. IfSome o (IsFiltered core)) installs.open_ whole.filtered
