-- The events of a compaction: its outputs stand in the place of its inputs.
use Rattle.std.proofs.Common.{◌≡◌, ℕ, ◌+◌, List, [], ◌∷◌, ◌++◌, refl, sym, ap, subst, ◌∙◌, inl, inr}
use Rattle.std.proofs.lemmas.List.Elements.{Contains-append_left, Contains-append_right, Contains-append_cases}
use Rattle.std.specs.Prelude.{◌⊎◌, nat_le, max, Option, Some, None, IsNone, IfSome}
use Rattle.std.specs.List.{Contains}
use Rattle.kv_base.specs.declared.row.Row.{Row}
use Rattle.row_model.specs.Rows.{at, is_row_text, HaveSameRows}
use Rattle.row_model.specs.RowOrderLaws.{same_merged}
use Rattle.row_model.specs.RowLaws.{there_never}
use Rattle.row_model.specs.RowMapLaws.{same_rows_alike}
use Rattle.redis_model.specs.declared.history.JobKind.TheVariants as kind
use Rattle.redis_model.specs.declared.history.JobMark.TheVariants.{Begun, Done}
use Rattle.lives_model.specs.Rows.{Rows}
use Rattle.lives_model.specs.Clean.{clean}
use Rattle.core_model.specs.Sources.{Table, Sources, rows_in, all_rows, waiting, in_tables, in_levels, newest_first, together, AreNewestFirst, AreBelow, AreAscending, AreLevelled, HasRowAt}
use Rattle.filter_laws.specs.Replaced.{AreNewer}
use Rattle.core_model.specs.Places.{OpenJob, open_flush, open_compact}
use Rattle.redis_model.specs.declared.history.Place.{Place}
use Rattle.redis_model.specs.declared.history.Note.{Note}
use Rattle.redis_model.specs.declared.history.JobAsked.{JobAsked}
use Rattle.redis_model.specs.declared.history.Note.TheVariants.{Began}
use Rattle.core_model.specs.Core.{current, Choice, IsCompactionChoice, Compaction, CoreState, inputs_of, compact_task, levels_with, with_flushed, flushed_above, flushed_front}
use Rattle.core_model.specs.Stands.{AreKept, IsOpenFlush, IsOpenCompaction, IsSince, Stands}
use Rattle.redis_model.specs.Places.{Opening}
use Rattle.core_model.specs.Events.{Filter, BeginsCompact, InstallsCompact, mark}
use Rattle.core_model.specs.PlacesLaws.{with_place, flush_more, compact_more, caller_of}
use Rattle.core_events.specs.ListLaws.{all_left, all_right, all_cases, tables-append, above_newer, ascending_newest, ascending_last, ascending_across}
use Rattle.filter_laws.specs.KeptRowLaws.{all_there}
use Rattle.filter_laws.specs.KeptLaws.{all_pass}
use Rattle.core_events.specs.ReplacingLaws.{KeepsRows, replaced_stands, no_compact, one_compact}
use Rattle.core_events.specs.SwappingLaws.{AllAt, swapped_order, swapped_at, swapped_ranges, fewer_ranges, named_levels, levelled_with, upper_ascends}
use Rattle.core_events.specs.FlushingLaws.{still_rows}

-- ---- it begins

-- a compaction that begins changes no rows
pub begin_compact_stands : (filter : Filter) (opening : Opening) (core new : CoreState) (seen : List Place) (caller : ℕ) (asked : JobAsked) (job : Compaction) → Stands opening core seen → BeginsCompact filter core new caller job
    → Stands opening new (with_place seen (mark caller kind.Compact Begun (Began asked (compact_task job))))
begin_compact_stands filter opening core new seen caller asked job stands begins =
    subst (λ (c : CoreState). Stands opening c (with_place seen place)) (sym begins.core)
    (replaced_stands opening core after seen caller kind.Compact Begun (Began asked (compact_task job)) stands
    (still_rows opening core after seen stands refl refl refl (λ b. refl) refl)
    (subst (λ (o : Option OpenJob). IsNone (caller_of o)) (sym none) refl)
    (record {
      flush = subst (IsOpenFlush core.flush) (sym (flush_more None seen place)) stands.jobs.flush;
      compact = subst (IsOpenCompaction (Some job)) (sym (compact_more None seen place)) (sym begins.own, refl);
      frozen = stands.jobs.frozen;
      since = record { choice = begins.choice; flushed = []; levels = begins.levels ∙ sym (none_flushed job.choice.above job.choice.front (job.choice.chosen ++ job.choice.behind) _) };
    }))
  where
    place : Place
    place = mark caller kind.Compact Begun (Began asked (compact_task job))

    after : CoreState
    after = record core { compact = Some job; next_run = core.next_run + 1 }

    none : open_compact None seen ≡ None
    none = no_compact core.compact (open_compact None seen) stands.jobs.compact begins.none

    none_flushed : (above : List (List Table)) (front others : List Table) (deeper : List (List Table)) → flushed_above [] above ++ (flushed_front [] above front ++ others) ∷ deeper ≡ above ++ (front ++ others) ∷ deeper
    none_flushed [] front others deeper = refl
    none_flushed (top ∷ above) front others deeper = refl

-- ---- rows that stand in the place of others

-- a table's rows among those of all are there, and no others
pub same_together : (ts : List Table) → HaveSameRows (all_rows (in_tables ts)) (together ts)
unfolding together
same_together [] = ((λ row h. h), (λ row h. h))
same_together (t ∷ ts) =
    let rest = same_together ts in
    let both = same_merged (together ts) t.rows in (
      (λ row h. both.0 row (elim (Contains-append_cases t.rows (all_rows (in_tables ts)) row h) [
        | inl g ↦ Contains-append_left t.rows (together ts) row g
        | inr g ↦ Contains-append_right t.rows (together ts) row (rest.0 row g)
      ])),
      (λ row h. elim (Contains-append_cases t.rows (together ts) row (both.1 row h)) [
        | inl g ↦ Contains-append_left t.rows (all_rows (in_tables ts)) row g
        | inr g ↦ Contains-append_right t.rows (all_rows (in_tables ts)) row (rest.1 row g)
      ]),
    )

-- ---- installing

module _ (opening : Opening) (core : CoreState) (seen : List Place) (stands : Stands opening core seen) (job : Compaction) (since : IsSince core job) (outputs : List Table) where
  abbrev ch : Choice
  ch = with_flushed since.flushed job.choice

  abbrev s : Sources
  s = core.sources

  abbrev swapped : Sources
  swapped = record core.sources { levels = levels_with ch outputs }

  abbrev P : List (List Row)
  P = s.memory ∷ (waiting s.frozen ++ in_levels ch.above)

  abbrev F : List (List Row)
  F = in_tables ch.front

  abbrev C : List (List Row)
  C = in_tables ch.chosen

  abbrev B : List (List Row)
  B = in_tables ch.behind

  abbrev M : List (List Row)
  M = in_tables ch.next_front

  abbrev N : List (List Row)
  N = in_tables ch.next_chosen

  abbrev L : List (List Row)
  L = in_tables ch.next_behind

  abbrev D : List (List Row)
  D = in_levels ch.deeper

  abbrev O : List (List Row)
  O = in_tables outputs

  -- the sources by their parts
  pub old_lists : newest_first s ≡ P ++ ((F ++ (C ++ B)) ++ ((M ++ (N ++ L)) ++ D))
  old_lists =
      named_levels s ch.above (ch.front ++ (ch.chosen ++ ch.behind)) (ch.next_front ++ (ch.next_chosen ++ ch.next_behind)) ch.deeper since.levels
      ∙ ap (λ (x : List (List Row)). P ++ (x ++ (in_tables (ch.next_front ++ (ch.next_chosen ++ ch.next_behind)) ++ D))) (three ch.front ch.chosen ch.behind)
      ∙ ap (λ (x : List (List Row)). P ++ ((F ++ (C ++ B)) ++ (x ++ D))) (three ch.next_front ch.next_chosen ch.next_behind)
    where
      three : (a b c : List Table) → in_tables (a ++ (b ++ c)) ≡ in_tables a ++ (in_tables b ++ in_tables c)
      three a b c = tables-append a (b ++ c) ∙ ap (λ (x : List (List Row)). in_tables a ++ x) (tables-append b c)

  -- and with the outputs in the place of the inputs
  pub new_lists : newest_first swapped ≡ P ++ ((F ++ B) ++ ((M ++ (O ++ L)) ++ D))
  new_lists =
      named_levels swapped ch.above (ch.front ++ ch.behind) (ch.next_front ++ (outputs ++ ch.next_behind)) ch.deeper refl
      ∙ ap (λ (x : List (List Row)). P ++ (x ++ (in_tables (ch.next_front ++ (outputs ++ ch.next_behind)) ++ D))) (tables-append ch.front ch.behind)
      ∙ ap (λ (x : List (List Row)). P ++ ((F ++ B) ++ (x ++ D))) (three ch.next_front outputs ch.next_behind)
    where
      three : (a b c : List Table) → in_tables (a ++ (b ++ c)) ≡ in_tables a ++ (in_tables b ++ in_tables c)
      three a b c = tables-append a (b ++ c) ∙ ap (λ (x : List (List Row)). in_tables a ++ x) (tables-append b c)

  -- the inputs are the tables that were chosen of both levels
  pub inputs_are : all_rows (in_tables (inputs_of job.choice)) ≡ all_rows (C ++ N)
  inputs_are = ap all_rows (tables-append job.choice.chosen job.choice.next_chosen)

  -- the parts stand newest first
  pub old_order : AreNewestFirst (P ++ ((F ++ (C ++ B)) ++ ((M ++ (N ++ L)) ++ D)))
  old_order = subst AreNewestFirst old_lists stands.rows.order

  levelled : AreLevelled (ch.above ++ (ch.front ++ (ch.chosen ++ ch.behind)) ∷ (ch.next_front ++ (ch.next_chosen ++ ch.next_behind)) ∷ ch.deeper)
  levelled = subst AreLevelled since.levels stands.rows.levels

  -- tables in front of those of the next level are below all inputs
  pub front_below : AreBelow (all_rows M) (all_rows (C ++ N))
  front_below = subst (λ (rows : List Row). AreBelow (all_rows M) rows) inputs_are since.choice.below

  -- and those behind them above
  pub behind_above : AreBelow (all_rows (C ++ N)) (all_rows L)
  behind_above = subst (λ (rows : List Row). AreBelow rows (all_rows L)) inputs_are since.choice.above_

  -- tables behind those that were chosen have other raw keys, or there are none
  pub behind_parted : AreNewer (all_rows B) (all_rows C)
  behind_parted = by_above job.choice.above refl
    where
      flushed_some : (more : List Table) (top : List Table) (rest : List (List Table)) → flushed_above more (top ∷ rest) ≡ [] → ⊥
      flushed_some more top rest e = cc

      by_above : (ls : List (List Table)) → job.choice.above ≡ ls → AreNewer (all_rows (in_tables job.choice.behind)) (all_rows (in_tables job.choice.chosen))
      by_above [] e = subst (λ (ts : List Table). AreNewer (all_rows (in_tables ts)) (all_rows (in_tables job.choice.chosen))) (sym (since.choice.whole e).1) (λ row other there too is. absurd (there_never row there))
      by_above (top ∷ rest) e =
          let ascends = upper_ascends ch.above (ch.front ++ (ch.chosen ++ ch.behind)) (ch.next_front ++ (ch.next_chosen ++ ch.next_behind)) ch.deeper levelled
          (λ none. flushed_some since.flushed top rest (ap (flushed_above since.flushed) (sym e) ∙ none)) in
          let cut : AreAscending (in_tables job.choice.chosen ++ in_tables job.choice.behind) =
          subst AreAscending (tables-append job.choice.chosen job.choice.behind) (ascending_last (in_tables ch.front) (in_tables (ch.chosen ++ ch.behind)) (subst AreAscending (tables-append ch.front (ch.chosen ++ ch.behind)) ascends)) in
          above_newer (all_rows (in_tables job.choice.behind)) (all_rows (in_tables job.choice.chosen)) (ascending_across (in_tables job.choice.chosen) (in_tables job.choice.behind) cut)

  module _ (placed : AllAt (all_rows O) (all_rows (in_tables (inputs_of job.choice)))) (ascending : AreAscending O) where
    at_inputs : AllAt (all_rows O) (all_rows (C ++ N))
    at_inputs = subst (AllAt (all_rows O)) inputs_are placed

    -- the new sources stand newest first
    pub new_order : AreNewestFirst (newest_first swapped)
    new_order = subst AreNewestFirst (sym new_lists) (swapped_order P F C B M N L D O old_order at_inputs front_below behind_parted (ascending_newest O ascending))

    -- their levels are in order
    pub new_levels : AreLevelled swapped.levels
    new_levels =
        levelled_with ch.above (ch.front ++ (ch.chosen ++ ch.behind)) (ch.next_front ++ (ch.next_chosen ++ ch.next_behind)) (ch.front ++ ch.behind) (ch.next_front ++ (outputs ++ ch.next_behind)) ch.deeper levelled
        (λ old. subst AreAscending (sym (tables-append ch.front ch.behind)) (fewer_ranges F C B (subst AreAscending (three ch.front ch.chosen ch.behind) old)))
        (λ old. subst AreAscending (sym (three ch.next_front outputs ch.next_behind)) (swapped_ranges M N L O C (subst AreAscending (three ch.next_front ch.next_chosen ch.next_behind) old) at_inputs front_below behind_above ascending))
      where
        three : (a b c : List Table) → in_tables (a ++ (b ++ c)) ≡ in_tables a ++ (in_tables b ++ in_tables c)
        three a b c = tables-append a (b ++ c) ∙ ap (λ (x : List (List Row)). in_tables a ++ x) (tables-append b c)

    rows_are : (x : Sources) (lists : List (List Row)) → newest_first x ≡ lists → rows_in x ≡ all_rows lists
    unfolding rows_in
    rows_are x lists e = ap all_rows e

    -- each of their rows has its place among the old ones
    pub new_at : AllAt (rows_in swapped) (rows_in s)
    new_at row there =
        subst (λ (rows : List Row). HasRowAt rows row) (sym (rows_are s (P ++ ((F ++ (C ++ B)) ++ ((M ++ (N ++ L)) ++ D))) old_lists))
        (swapped_at P F C B M N L D O old_order at_inputs front_below behind_parted (ascending_newest O ascending) row
        (subst (λ (rows : List Row). Contains rows row) (rows_are swapped (P ++ ((F ++ B) ++ ((M ++ (O ++ L)) ++ D))) new_lists) there))

  rows_before : rows_in s ≡ all_rows (P ++ ((F ++ (C ++ B)) ++ ((M ++ (N ++ L)) ++ D)))
  unfolding rows_in
  rows_before = ap all_rows old_lists

  -- the inputs are rows of the core
  pub inputs_there : (row : Row) → Contains (all_rows (in_tables (inputs_of job.choice))) row → Contains (rows_in s) row
  inputs_there row there = subst (λ (rows : List Row). Contains rows row) (sym rows_before) (by_part (all_cases C N row (subst (λ (rows : List Row). Contains rows row) inputs_are there)))
    where
      by_part : Contains (all_rows C) row ⊎ Contains (all_rows N) row → Contains (all_rows (P ++ ((F ++ (C ++ B)) ++ ((M ++ (N ++ L)) ++ D)))) row
      by_part (inl c) = all_right P ((F ++ (C ++ B)) ++ ((M ++ (N ++ L)) ++ D)) row (all_left (F ++ (C ++ B)) ((M ++ (N ++ L)) ++ D) row (all_right F (C ++ B) row (all_left C B row c)))
      by_part (inr n) = all_right P ((F ++ (C ++ B)) ++ ((M ++ (N ++ L)) ++ D)) row (all_right (F ++ (C ++ B)) ((M ++ (N ++ L)) ++ D) row (all_left (M ++ (N ++ L)) D row (all_right M (N ++ L) row (all_left N L row n))))

  -- ---- without a filter

  module _ (whole : all_rows O ≡ together (inputs_of job.choice)) (ascending : AreAscending O) where
    all_placed : AllAt (all_rows O) (all_rows (in_tables (inputs_of job.choice)))
    all_placed row there = record {
      old = row;
      there = (same_together (inputs_of job.choice)).1 row (subst (λ (rows : List Row). Contains rows row) whole there);
      raw = refl;
      seq = refl;
    }

    o_from : (row : Row) → Contains (all_rows O) row → Contains (all_rows (C ++ N)) row
    o_from row h = subst (λ (rows : List Row). Contains rows row) inputs_are ((same_together (inputs_of job.choice)).1 row (subst (λ (rows : List Row). Contains rows row) whole h))

    to_o : (row : Row) → Contains (all_rows (C ++ N)) row → Contains (all_rows O) row
    to_o row h = subst (λ (rows : List Row). Contains rows row) (sym whole) ((same_together (inputs_of job.choice)).0 row (subst (λ (rows : List Row). Contains rows row) (sym inputs_are) h))

    rows_of : (x : Sources) (lists : List (List Row)) → newest_first x ≡ lists → rows_in x ≡ all_rows lists
    unfolding rows_in
    rows_of x lists e = ap all_rows e

    abbrev before : List (List Row)
    before = P ++ ((F ++ (C ++ B)) ++ ((M ++ (N ++ L)) ++ D))

    abbrev after : List (List Row)
    after = P ++ ((F ++ B) ++ ((M ++ (O ++ L)) ++ D))

    -- the same rows
    same_rows : HaveSameRows (rows_in s) (rows_in swapped)
    same_rows = (
      (λ row h. subst (λ (rows : List Row). Contains rows row) (sym (rows_of swapped after new_lists)) (down row (subst (λ (rows : List Row). Contains rows row) (rows_of s before old_lists) h))),
      (λ row h. subst (λ (rows : List Row). Contains rows row) (sym (rows_of s before old_lists)) (up row (subst (λ (rows : List Row). Contains rows row) (rows_of swapped after new_lists) h))),
    )
      where
        o_new : (row : Row) → Contains (all_rows O) row → Contains (all_rows after) row
        o_new row h = all_right P ((F ++ B) ++ ((M ++ (O ++ L)) ++ D)) row (all_right (F ++ B) ((M ++ (O ++ L)) ++ D) row (all_left (M ++ (O ++ L)) D row (all_right M (O ++ L) row (all_left O L row h))))

        down : (row : Row) → Contains (all_rows before) row → Contains (all_rows after) row
        down row there = elim (all_cases P ((F ++ (C ++ B)) ++ ((M ++ (N ++ L)) ++ D)) row there) [
          | inl p ↦ all_left P ((F ++ B) ++ ((M ++ (O ++ L)) ++ D)) row p
          | inr t ↦ elim (all_cases (F ++ (C ++ B)) ((M ++ (N ++ L)) ++ D) row t) [
            | inl l ↦ elim (all_cases F (C ++ B) row l) [
              | inl f ↦ all_right P ((F ++ B) ++ ((M ++ (O ++ L)) ++ D)) row (all_left (F ++ B) ((M ++ (O ++ L)) ++ D) row (all_left F B row f))
              | inr cb ↦ elim (all_cases C B row cb) [
                | inl c ↦ o_new row (to_o row (all_left C N row c))
                | inr b ↦ all_right P ((F ++ B) ++ ((M ++ (O ++ L)) ++ D)) row (all_left (F ++ B) ((M ++ (O ++ L)) ++ D) row (all_right F B row b))
              ]
            ]
            | inr nd ↦ elim (all_cases (M ++ (N ++ L)) D row nd) [
              | inl n ↦ elim (all_cases M (N ++ L) row n) [
                | inl m ↦ all_right P ((F ++ B) ++ ((M ++ (O ++ L)) ++ D)) row (all_right (F ++ B) ((M ++ (O ++ L)) ++ D) row (all_left (M ++ (O ++ L)) D row (all_left M (O ++ L) row m)))
                | inr nl ↦ elim (all_cases N L row nl) [
                  | inl k ↦ o_new row (to_o row (all_right C N row k))
                  | inr g ↦ all_right P ((F ++ B) ++ ((M ++ (O ++ L)) ++ D)) row (all_right (F ++ B) ((M ++ (O ++ L)) ++ D) row (all_left (M ++ (O ++ L)) D row (all_right M (O ++ L) row (all_right O L row g))))
                ]
              ]
              | inr d ↦ all_right P ((F ++ B) ++ ((M ++ (O ++ L)) ++ D)) row (all_right (F ++ B) ((M ++ (O ++ L)) ++ D) row (all_right (M ++ (O ++ L)) D row d))
            ]
          ]
        ]

        in_c : (row : Row) → Contains (all_rows C) row → Contains (all_rows before) row
        in_c row c = all_right P ((F ++ (C ++ B)) ++ ((M ++ (N ++ L)) ++ D)) row (all_left (F ++ (C ++ B)) ((M ++ (N ++ L)) ++ D) row (all_right F (C ++ B) row (all_left C B row c)))

        in_next : (row : Row) → Contains (all_rows (M ++ (N ++ L))) row → Contains (all_rows before) row
        in_next row n = all_right P ((F ++ (C ++ B)) ++ ((M ++ (N ++ L)) ++ D)) row (all_right (F ++ (C ++ B)) ((M ++ (N ++ L)) ++ D) row (all_left (M ++ (N ++ L)) D row n))

        up : (row : Row) → Contains (all_rows after) row → Contains (all_rows before) row
        up row there = elim (all_cases P ((F ++ B) ++ ((M ++ (O ++ L)) ++ D)) row there) [
          | inl p ↦ all_left P ((F ++ (C ++ B)) ++ ((M ++ (N ++ L)) ++ D)) row p
          | inr t ↦ elim (all_cases (F ++ B) ((M ++ (O ++ L)) ++ D) row t) [
            | inl l ↦ elim (all_cases F B row l) [
              | inl f ↦ all_right P ((F ++ (C ++ B)) ++ ((M ++ (N ++ L)) ++ D)) row (all_left (F ++ (C ++ B)) ((M ++ (N ++ L)) ++ D) row (all_left F (C ++ B) row f))
              | inr b ↦ all_right P ((F ++ (C ++ B)) ++ ((M ++ (N ++ L)) ++ D)) row (all_left (F ++ (C ++ B)) ((M ++ (N ++ L)) ++ D) row (all_right F (C ++ B) row (all_right C B row b)))
            ]
            | inr nd ↦ elim (all_cases (M ++ (O ++ L)) D row nd) [
              | inl n ↦ elim (all_cases M (O ++ L) row n) [
                | inl m ↦ in_next row (all_left M (N ++ L) row m)
                | inr ol ↦ elim (all_cases O L row ol) [
                  | inl o ↦ elim (all_cases C N row (o_from row o)) [ inl c ↦ in_c row c | inr k ↦ in_next row (all_right M (N ++ L) row (all_left N L row k)) ]
                  | inr g ↦ in_next row (all_right M (N ++ L) row (all_right N L row g))
                ]
              ]
              | inr d ↦ all_right P ((F ++ (C ++ B)) ++ ((M ++ (N ++ L)) ++ D)) row (all_right (F ++ (C ++ B)) ((M ++ (N ++ L)) ++ D) row (all_right (M ++ (N ++ L)) D row d))
            ]
          ]
        ]

    -- show the same at each sequence
    same_at : (q : ℕ) → at (rows_in swapped) q ≡ at (rows_in s) q
    same_at q = same_rows_alike (rows_in s) (rows_in swapped) q stands.rows.apart same_rows

    kept_rows : AreKept swapped core.last
    kept_rows = record {
      grammar = all_pass is_row_text (rows_in swapped) (λ row h. all_there is_row_text (rows_in s) row stands.rows.grammar (same_rows.1 row h));
      upto = all_pass (λ (r : Row). nat_le r.seq core.last) (rows_in swapped) (λ row h. all_there (λ (r : Row). nat_le r.seq core.last) (rows_in s) row stands.rows.upto (same_rows.1 row h));
      issued = λ row h. stands.rows.issued row (same_rows.1 row h);
      apart = λ row other h k raw seq. stands.rows.apart row other (same_rows.1 row h) (same_rows.1 other k) raw seq;
      order = new_order all_placed ascending;
      levels = new_levels all_placed ascending;
    }

    abbrev installed : CoreState
    installed = record core { sources = swapped; compact = None; attempt = None; tried = None; manifest_floor = max core.manifest_floor (current job.watch).moment }

    pub installed_keeps : KeepsRows core installed
    installed_keeps = record {
      last = refl;
      floor = refl;
      pins = refl;
      books = λ b. refl;
      rows = kept_rows;
      from = λ row h. record { old = row; there = same_rows.1 row h; raw = refl; seq = refl };
      newest_too = ap (λ (c : Rows). clean c core.floor) (sym (same_at core.last));
      pinned_too = λ p there. ap (λ (c : Rows). clean c p.moment) (sym (same_at p.seq));
    }

-- An exchange that keeps what the rows mean ends the compaction.
pub installed_stands : (opening : Opening) (core new : CoreState) (seen : List Place) (caller : ℕ) (note : Note) (job : Compaction) → Stands opening core seen → core.compact ≡ Some job → job.caller ≡ caller → KeepsRows core new
    → new.flush ≡ core.flush → new.compact ≡ None → new.sources.frozen ≡ core.sources.frozen → Stands opening new (with_place seen (mark caller kind.Compact Done note))
installed_stands opening core new seen caller note job stands is own keeps flush compact frozen =
    replaced_stands opening core new seen caller kind.Compact Done note stands keeps
    (one_compact core.compact (open_compact None seen) job stands.jobs.compact is ∙ ap (λ (n : ℕ). Some n) own)
    (record {
      flush = subst (λ (o : Option OpenJob). IsOpenFlush new.flush o) (sym (flush_more None seen (mark caller kind.Compact Done note))) (subst (λ o. IsOpenFlush o (open_flush None seen)) (sym flush) stands.jobs.flush);
      compact = subst (λ (o : Option OpenJob). IsOpenCompaction new.compact o) (sym (compact_more None seen (mark caller kind.Compact Done note))) (subst (λ o. IsOpenCompaction o None) (sym compact) tt);
      frozen = subst (λ o. IfSome o (λ f. new.sources.frozen ≡ Some f.rows)) (sym flush) (subst (λ (r : Option (List Row)). IfSome core.flush (λ f. r ≡ Some f.rows)) (sym frozen) stands.jobs.frozen);
      since = subst (λ o. IfSome o (IsSince new)) (sym compact) tt;
    })

-- a compaction that leaves all its inputs
pub install_whole_stands : (opening : Opening) (core new : CoreState) (seen : List Place) (caller : ℕ) (note : Note) (outputs : List Table) → Stands opening core seen → (installs : InstallsCompact core new caller outputs)
    → installs.job.rows ≡ together (inputs_of installs.job.choice) → Stands opening new (with_place seen (mark caller kind.Compact Done note))
install_whole_stands opening core new seen caller note outputs stands installs whole =
    subst (λ (c : CoreState). Stands opening c (with_place seen (mark caller kind.Compact Done note))) (sym installs.core)
    (installed_stands opening core (record core {
      sources = record core.sources { levels = levels_with (with_flushed installs.flushed installs.job.choice) outputs };
      compact = None;
      attempt = None;
      tried = None;
      manifest_floor = max core.manifest_floor (current installs.job.watch).moment;
    }) seen caller note installs.job stands installs.open_ installs.own
    (installed_keeps opening core seen stands installs.job since outputs (installs.rows ∙ whole) installs.ascending) refl refl refl)
  where
    choice : IsCompactionChoice installs.job.choice
    choice = (subst (λ o. IfSome o (IsSince core)) installs.open_ stands.jobs.since).choice

    since : IsSince core installs.job
    since = record { choice = choice; flushed = installs.flushed; levels = installs.since }
