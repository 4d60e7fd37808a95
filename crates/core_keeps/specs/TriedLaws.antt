-- An edit of a compaction that failed at its gate may be there after a crash. Until it is mended, the rows with it count as the map
-- does that the core keeps.
use Rattle.std.proofs.Common.{◌≡◌, ℕ, ◌+◌, ◌≤◌, List, [], ◌∷◌, ◌++◌, refl, sym, ap, subst, ◌∙◌, true, inl, inr, arith}
use Rattle.std.proofs.lemmas.Bool.Decides.{nat_tests}
use Rattle.std.proofs.lemmas.List.Elements.{Contains-append_left, Contains-append_right, Contains-append_cases}
use Rattle.std.specs.Prelude.{◌⊎◌, nat_le, not, filter, Option, Some, None, IsTrue, IfSome}
use Rattle.std.proofs.lemmas.List.{take_all}
use Rattle.std.specs.List.{list_all, Contains}
use Rattle.kv_base.specs.Hash.{stripe}
use Rattle.kv_base.specs.Map.{Bytes}
use Rattle.kv_base.specs.RawKeys.{is_key, is_version}
use Rattle.batch_codec.specs.Batches.{Batch, after, are_rows}
use Rattle.kv_base.specs.declared.row.Row.{Row}
use Rattle.row_model.specs.Rows.{at, are_upto, are_row_texts, is_row_text, batch_rows}
use Rattle.row_model.specs.RowOrder.{merged}
use Rattle.row_model.specs.RowOrderLaws.{same_merged, texts_of_batch}
use Rattle.redis_model.specs.declared.reply.Reply.{Reply}
use Rattle.redis_model.specs.declared.command.Cmds.{Cmds}
use Rattle.redis_model.specs.Keys.{among}
use Rattle.redis_model.specs.Value.{alive}
use Rattle.lives_model.specs.Rows.{Rows, IsOnGrammar, Side, row_key}
use Rattle.lives_model.specs.Clean.{clean}
use Rattle.lives_model.specs.Plans.{IsPlanFor, IsPlanned, IsFresh, AreAsked, keys_in, version}
use Rattle.lives_model.specs.JoinedBatchLaws.{after-empty}
use Rattle.core_model.specs.Sources.{Table, Sources, rows_in, all_rows, waiting, in_levels, HasRowAt}
use Rattle.core_model.specs.Places.{sequences_of}
use Rattle.redis_model.specs.declared.history.Place.{Place}
use Rattle.redis_model.specs.declared.history.ReadView.{ReadView}
use Rattle.redis_model.specs.declared.history.Note.{Note}
use Rattle.redis_model.specs.Places.{state_at, Opening}
use Rattle.core_model.specs.Core.{PinAt, Attempt, TriedEdit, CoreState, Compaction, is_at, pin_at, newest_rows, event_moment, raised, levels_with, with_flushed}
use Rattle.core_model.specs.Stands.{AreKept, IsSince}
use Rattle.core_model.specs.Events.{Work, CanCommit, Commits, Reruns, FailsCommit, FailsRerun, DropsCompact, IsTriedBy, Appends, IsMended, core_with_batch, with_attempt, with_pin, without_pin, with_flush, attempt_after, frozen_of}
use Rattle.core_model.specs.RowsLaws.{at_on_grammar, upto_each, at_with_batch}
use Rattle.filter_laws.specs.KeptRowLaws.{all_there}
use Rattle.lives_model.specs.IssuedRowLaws.{shown_is_issued, fresh_by_rows}
use Rattle.filter_laws.specs.KeptLaws.{all_pass}
use Rattle.core_events.specs.GoingLaws.{later_keys}
use Rattle.core_events.specs.AppendingLaws.{IsCarried}
use Rattle.core_events.specs.CommittingLaws.{WasSeen, was_seen, same_core, planned_carried, commit_carried, new_plan, not_newer, still_ready, mark_of, whole}
use Rattle.core_keeps.specs.CleanAfterLaws.{same_after}
use Rattle.core_events.specs.FlushingLaws.{frozen_rows}
use Rattle.core_model.specs.Filtered.{IsFiltered, StandsFiltered}
use Rattle.core_filter.specs.FilteringLaws.{filtered_kept, filtered_keeps, newest_filtered}
use Rattle.core_keeps.specs.Keeps.{with_edit, edited, last_at, KeepsCore, KeepsAttempt, KeepsTried, KeepsAll}
use Rattle.core_keeps.specs.KeepLaws.{opened_keeps, last_upto, last_at_low}
use Rattle.core_model.specs.Opened.{IsOpenedCore}
use Rattle.core_model.specs.Runs.{Event, Glance, Read, Commit, Lapse, Rerun, Play, Pin, LetGo, Look, Refuse, Freeze, NoFlush, OtherFlush, InstallFlush, DropFlush, BeginCompact, NoCompact, OtherCompact, InstallCompact, DropCompact, CountLevels, FailCommit, FailRerun, Fail, Happens, adds, seen_after, IsCoreRun}
use Rattle.core_filter.specs.RunLaws.{plan_made, event_whole}
use Rattle.core_keeps.specs.KeptBy.{kept_after, kept_by}
use Rattle.core_keeps.specs.KeepRunLaws.{event_keeps}
use Rattle.core_keeps.specs.AttemptLaws.{LeavesAlike, batch_leaves, event_waits}

-- ---- a batch on rows with an edit

module _ (opening : Opening) (core new : CoreState) (seen : List Place) (stood : StandsFiltered opening core seen) (c : Rows) (keeps : KeepsCore opening core seen c) where
  -- no row of the commands' keys is newer than the plan's sequence
  abbrev NoneNewer : Cmds → ℕ → Type 0
  NoneNewer ds base = (k : Bytes) → IsTrue (among (keys_in ds) k) → (row : Row) (side : Side) (v : ℕ) (subkey : Bytes) → Contains (rows_in core.sources) row → row.seq ≤ core.last → IsTrue (is_version v) → row.raw ≡ row_key side k v subkey → row.seq ≤ base

  module _ (e : TriedEdit) (tried : KeepsTried core c e) where
    on : IsOnGrammar (newest_rows core)
    on = at_on_grammar (rows_in core.sources) core.last stood.stands.rows.grammar

    on_too : IsOnGrammar (at (edited core e) core.last)
    on_too = at_on_grammar (edited core e) core.last tried.texts

    -- the same counts of the rows with the edit and of those without it
    same_here : (t : ℕ) → core.manifest_floor ≤ t → e.floor ≤ t → clean (newest_rows core) t ≡ clean (at (edited core e) core.last) t
    same_here t le late = keeps.same t le ∙ sym (tried.same t le late)

    edited_upto : (row : Row) → Contains (edited core e) row → row.seq ≤ core.last
    edited_upto row there =
        let h = tried.placed row there in
        let low = upto_each core.last (rows_in core.sources) h.old stood.stands.rows.upto h.there in
        let seq = h.seq in
        omega (arith, low, seq)

    fresh_too : (ds : Cmds) (base : ℕ) → NoneNewer ds base → (k : Bytes) → IsTrue (among (keys_in ds) k) → IsTrue (is_key k) → IsFresh (at (edited core e) core.last) (version base 0) k
    fresh_too ds base none k named key = fresh_by_rows (edited core e) core.last base k key tried.issued (λ row side v subkey there low fits is.
        let h = tried.placed row there in
        let seq = h.seq in
        let old = none k named h.old side v subkey h.there (omega (arith, low, seq)) fits (h.raw ∙ is) in
        omega (arith, old, seq))

    -- so it does behind the batch
    batch_too : (moment : ℕ) (ds : Cmds) (batch : Batch) (answer : Reply) (until : Option ℕ) (base : ℕ) → core.floor ≤ moment → IsPlanFor (newest_rows core) moment base (alive (state_at opening.state seen).keys moment) ds batch answer until
        → ((k : Bytes) → IsTrue (among (keys_in ds) k) → IsTrue (is_key k) → IsFresh (newest_rows core) (version base 0) k) → NoneNewer ds base → LeavesAlike core c batch moment
        → (t : ℕ) → core.manifest_floor ≤ t → e.floor ≤ t → clean (after (at (edited core e) core.last) batch) t ≡ clean (after c batch) t
    batch_too moment ds batch answer until base late plan fresh none leaves t le floor =
        sym (same_after (newest_rows core) (at (edited core e) core.last) moment t base (alive (state_at opening.state seen).keys moment) ds batch answer until on on_too
        (later_keys (newest_rows core) core.floor moment (state_at opening.state seen).keys late stood.stands.keys.means)
        (same_here moment (let a = keeps.floor in omega (arith, a, late)) (let a = tried.past in omega (arith, a, late))) (same_here t le floor)
        (λ k named key. (fresh k named key, fresh_too ds base none k named key)) plan)
        ∙ leaves.same t le

    -- ---- a batch that is appended

    module _ (now caller : ℕ) (ds : Cmds) (batch : Batch) (answer : Reply) (carried : IsCarried core (state_at opening.state seen) (event_moment core now) ds batch answer) where
      abbrev appended : CoreState
      appended = core_with_batch (raised core now) ds batch

      abbrev added : List Row
      added = batch_rows (core.last + 1) batch

      abbrev rest : List Row
      rest = all_rows (waiting core.sources.frozen ++ in_levels e.levels)

      abbrev old_rest : List Row
      old_rest = all_rows (waiting core.sources.frozen ++ in_levels core.sources.levels)

      edited_old : edited core e ≡ core.sources.memory ++ rest
      unfolding rows_in
      edited_old = refl

      edited_new : edited appended e ≡ merged core.sources.memory added ++ rest
      unfolding rows_in
      edited_new = refl

      rows_new : rows_in appended.sources ≡ merged core.sources.memory added ++ old_rest
      unfolding rows_in
      rows_new = refl

      rows_old : rows_in core.sources ≡ core.sources.memory ++ old_rest
      unfolding rows_in
      rows_old = refl

      upto_old : IsTrue (are_upto core.last (core.sources.memory ++ rest))
      upto_old = all_pass (λ (r : Row). nat_le r.seq core.last) (core.sources.memory ++ rest) (λ row there. as_test row (edited_upto row (subst (λ (rs : List Row). Contains rs row) (sym edited_old) there)))
        where
          as_test : (row : Row) → row.seq ≤ core.last → nat_le row.seq core.last ≡ true
          as_test row low = grind (arith, nat_tests)

      newest_edited : at (edited appended e) (core.last + 1) ≡ after (at (edited core e) core.last) batch
      newest_edited = ap (λ (rs : List Row). at rs (core.last + 1)) edited_new ∙ at_with_batch core.sources.memory rest core.last batch upto_old ∙ ap (λ (rs : List Row). after (at rs core.last) batch) (sym edited_old)

      row_cases : (row : Row) → Contains (edited appended e) row → Contains added row ⊎ Contains (edited core e) row
      row_cases row there = by_rest (Contains-append_cases (merged core.sources.memory added) rest row (subst (λ (rs : List Row). Contains rs row) edited_new there))
        where
          old : Contains (core.sources.memory ++ rest) row → Contains (edited core e) row
          old h = subst (λ (rs : List Row). Contains rs row) (sym edited_old) h

          by_memory : Contains added row ⊎ Contains core.sources.memory row → Contains added row ⊎ Contains (edited core e) row
          by_memory (inl h) = inl h
          by_memory (inr h) = inr (old (Contains-append_left core.sources.memory rest row h))

          by_rest : Contains (merged core.sources.memory added) row ⊎ Contains rest row → Contains added row ⊎ Contains (edited core e) row
          by_rest (inl h) = by_memory (Contains-append_cases added core.sources.memory row ((same_merged core.sources.memory added).1 row h))
          by_rest (inr h) = inr (old (Contains-append_right core.sources.memory rest row h))

      added_there : (row : Row) → Contains added row → Contains (rows_in appended.sources) row
      added_there row h = subst (λ (rs : List Row). Contains rs row) (sym rows_new) (Contains-append_left (merged core.sources.memory added) old_rest row ((same_merged core.sources.memory added).0 row (Contains-append_left added core.sources.memory row h)))

      old_there : (row : Row) → Contains (rows_in core.sources) row → Contains (rows_in appended.sources) row
      old_there row h = subst (λ (rs : List Row). Contains rs row) (sym rows_new) (elim (Contains-append_cases core.sources.memory old_rest row (subst (λ (rs : List Row). Contains rs row) rows_old h)) [
        | inl m ↦ Contains-append_left (merged core.sources.memory added) old_rest row ((same_merged core.sources.memory added).0 row (Contains-append_right added core.sources.memory row m))
        | inr r ↦ Contains-append_right (merged core.sources.memory added) old_rest row r
      ])

      append_tried : ((t : ℕ) → core.manifest_floor ≤ t → e.floor ≤ t → clean (after (at (edited core e) core.last) batch) t ≡ clean (after c batch) t) → KeepsTried appended (after c batch) e
      append_tried alike = record {
        past = let a = tried.past in omega (arith, a);
        texts = all_pass is_row_text (edited appended e) (λ row there. elim (row_cases row there) [
          | inl h ↦ all_there is_row_text added row (texts_of_batch (core.last + 1) batch carried.texts) h
          | inr h ↦ all_there is_row_text (edited core e) row tried.texts h
        ]);
        issued = λ row there. elim (row_cases row there) [ inl h ↦ carried.issued row h | inr h ↦ tried.issued row h ];
        placed = λ row there. elim (row_cases row there) [
          | inl h ↦ own row (added_there row h)
          | inr h ↦ further row (tried.placed row h)
        ];
        same = λ t le floor. ap (λ (d : Rows). clean d t) newest_edited ∙ alike t le floor;
        attempt = tt;
      }
        where
          own : (row : Row) → Contains (rows_in appended.sources) row → HasRowAt (rows_in appended.sources) row
          own row there = record { old = row; there = there; raw = refl; seq = refl }

          further : (row : Row) → HasRowAt (rows_in core.sources) row → HasRowAt (rows_in appended.sources) row
          further row h = record { old = h.old; there = old_there h.old h.there; raw = h.raw; seq = h.seq }

  -- ---- sources that hold the same rows, with the edit and without it

  still_tried : (x : CoreState) (e : TriedEdit) → x.last ≡ core.last → core.floor ≤ x.floor → core.manifest_floor ≤ x.manifest_floor → rows_in x.sources ≡ rows_in core.sources → edited x e ≡ edited core e → IsMended core.attempt x.attempt
      → KeepsTried core c e → KeepsTried x c e
  still_tried x e last floor up rows with_it mended tried = record {
    past = let a = tried.past in omega (arith, a, floor);
    texts = subst (λ (rs : List Row). IsTrue (are_row_texts rs)) (sym with_it) tried.texts;
    issued = λ row there. tried.issued row (subst (λ (rs : List Row). Contains rs row) with_it there);
    placed = λ row there. subst (λ (rs : List Row). HasRowAt rs row) (sym rows) (tried.placed row (subst (λ (rs : List Row). Contains rs row) with_it there));
    same = λ t le late. ap (λ (d : Rows). clean d t) is_edited ∙ tried.same t (omega (arith, le, up)) late;
    attempt = by_mended mended;
  }
    where
      is_edited : at (edited x e) x.last ≡ at (edited core e) core.last
      is_edited = ap (λ (q : ℕ). at (edited x e) q) last ∙ ap (λ (rs : List Row). at rs core.last) with_it

      by_attempt : (o : Option Attempt) → IfSome o (λ a. (t : ℕ) → core.manifest_floor ≤ t → e.floor ≤ t → a.moment ≤ t → clean (after (at (edited core e) core.last) a.batch) t ≡ clean (after c a.batch) t)
          → IfSome o (λ a. (t : ℕ) → x.manifest_floor ≤ t → e.floor ≤ t → a.moment ≤ t → clean (after (at (edited x e) x.last) a.batch) t ≡ clean (after c a.batch) t)
      by_attempt None h = tt
      by_attempt (Some a) h = λ t le late past. ap (λ (d : Rows). clean (after d a.batch) t) is_edited ∙ h t (omega (arith, le, up)) late past

      by_mended : IsMended core.attempt x.attempt → IfSome x.attempt (λ a. (t : ℕ) → x.manifest_floor ≤ t → e.floor ≤ t → a.moment ≤ t → clean (after (at (edited x e) x.last) a.batch) t ≡ clean (after c a.batch) t)
      by_mended (inl same) = subst (λ (o : Option Attempt). IfSome o (λ a. (t : ℕ) → x.manifest_floor ≤ t → e.floor ≤ t → a.moment ≤ t → clean (after (at (edited x e) x.last) a.batch) t ≡ clean (after c a.batch) t)) (sym same) (by_attempt core.attempt tried.attempt)
      by_mended (inr none) = subst (λ (o : Option Attempt). IfSome o (λ a. (t : ℕ) → x.manifest_floor ≤ t → e.floor ≤ t → a.moment ≤ t → clean (after (at (edited x e) x.last) a.batch) t ≡ clean (after c a.batch) t)) (sym none) tt

  -- ---- the end of a compaction that failed at its gate

  tried_now : (job : Compaction) (e : TriedEdit) (tried : Option TriedEdit) → core.compact ≡ Some job → IsTriedBy core job e → KeepsTried (record core { compact = None; attempt = None; tried = tried }) c e
  tried_now job e tried is t = record {
    past = let a = keeps.floor in let b = filtered.past in let f = t.floor in omega (arith, a, b, f);
    texts = subst (λ (ls : List (List Table)). IsTrue (are_row_texts (rows_in (record core.sources { levels = ls })))) (sym t.levels) after_rows.grammar;
    issued = λ row there. after_rows.issued row (subst (λ (ls : List (List Table)). Contains (rows_in (record core.sources { levels = ls })) row) t.levels there);
    placed = λ row there. (filtered_keeps opening core seen stood.stands job since filtered t.outputs t.rows t.ascending).from row (subst (λ (ls : List (List Table)). Contains (rows_in (record core.sources { levels = ls })) row) t.levels there);
    same = λ u le late.
        let f = t.floor in
        ap (λ (ls : List (List Table)). clean (at (rows_in (record core.sources { levels = ls })) core.last) u) t.levels
        ∙ sym (newest_filtered opening core seen stood.stands job since filtered t.outputs t.rows t.ascending u (omega (arith, late, f)))
        ∙ keeps.same u le;
    attempt = tt;
  }
    where
      filtered : IsFiltered core job
      filtered = subst (λ o. IfSome o (IsFiltered core)) is stood.filtered

      since : IsSince core job
      since = record { choice = (subst (λ o. IfSome o (IsSince core)) is stood.stands.jobs.since).choice; flushed = t.flushed; levels = t.since }

      after_rows : AreKept (record core.sources { levels = levels_with (with_flushed t.flushed job.choice) t.outputs }) core.last
      after_rows = filtered_kept opening core seen stood.stands job since filtered t.outputs t.rows t.ascending

  -- ---- each event

  -- a core with the same rows, whatever the edit
  record HasSame (x : CoreState) : Type 0 where
    last : x.last ≡ core.last
    floor : core.floor ≤ x.floor
    up : core.manifest_floor ≤ x.manifest_floor
    rows : rows_in x.sources ≡ rows_in core.sources
    edits : (e : TriedEdit) → edited x e ≡ edited core e
    mended : IsMended core.attempt x.attempt

  edits_frozen : (s : Sources) (o : Option (List Row)) (e : TriedEdit) → s.frozen ≡ o → rows_in (with_edit (frozen_of s o) e) ≡ rows_in (with_edit s e)
  edits_frozen s None e is = frozen_rows (with_edit s e) None is
  edits_frozen s (Some rows) e is = refl

  module _ (tries : IfSome core.tried (KeepsTried core c)) where
    by_tried : (x : CoreState) → HasSame x → (o : Option TriedEdit) → IfSome o (KeepsTried core c) → IfSome o (KeepsTried x c)
    by_tried x same None h = tt
    by_tried x same (Some e) h = still_tried x e same.last same.floor same.up same.rows (same.edits e) same.mended h

    -- what was tried waits, or was mended
    mended_tries : (x : CoreState) → HasSame x → IsMended core.tried x.tried → IfSome x.tried (KeepsTried x c)
    mended_tries x same (inl is) = subst (λ (o : Option TriedEdit). IfSome o (KeepsTried x c)) (sym is) (by_tried x same core.tried tries)
    mended_tries x same (inr none) = subst (λ (o : Option TriedEdit). IfSome o (KeepsTried x c)) (sym none) tt

    -- the core is the same
    same_tries : new ≡ core → IfSome new.tried (KeepsTried new c)
    same_tries same = subst (λ (x : CoreState). IfSome x.tried (KeepsTried x c)) (sym same) tries

    raised_tries : (now : ℕ) (pins : List PinAt) → IfSome core.tried (KeepsTried (record core { floor = event_moment core now; pins = pins }) c)
    raised_tries now pins = mended_tries (record core { floor = event_moment core now; pins = pins }) (record { last = refl; floor = omega arith; up = omega arith; rows = refl; edits = λ e. refl; mended = inl refl }) (inl refl)

    -- a batch is appended, or none
    appended_tries : (now caller : ℕ) (ds : Cmds) (batch : Batch) (answer : Reply) (note : Note) (until : Option ℕ) (base : ℕ) → IsCarried core (state_at opening.state seen) (event_moment core now) ds batch answer
        → IsPlanFor (newest_rows core) (event_moment core now) base (alive (state_at opening.state seen).keys (event_moment core now)) ds batch answer until
        → ((k : Bytes) → IsTrue (among (keys_in ds) k) → IsTrue (is_key k) → IsFresh (newest_rows core) (version base 0) k × (last_at opening seen (stripe k) ≤ base)) → NoneNewer ds base
        → Appends (raised core now) new ds batch note → IfSome new.tried (KeepsTried new (after c batch))
    appended_tries now caller ds batch answer note until base carried plan free none (inl q) =
        subst (λ (x : CoreState). IfSome x.tried (KeepsTried x (after c batch))) (sym q.core)
        (subst (λ (d : Rows). IfSome core.tried (KeepsTried (raised core now) d)) (sym (ap (after c) q.nothing ∙ after-empty c)) (raised_tries now core.pins))
    appended_tries now caller ds batch answer note until base carried plan free none (inr p) =
        subst (λ (x : CoreState). IfSome x.tried (KeepsTried x (after c batch))) (sym p.1.core) (by_edit core.tried tries)
      where
        by_edit : (o : Option TriedEdit) → IfSome o (KeepsTried core c) → IfSome o (KeepsTried (core_with_batch (raised core now) ds batch) (after c batch))
        by_edit None h = tt
        by_edit (Some e) h = append_tried e h now caller ds batch answer carried
            (batch_too e h (event_moment core now) ds batch answer until base (omega arith) plan (λ k named key. (free k named key).0) none
            (batch_leaves opening core seen (event_moment core now) ds batch answer until base c stood.stands (omega arith) carried plan free keeps))

    -- a batch failed at its gate
    attempt_tries : (ds : Cmds) (batch : Batch) (answer : Reply) (until : Option ℕ) (base : ℕ) → IsCarried core (state_at opening.state seen) core.floor ds batch answer
        → IsPlanFor (newest_rows core) core.floor base (alive (state_at opening.state seen).keys core.floor) ds batch answer until
        → ((k : Bytes) → IsTrue (among (keys_in ds) k) → IsTrue (is_key k) → IsFresh (newest_rows core) (version base 0) k × (last_at opening seen (stripe k) ≤ base)) → NoneNewer ds base → IfSome core.tried (KeepsTried (with_attempt core batch) c)
    attempt_tries ds batch answer until base carried plan free none = by_edit core.tried tries
      where
        by_edit : (o : Option TriedEdit) → IfSome o (KeepsTried core c) → IfSome o (KeepsTried (with_attempt core batch) c)
        by_edit None h = tt
        by_edit (Some e) h = record {
          past = h.past;
          texts = h.texts;
          issued = h.issued;
          placed = h.placed;
          same = h.same;
          attempt = λ t le floor late.
              batch_too e h core.floor ds batch answer until base (omega arith) plan (λ k named key. (free k named key).0) none
              (batch_leaves opening core seen core.floor ds batch answer until base c stood.stands (omega arith) carried plan free keeps) t le floor;
        }

    -- plans on the newest rows
    planned_free : (ds : Cmds) (k : Bytes) → IsTrue (among (keys_in ds) k) → IsTrue (is_key k) → IsFresh (newest_rows core) (version core.last 0) k × (last_at opening seen (stripe k) ≤ core.last)
    planned_free ds k named key = ((shown_is_issued (rows_in core.sources) core.last stood.stands.rows.issued).versions.rows k key, last_at_low opening core seen (stripe k) stood.stands)

    planned_none : (ds : Cmds) → NoneNewer ds core.last
    planned_none ds k named row side v subkey there low fits is = low

    -- and on what was seen
    commit_free : (w : Work) (can : CanCommit core seen w) (was : WasSeen opening core seen w.now w.view) (k : Bytes) → IsTrue (among (keys_in w.ds) k) → IsTrue (is_key k) → IsFresh (newest_rows core) (version w.view.seq 0) k × (last_at opening seen (stripe k) ≤ w.view.seq)
    commit_free w can was k named key =
        let since = was.holds.since in
        ((still_ready opening core seen w stood.stands can was).above k named, last_upto opening.last w.view.seq (sequences_of (stripe k) seen) since all_old)
      where
        all_old : list_all (λ n. nat_le n w.view.seq) (sequences_of (stripe k) seen) ≡ true
        all_old =
            let size = whole opening core seen w stood.stands can was k named in
            subst (λ (ns : List ℕ). list_all (λ n. nat_le n w.view.seq) ns ≡ true) (take_all (core.books (stripe k)) (sequences_of (stripe k) seen) (omega (arith, size))) (mark_of opening core seen w stood.stands can was k named).old

    commit_tries : (w : Work) (note : Note) → Commits core new seen w note → IfSome new.tried (KeepsTried new (after c w.batch))
    commit_tries w note m =
        let was = was_seen opening core seen w.now w.caller w.view stood.stands m.can.ticked in
        let same = same_core core w.now was.early in
        let at_it : core.floor ≡ event_moment core w.now = sym (ap (λ (x : CoreState). x.floor) same) in
        appended_tries w.now w.caller w.ds w.batch w.answer note w.until w.view.seq
        (subst (λ (t : ℕ). IsCarried core (state_at opening.state seen) t w.ds w.batch w.answer) at_it (commit_carried opening core seen w stood.stands m.can was m.current))
        (subst (λ (t : ℕ). IsPlanFor (newest_rows core) t w.view.seq (alive (state_at opening.state seen).keys t) w.ds w.batch w.answer w.until) at_it (new_plan opening core seen w stood.stands m.can was m.current))
        (commit_free w m.can was) (not_newer opening core seen w stood.stands m.can was) (subst (λ (x : CoreState). Appends x new w.ds w.batch note) (sym same) m.appends)

    failed_commit_tries : (w : Work) → FailsCommit core new seen w → IfSome core.tried (KeepsTried (with_attempt core w.batch) c)
    failed_commit_tries w m =
        let was = was_seen opening core seen w.now w.caller w.view stood.stands m.can.ticked in
        attempt_tries w.ds w.batch w.answer w.until w.view.seq (commit_carried opening core seen w stood.stands m.can was m.current) (new_plan opening core seen w stood.stands m.can was m.current) (commit_free w m.can was)
        (not_newer opening core seen w stood.stands m.can was)

    failed_rerun_tries : (caller now : ℕ) (ds : Cmds) (view : ReadView) (batch : Batch) (answer : Reply) → FailsRerun core new seen caller now ds view batch answer → IfSome core.tried (KeepsTried (with_attempt core batch) c)
    failed_rerun_tries caller now ds view batch answer r =
        let was = was_seen opening core seen now caller view stood.stands r.ticked in
        let same = ap (λ (x : CoreState). x.floor) (same_core core now was.early) in
        let planned : IsPlanned (newest_rows core) (event_moment core now) core.last ds batch answer r.until = subst (λ (t : ℕ). IsPlanned (newest_rows core) t core.last ds batch answer r.until) (sym same) r.plan in
        attempt_tries ds batch answer r.until core.last
        (subst (λ (t : ℕ). IsCarried core (state_at opening.state seen) t ds batch answer) same (planned_carried opening core seen now ds batch answer r.until stood.stands r.own.asked r.own.rows planned))
        (subst (λ (t : ℕ). IsPlanFor (newest_rows core) t core.last (alive (state_at opening.state seen).keys t) ds batch answer r.until) same (plan_made opening core seen now ds batch answer r.until stood.stands r.own.asked planned))
        (planned_free ds) (planned_none ds)

    planned_tries : (now caller : ℕ) (ds : Cmds) (batch : Batch) (answer : Reply) (note : Note) (until : Option ℕ) → IsTrue (are_rows batch.entries) → AreAsked ds → IsPlanned (newest_rows core) (event_moment core now) core.last ds batch answer until
        → Appends (raised core now) new ds batch note → IfSome new.tried (KeepsTried new (after c batch))
    planned_tries now caller ds batch answer note until texts asked planned appends =
        appended_tries now caller ds batch answer note until core.last (planned_carried opening core seen now ds batch answer until stood.stands asked texts planned) (plan_made opening core seen now ds batch answer until stood.stands asked planned)
        (planned_free ds) (planned_none ds) appends

    rerun_tries : (caller now : ℕ) (ds : Cmds) (view : ReadView) (batch : Batch) (answer : Reply) (note : Note) → Reruns core new seen caller now ds view batch answer note → IfSome new.tried (KeepsTried new (after c batch))
    rerun_tries caller now ds view batch answer note r =
        let was = was_seen opening core seen now caller view stood.stands r.ticked in
        let same = same_core core now was.early in
        planned_tries now caller ds batch answer note r.until r.own.rows r.own.asked (subst (λ (t : ℕ). IsPlanned (newest_rows core) t core.last ds batch answer r.until) (sym (ap (λ (x : CoreState). x.floor) same)) r.plan)
        (subst (λ (x : CoreState). Appends x new ds batch note) (sym same) r.appends)

    pin_tries : (now caller : ℕ) (o : Option PinAt) → IfSome (with_pin (raised core now) caller o).tried (KeepsTried (with_pin (raised core now) caller o) c)
    pin_tries now caller None = raised_tries now (core.pins ++ record { caller = caller; seq = core.last; moment = event_moment core now } ∷ [])
    pin_tries now caller (Some p) = raised_tries now core.pins

    unpin_tries : (now caller : ℕ) (o : Option PinAt) → IfSome (without_pin (raised core now) caller o).tried (KeepsTried (without_pin (raised core now) caller o) c)
    unpin_tries now caller None = raised_tries now core.pins
    unpin_tries now caller (Some p) = raised_tries now (filter (λ q. not (is_at caller q)) core.pins)

    freeze_mends : (o : Option (List Row)) → IsMended core.attempt (attempt_after o core.attempt)
    freeze_mends None = inr refl
    freeze_mends (Some rows) = inl refl

    drop_tries : (caller : ℕ) → DropsCompact core new caller → IfSome new.tried (KeepsTried new c)
    drop_tries caller d = subst (λ (x : CoreState). IfSome x.tried (KeepsTried x c)) (sym d.core) (by_waits d.waits)
      where
        by_now : (o : Option TriedEdit) → IfSome o (IsTriedBy core d.job) → IfSome o (KeepsTried (record core { compact = None; attempt = None; tried = d.tried }) c)
        by_now None h = tt
        by_now (Some e) h = tried_now d.job e d.tried d.open_ h

        by_waits : IsMended core.tried d.tried ⊎ ((d.attempt ≡ None) × IfSome d.tried (IsTriedBy core d.job)) → IfSome d.tried (KeepsTried (record core { compact = None; attempt = d.attempt; tried = d.tried }) c)
        by_waits (inl mended) = mended_tries (record core { compact = None; attempt = d.attempt; tried = d.tried }) (record { last = refl; floor = omega arith; up = omega arith; rows = refl; edits = λ e. refl; mended = d.mended }) mended
        by_waits (inr h) = subst (λ (a : Option Attempt). IfSome d.tried (KeepsTried (record core { compact = None; attempt = a; tried = d.tried }) c)) (sym h.0) (by_now d.tried h.1)

    pub event_tries : (e : Event) → Happens seen core e new → IfSome new.tried (KeepsTried new (kept_after e c))
    event_tries (Glance now caller view) h = subst (λ (x : CoreState). IfSome x.tried (KeepsTried x c)) (sym h.core) (raised_tries now core.pins)
    event_tries (Read now caller cmd answer) h = subst (λ (x : CoreState). IfSome x.tried (KeepsTried x c)) (sym h.core) (raised_tries now core.pins)
    event_tries (Commit w note) h = commit_tries w note h
    event_tries (Lapse w) h = same_tries h.core
    event_tries (Rerun caller now ds view batch answer note) h = rerun_tries caller now ds view batch answer note h
    event_tries (Play caller now ds batch answer note) h = planned_tries now caller ds batch answer note h.until h.own.rows h.own.asked h.plan h.appends
    event_tries (Pin now caller answer) h = subst (λ (x : CoreState). IfSome x.tried (KeepsTried x c)) (sym h.core) (pin_tries now caller (pin_at core caller))
    event_tries (LetGo now caller answer) h = subst (λ (x : CoreState). IfSome x.tried (KeepsTried x c)) (sym h.core) (unpin_tries now caller (pin_at core caller))
    event_tries (Look now caller cmd answer) h = subst (λ (x : CoreState). IfSome x.tried (KeepsTried x c)) (sym h.core) (raised_tries now core.pins)
    event_tries (Refuse now caller ds answer) h = subst (λ (x : CoreState). IfSome x.tried (KeepsTried x c)) (sym h.core) (raised_tries now core.pins)
    event_tries (Freeze caller forced task) h = subst (λ (x : CoreState). IfSome x.tried (KeepsTried x c)) (sym h.core) (mended_tries (with_flush core caller) (record {
      last = refl;
      floor = omega arith;
      up = omega arith;
      rows = frozen_rows core.sources core.sources.frozen refl;
      edits = λ e. edits_frozen core.sources core.sources.frozen e refl;
      mended = freeze_mends core.sources.frozen;
    }) (inl refl))
    event_tries (NoFlush caller forced) h = same_tries h.core
    event_tries (OtherFlush caller forced) h = same_tries h.core
    event_tries (InstallFlush caller t) h = subst (λ (x : CoreState). IfSome x.tried (KeepsTried x c)) (sym h.core) tt
    event_tries (DropFlush caller) h = subst (λ (x : CoreState). IfSome x.tried (KeepsTried x c)) (sym h.core)
        (mended_tries (record core { flush = None; tried = h.tried }) (record { last = refl; floor = omega arith; up = omega arith; rows = refl; edits = λ e. refl; mended = inl refl }) h.mended)
    event_tries (BeginCompact caller named job) h = subst (λ (x : CoreState). IfSome x.tried (KeepsTried x c)) (sym h.core)
        (mended_tries (record core { compact = Some job; next_run = core.next_run + 1 }) (record { last = refl; floor = omega arith; up = omega arith; rows = refl; edits = λ e. refl; mended = inl refl }) (inl refl))
    event_tries (NoCompact caller named) h = same_tries h.core
    event_tries (OtherCompact caller named) h = same_tries h.core
    event_tries (InstallCompact caller outputs) h = subst (λ (x : CoreState). IfSome x.tried (KeepsTried x c)) (sym h.core) tt
    event_tries (DropCompact caller) h = drop_tries caller h
    event_tries (CountLevels caller counts) h = same_tries h.0
    event_tries (FailCommit w) h = subst (λ (x : CoreState). IfSome x.tried (KeepsTried x c)) (sym h.core) (failed_commit_tries w h)
    event_tries (FailRerun caller now ds view batch answer) h = subst (λ (x : CoreState). IfSome x.tried (KeepsTried x c)) (sym h.core) (failed_rerun_tries caller now ds view batch answer h)
    event_tries Fail h = subst (λ (x : CoreState). IfSome x.tried (KeepsTried x c)) (sym h.core)
        (mended_tries (record core { attempt = h.attempt; tried = h.tried }) (record { last = refl; floor = omega arith; up = omega arith; rows = refl; edits = λ e. refl; mended = h.mended }) h.mended_too)

-- ---- all of it

-- each event, and so every list of events, keeps what the map is after its batches
pub event_keeps_all : (opening : Opening) (core new : CoreState) (seen : List Place) (c : Rows) (e : Event) → StandsFiltered opening core seen → KeepsAll opening core seen c → Happens seen core e new → KeepsAll opening new (seen ++ adds e) (kept_after e c)
event_keeps_all opening core new seen c e stood all h = record {
  keeps = event_keeps opening core new seen stood c all.keeps e h;
  attempt = event_waits opening core new seen stood c all.keeps all.attempt e h;
  tried = event_tries opening core new seen stood c all.keeps all.tried e h;
}

-- every list of events keeps all of it
pub run_keeps_all : (opening : Opening) (core new : CoreState) (seen : List Place) (es : List Event) (c : Rows) → StandsFiltered opening core seen → KeepsAll opening core seen c → IsCoreRun seen core es new → KeepsAll opening new (seen_after seen es) (kept_by es c)
run_keeps_all opening core new seen [] c stood all run = subst (λ (x : CoreState). KeepsAll opening x seen c) (sym run) all
run_keeps_all opening core new seen (e ∷ es) c stood all (mid, first, rest) =
    run_keeps_all opening mid new (seen ++ adds e) es (kept_after e c) (event_whole opening core mid seen stood e first) (event_keeps_all opening core mid seen c e stood all first) rest

-- an opening keeps the map of what it recovered
pub opened_keeps_all : (opening : Opening) (core : CoreState) → IsOpenedCore core opening → core.manifest_floor ≤ core.floor → KeepsAll opening core [] (newest_rows core)
opened_keeps_all opening core is low = record {
  keeps = opened_keeps opening core is low;
  attempt = subst (λ (o : Option Attempt). IfSome o (KeepsAttempt opening core [] (newest_rows core))) (sym is.attempt) tt;
  tried = subst (λ (o : Option TriedEdit). IfSome o (KeepsTried core (newest_rows core))) (sym is.tried) tt;
}
