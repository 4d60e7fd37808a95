-- Events that append nothing: the floor rises, and pins may change.
use Rattle.std.proofs.Common.{◌≡◌, ℕ, zero, suc, ◌+◌, ◌≤◌, List, [], ◌∷◌, ◌++◌, refl, sym, ap, subst, ◌∙◌, Bool, true, false, cond, length, inl, inr, arith}
use Rattle.std.proofs.lemmas.Bool.Decides.{nat_tests}
use Rattle.std.specs.Prelude.{nat_le, ◌&&◌, ◌⊎◌, max, take, Option, Some, None, IsTrue}
use Rattle.std.specs.List.{list_all}
use Rattle.kv_base.specs.InversionLaws.{both_first, both_second}
use Rattle.redis_model.specs.declared.history.Step.{Step}
use Rattle.redis_model.specs.declared.history.Step.TheVariants.{Tick, Call, Exec, PinNow, PinnedRead, PinnedRefused, Unpin, Job}
use Rattle.redis_model.specs.Apply.{counted_now}
use Rattle.redis_model.specs.Stripes.{has_stripe}
use Rattle.redis_model.specs.About.{keys_of}
use Rattle.redis_model.specs.Value.{alive}
use Rattle.redis_model.specs.Machine as machine
use Rattle.redis_model.specs.Machine.{State, Pin, step, at_moment}
use Rattle.redis_model.specs.Legal.{no_jobs, MayStep}
use Rattle.redis_model.specs.MachineLaws.{jobs_left}
use Rattle.key_locality.specs.Moments.{alive-twice}
use Rattle.lives_model.specs.Rows.{Rows, IsOnGrammar}
use Rattle.lives_model.specs.Clean.{clean}
use Rattle.lives_model.specs.Means.{Means}
use Rattle.lives_model.specs.Issued.{IsIssued}
use Rattle.core_model.specs.AlikeLaws.{alike_clean}
use Rattle.core_model.specs.Sources.{rows_in}
use Rattle.core_model.specs.Places.{appended_at, sequences_of, OfTick}
use Rattle.redis_model.specs.declared.history.Place.{Place}
use Rattle.redis_model.specs.declared.history.Note.{Note}
use Rattle.redis_model.specs.declared.history.Note.TheVariants.{Bare, Saw, Appended, Began, Found, Counted}
use Rattle.redis_model.specs.declared.history.ReadView.{ReadView}
use Rattle.redis_model.specs.Places.{appended_by, put_before, sequences, state_at, steps_of, Opening, GoUp}
use Rattle.core_model.specs.Core.{PinAt, CoreState, newest_rows, event_moment, raised}
use Rattle.core_model.specs.Stands.{MeansKeys, ArePinned, IsSeenView, Stands}
use Rattle.core_model.specs.Events.{Glances, tick}
use Rattle.core_model.specs.RowsLaws.{at_on_grammar}
use Rattle.lives_model.specs.IssuedRowLaws.{shown_is_issued}
use Rattle.core_model.specs.PlacesLaws.{with_place, state_with_place, legal_more}
use Rattle.core_events.specs.GoingLaws.{WritesNothing, MarksNoJob, KeepsViews, still_counted, same_sequences_of, still_views, still_pinned, still_jobs, raised_keeps, later_keys}

-- ---- sequences that go up

-- the last sequence is not below that of the opening
pub up_low : (before : ℕ) (ns : List ℕ) (last : ℕ) → GoUp before ns last → before ≤ last
up_low before [] last up = omega (arith, up)
up_low before (n ∷ ns) last up = let rest = up_low n ns last up.1 in let first = up.0 in omega (arith, rest, first)

-- none is above the last
pub up_all : (before : ℕ) (ns : List ℕ) (last : ℕ) → GoUp before ns last → list_all (λ n. nat_le n last) ns ≡ true
up_all before [] last up = refl
up_all before (n ∷ ns) last up =
    let low = up_low n ns last up.1 in
    joined (nat_le n last) (list_all (λ n. nat_le n last) ns) (grind (arith, nat_tests)) (up_all n ns last up.1)
  where
    joined : (a b : Bool) → a ≡ true → b ≡ true → (a && b) ≡ true
    joined true b e f = f
    joined false b e f = cc

-- the next batch goes on
pub up_more : (before : ℕ) (ns : List ℕ) (last : ℕ) → GoUp before ns last → GoUp before (ns ++ (last + 1) ∷ []) (last + 1)
up_more before [] last up = (ap (λ (n : ℕ). n + 1) up, refl)
up_more before (n ∷ ns) last up = (up.0, up_more n ns last up.1)

-- the batches of a stripe are some of all
at_is_by : (b : ℕ) (what : Step) (note : Note) → (appended_at b what note ≡ None) ⊎ (appended_at b what note ≡ appended_by what note)
at_is_by b (Tick now caller) note = inl refl
at_is_by b (Call now caller c) (Appended seq) = by_test (has_stripe (keys_of c) b)
  where
    by_test : (t : Bool) → (cond t (Some seq) None ≡ None) ⊎ (cond t (Some seq) None ≡ Some seq)
    by_test true = inr refl
    by_test false = inl refl
at_is_by b (Call now caller c) Bare = inl refl
at_is_by b (Call now caller c) (Saw view) = inl refl
at_is_by b (Call now caller c) (Began asked task) = inl refl
at_is_by b (Call now caller c) (Found asked) = inl refl
at_is_by b (Call now caller c) (Counted ns) = inl refl
at_is_by b (Exec now caller cs) (Appended seq) = inr refl
at_is_by b (Exec now caller cs) Bare = inl refl
at_is_by b (Exec now caller cs) (Saw view) = inl refl
at_is_by b (Exec now caller cs) (Began asked task) = inl refl
at_is_by b (Exec now caller cs) (Found asked) = inl refl
at_is_by b (Exec now caller cs) (Counted ns) = inl refl
at_is_by b (PinNow now caller) note = inl refl
at_is_by b (PinnedRead now caller c) note = inl refl
at_is_by b (PinnedRefused now caller cs) note = inl refl
at_is_by b (Unpin now caller) note = inl refl
at_is_by b (Job caller kind sign) note = inl refl

-- so what all pass those pass
pub all_of_stripe : (p : ℕ → Bool) (b : ℕ) (seen : List Place) → list_all p (sequences seen) ≡ true → list_all p (sequences_of b seen) ≡ true
all_of_stripe p b [] h = refl
all_of_stripe p b (q ∷ seen) h = by_part (appended_at b q.what q.note) (appended_by q.what q.note) (at_is_by b q.what q.note) h (all_of_stripe p b seen)
  where
    rest_passes : (o : Option ℕ) → list_all p (put_before o (sequences seen)) ≡ true → list_all p (sequences seen) ≡ true
    rest_passes None h = h
    rest_passes (Some n) h = both_second (p n) (list_all p (sequences seen)) h

    same_passes : (o : Option ℕ) → list_all p (put_before o (sequences seen)) ≡ true → list_all p (sequences_of b seen) ≡ true → list_all p (put_before o (sequences_of b seen)) ≡ true
    same_passes None h rest = rest
    same_passes (Some n) h rest = ap (λ (t : Bool). t && list_all p (sequences_of b seen)) (both_first (p n) (list_all p (sequences seen)) h) ∙ rest

    by_part : (a o : Option ℕ) → (a ≡ None) ⊎ (a ≡ o) → list_all p (put_before o (sequences seen)) ≡ true → (list_all p (sequences seen) ≡ true → list_all p (sequences_of b seen) ≡ true)
        → list_all p (put_before a (sequences_of b seen)) ≡ true
    by_part a o (inl is) h rest = ap (λ (x : Option ℕ). list_all p (put_before x (sequences_of b seen))) is ∙ rest (rest_passes o h)
    by_part a o (inr is) h rest = ap (λ (x : Option ℕ). list_all p (put_before x (sequences_of b seen))) is ∙ same_passes o h (rest (rest_passes o h))

-- what all pass the first do
pub taken_pass : (p : ℕ → Bool) (k : ℕ) (ns : List ℕ) → list_all p ns ≡ true → list_all p (take k ns) ≡ true
taken_pass p zero ns h = refl
taken_pass p (suc k) [] h = refl
taken_pass p (suc k) (n ∷ ns) h =
    ap (λ (t : Bool). t && list_all p (take k ns)) (both_first (p n) (list_all p ns) h) ∙ taken_pass p k ns (both_second (p n) (list_all p ns) h)

-- ---- a place that appends nothing

-- What an entry of this reading leaves of the machine: its moment, and at it the same keys.
pub record OnlyRaises (s after : State) (now : ℕ) : Type 0 where
  pub floor : after.floor ≡ machine.moment_at s now
  pub keys : alive after.keys (machine.moment_at s now) ≡ alive s.keys (machine.moment_at s now)

-- the core at the moment of a reading, with these pins
abbrev pub raised_with : CoreState → ℕ → List PinAt → CoreState
raised_with core now pins = record core { floor = event_moment core now; pins = pins }

-- the moment of the core is the machine's
pub same_moment : (core : CoreState) (s : State) (now : ℕ) → core.floor ≡ s.floor → event_moment core now ≡ machine.moment_at s now
same_moment core s now e = ap (λ (f : ℕ). max f (counted_now now)) e

raised_keys : (core : CoreState) (s after : State) (now : ℕ) (pins : List PinAt) → MeansKeys core s → OnlyRaises s after now → MeansKeys (raised_with core now pins) after
raised_keys core s after now pins keys raises = record {
  floor = same ∙ sym raises.floor;
  early = let a = keys.early in omega arith;
  means = subst (Means (newest_rows core) (event_moment core now)) there (later_keys (newest_rows core) core.floor (event_moment core now) s.keys (omega arith) keys.means);
}
  where
    same : event_moment core now ≡ machine.moment_at s now
    same = same_moment core s now keys.floor

    there : alive s.keys (event_moment core now) ≡ alive after.keys (event_moment core now)
    there = ap (alive s.keys) same ∙ sym raises.keys ∙ ap (alive after.keys) (sym same)

module _ (opening : Opening) (core : CoreState) (seen : List Place) (p : Place) (now : ℕ) (pins : List PinAt) (stands : Stands opening core seen) where
  abbrev new : CoreState
  new = raised_with core now pins

  abbrev after : State
  after = (step (state_at opening.state seen) p.what).1

  keeps : KeepsViews core new
  keeps = let k = raised_keeps core now stands.rows.grammar in record { last = k.last; floor = k.floor; alike = k.alike }

  -- the pins as they were are pins still
  pub old_pins : (ps : List PinAt) (qs : List Pin) → ArePinned core ps qs → ArePinned new ps qs
  old_pins ps qs are = still_pinned core new ps qs keeps.last keeps.floor (λ x m there low means. means) are

  -- the core stands for the history with the place
  pub raised_stands : WritesNothing p → MarksNoJob p → MayStep (state_at opening.state seen) (jobs_left no_jobs (steps_of seen)) p.what → OnlyRaises (state_at opening.state seen) after now
      → ArePinned new pins after.pins → OfTick (IsSeenView opening new (with_place seen p)) after p.what p.note → Stands opening new (with_place seen p)
  raised_stands quiet idle may raises pinned last = record {
    legal = legal_more opening.state seen p stands.legal may;
    keys = subst (MeansKeys new) (sym here) (raised_keys core (state_at opening.state seen) after now pins stands.keys raises);
    pins = subst (λ (s : State). ArePinned new pins s.pins) (sym here) pinned;
    rows = stands.rows;
    counts = still_counted opening core new seen p quiet refl (λ b. refl) (λ row there. there) stands.counts;
    views = still_views opening core new seen p quiet keeps stands.views last;
    jobs = still_jobs core new seen p idle refl refl refl refl stands.jobs;
  }
    where
      here : state_at opening.state (with_place seen p) ≡ after
      here = state_with_place opening.state seen p

-- ---- a glance

tick_step : (s : State) (now caller : ℕ) → (step s (Tick now caller)).1 ≡ at_moment s now
unfolding step
tick_step s now caller = refl

-- a tick appends no batch
pub tick_quiet : (now caller : ℕ) (view : ReadView) → WritesNothing (tick now caller view)
tick_quiet now caller view = record { whole = refl; each = λ b. refl }

-- and marks no job
pub tick_idle : (now caller : ℕ) (view : ReadView) → MarksNoJob (tick now caller view)
tick_idle now caller view = record { flush = λ o. refl; compact = λ o. refl }

-- at its moment the machine's keys are those that are alive
pub at_moment_raises : (s : State) (now : ℕ) → OnlyRaises s (at_moment s now) now
at_moment_raises s now = record { floor = refl; keys = alive-twice s.keys (machine.moment_at s now) }

-- what a glance sees is right
glance_sees : (opening : Opening) (core new : CoreState) (seen : List Place) (now caller : ℕ) (view : ReadView) → Stands opening core seen → Glances core new now view
    → IsSeenView opening (raised core now) (with_place seen (tick now caller view)) (at_moment (state_at opening.state seen) now) view
glance_sees opening core new seen now caller view stands g = record {
  since = subst (λ (n : ℕ). opening.last ≤ n) (sym g.seq) low;
  written = omega (arith, g.seq);
  moment = there ∙ same;
  past = omega (arith, there);
  grammar = subst IsOnGrammar (sym g.rows) (at_on_grammar (rows_in core.sources) core.last stands.rows.grammar);
  means = subst (λ (c : Rows). Means c view.moment (alive s.keys (machine.moment_at s now))) (sym g.rows)
      (subst (λ (t : ℕ). Means (newest_rows core) t (alive s.keys (machine.moment_at s now))) (sym there)
      (subst (λ (t : ℕ). Means (newest_rows core) (event_moment core now) (alive s.keys t)) same
      (later_keys (newest_rows core) core.floor (event_moment core now) s.keys (omega arith) stands.keys.means)));
  issued = subst (IsIssued view.rows.map) (sym g.seq) (subst (λ (c : Rows). IsIssued c core.last) (sym g.rows) (shown_is_issued (rows_in core.sources) core.last stands.rows.issued));
  marks = λ b mark marked.
      let low_mark = g.marks b mark marked in
      let all = low_mark.1 ∙ stands.counts.books b low_mark.0 ∙ ap length (sym (same_sequences_of b seen (tick now caller view) (tick_quiet now caller view))) in
      record {
        grown = omega (arith, all);
        old = subst (λ (n : ℕ). IsTrue (list_all (λ x. nat_le x n) (take mark (sequences_of b (with_place seen (tick now caller view)))))) (sym g.seq)
            (taken_pass (λ x. nat_le x core.last) mark (sequences_of b (with_place seen (tick now caller view)))
            (ap (list_all (λ x. nat_le x core.last)) (same_sequences_of b seen (tick now caller view) (tick_quiet now caller view))
            ∙ all_of_stripe (λ x. nat_le x core.last) b seen (up_all opening.last (sequences seen) core.last stands.counts.rising)));
        same = λ whole k key of. alike_clean view.rows.map (newest_rows core) (event_moment core now) k (ap (λ (c : Rows). clean c (event_moment core now)) g.rows);
      };
}
  where
    s : State
    s = state_at opening.state seen

    low : opening.last ≤ core.last
    low = up_low opening.last (sequences seen) core.last stands.counts.rising

    there : view.moment ≡ event_moment core now
    there = g.moment ∙ ap (λ (c : CoreState). c.floor) g.core

    same : event_moment core now ≡ machine.moment_at (state_at opening.state seen) now
    same = same_moment core (state_at opening.state seen) now stands.keys.floor

-- a glance makes a tick, and the core stands for the history with it
pub glance_stands : (opening : Opening) (core new : CoreState) (seen : List Place) (now caller : ℕ) (view : ReadView) → Stands opening core seen → Glances core new now view → Stands opening new (with_place seen (tick now caller view))
glance_stands opening core new seen now caller view stands g =
    subst (λ (c : CoreState). Stands opening c (with_place seen (tick now caller view))) (sym g.core)
    (raised_stands opening core seen (tick now caller view) now core.pins stands (tick_quiet now caller view) (tick_idle now caller view) tt
    (subst (λ (a : State). OnlyRaises (state_at opening.state seen) a now) (sym is) (at_moment_raises (state_at opening.state seen) now))
    (subst (λ (a : State). ArePinned (raised core now) core.pins a.pins) (sym is) (old_pins opening core seen (tick now caller view) now core.pins stands core.pins (state_at opening.state seen).pins stands.pins))
    (subst (λ (a : State). IsSeenView opening (raised core now) (with_place seen (tick now caller view)) a view) (sym is) (glance_sees opening core new seen now caller view stands g)))
  where
    is : (step (state_at opening.state seen) (Tick now caller)).1 ≡ at_moment (state_at opening.state seen) now
    is = tick_step (state_at opening.state seen) now caller
