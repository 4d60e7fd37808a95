-- What a core keeps: at an opening, under a batch, and where rows move or some that do not count are left out.
use Rattle.std.proofs.Common.{◌≡◌, ℕ, ◌+◌, ◌≤◌, List, [], ◌∷◌, ◌++◌, refl, sym, ap, subst, ◌∙◌, Bool, true, false, cond, append-nil, arith}
use Rattle.std.proofs.lemmas.Bool.Decides.{nat_tests}
use Rattle.std.specs.Prelude.{nat_le, is_some, Option, Some, None, IsTrue}
use Rattle.std.specs.List.{list_all}
use Rattle.kv_base.specs.InversionLaws.{both_first, both_second}
use Rattle.kv_base.specs.Map.{Bytes, get}
use Rattle.kv_base.specs.Hash.{stripe}
use Rattle.kv_base.specs.RawKeys.{is_key, is_version}
use Rattle.batch_codec.specs.Batches.{Batch, after, over}
use Rattle.batch_codec.specs.BatchLaws.{get-after}
use Rattle.redis_model.specs.declared.reply.Reply.{Reply}
use Rattle.redis_model.specs.declared.command.Cmds.{Cmds}
use Rattle.redis_model.specs.Keys.{among}
use Rattle.redis_model.specs.Value.{RedisMap, alive}
use Rattle.redis_model.specs.Machine.{State, step, fold}
use Rattle.lives_model.specs.Rows.{Rows, IsOnGrammar, Side, row_key}
use Rattle.lives_model.specs.Clean.{clean}
use Rattle.lives_model.specs.CleanLaws.{clean_means, means_later}
use Rattle.lives_model.specs.GrammarLaws.{after_on_grammar}
use Rattle.lives_model.specs.Means.{Means}
use Rattle.lives_model.specs.Plans.{IsPlanFor, IsFresh, keys_in, version}
use Rattle.core_model.specs.Sources.{rows_in}
use Rattle.core_model.specs.Places.{sequences_of}
use Rattle.redis_model.specs.declared.history.Place.{Place}
use Rattle.redis_model.specs.declared.history.Note.TheVariants.{Appended}
use Rattle.redis_model.specs.Places.{appended_by, put_before, sequences, state_at, Opening}
use Rattle.core_model.specs.Core.{CoreState, newest_rows, event_moment, raised}
use Rattle.core_model.specs.Stands.{Stands}
use Rattle.core_model.specs.Events.{entry_with, counts_on, core_with_batch, batch_place}
use Rattle.core_model.specs.RowsLaws.{at_on_grammar}
use Rattle.lives_model.specs.IssuedRowLaws.{shown_is_issued}
use Rattle.core_model.specs.PlanRowLaws.{no_row_of_others}
use Rattle.lives_model.specs.IssuedRows.{HasNoneFrom}
use Rattle.core_model.specs.PlacesLaws.{with_place}
use Rattle.core_events.specs.GoingLaws.{WritesNothing, same_sequences_of, later_keys}
use Rattle.core_events.specs.RaisingLaws.{same_moment, up_low, up_all, all_of_stripe}
use Rattle.core_events.specs.AppendingLaws.{IsCarried, newest_new, entry_step, entry_appends, new_list, named_is_counted}
use Rattle.core_keeps.specs.CleanAfterLaws.{same_after}
use Rattle.core_keeps.specs.Keeps.{last_written, written_at, last_sequence_of, last_at, KeepsCore}
use Rattle.core_model.specs.Opened.{IsOpenedCore}

-- ---- the last batch

written_more : (f : ℕ) (s : State) (seen : List Place) (p : Place) → last_written f s (with_place seen p) ≡ cond (is_some (appended_by p.what p.note)) (step (state_at s seen) p.what).1.floor (last_written f s seen)
written_more f s [] p = refl
written_more f s (q ∷ seen) p = written_more (cond (is_some (appended_by q.what q.note)) (step s q.what).1.floor f) (step s q.what).1 seen p

last_more : (q : ℕ) (ns : List ℕ) (n : ℕ) → last_sequence_of q (ns ++ n ∷ []) ≡ n
last_more q [] n = refl
last_more q (x ∷ ns) n = last_more x ns n

-- a place that appends nothing leaves both
pub still_written : (opening : Opening) (seen : List Place) (p : Place) → WritesNothing p → written_at opening (with_place seen p) ≡ written_at opening seen
still_written opening seen p quiet =
    written_more opening.state.floor opening.state seen p
    ∙ ap (λ (o : Option ℕ). cond (is_some o) (step (state_at opening.state seen) p.what).1.floor (last_written opening.state.floor opening.state seen)) quiet.whole

still_last : (opening : Opening) (seen : List Place) (p : Place) (b : ℕ) → WritesNothing p → last_at opening (with_place seen p) b ≡ last_at opening seen b
still_last opening seen p b quiet = ap (last_sequence_of opening.last) (same_sequences_of b seen p quiet)

-- no batch is above the last
pub last_upto : (q last : ℕ) (ns : List ℕ) → q ≤ last → list_all (λ n. nat_le n last) ns ≡ true → last_sequence_of q ns ≤ last
last_upto q last [] low h = low
last_upto q last (n ∷ ns) low h =
    let test = both_first (nat_le n last) (list_all (λ x. nat_le x last) ns) h in
    last_upto n last ns (grind (arith, nat_tests)) (both_second (nat_le n last) (list_all (λ x. nat_le x last) ns) h)

-- the last batch of a stripe is not above the last sequence
pub last_at_low : (opening : Opening) (core : CoreState) (seen : List Place) (b : ℕ) → Stands opening core seen → last_at opening seen b ≤ core.last
last_at_low opening core seen b stands =
    last_upto opening.last core.last (sequences_of b seen) (up_low opening.last (sequences seen) core.last stands.counts.rising)
    (all_of_stripe (λ n. nat_le n core.last) b seen (up_all opening.last (sequences seen) core.last stands.counts.rising))

-- ---- an opening

-- an opening keeps the map of the rows that it recovered
pub opened_keeps : (opening : Opening) (core : CoreState) → IsOpenedCore core opening → core.manifest_floor ≤ core.floor → KeepsCore opening core [] (newest_rows core)
opened_keeps opening core is low = record {
  floor = low;
  grammar = at_on_grammar (rows_in core.sources) core.last is.rows.grammar;
  sound = λ t le. record { map = alive opening.state.keys t; means = means_later (newest_rows core) core.floor t opening.state.keys (omega (arith, le, is.floor)) is.means };
  same = λ t le. refl;
  fresh = λ k key. subst (λ (q : ℕ). IsFresh (newest_rows core) (version q 0) k) (sym is.last) ((shown_is_issued (rows_in core.sources) core.last is.rows.issued).versions.rows k key);
}

-- ---- where nothing is appended

-- the floor of the manifest does not fall, and from it on the same counts of the newest rows
pub still_keeps : (opening : Opening) (core new : CoreState) (seen : List Place) (p : Place) (c : Rows) → WritesNothing p → core.manifest_floor ≤ new.manifest_floor → new.manifest_floor ≤ new.floor
    → ((t : ℕ) → new.manifest_floor ≤ t → clean (newest_rows new) t ≡ clean (newest_rows core) t) → KeepsCore opening core seen c → KeepsCore opening new (with_place seen p) c
still_keeps opening core new seen p c quiet up low alike keeps = record {
  floor = low;
  grammar = keeps.grammar;
  sound = λ t le. keeps.sound t (subst (λ (n : ℕ). n ≤ t) (still_written opening seen p quiet) le);
  same = λ t le. alike t le ∙ keeps.same t (omega (arith, le, up));
  fresh = λ k key. subst (λ (q : ℕ). IsFresh c (version q 0) k) (sym (still_last opening seen p (stripe k) quiet)) (keeps.fresh k key);
}

-- ---- a batch

-- A plan on the newest rows, of keys whose versions are new on both, keeps what the map is after its batch.
pub append_keeps : (opening : Opening) (core : CoreState) (seen : List Place) (now caller : ℕ) (ds : Cmds) (batch : Batch) (answer : Reply) (until : Option ℕ) (base : ℕ) (c : Rows) (stands : Stands opening core seen)
    (carried : IsCarried core (state_at opening.state seen) (event_moment core now) ds batch answer) → IsPlanFor (newest_rows core) (event_moment core now) base (alive (state_at opening.state seen).keys (event_moment core now)) ds batch answer until
    → ((k : Bytes) → IsTrue (among (keys_in ds) k) → IsTrue (is_key k) → IsFresh (newest_rows core) (version base 0) k × (last_at opening seen (stripe k) ≤ base)) → base ≤ core.last → HasNoneFrom batch (version (core.last + 1) 0) → KeepsCore opening core seen c
    → KeepsCore opening (core_with_batch (raised core now) ds batch) (with_place seen (batch_place now caller ds (Appended (core.last + 1)))) (after c batch)
append_keeps opening core seen now caller ds batch answer until base c stands carried plan free low none keeps = record {
  floor = let a = keeps.floor in omega (arith, a);
  grammar = after_on_grammar c batch keeps.grammar carried.texts;
  sound = λ t le. record {
    map = alive (fold keys moment ds).1 t;
    means = means_later (after c batch) moment t (fold keys moment ds).1 (omega (arith, le, written_is)) (clean_means (after (newest_rows core) batch) (after c batch) moment (fold keys moment ds).1 (after_on_grammar (newest_rows core) batch on carried.texts) (after_on_grammar c batch keeps.grammar carried.texts) (alike moment above_manifest) carried.means);
  };
  same = λ t le. ap (λ (d : Rows). clean d t) (newest_new opening core seen now caller ds batch answer stands carried) ∙ alike t le;
  fresh = λ k key side v subkey high fits.
      get-after c batch (row_key side k v subkey) ∙ by_counted k key side v subkey fits (counts_on ds (stripe k)) refl (subst (λ (q : ℕ). version q 0 ≤ v) (last_is k (counts_on ds (stripe k)) refl) high);
}
  where
    moment : ℕ
    moment = event_moment core now

    s : State
    s = state_at opening.state seen

    keys : RedisMap
    keys = alive (state_at opening.state seen).keys (event_moment core now)

    on : IsOnGrammar (newest_rows core)
    on = at_on_grammar (rows_in core.sources) core.last stands.rows.grammar

    above_manifest : core.manifest_floor ≤ event_moment core now
    above_manifest = let a = keeps.floor in omega (arith, a)

    means : Means (newest_rows core) (event_moment core now) (alive (state_at opening.state seen).keys (event_moment core now))
    means = later_keys (newest_rows core) core.floor (event_moment core now) (state_at opening.state seen).keys (omega arith) stands.keys.means

    older : (q : ℕ) (k : Bytes) → IsTrue (is_key k) → q ≤ base → IsFresh c (version q 0) k → IsFresh c (version base 0) k
    older q k key le fresh side v subkey high fits = fresh side v subkey (omega arith) fits

    alike : (t : ℕ) → core.manifest_floor ≤ t → clean (after (newest_rows core) batch) t ≡ clean (after c batch) t
    alike t le = same_after (newest_rows core) c (event_moment core now) t base (alive (state_at opening.state seen).keys (event_moment core now)) ds batch answer until on keeps.grammar means (keeps.same (event_moment core now) above_manifest) (keeps.same t le)
        (λ k named key. ((free k named key).0, older (last_at opening seen (stripe k)) k key (free k named key).1 (keeps.fresh k key))) plan

    written_is : written_at opening (with_place seen (batch_place now caller ds (Appended (core.last + 1)))) ≡ event_moment core now
    written_is =
        written_more opening.state.floor opening.state seen (batch_place now caller ds (Appended (core.last + 1)))
        ∙ ap (λ (o : Option ℕ). cond (is_some o) (step (state_at opening.state seen) (entry_with now caller ds)).1.floor (last_written opening.state.floor opening.state seen)) (entry_appends now caller ds (core.last + 1))
        ∙ ap (λ (r : Option Reply × State). r.1.floor) (entry_step (state_at opening.state seen) now caller ds)
        ∙ sym (same_moment core (state_at opening.state seen) now stands.keys.floor)

    last_is : (k : Bytes) (g : Bool) → counts_on ds (stripe k) ≡ g → last_at opening (with_place seen (batch_place now caller ds (Appended (core.last + 1)))) (stripe k) ≡ cond g (core.last + 1) (last_at opening seen (stripe k))
    last_is k true e =
        ap (last_sequence_of opening.last) (new_list opening core seen now caller ds batch answer stands carried (stripe k) ∙ ap (λ (g : Bool). sequences_of (stripe k) seen ++ put_before (cond g (Some (core.last + 1)) None) []) e)
        ∙ last_more opening.last (sequences_of (stripe k) seen) (core.last + 1)
    last_is k false e =
        ap (last_sequence_of opening.last) (new_list opening core seen now caller ds batch answer stands carried (stripe k) ∙ ap (λ (g : Bool). sequences_of (stripe k) seen ++ put_before (cond g (Some (core.last + 1)) None) []) e ∙ append-nil (sequences_of (stripe k) seen))

    by_counted : (k : Bytes) → IsTrue (is_key k) → (side : Side) (v : ℕ) (subkey : Bytes) → IsTrue (is_version v) → (g : Bool) → counts_on ds (stripe k) ≡ g → version (cond g (core.last + 1) (last_at opening seen (stripe k))) 0 ≤ v
        → over (get batch (row_key side k v subkey)) (get c (row_key side k v subkey)) ≡ None
    by_counted k key side v subkey fits true e high =
        ap (λ (o : Option (Option Bytes)). over o (get c (row_key side k v subkey))) (none k key side v subkey high fits) ∙ keeps.fresh k key side v subkey (lower (last_low k) high) fits
      where
        lower : last_at opening seen (stripe k) ≤ core.last → version (core.last + 1) 0 ≤ v → version (last_at opening seen (stripe k)) 0 ≤ v
        lower a b = omega (arith, a, b)

        last_low : (j : Bytes) → last_at opening seen (stripe j) ≤ core.last
        last_low j = last_at_low opening core seen (stripe j) stands
    by_counted k key side v subkey fits false e high =
        ap (λ (o : Option (Option Bytes)). over o (get c (row_key side k v subkey)))
        (no_row_of_others ds batch carried.asked carried.names k key (λ named. let yes = named_is_counted ds k named in cc) side v subkey) ∙ keeps.fresh k key side v subkey high fits
