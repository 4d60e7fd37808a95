-- A batch that carries commands out on the newest rows: the core that appends it stands for the history with the commands.
use Rattle.std.proofs.Common.{◌≡◌, ℕ, zero, suc, ◌+◌, ◌<◌, ◌≤◌, List, [], ◌∷◌, ◌++◌, refl, sym, ap, subst, ◌∙◌, Bool, true, false, cond, length, length-append, inl, inr, arith}
use Rattle.std.proofs.lemmas.Bool.Decides.{nat_tests}
use Rattle.std.proofs.lemmas.List.Elements.{Contains-append_left, Contains-append_right, Contains-append_cases}
use Rattle.std.proofs.Math.Nat.{mod-lt}
use Rattle.std.specs.Prelude.{nat_le, ◌||◌, ◌==◌, ◌⊎◌, take, Option, Some, None, IsTrue, IsNone, IsSome}
use Rattle.std.specs.List.{list_all, Contains}
use Rattle.kv_base.specs.Map.{Bytes, same, same_is, get}
use Rattle.kv_base.specs.Hash.{stripe, fnv1a}
use Rattle.kv_base.specs.RawKeys.{is_key}
use Rattle.batch_codec.specs.Batches.{Batch, after, are_rows}
use Rattle.kv_base.specs.declared.row.Row.{Row}
use Rattle.row_model.specs.Rows.{at, are_upto, is_row_text, batch_rows, AreApart}
use Rattle.row_model.specs.RowOrder.{merged}
use Rattle.row_model.specs.RowOrderLaws.{same_merged, texts_of_batch}
use Rattle.redis_model.specs.declared.reply.Reply.{Reply}
use Rattle.redis_model.specs.declared.command.Cmds.{Cmds}
use Rattle.redis_model.specs.declared.command.Cmds.TheVariants.{One, Many}
use Rattle.redis_model.specs.Keys.{among}
use Rattle.redis_model.specs.About.{keys_of}
use Rattle.redis_model.specs.Stripes.{has_stripe}
use Rattle.redis_model.specs.Value.{RedisMap, alive}
use Rattle.redis_model.specs.Desk.{last_sequence}
use Rattle.redis_model.specs.Machine as machine
use Rattle.redis_model.specs.Machine.{State, Pin, pin_of, step, fold}
use Rattle.redis_model.specs.Legal.{Jobs, no_jobs, MayStep}
use Rattle.redis_model.specs.MachineLaws.{jobs_left}
use Rattle.lives_model.specs.Rows.{Rows, IsOnGrammar}
use Rattle.lives_model.specs.RowKeys.{IsOfKey}
use Rattle.lives_model.specs.RowKeyLaws.{meta_key_is, row_key_is_no_meta_key}
use Rattle.lives_model.specs.Means.{Means}
use Rattle.lives_model.specs.Plans.{AreAsked, keys_in}
use Rattle.lives_model.specs.Lapses.{CountsAlike}
use Rattle.lives_model.specs.OwnKeys.{IsAmong}
use Rattle.lives_model.specs.StepLaws.{alive_means}
use Rattle.core_model.specs.Sources.{rows_in, all_rows, waiting, in_levels}
use Rattle.filter_laws.specs.Replaced.{AreNewer}
use Rattle.core_model.specs.Places.{appended_at, sequences_of, OfTick}
use Rattle.redis_model.specs.declared.history.Place.{Place}
use Rattle.redis_model.specs.declared.history.Note.{Note}
use Rattle.redis_model.specs.declared.history.Note.TheVariants.{Appended}
use Rattle.redis_model.specs.declared.history.ReadView.{ReadView}
use Rattle.redis_model.specs.Places.{appended_by, put_before, sequences, state_at, steps_of, Opening, GoUp}
use Rattle.core_model.specs.Core.{PinAt, CoreState, newest_rows, pin_at, event_moment, raised}
use Rattle.core_model.specs.Stands.{MeansKeys, ArePinned, AreKept, AreCounted, IsMarked, IsSeenView, Stands}
use Rattle.lives_model.specs.Issued.{IsIssuedRow}
use Rattle.core_model.specs.Events.{entry_with, counts_on, core_with_batch, batch_place}
use Rattle.core_model.specs.AlikeLaws.{row_tells_key, alike_after, alike_through}
use Rattle.core_model.specs.RowsLaws.{upto_each, at_with_batch, at_without_batch}
use Rattle.filter_laws.specs.KeptRowLaws.{all_there}
use Rattle.filter_laws.specs.KeptLaws.{all_pass}
use Rattle.row_model.specs.BatchRowLaws.{batch_row_is}
use Rattle.core_model.specs.PlanRowLaws.{no_meta_of_others, no_row_of_others}
use Rattle.lives_model.specs.AskedKeyLaws.{asked_keys}
use Rattle.core_model.specs.PlacesLaws.{with_place, state_with_place, legal_more, sequences_more, sequences_of_more, ticks_more, ticks_weaker}
use Rattle.core_events.specs.GoingLaws.{MarksNoJob, still_pinned, still_jobs, still_free, raised_keeps}
use Rattle.core_events.specs.RaisingLaws.{same_moment, up_more}

-- ---- what is carried out

-- On the newest rows and at this moment the batch carries the commands out with this reply. Its rows are issued by the next
-- sequence, and of the commands' keys.
pub record IsCarried (core : CoreState) (s : State) (moment : ℕ) (ds : Cmds) (batch : Batch) (answer : Reply) : Type 0 where
  pub asked : AreAsked ds
  pub texts : IsTrue (are_rows batch.entries)
  pub reply : answer ≡ (fold (alive s.keys moment) moment ds).0
  pub means : Means (after (newest_rows core) batch) moment (fold (alive s.keys moment) moment ds).1
  pub issued : (row : Row) → Contains (batch_rows (core.last + 1) batch) row → IsIssuedRow row
  pub names : (raw : Bytes) → IsSome (get batch raw) → IsAmong (keys_in ds) raw

-- ---- the entry

-- commands are carried out at the moment
pub entry_step : (s : State) (now caller : ℕ) (ds : Cmds)
    → step s (entry_with now caller ds) ≡ (Some (fold (alive s.keys (machine.moment_at s now)) (machine.moment_at s now) ds).0, record { keys = (fold (alive s.keys (machine.moment_at s now)) (machine.moment_at s now) ds).1; floor = machine.moment_at s now; pins = s.pins })
unfolding step
entry_step s now caller (One c) = refl
entry_step s now caller (Many cs) = refl

-- it may stand where its caller has no pin
pub entry_may : (s : State) (j : Jobs) (now caller : ℕ) (ds : Cmds) → IsNone (pin_of s caller) → MayStep s j (entry_with now caller ds)
entry_may s j now caller (One c) free = free
entry_may s j now caller (Many cs) free = free

-- it marks no job
pub entry_idle : (now caller : ℕ) (ds : Cmds) (note : Note) → MarksNoJob (batch_place now caller ds note)
entry_idle now caller (One c) note = record { flush = λ o. refl; compact = λ o. refl }
entry_idle now caller (Many cs) note = record { flush = λ o. refl; compact = λ o. refl }

-- it is no tick
pub no_tick : (P : State → ReadView → Type 0) (s : State) (now caller : ℕ) (ds : Cmds) (note : Note) → OfTick P s (entry_with now caller ds) note
no_tick P s now caller (One c) note = tt
no_tick P s now caller (Many cs) note = tt

-- it appended the batch of its note
pub entry_appends : (now caller : ℕ) (ds : Cmds) (n : ℕ) → appended_by (entry_with now caller ds) (Appended n) ≡ Some n
entry_appends now caller (One c) n = refl
entry_appends now caller (Many cs) n = refl

entry_counts : (b now caller : ℕ) (ds : Cmds) (n : ℕ) → appended_at b (entry_with now caller ds) (Appended n) ≡ cond (counts_on ds b) (Some n) None
entry_counts b now caller (One c) n = refl
entry_counts b now caller (Many cs) n = refl

-- ---- keys and stripes

either : (a b : Bool) (A : Type 0) → (a || b) ≡ true → (a ≡ true → A) → (b ≡ true → A) → A
either true b A h left right = left refl
either false b A h left right = right h

or_right : (a b : Bool) → b ≡ true → (a || b) ≡ true
or_right true b e = refl
or_right false b e = e

or_left : (a b : Bool) → a ≡ true → (a || b) ≡ true
or_left true b e = refl
or_left false b e = cc

itself : (n : ℕ) → (n == n) ≡ true
itself n = grind (arith, nat_tests)

among_stripe : (ks : List Bytes) (k : Bytes) → among ks k ≡ true → has_stripe ks (stripe k) ≡ true
among_stripe [] k h = cc
among_stripe (q ∷ ks) k h =
    either (same k q) (among ks k) (has_stripe (q ∷ ks) (stripe k) ≡ true) h
    (λ is. or_left (stripe q == stripe k) (has_stripe ks (stripe k)) (ap (λ (x : Bytes). stripe x == stripe k) (sym (same_is k q is)) ∙ itself (stripe k)))
    (λ behind. or_right (stripe q == stripe k) (has_stripe ks (stripe k)) (among_stripe ks k behind))

-- a batch is counted on the stripe of each key that its commands name
pub named_is_counted : (ds : Cmds) (k : Bytes) → IsTrue (among (keys_in ds) k) → counts_on ds (stripe k) ≡ true
named_is_counted (One c) k h = among_stripe (keys_of c) k h
named_is_counted (Many cs) k h = refl

-- there are sixteen stripes
pub stripe_low : (k : Bytes) → stripe k < 16
stripe_low k = mod-lt (fnv1a 2166136261 k) (omega arith)

-- a raw key has one key
pub one_key : (j k raw : Bytes) → IsTrue (is_key j) → IsTrue (is_key k) → IsOfKey j raw → IsOfKey k raw → j ≡ k
one_key j k raw hj hk (inl is) (inl too) = meta_key_is j k (sym is ∙ too)
one_key j k raw hj hk (inl is) (inr row) = absurd (row_key_is_no_meta_key row.side k row.version row.subkey j (sym row.is ∙ is))
one_key j k raw hj hk (inr row) (inl is) = absurd (row_key_is_no_meta_key row.side j row.version row.subkey k (sym row.is ∙ is))
one_key j k raw hj hk (inr row) (inr other) = row_tells_key row.side other.side j k row.version other.version row.subkey other.subkey hj hk (sym row.is ∙ other.is)

-- ---- lists of sequences

take_front : (n : ℕ) (xs ys : List ℕ) → n ≤ length xs → take n (xs ++ ys) ≡ take n xs
take_front zero xs ys low = refl
take_front (suc n) [] ys low = absurd (omega arith)
take_front (suc n) (x ∷ xs) ys low = ap (λ (l : List ℕ). x ∷ l) (take_front n xs ys (omega arith))

-- ---- the core after the batch

module _ (opening : Opening) (core : CoreState) (seen : List Place) (now caller : ℕ) (ds : Cmds) (batch : Batch) (answer : Reply) (stands : Stands opening core seen)
    (carried : IsCarried core (state_at opening.state seen) (event_moment core now) ds batch answer) where
  abbrev s : State
  s = state_at opening.state seen

  abbrev moment : ℕ
  moment = event_moment core now

  abbrev new : CoreState
  new = core_with_batch (raised core now) ds batch

  abbrev place : Place
  place = batch_place now caller ds (Appended (core.last + 1))

  abbrev added : List Row
  added = batch_rows (core.last + 1) batch

  abbrev rest : List Row
  rest = all_rows (waiting core.sources.frozen ++ in_levels core.sources.levels)

  old_rows : rows_in core.sources ≡ core.sources.memory ++ rest
  unfolding rows_in
  old_rows = refl

  new_rows : rows_in new.sources ≡ merged core.sources.memory added ++ rest
  unfolding rows_in
  new_rows = refl

  old_upto : IsTrue (are_upto core.last (core.sources.memory ++ rest))
  old_upto = subst (λ (rows : List Row). IsTrue (are_upto core.last rows)) old_rows stands.rows.upto

  -- the newest rows are those before, changed by the batch
  pub newest_new : newest_rows new ≡ after (newest_rows core) batch
  newest_new = ap (λ (rows : List Row). at rows (core.last + 1)) new_rows ∙ at_with_batch core.sources.memory rest core.last batch old_upto
      ∙ ap (λ (rows : List Row). after (at rows core.last) batch) (sym old_rows)

  -- earlier ones are as they were
  pub older_new : (q : ℕ) → q ≤ core.last → at (rows_in new.sources) q ≡ at (rows_in core.sources) q
  older_new q low = ap (λ (rows : List Row). at rows q) new_rows ∙ at_without_batch core.sources.memory rest core.last q batch low ∙ ap (λ (rows : List Row). at rows q) (sym old_rows)

  -- a row is one of the batch or was there
  row_cases : (row : Row) → Contains (rows_in new.sources) row → Contains added row ⊎ Contains (rows_in core.sources) row
  row_cases row there = by_rest (Contains-append_cases (merged core.sources.memory added) rest row (subst (λ (rows : List Row). Contains rows row) new_rows there))
    where
      by_memory : Contains added row ⊎ Contains core.sources.memory row → Contains added row ⊎ Contains (rows_in core.sources) row
      by_memory (inl h) = inl h
      by_memory (inr h) = inr (subst (λ (rows : List Row). Contains rows row) (sym old_rows) (Contains-append_left core.sources.memory rest row h))

      by_rest : Contains (merged core.sources.memory added) row ⊎ Contains rest row → Contains added row ⊎ Contains (rows_in core.sources) row
      by_rest (inl h) = by_memory (Contains-append_cases added core.sources.memory row ((same_merged core.sources.memory added).1 row h))
      by_rest (inr h) = inr (subst (λ (rows : List Row). Contains rows row) (sym old_rows) (Contains-append_right core.sources.memory rest row h))

  added_seq : (row : Row) → Contains added row → row.seq ≡ core.last + 1
  added_seq row there = (batch_row_is (core.last + 1) batch row there).0

  old_low : (row : Row) → Contains (rows_in core.sources) row → row.seq ≤ core.last
  old_low row there = upto_each core.last (rows_in core.sources) row stands.rows.upto there

  rest_low : (row : Row) → Contains rest row → row.seq ≤ core.last
  rest_low row there = old_low row (subst (λ (rows : List Row). Contains rows row) (sym old_rows) (Contains-append_right core.sources.memory rest row there))

  -- ---- rows

  new_apart : AreApart (rows_in new.sources)
  new_apart row other there too raw seq = by_cases (row_cases row there) (row_cases other too)
    where
      value_is : Contains added row → Contains added other → row ≡ other
      value_is h k =
          let one = batch_row_is (core.last + 1) batch row h in
          let two = batch_row_is (core.last + 1) batch other k in
          let both : Some row.value ≡ Some other.value = sym one.1 ∙ ap (get batch) raw ∙ two.1 in
          let value : row.value ≡ other.value = cc in
          λ i. record { raw = raw i; seq = seq i; value = value i }

      by_cases : Contains added row ⊎ Contains (rows_in core.sources) row → Contains added other ⊎ Contains (rows_in core.sources) other → row ≡ other
      by_cases (inl h) (inl k) = value_is h k
      by_cases (inl h) (inr k) = let high = added_seq row h in let low = old_low other k in absurd (omega (arith, high, low, seq))
      by_cases (inr h) (inl k) = let low = old_low row h in let high = added_seq other k in absurd (omega (arith, high, low, seq))
      by_cases (inr h) (inr k) = stands.rows.apart row other h k raw seq

  new_newer : AreNewer (merged core.sources.memory added) rest
  new_newer row other there behind raw = by_cases (Contains-append_cases added core.sources.memory row ((same_merged core.sources.memory added).1 row there))
    where
      by_cases : Contains added row ⊎ Contains core.sources.memory row → other.seq < row.seq
      by_cases (inl h) = let high = added_seq row h in let low = rest_low other behind in omega (arith, high, low)
      by_cases (inr h) = stands.rows.order.0 row other h behind raw

  new_kept : AreKept new.sources new.last
  new_kept = record {
    grammar = all_pass is_row_text (rows_in new.sources) (λ row there. text row (row_cases row there));
    upto = all_pass (λ (r : Row). nat_le r.seq (core.last + 1)) (rows_in new.sources) (λ row there. low row (row_cases row there));
    issued = λ row there. issued row (row_cases row there);
    apart = new_apart;
    order = (new_newer, stands.rows.order.1);
    levels = stands.rows.levels;
  }
    where
      text : (row : Row) → Contains added row ⊎ Contains (rows_in core.sources) row → is_row_text row ≡ true
      text row (inl h) = all_there is_row_text added row (texts_of_batch (core.last + 1) batch carried.texts) h
      text row (inr h) = all_there is_row_text (rows_in core.sources) row stands.rows.grammar h

      low : (row : Row) → Contains added row ⊎ Contains (rows_in core.sources) row → nat_le row.seq (core.last + 1) ≡ true
      low row (inl h) = let is = added_seq row h in grind (arith, nat_tests)
      low row (inr h) = let is = old_low row h in grind (arith, nat_tests)

      issued : (row : Row) → Contains added row ⊎ Contains (rows_in core.sources) row → IsIssuedRow row
      issued row (inl h) = carried.issued row h
      issued row (inr h) = stands.rows.issued row h

  -- ---- keys and pins

  abbrev carried_out : RedisMap
  carried_out = (fold (alive s.keys moment) moment ds).1

  at_it : moment ≡ machine.moment_at s now
  at_it = same_moment core s now stands.keys.floor

  -- the machine after the commands
  after_is : (step s (entry_with now caller ds)).1 ≡ record { keys = carried_out; floor = moment; pins = s.pins }
  after_is = ap (λ (r : Option Reply × State). r.1) (entry_step s now caller ds)
      ∙ ap (λ (t : ℕ). let after : State = record { keys = (fold (alive s.keys t) t ds).1; floor = t; pins = s.pins } in after) (sym at_it)

  -- the reply is the machine's
  pub append_answers : (step s (entry_with now caller ds)).0 ≡ Some answer
  append_answers = ap (λ (r : Option Reply × State). r.0) (entry_step s now caller ds)
      ∙ ap (λ (t : ℕ). Some (fold (alive s.keys t) t ds).0) (sym at_it) ∙ ap (λ (r : Reply). Some r) (sym carried.reply)

  new_means : Means (newest_rows new) moment (alive carried_out moment)
  new_means =
      subst (Means (newest_rows new) moment) (sym (alive_means (after (newest_rows core) batch) moment carried_out carried.means))
      (subst (λ (c : Rows). Means c moment carried_out) (sym newest_new) carried.means)

  new_pinned : (ps : List PinAt) (qs : List Pin) → ArePinned core ps qs → ArePinned new ps qs
  new_pinned ps qs are = still_pinned core new ps qs (omega arith) (omega arith) (λ p m there low means. subst (λ (c : Rows). Means c p.moment m) (sym (older_new p.seq low)) means) are

  -- ---- batches

  -- the batches of a stripe go on by this one, where it is counted there
  pub new_list : (b : ℕ) → sequences_of b (with_place seen place) ≡ sequences_of b seen ++ put_before (cond (counts_on ds b) (Some (core.last + 1)) None) []
  new_list b = sequences_of_more b seen place ∙ ap (λ (o : Option ℕ). sequences_of b seen ++ put_before o []) (entry_counts b now caller ds (core.last + 1))

  new_length : (b : ℕ) (g : Bool) → counts_on ds b ≡ g → length (sequences_of b (with_place seen place)) ≡ cond g (length (sequences_of b seen) + 1) (length (sequences_of b seen))
  new_length b true is =
      ap length (new_list b ∙ ap (λ (g : Bool). sequences_of b seen ++ put_before (cond g (Some (core.last + 1)) None) []) is) ∙ length-append (sequences_of b seen) ((core.last + 1) ∷ [])
  new_length b false is =
      ap length (new_list b ∙ ap (λ (g : Bool). sequences_of b seen ++ put_before (cond g (Some (core.last + 1)) None) []) is) ∙ length-append (sequences_of b seen) [] ∙ omega arith

  new_rows_counted : (row : Row) (k : Bytes) → IsTrue (is_key k) → IsOfKey k row.raw → opening.last < row.seq → Contains added row ⊎ Contains (rows_in core.sources) row → Contains (sequences_of (stripe k) (with_place seen place)) row.seq
  new_rows_counted row k key of later (inr h) = subst (λ (ns : List ℕ). Contains ns row.seq) (sym (new_list (stripe k)))
      (Contains-append_left (sequences_of (stripe k) seen) (put_before (cond (counts_on ds (stripe k)) (Some (core.last + 1)) None) []) row.seq (stands.counts.rows row k h key of later))
  new_rows_counted row k key of later (inl h) =
      let it = batch_row_is (core.last + 1) batch row h in
      let own = carried.names row.raw (some (get batch row.raw) row.value it.1) in
      let is = one_key own.key k row.raw (asked_keys ds own.key carried.asked own.among) key own.is of in
      let counted : counts_on ds (stripe k) ≡ true = named_is_counted ds k (subst (λ (x : Bytes). IsTrue (among (keys_in ds) x)) is own.among) in
      subst (λ (ns : List ℕ). Contains ns row.seq) (sym (new_list (stripe k) ∙ ap (λ (g : Bool). sequences_of (stripe k) seen ++ put_before (cond g (Some (core.last + 1)) None) []) counted))
      (Contains-append_right (sequences_of (stripe k) seen) ((core.last + 1) ∷ []) row.seq (0, omega arith, sym it.0))
    where
      some : (o : Option (Option Bytes)) (v : Option Bytes) → o ≡ Some v → IsSome o
      some None v e = absurd (cc)
      some (Some x) v e = refl

  new_counted : core.last < last_sequence → AreCounted opening new (with_place seen place)
  new_counted room = record {
    rising = subst (λ (ns : List ℕ). GoUp opening.last ns (core.last + 1)) (sym (sequences_more seen place ∙ ap (λ (o : Option ℕ). sequences seen ++ put_before o []) (entry_appends now caller ds (core.last + 1))))
        (up_more opening.last (sequences seen) core.last stands.counts.rising);
    limit = omega (arith, room);
    books = λ b low. by_count b (counts_on ds b) refl (stands.counts.books b low);
    rows = λ row k there key of later. new_rows_counted row k key of later (row_cases row there);
  }
    where
      by_count : (b : ℕ) (g : Bool) → counts_on ds b ≡ g → core.books b ≡ length (sequences_of b seen) → cond (counts_on ds b) (core.books b + 1) (core.books b) ≡ length (sequences_of b (with_place seen place))
      by_count b true is book = ap (λ (t : Bool). cond t (core.books b + 1) (core.books b)) is ∙ ap (λ (n : ℕ). n + 1) book ∙ sym (new_length b true is)
      by_count b false is book = ap (λ (t : Bool). cond t (core.books b + 1) (core.books b)) is ∙ book ∙ sym (new_length b false is)

  -- ---- what ticks saw

  -- of keys of another stripe the same counts
  others_alike : (c : Rows) (k : Bytes) → IsTrue (is_key k) → counts_on ds (stripe k) ≡ false → CountsAlike c (newest_rows core) moment k → CountsAlike c (newest_rows new) moment k
  others_alike c k key other alike =
      subst (λ (d : Rows). CountsAlike c d moment k) (sym newest_new)
      (alike_through c (newest_rows core) (after (newest_rows core) batch) moment k alike
      (alike_after (newest_rows core) batch moment k key (no_meta_of_others ds batch carried.asked carried.names k key never) (no_row_of_others ds batch carried.asked carried.names k key never)))
    where
      never : IsTrue (among (keys_in ds) k) → ⊥
      never named = let yes = named_is_counted ds k named in cc

  new_marked : (view : ReadView) (b mark : ℕ) → IsOnGrammar view.rows.map → IsMarked core seen view b mark → IsMarked new (with_place seen place) view b mark
  new_marked view b mark on is = record {
    grown = by_grown (counts_on ds b) refl;
    old = subst (λ (ns : List ℕ). IsTrue (list_all (λ n. nat_le n view.seq) ns))
        (sym (ap (take mark) (new_list b) ∙ take_front mark (sequences_of b seen) (put_before (cond (counts_on ds b) (Some (core.last + 1)) None) []) is.grown)) is.old;
    same = λ whole k key of. by_same (counts_on ds b) refl whole k key of;
  }
    where
      by_grown : (g : Bool) → counts_on ds b ≡ g → mark ≤ length (sequences_of b (with_place seen place))
      by_grown true e = let l = new_length b true e in let a = is.grown in omega (arith, l)
      by_grown false e = let l = new_length b false e in let a = is.grown in omega (arith, l)

      by_same : (g : Bool) → counts_on ds b ≡ g → mark ≡ length (sequences_of b (with_place seen place)) → (k : Bytes) → IsTrue (is_key k) → stripe k ≡ b → CountsAlike view.rows.map (newest_rows new) moment k
      by_same true e whole k key of = let l = new_length b true e in let a = is.grown in absurd (omega (arith, l, whole, a))
      by_same false e whole k key of =
          others_alike view.rows.map k key (ap (counts_on ds) of ∙ e)
          ((raised_keeps core now stands.rows.grammar).alike view.rows.map k on key (is.same (whole ∙ new_length b false e) k key of))

  new_seen : (t : State) (view : ReadView) → IsSeenView opening core seen t view → IsSeenView opening new (with_place seen place) t view
  new_seen t view is = record {
    since = is.since;
    written = let a = is.written in omega arith;
    moment = is.moment;
    past = let a = is.past in omega arith;
    grammar = is.grammar;
    means = is.means;
    issued = is.issued;
    marks = λ b mark there. new_marked view b mark is.grammar (is.marks b mark there);
  }

  -- ---- all together

  -- so the core stands for the longer history
  pub append_stands : core.last < last_sequence → IsNone (pin_at core caller) → Stands opening new (with_place seen place)
  append_stands room free = record {
    legal = legal_more opening.state seen place stands.legal (entry_may s (jobs_left no_jobs (steps_of seen)) now caller ds (still_free core caller s stands.pins free));
    keys = subst (MeansKeys new) (sym here) (record { floor = refl; early = let a = stands.keys.early in omega arith; means = new_means });
    pins = subst (λ (t : State). ArePinned new new.pins t.pins) (sym here) (new_pinned core.pins s.pins stands.pins);
    rows = new_kept;
    counts = new_counted room;
    views = ticks_more (IsSeenView opening new (with_place seen place)) opening.state seen place
        (ticks_weaker (IsSeenView opening core seen) (IsSeenView opening new (with_place seen place)) new_seen opening.state seen stands.views)
        (no_tick (IsSeenView opening new (with_place seen place)) (step s (entry_with now caller ds)).1 now caller ds (Appended (core.last + 1)));
    jobs = still_jobs core new seen place (entry_idle now caller ds (Appended (core.last + 1))) refl refl refl refl stands.jobs;
  }
    where
      here : state_at opening.state (with_place seen place) ≡ record { keys = carried_out; floor = moment; pins = s.pins }
      here = state_with_place opening.state seen place ∙ after_is
