-- A plan that makes of the scores of members what a command comes to carries it out.
use Rattle.std.proofs.Common.{ℕ, ◌≡◌, ◌+◌, ◌-◌, ◌^◌, refl, sym, ap, subst, ◌∙◌, Bool, true, false, cond, [], ◌∷◌, inl, inr, arith}
use Rattle.std.proofs.lemmas.Bool.{and_from}
use Rattle.std.specs.Prelude.{◌⊎◌, List, Result, IfOk, Option, Some, None, Ok, Err, IsTrue, IsSome, is_some, not, ◌&&◌, ◌||◌, ◌==◌, nat_lt, option_and_then, option_map, IfSome, ℤ}
use Rattle.kv_base.specs.Map.{Bytes, Map, same, same_is, same_itself, get, empty, insert, remove, size, get-empty, get-insert, size-empty, same_map}
use Rattle.kv_base.specs.Fields.{read_u64}
use Rattle.kv_base.specs.InversionLaws.{number_is}
use Rattle.kv_base.specs.RawKeys.{is_key, is_version, is_raw_text}
use Rattle.kv_base.specs.MetaValues.{LifeValue, is_deadline, is_size, is_meta_within, meta_text}
use Rattle.kv_base.specs.declared.fault.StoreFault.{StoreFault}
use Rattle.kv_base.specs.declared.kind.Kind.TheVariants as code
use Rattle.batch_codec.specs.Batches.{Batch}
use Rattle.redis_model.specs.declared.reply.Reply.{Reply}
use Rattle.redis_model.specs.declared.reply.Reply.TheVariants as reply
use Rattle.redis_model.specs.declared.reply.ReplyError.{ReplyError}
use Rattle.redis_model.specs.declared.reply.ReplyError.TheVariants.{TooLarge}
use Rattle.redis_model.specs.declared.command.Command.{Command}
use Rattle.redis_model.specs.declared.command.Cmds.TheVariants.{One}
use Rattle.redis_model.specs.Limits.{IsWholeScore}
use Rattle.redis_model.specs.Value.{Value, ZSet, Entry, RedisMap, lives, max_size}
use Rattle.redis_model.specs.Outcome.{Outcome, ◌>>=◌, sorted_sets, seen, at_key, put, change}
use Rattle.redis_model.specs.Keys.{among}
use Rattle.redis_model.specs.About.{keys_of}
use Rattle.redis_model.specs.Apply.{carried_out}
use Rattle.redis_model.specs.Touched.{is_touched, written_again}
use Rattle.lives_model.specs.declared.plan.Plan.{Plan}
use Rattle.lives_model.specs.Rows.{Rows, Side, Elements, Scores, meta_key, row_key}
use Rattle.lives_model.specs.RowKeyLaws.{same_row_meta, meta_key_is_read}
use Rattle.lives_model.specs.Clean.{live_at, deadline_from}
use Rattle.lives_model.specs.Means.{Means, LifeAt, HasWholeScores, meta_for, row_of, has_life, score_text, is_scored, member_row}
use Rattle.lives_model.specs.LifeRows.{HasRowsOf}
use Rattle.lives_model.specs.OwnKeyLaws.{no_size, empty_is}
use Rattle.lives_model.specs.Plans.{IsPlan, IsPlanOf, IsReady, IsFresh, changed, least_above}
use Rattle.plan_base.specs.declared.life.LifeSight.{LifeSight}
use Rattle.plan_base.specs.Seen.{deadline_in}
use Rattle.plan_base.specs.SeenLaws.{seen_deadline}
use Rattle.plan_base.specs.MetaRows.{expire_number}
use Rattle.plan_base.specs.MetaRowLaws.{deadline_is_back}
use Rattle.plan_base.specs.KeyStepLaws.{touched_differs}
use Rattle.plan_base.specs.KeyPlanLaws.{removed_plan, remove_nothing, found_deadline_fits, live_is_found}
use Rattle.plan_base.specs.Retimed.{KeepsLife}
use Rattle.plan_base.specs.Lives.{SeesLife, life_found}
use Rattle.plan_base.specs.LifeLaws.{score_row_of, sorted_set_stands, sees_life, size_there}
use Rattle.plan_base.specs.LifePlans.{answering}
use Rattle.plan_base.specs.LifeSteps.{IsInLife, WritesLife, life_on}
use Rattle.plan_base.specs.LifeStepLaws.{life_plan, goes_on}
use Rattle.life_plans.specs.ChangePlans.{changing_plan, emptied_plan, size_after, life_text}
use Rattle.life_plans.specs.Changes.{FindsLife}
use Rattle.life_plans.specs.ChangeSizeLaws.{IsHeldLife, held, held_version}
use Rattle.life_plans.specs.ChangePlanLaws.{Plans, insert_there, idle_plan_ahead, faulty_plan, lives_there, size_fits}
use Rattle.zset_plans.specs.declared.scoring.Scoring.{Scoring}
use Rattle.zset_plans.specs.Scorings.{all_rescored, AreScorings, coming, going, scored_rows}
use Rattle.zset_plans.specs.ScoringLaws.{all_unscored, size_rescored}
use Rattle.zset_plans.specs.ScoreRowLaws.{Turns, IsRowOfLife, scorings_turn, whole_from, no_turn, turns_itself}
use Rattle.zset_plans.specs.ScorePlans.{FindsScores, scoring_plan, ScoresPlanned, IsScoresPlan, ChangesScores, PlansBy, PlansScores}

-- ---- what is found

-- no member stands in a sorted set without any
no_rows : (head : ℕ) (side : Side) (q : Bytes) → row_of (ZSet empty) head side q ≡ None
no_rows head Elements q = ap (option_map score_text) (get-empty q)
no_rows head Scores q = by_read (read_u64 q)
  where
    by_read : (r : Option (ℕ × Bytes)) → member_row empty r ≡ None
    by_read None = refl
    by_read (Some (n, x)) = ap (λ (o : Option ℤ). cond (is_scored o n) (Some []) None) (get-empty x)

-- where the first item of a list has its index does not matter
any_head : (z : Map ℤ) (head other : ℕ) (side : Side) (q : Bytes) → row_of (ZSet z) head side q ≡ row_of (ZSet z) other side q
any_head z head other Elements q = refl
any_head z head other Scores q = refl

no_scores : (z : Map ℤ) → z ≡ empty → HasWholeScores (ZSet z)
no_scores z is x = subst (λ (o : Option ℤ). IfSome o IsWholeScore) (sym (ap (λ (m : Map ℤ). get m x) is ∙ get-empty x)) tt

module _ (c : Rows) (t : ℕ) (m : RedisMap) (k : Bytes) (fresh : ℕ) (fits : IsTrue (is_version fresh)) (above : IsFresh c fresh k) where
  -- the rows of the sorted set stand in the life that goes on, or else in a new one
  rows_found : (found : Option LifeSight) (z : Map ℤ) → IsHeldLife sorted_sets c t m k found z → HasRowsOf c k (life_on fresh found) (ZSet z)
  rows_found None z h = record {
    scores = no_scores z h.1;
    indices = tt;
    rows = λ side q. above side fresh q (omega arith) fits ∙ sym (ap (λ (y : Map ℤ). row_of (ZSet y) (2 ^ 63) side q) h.1 ∙ no_rows (2 ^ 63) side q);
  }
  rows_found (Some life) z h = record {
    scores = subst HasWholeScores h.value h.stands.scores;
    indices = tt;
    rows = λ side q.
        ap (λ (v : ℕ). get c (row_key side k v q)) (sym h.goes)
        ∙ h.stands.rows (ap has_life h.value) side q
        ∙ ap (λ (v : Value). row_of v h.stands.life.head side q) h.value
        ∙ any_head z h.stands.life.head (2 ^ 63) side q;
  }

-- so it is found there
pub finds_scores : {c : Rows} {t : ℕ} {m : RedisMap} (means : Means c t m) (k : Bytes) (fresh : ℕ) (found : Option LifeSight) (z : Map ℤ)
    → life_found code.ZSet (live_at c t k) ≡ Ok found → at_key sorted_sets m k ≡ Ok z → IsTrue (is_version fresh) → IsFresh c fresh k → FindsScores c k fresh found z
finds_scores {c} {t} {m} means k fresh found z is at fits above =
    let h = held sorted_set_stands means k found z is at in
    let rows = rows_found c t m k fresh fits above found z h in
    record {
      life =
          subst (λ (o : Outcome (Map ℤ)). SeesLife sorted_sets score_row_of c k (Ok found) o) at
          (subst (λ (s : Outcome (Option LifeSight)). SeesLife sorted_sets score_row_of c k s (at_key sorted_sets m k)) is (sees_life sorted_set_stands means k));
      version = held_version sorted_set_stands c t m k fresh found z fits h;
      elements = λ q. rows.rows Elements q;
      rows = rows;
    }

-- ---- the batch

module _ (c : Rows) (k : Bytes) (version : ℕ) (z next : Map ℤ) (rows : Batch) (short : IsTrue (is_key k)) (turns : Turns k version z next rows)
    (there : HasRowsOf c k (record { version = version; head = 2 ^ 63 }) (ZSet z)) (whole : HasWholeScores (ZSet next)) where
  -- with metadata, the rows that differ write the life of the other sorted set
  turning_writes : (old : Option ℕ) → old ≡ deadline_from (expire_number old) → IsTrue (is_meta_within (LifeValue code.ZSet (expire_number old) version (size next)))
      → WritesLife c (insert rows (meta_key k) (Some (life_text code.ZSet old version (size next)))) k (record { value = ZSet next; deadline = old }) (record { version = version; head = 2 ^ 63 }) (expire_number old)
  turning_writes old dl fits = record {
    deadline = dl;
    fits = fits;
    scores = whole;
    collection = refl;
    meta = get-insert rows (meta_key k) (Some text) (meta_key k) ∙ ap (λ s. cond s (Some (Some text)) (get rows (meta_key k))) (same_itself (meta_key k));
    rows = λ side q.
        get-insert rows (meta_key k) (Some text) (row_key side k version q)
        ∙ ap (λ s. cond s (Some (Some text)) (get rows (row_key side k version q))) (same_row_meta side k version q k)
        ∙ turns.at side q
        ∙ (λ i. changed (sym (there.rows side q ∙ any_head z (2 ^ 63) 0 side q) i) (any_head next 0 (2 ^ 63) side q i));
    raw = λ raw h. grammar raw (place raw (same raw (meta_key k)) refl h);
    only = λ raw h. in_life raw (place raw (same raw (meta_key k)) refl h);
  }
    where
      text : Bytes
      text = life_text code.ZSet old version (size next)

      place : (raw : Bytes) (s : Bool) → same raw (meta_key k) ≡ s → IsSome (get (insert rows (meta_key k) (Some text)) raw) → (raw ≡ meta_key k) ⊎ IsRowOfLife k version raw
      place raw true is h = inl (same_is raw (meta_key k) is)
      place raw false is h =
          inr (turns.only raw (sym (ap is_some (get-insert rows (meta_key k) (Some text) raw ∙ ap (λ s. cond s (Some (Some text)) (get rows raw)) is)) ∙ h))

      in_life : (raw : Bytes) → (raw ≡ meta_key k) ⊎ IsRowOfLife k version raw → (raw ≡ meta_key k) ⊎ IsInLife k version raw
      in_life raw (inl is) = inl is
      in_life raw (inr r) = inr (record { side = r.side; subkey = r.subkey; is = r.is })

      grammar : (raw : Bytes) → (raw ≡ meta_key k) ⊎ IsRowOfLife k version raw → IsTrue (is_raw_text raw)
      grammar raw (inl is) = ap is_raw_text is ∙ ap is_some (meta_key_is_read k short)
      grammar raw (inr r) = r.text

-- ---- the plan

-- a batch without rows, and one whose rows are none
rows_none : (b : Batch) → size b ≡ 0 → (raw : Bytes) → get b raw ≡ None
rows_none b none raw = ap (λ (x : Batch). get x raw) ((no_size b).0 none) ∙ get-empty raw

no_rows_in : (b : Batch) → ((raw : Bytes) → get b raw ≡ None) → size b ≡ 0
no_rows_in b none = (no_size b).1 (empty_is b none)

module _ {c : Rows} {t : ℕ} {m : RedisMap} (means : Means c t m) (fresh : ℕ) (d : Command) (k : Bytes) (one : keys_of d ≡ k ∷ []) (short : IsTrue (is_key k)) (keeps : KeepsLife m d k)
    (fits : IsTrue (is_version fresh)) (above : IsFresh c fresh k)
    (found : Option LifeSight) (z next : Map ℤ) (rows : Batch) (answer : Reply)
    (is : life_found code.ZSet (live_at c t k) ≡ Ok found) (at : at_key sorted_sets m k ≡ Ok z)
    (turns : Turns k (life_on fresh found).version z next rows) (whole : HasWholeScores (ZSet next))
    (done : carried_out m t d ≡ (change sorted_sets m k next >>= λ n. Ok (answer, n)))
    (rewrites : (n : RedisMap) → among (written_again m n d) k ≡ false) where
  abbrev old : Option ℕ
  old = deadline_in (live_at c t k)

  abbrev entry : Entry
  entry = record { value = ZSet next; deadline = deadline_in (live_at c t k) }

  finds : FindsScores c k fresh found z
  finds = finds_scores means k fresh found z is at fits above

  -- what is put at the key stands there
  left : get (insert m k entry) k ≡ Some entry
  left = get-insert m k entry k ∙ ap (λ s. cond s (Some entry) (get m k)) (same_itself k)

  -- what the command comes to, by the size
  comes_to : (large none : Bool) → nat_lt max_size (size next) ≡ large → (size next == 0) ≡ none
      → carried_out m t d ≡ (cond large (Err TooLarge) (cond none (Ok (remove m k)) (Ok (insert m k entry))) >>= λ n. Ok (answer, n))
  comes_to large none l e =
      done
      ∙ ap (λ dl. put sorted_sets m k next dl >>= λ n. Ok (answer, n)) (seen_deadline means k)
      ∙ (λ i. cond (l i) (Err TooLarge) (cond (e i) (Ok (remove m k)) (Ok (insert m k entry))) >>= λ n. Ok (answer, n))

  -- a sorted set without members leaves no key
  emptied : (f : Option LifeSight) → IsHeldLife sorted_sets c t m k f z → carried_out m t d ≡ Ok (answer, remove m k) → Plans c t fresh m d (emptied_plan t k (deadline_in (live_at c t k)) f answer)
  emptied None h comes = idle_plan_ahead fresh d k answer means (comes ∙ ap (λ (n : RedisMap). Ok (answer, n)) (remove_nothing m k h.0)) one (rewrites m)
  emptied (Some life) h comes = removed_plan fresh d k (meta_for h.entry.value h.stands.life h.stands.expire) answer means h.stands.meta comes one short

  -- where nothing differs the entry stays
  same_entry_there : (f : Option LifeSight) → IsHeldLife sorted_sets c t m k f z → (size next == 0) ≡ false → z ≡ next → insert m k entry ≡ m
  same_entry_there None h none that =
      let no : size next ≡ 0 = ap size (sym that ∙ h.1) ∙ size-empty ℤ in
      let yes : (size next == 0) ≡ true = ap (λ n. n == 0) no in
      absurd (cc)
  same_entry_there (Some life) h none that =
      let value : h.entry.value ≡ ZSet next = h.value ∙ ap ZSet that in
      let deadline : h.entry.deadline ≡ deadline_in (live_at c t k) = ap (option_and_then (λ (x : Entry). x.deadline)) (sym h.there) ∙ seen_deadline means k in
      let same_entry : h.entry ≡ entry = λ i. record { value = value i; deadline = deadline i } in
      insert_there m k entry (h.there ∙ ap (λ x. Some x) same_entry)

  -- the key is touched where a row differs
  touches_it : (size rows == 0) ≡ false → IsTrue (is_touched m (insert m k entry) d k)
  touches_it differ = touched_differs m (insert m k entry) d k (λ alike.
      let sees : Ok next ≡ Ok z = sym (ap (seen sorted_sets) (alike ∙ left)) ∙ at in
      let that : next ≡ z = same_ok next z sees in
      let none : size rows ≡ 0 = no_rows_in rows (turns_itself (subst (λ (y : Map ℤ). Turns k (life_on fresh found).version z y rows) that turns)) in
      let no : (size rows == 0) ≡ true = ap (λ n. n == 0) none in
      cc)
    where
      ok : Map ℤ → Outcome (Map ℤ)
      ok y = Ok y

      same_ok : (x y : Map ℤ) → ok x ≡ ok y → x ≡ y
      same_ok x y e = cc

  -- the batch writes the life
  writes : nat_lt max_size (size next) ≡ false → (size next == 0) ≡ false
      → WritesLife c (insert rows (meta_key k) (Some (life_text code.ZSet old (life_on fresh found).version (size next)))) k entry (life_on fresh found) (expire_number old)
  unfolding is_meta_within
  writes small filled =
      subst (λ (life : LifeAt). WritesLife c (insert rows (meta_key k) (Some (life_text code.ZSet old (life_on fresh found).version (size next)))) k entry life (expire_number old)) (sym (life_is found))
      (turning_writes c k (life_on fresh found).version z next rows short turns (subst (λ (life : LifeAt). HasRowsOf c k life (ZSet z)) (life_is found) finds.rows) whole old (deadline_is_back t old (lives_there means k)) whole_meta)
    where
      life_is : (f : Option LifeSight) → life_on fresh f ≡ record { version = (life_on fresh f).version; head = 2 ^ 63 }
      life_is None = refl
      life_is (Some life) = refl

      whole_meta : is_meta_within (LifeValue code.ZSet (expire_number old) (life_on fresh found).version (size next)) ≡ true
      whole_meta =
          and_from (is_deadline (expire_number old) && is_version (life_on fresh found).version) (is_size (size next))
          (and_from (is_deadline (expire_number old)) (is_version (life_on fresh found).version) (found_deadline_fits (live_at c t k) (live_is_found c t k)) finds.version)
          (size_fits (size next) small filled)

  -- by the size, and whether a row differs
  by_tests : (large none idle : Bool) → nat_lt max_size (size next) ≡ large → (size next == 0) ≡ none → (size rows == 0) ≡ idle
      → Plans c t fresh m d (cond large (answering t old (reply.Error TooLarge)) (cond none (emptied_plan t k old found answer) (cond idle (answering t old answer) (record {
        reply = answer;
        batch = insert rows (meta_key k) (Some (life_text code.ZSet old (life_on fresh found).version (size next)));
        until = least_above t (old ∷ old ∷ []);
      }))))
  by_tests true none idle l e s = faulty_plan fresh d k TooLarge means (comes_to true none l e) one
  by_tests false true idle l e s = emptied found (held sorted_set_stands means k found z is at) (comes_to false true l e)
  by_tests false false true l e s =
      let alike = no_turn turns (rows_none rows (number_is (size rows) 0 s)) finds.rows.scores whole in
      let stays = same_entry_there found (held sorted_set_stands means k found z is at) e (same_map z next alike) in
      idle_plan_ahead fresh d k answer means (comes_to false false l e ∙ ap (λ (n : RedisMap). Ok (answer, n)) stays) one (rewrites m)
  by_tests false false false l e s =
      life_plan fresh d k (insert rows (meta_key k) (Some (life_text code.ZSet old (life_on fresh found).version (size next)))) answer (insert m k entry) entry (life_on fresh found) (expire_number old)
      means (comes_to false false l e) one short (touches_it s) left (lives_there means k) (goes_on sorted_set_stands fresh d k found next means keeps is) (writes l e)

  -- the plan that writes the rows which differ
  turned_plan : Plans c t fresh m d (changing_plan t k code.ZSet old fresh found false rows (size next) answer)
  unfolding changing_plan
  turned_plan = by_tests (nat_lt max_size (size next)) (size next == 0) (size rows == 0) refl refl refl

-- ---- commands

-- how many members are left, by the number in the metadata
pub size_is : (c : Rows) (k : Bytes) (fresh : ℕ) (found : Option LifeSight) (z : Map ℤ) (ss : List Scoring) → FindsScores c k fresh found z → AreScorings z ss → size (all_rescored z ss) ≡ size_after found (coming ss) (going ss)
size_is c k fresh found z ss finds all =
    let size_there = size_there sorted_set_stands c k found z finds.life in
    let counts = size_rescored z z ss all (all_unscored z ss) in
    omega (arith, size_there, counts)

-- A command on a key of another type answers the error.
scores_refused : (c : Rows) (t fresh : ℕ) (d : Command) (k : Bytes) (f : Map ℤ → Outcome (Reply × Map ℤ)) (e : ReplyError) (plan : Plan) → ChangesScores t d k f
    → life_found code.ZSet (live_at c t k) ≡ Err e → plan ≡ answering t (deadline_in (live_at c t k)) (reply.Error e) → IsPlan c t fresh d plan.batch plan.reply plan.until
scores_refused c t fresh d k f e plan by is that =
    subst (λ (p : Plan). IsPlan c t fresh d p.batch p.reply p.until) (sym that)
    (record { plan = λ m means ready. by_seen m means (at_key sorted_sets m k) refl (subst (λ (s : Outcome (Option LifeSight)). SeesLife sorted_sets score_row_of c k s (at_key sorted_sets m k)) is (sees_life sorted_set_stands means k)) })
  where
    by_seen : (m : RedisMap) → Means c t m → (o : Outcome (Map ℤ)) → at_key sorted_sets m k ≡ o → SeesLife sorted_sets score_row_of c k (Err e) o → Plans c t fresh m d (answering t (deadline_in (live_at c t k)) (reply.Error e))
    by_seen m means (Ok z) at sees = absurd sees
    by_seen m means (Err x) at sees =
        faulty_plan fresh d k e means (by.is m ∙ ap (λ (o : Outcome (Map ℤ)). o >>= λ a. f a >>= λ r. change sorted_sets m k r.1 >>= λ n. Ok (r.0, n)) at ∙ ap (λ (y : ReplyError). Err y) (sym sees)) by.one

-- One that makes of the scores of members what it comes to is carried out by its plan.
scores_planned : (c : Rows) (t fresh : ℕ) (d : Command) (k : Bytes) (f : Map ℤ → Outcome (Reply × Map ℤ)) (found : Option LifeSight) (plan : Plan) → ChangesScores t d k f
    → life_found code.ZSet (live_at c t k) ≡ Ok found
    → ((z : Map ℤ) → FindsScores c k fresh found z → IsScoresPlan t k (deadline_in (live_at c t k)) fresh found z (f z) plan)
    → IsPlan c t fresh d plan.batch plan.reply plan.until
scores_planned c t fresh d k f found plan by is planned =
    record { plan = λ m means ready. by_seen m means ready (at_key sorted_sets m k) refl (subst (λ (s : Outcome (Option LifeSight)). SeesLife sorted_sets score_row_of c k s (at_key sorted_sets m k)) is (sees_life sorted_set_stands means k)) }
  where
    by_seen : (m : RedisMap) → Means c t m → IsReady c t fresh (One d) → (o : Outcome (Map ℤ)) → at_key sorted_sets m k ≡ o → SeesLife sorted_sets score_row_of c k (Ok found) o → Plans c t fresh m d plan
    by_seen m means ready (Err x) at sees = absurd sees
    by_seen m means ready (Ok z) at sees = by_outcome (f z) refl (planned z finds)
      where
        above : IsFresh c fresh k
        above = ready.above k (ap (λ ks. among ks k) by.one ∙ ap (λ b. b || false) (same_itself k))

        finds : FindsScores c k fresh found z
        finds = finds_scores means k fresh found z is at ready.fits above

        comes : carried_out m t d ≡ (f z >>= λ r. change sorted_sets m k r.1 >>= λ n. Ok (r.0, n))
        comes = by.is m ∙ ap (λ (o : Outcome (Map ℤ)). o >>= λ a. f a >>= λ r. change sorted_sets m k r.1 >>= λ n. Ok (r.0, n)) at

        by_outcome : (u : Outcome (Reply × Map ℤ)) → f z ≡ u → IsScoresPlan t k (deadline_in (live_at c t k)) fresh found z u plan → Plans c t fresh m d plan
        by_outcome (Err x) e that =
            subst (Plans c t fresh m d) (sym that)
            (faulty_plan fresh d k x means (comes ∙ ap (λ (r : Outcome (Reply × Map ℤ)). r >>= λ r. change sorted_sets m k r.1 >>= λ n. Ok (r.0, n)) e) by.one)
        by_outcome (Ok u) e p =
            subst (Plans c t fresh m d) (sym p.is)
            (subst (λ (count : ℕ). Plans c t fresh m d (changing_plan t k code.ZSet (deadline_in (live_at c t k)) fresh found false (scored_rows k (life_on fresh found).version p.scorings) count u.0))
            (size_is c k fresh found z p.scorings finds p.are)
            (turned_plan means fresh d k by.one by.short (by.keeps m) ready.fits above found z (all_rescored z p.scorings) (scored_rows k (life_on fresh found).version p.scorings) u.0 is at
            (scorings_turn k (life_on fresh found).version by.short finds.version z p.scorings finds.rows.scores p.are)
            (whole_from z z p.scorings finds.rows.scores p.are)
            (comes
            ∙ ap (λ (r : Outcome (Reply × Map ℤ)). r >>= λ r. change sorted_sets m k r.1 >>= λ n. Ok (r.0, n)) e
            ∙ ap (λ (y : Map ℤ). change sorted_sets m k y >>= λ n. Ok (u.0, n)) (sym p.leave))
            (λ n. by.rewrites m n)))

pub scores_carried : (c : Rows) (t fresh : ℕ) (d : Command) (k : Bytes) (f : Map ℤ → Outcome (Reply × Map ℤ)) (plan : Plan) → ChangesScores t d k f → PlansScores c t k fresh f plan → IsPlan c t fresh d plan.batch plan.reply plan.until
scores_carried c t fresh d k f plan by plans = by_found (life_found code.ZSet (live_at c t k)) refl plans
  where
    by_found : (o : Outcome (Option LifeSight)) → life_found code.ZSet (live_at c t k) ≡ o → PlansBy c t k fresh o f plan → IsPlan c t fresh d plan.batch plan.reply plan.until
    by_found (Ok found) is planned = scores_planned c t fresh d k f found plan by is planned
    by_found (Err e) is that = scores_refused c t fresh d k f e plan by is that

-- a function that plans a command within its limits so
pub plans_command : (r : Result Plan StoreFault) (rows : Option Rows) (t fresh : ℕ) (d e : Command) (k : Bytes) (f : Map ℤ → Outcome (Reply × Map ℤ)) → d ≡ e → ChangesScores t e k f
    → IfOk r (λ p. IfSome rows (λ c. PlansScores c t k fresh f p)) → IfOk r (λ p. IfSome rows (λ c. IsPlan c t fresh d p.batch p.reply p.until))
plans_command (Ok p) None t fresh d e k f is by plans = tt
plans_command (Ok p) (Some c) t fresh d e k f is by plans =
    subst (λ (x : Command). IsPlan c t fresh x p.batch p.reply p.until) (sym is) (scores_carried c t fresh e k f p by plans)
plans_command (Err fault) rows t fresh d e k f is by plans = tt
