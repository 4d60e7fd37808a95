-- The plan of a command that stores a set carries it out.
use Rattle.std.proofs.Common.{ℕ, ◌≡◌, refl, sym, ap, subst, ◌∙◌, Bool, true, false, cond, List, [], ◌∷◌, inl, inr, arith}
use Rattle.std.specs.Prelude.{◌||◌, ◌==◌, nat_lt, Option, Some, None, Ok, Err, is_some, All, IsTrue, fold}
use Rattle.kv_base.specs.Map.{Bytes, Set, same, same_itself, same_map, get, empty, insert, remove, size, keys, get-empty, get-insert}
use Rattle.kv_base.specs.InversionLaws.{same_some, number_is}
use Rattle.kv_base.specs.RawKeys.{is_key, is_version}
use Rattle.kv_base.specs.MetaValues.{MetaValue}
use Rattle.kv_base.specs.declared.kind.Kind.TheVariants as code
use Rattle.batch_codec.specs.Batches.{Batch}
use Rattle.redis_model.specs.declared.reply.Reply.{Reply}
use Rattle.redis_model.specs.declared.reply.Reply.TheVariants as reply
use Rattle.redis_model.specs.declared.reply.ReplyError.TheVariants.{TooLarge}
use Rattle.redis_model.specs.declared.command.Command.{Command}
use Rattle.redis_model.specs.Value.{SetOf, Entry, RedisMap, max_size}
use Rattle.redis_model.specs.Outcome.{◌>>=◌, number, sets, put}
use Rattle.redis_model.specs.Keys.{among}
use Rattle.redis_model.specs.About.{keys_of}
use Rattle.redis_model.specs.Apply.{carried_out}
use Rattle.redis_model.specs.Touched.{written_again, if_there}
use Rattle.lives_model.specs.Rows.{Rows, Elements, Scores, meta_key, row_key}
use Rattle.lives_model.specs.Clean.{live_at}
use Rattle.lives_model.specs.Means.{Means}
use Rattle.lives_model.specs.Plans.{IsPlanOf, IsFresh, least_above, new_life, is_store}
use Rattle.plan_base.specs.Ahead.{seen_deadlines}
use Rattle.plan_base.specs.SeenLaws.{seen_none, seen_some}
use Rattle.plan_base.specs.MetaRows.{meta_batch}
use Rattle.plan_base.specs.KeyStepLaws.{touched_again, touched_differs}
use Rattle.plan_base.specs.KeyPlanLaws.{refused_plan, still_plan, remove_nothing}
use Rattle.plan_base.specs.LifeLaws.{set_stands, member_row_of}
use Rattle.plan_base.specs.LifeSteps.{WritesLife}
use Rattle.plan_base.specs.LifeChanges.{differing, WantsRows}
use Rattle.plan_base.specs.LifeChangeLaws.{differing_at, done}
use Rattle.life_plans.specs.WantedRows.{with_wish, wanted, joins}
use Rattle.life_plans.specs.WantedLaws.{wants_set}
use Rattle.life_plans.specs.ChangePlans.{HasElements, life_text}
use Rattle.life_plans.specs.KeyParts.{PlansKey, Puts}
use Rattle.life_plans.specs.KeyPartLaws.{unchanged_stays, named_is_touched, if_there_elsewhere, left_there, left_gone, stores_anew, writes_part, gone_part, put_at, put_elsewhere, put_leaves, changes_life, one_key_plan}
use Rattle.life_plans.specs.StoredSets.{storing_plan}

-- ---- in a new life all members differ

-- members that join are put, none is deleted
joins_delete_nothing : (k : Bytes) (version : ℕ) (xs : List Bytes) (b : Batch) (raw : Bytes) → (get b raw ≡ Some None → ⊥) → get (fold (with_wish k version) b (joins xs)) raw ≡ Some None → ⊥
joins_delete_nothing k version [] b raw none is = none is
joins_delete_nothing k version (x ∷ xs) b raw none is = joins_delete_nothing k version xs (with_wish k version b (x, Some [])) raw (λ e. by_test (same raw (row_key Elements k version x)) (sym (get-insert b (row_key Elements k version x) (Some []) raw) ∙ e)) is
  where
    by_test : (s : Bool) → cond s (Some (Some [])) (get b raw) ≡ Some None → ⊥
    by_test true e = let no : Some [] ≡ None = same_some (Some []) None e in cc
    by_test false e = none e

-- so all rows that they want differ
pub set_differs : (c : Rows) (k : Bytes) (fresh : ℕ) (s : Set) → IsTrue (is_version fresh) → IsFresh c fresh k → WantsRows c k fresh (wanted k fresh (joins (keys s))) (member_row_of s)
    → differing c (wanted k fresh (joins (keys s))) ≡ wanted k fresh (joins (keys s))
unfolding wanted
set_differs c k fresh s fits above w =
    same_map (differing c batch) batch (λ raw. differing_at c batch raw ∙ by_get raw (get batch raw) refl)
  where
    batch : Batch
    batch = wanted k fresh (joins (keys s))

    by_get : (raw : Bytes) (o : Option (Option Bytes)) → get batch raw ≡ o → done (get c raw) o ≡ o
    by_get raw None is = refl
    by_get raw (Some None) is =
        absurd (joins_delete_nothing k fresh (keys s) empty raw (λ e. let no : Some None ≡ None = sym e ∙ get-empty {X = Option Bytes} raw in cc) is)
    by_get raw (Some (Some v)) is =
        let r = w.only raw (ap is_some is) in
        ap (λ old. done old (Some (Some v))) (ap (get c) r.is ∙ above Elements fresh r.subkey (omega arith) fits)

-- ---- the plan

-- a key that is there is written again
there_again : (n : RedisMap) (k : Bytes) (e : Entry) → get n k ≡ Some e → IsTrue (among (if_there n k) k)
there_again n k e there = ap (λ b. among (cond b (k ∷ []) []) k) (ap is_some there) ∙ ap (λ s. s || false) (same_itself k)

module _ (has : HasElements sets member_row_of) (c : Rows) (t fresh : ℕ) (d : Command) (k : Bytes) (others : List Bytes) (s : Set) (stores : IsTrue (is_store d)) (named : keys_of d ≡ k ∷ others) (short : IsTrue (is_key k))
    (low : All (λ x. IsTrue (is_key x)) (keys s)) (rewrites : (m n : RedisMap) → written_again m n d ≡ if_there n k) (fits : IsTrue (is_version fresh)) (above : IsFresh c fresh k)
    {m : RedisMap} (means : Means c t m) where
  -- the plan of the command with this batch and this answer
  abbrev Plans : Batch → Reply → Type 0
  Plans b answer = IsPlanOf c t fresh m d b answer (least_above t (seen_deadlines c t (k ∷ others)))

  -- a plan that looks ahead to the deadlines of all keys
  on_keys : (b : Batch) (answer : Reply) → IsPlanOf c t fresh m d b answer (least_above t (seen_deadlines c t (keys_of d))) → Plans b answer
  on_keys b answer plan = subst (λ (ks : List Bytes). IsPlanOf c t fresh m d b answer (least_above t (seen_deadlines c t ks))) named plan

  -- the first key is named
  first_named : IsTrue (among (keys_of d) k)
  first_named = ap (λ ks. among ks k) named ∙ ap (λ b. b || among others k) (same_itself k)

  -- a part at the first key is the whole plan
  by_part : (n : RedisMap) (b : Batch) → carried_out m t d ≡ Ok (number (size s), n) → Puts sets m k s None n → PlansKey c t fresh m d b k → Plans b (number (size s))
  by_part n b is puts part =
      on_keys b (number (size s))
      (one_key_plan fresh d k b (number (size s)) n means is part
      (λ q apart. unchanged_stays m n t d (number (size s)) q is (ap (λ ks. among ks q) (rewrites m n) ∙ if_there_elsewhere n k q apart) (sym (put_elsewhere sets m n k s None q puts apart)))
      (λ q q_named. put_leaves sets m n k s None q puts (inr refl)))

  -- an empty set: where the key is there its metadata is deleted
  emptied : (o : Option MetaValue) → live_at c t k ≡ o → size s ≡ 0 → carried_out m t d ≡ Ok (number (size s), remove m k) → Plans (cond (is_some o) (meta_batch k None) empty) (number (size s))
  emptied None e none is =
      let gone : get m k ≡ None = seen_none means k e in
      on_keys empty (number (size s))
      (still_plan fresh d (number (size s)) means (is ∙ ap (λ (n : RedisMap). Ok (number (size s), n)) (remove_nothing m k gone)) (rewrites m m ∙ ap (λ o. cond (is_some o) (k ∷ []) []) gone))
  emptied (Some meta) e none is =
      let puts : Puts sets m k s None (remove m k) = inl (none, refl) in
      let gone : get (remove m k) k ≡ None = put_at sets m (remove m k) k s None puts ∙ ap (λ z. cond (z == 0) None (Some (record { value = SetOf s; deadline = None }))) none in
      let there = seen_some means k meta e in
      let touch = named_is_touched m (remove m k) t d (number (size s)) k is first_named (touched_differs m (remove m k) d k (λ alike. let no : Some there.0 ≡ None = sym there.1 ∙ alike ∙ gone in cc)) in
      by_part (remove m k) (meta_batch k None) is puts (gone_part k short touch (left_gone means (remove m k) d (number (size s)) is k gone))

  -- what the key holds then
  abbrev entry : Entry
  entry = record { value = SetOf s; deadline = None }

  -- the members in a new life
  filled : nat_lt max_size (size s) ≡ false → (size s == 0) ≡ false → carried_out m t d ≡ Ok (number (size s), insert m k entry)
      → Plans (insert (wanted k fresh (joins (keys s))) (meta_key k) (Some (life_text code.Set None fresh (size s)))) (number (size s))
  filled small some is =
      let puts : Puts sets m k s None (insert m k entry) = inr (some, small, refl) in
      let there : get (insert m k entry) k ≡ Some entry = put_at sets m (insert m k entry) k s None puts ∙ ap (λ b. cond b None (Some entry)) some in
      let touch =
      named_is_touched m (insert m k entry) t d (number (size s)) k is first_named
      (touched_again m (insert m k entry) d k (ap (λ ks. among ks k) (rewrites m (insert m k entry)) ∙ there_again (insert m k entry) k entry there)) in
      let w = wants_set c k fresh short fits above s low in
      by_part (insert m k entry) (insert (wanted k fresh (joins (keys s))) (meta_key k) (Some (life_text code.Set None fresh (size s)))) is puts
      (writes_part k short touch (left_there means (insert m k entry) d (number (size s)) is k entry there refl) (stores_anew c t fresh m d k (SetOf s) stores)
      (subst (λ (b : Batch). WritesLife c (insert b (meta_key k) (Some (life_text code.Set None fresh (size s)))) k entry (new_life fresh) 0) (set_differs c k fresh s fits above w)
      (changes_life set_stands has c t k (new_life fresh) s None (wanted k fresh (joins (keys s))) short fits refl refl small some w (λ x. above Scores fresh x (omega arith) fits))))

  -- by the size of the set
  by_tests : (large none : Bool) → nat_lt max_size (size s) ≡ large → (size s == 0) ≡ none
      → carried_out m t d ≡ (cond large (Err TooLarge) (cond none (Ok (remove m k)) (Ok (insert m k entry))) >>= λ n. Ok (number (size s), n))
      → Plans (cond large empty (cond none (cond (is_some (live_at c t k)) (meta_batch k None) empty) (insert (wanted k fresh (joins (keys s))) (meta_key k) (Some (life_text code.Set None fresh (size s))))))
      (cond large (reply.Error TooLarge) (number (size s)))
  by_tests true none e f is = on_keys empty (reply.Error TooLarge) (refused_plan fresh d TooLarge means is)
  by_tests false true e f is = emptied (live_at c t k) refl (number_is (size s) 0 f) is
  by_tests false false e f is = filled e f is

  -- A command that stores this set at the first of its keys has this plan.
  pub stored_plan : carried_out m t d ≡ (put sets m k s None >>= λ n. Ok (number (size s), n)) → let p = storing_plan c t fresh k others s in IsPlanOf c t fresh m d p.batch p.reply p.until
  unfolding storing_plan
  stored_plan is = by_tests (nat_lt max_size (size s)) (size s == 0) refl refl is
