-- The plans of SINTERSTORE, SUNIONSTORE and SDIFFSTORE carry them out.
use Rattle.std.proofs.Common.{◌≡◌, ℕ, refl, sym, ap, subst, ◌∙◌, Bool, true, false, cond, List, ◌∷◌, length}
use Rattle.std.proofs.lemmas.List.{length-map}
use Rattle.std.proofs.lemmas.List.Elements.{All-head}
use Rattle.std.specs.Prelude.{Option, Some, None, Result, Ok, Err, IfOk, IfSome, IsTrue, All, is_some, ◌==◌, ◌||◌, nat_lt, zip}
use Rattle.kv_base.specs.Map.{Bytes, Set, empty, insert, keys, size, same_itself}
use Rattle.kv_base.specs.InversionLaws.{number_is}
use Rattle.kv_base.specs.RawKeys.{is_key}
use Rattle.kv_base.specs.declared.fault.StoreFault.{StoreFault}
use Rattle.kv_base.specs.declared.kind.Kind.TheVariants as code
use Rattle.batch_codec.specs.Batches.{Batch}
use Rattle.redis_model.specs.declared.reply.Reply.TheVariants as reply
use Rattle.redis_model.specs.declared.reply.ReplyError.{ReplyError}
use Rattle.redis_model.specs.declared.reply.ReplyError.TheVariants.{TooLarge}
use Rattle.redis_model.specs.declared.command.Command.{Command}
use Rattle.redis_model.specs.declared.command.Command.TheVariants as cmd
use Rattle.redis_model.specs.declared.command.Cmds.TheVariants.{One}
use Rattle.redis_model.specs.Value.{RedisMap, max_size}
use Rattle.redis_model.specs.Outcome.{Outcome, ◌>>=◌, number, put, sets}
use Rattle.redis_model.specs.About.{keys_of}
use Rattle.redis_model.specs.Apply.{carried_out}
use Rattle.redis_model.specs.Keys.{among}
use Rattle.redis_model.specs.Limits.{IsName, IsWithin}
use Rattle.redis_model.specs.Sets.{sets_at, stored}
use Rattle.redis_model.specs.Touched.{written_again, if_there}
use Rattle.lives_model.specs.declared.plan.Plan.{Plan}
use Rattle.lives_model.specs.Rows.{Rows, meta_key}
use Rattle.lives_model.specs.Clean.{live_at}
use Rattle.lives_model.specs.Means.{Means}
use Rattle.lives_model.specs.Plans.{IsPlan, IsPlanOf, IsReady, is_store, keys_in, least_above, sooner}
use Rattle.plan_base.specs.Ahead.{seen_deadlines}
use Rattle.plan_base.specs.Seen.{deadline_in}
use Rattle.plan_base.specs.Carries.{Carries}
use Rattle.plan_base.specs.KeyLimitLaws.{name_is_key, names_are_keys}
use Rattle.plan_base.specs.KeyPlanLaws.{refused_plan}
use Rattle.life_plans.specs.ChangePlans.{life_text}
use Rattle.life_plans.specs.ElementLaws.{set_has_elements}
use Rattle.life_plans.specs.StoredSets.{storing_plan}
use Rattle.life_plans.specs.WantedRows.{wanted, joins}
use Rattle.life_plans.specs.StoredSetLaws.{stored_plan}
use Rattle.set_operations.specs.declared.combine.Combination.{Combination}
use Rattle.set_operations.specs.declared.combine.Combination.TheVariants.{Inter, Union, Diff}
use Rattle.set_operations.specs.Combined.{combined_members, first_error, members_or, set_lives, soonest}
use Rattle.set_operations.specs.CombinedLaws.{combined_are, combined_by}
use Rattle.set_operations.specs.SetListLaws.{SeesSets, sees_sets, soonest_is}
use Rattle.set_operations.specs.Stored.{ComesToNames, emptied_batch, store_plan, storing, storing_or}

-- ---- one plan by two names

-- a set has as many members as there are in its list
length-keys : (s : Set) → length (keys s) ≡ size s
unfolding size
length-keys s = length-map s.entries (λ e. e.0)

-- too many members and none are two cases
either_first : (n : ℕ) (b none : Batch) → cond (n == 0) none (cond (nat_lt max_size n) empty b) ≡ cond (nat_lt max_size n) empty (cond (n == 0) none b)
either_first n b none = by_tests (n == 0) (nat_lt max_size n) refl refl
  where
    by_tests : (zero large : Bool) → (n == 0) ≡ zero → nat_lt max_size n ≡ large → cond zero none (cond large empty b) ≡ cond large empty (cond zero none b)
    by_tests true true z l = let no : false ≡ true = sym (ap (nat_lt max_size) (number_is n 0 z)) ∙ l in absurd (cc)
    by_tests true false z l = refl
    by_tests false large z l = refl

-- the deadlines that are looked ahead to are those of the target and of the sets
until_is : (c : Rows) (t : ℕ) (k : Bytes) (ks : List Bytes) → sooner t (deadline_in (live_at c t k)) (soonest t (set_lives c t ks)) ≡ least_above t (seen_deadlines c t (k ∷ ks))
until_is c t k ks = ap (sooner t (deadline_in (live_at c t k))) (soonest_is c t ks)

-- ---- a command that stores what sets come to

module _ (c : Rows) (t fresh : ℕ) (d : Command) (how : Combination) (k : Bytes) (ks : List Bytes) (stores : IsTrue (is_store d)) (named : keys_of d ≡ k ∷ ks) (short : IsTrue (is_key k))
    (rewrites : (m n : RedisMap) → written_again m n d ≡ if_there n k) (is : (m : RedisMap) → carried_out m t d ≡ stored m (combined_by how) k ks) where
  -- how far ahead the plan is right
  abbrev until : Option ℕ
  until = sooner t (deadline_in (live_at c t k)) (soonest t (set_lives c t ks))

  -- a plan of the command
  abbrev Plans : RedisMap → Plan → Type 0
  Plans m p = IsPlanOf c t fresh m d p.batch p.reply p.until

  -- the members of a set are stored
  set_plan : {m : RedisMap} (means : Means c t m) (ready : IsReady c t fresh (One d)) (s : Set) → All IsName (keys s) → carried_out m t d ≡ (put sets m k s None >>= λ n. Ok (number (size s), n))
      → Plans m (storing k fresh (is_some (live_at c t k)) until (keys s))
  unfolding storing_plan
  set_plan {m} means ready s names comes =
      subst (Plans m) (sym same_plan)
      (stored_plan set_has_elements c t fresh d k ks s stores named short (names_are_keys (keys s) names) rewrites ready.fits (ready.above k first_named) means comes)
    where
      first_named : IsTrue (among (keys_in (One d)) k)
      first_named = ap (λ qs. among qs k) named ∙ ap (λ b. b || among ks k) (same_itself k)

      same_plan : storing k fresh (is_some (live_at c t k)) until (keys s) ≡ storing_plan c t fresh k ks s
      same_plan = λ i. record {
        reply = (ap (λ n. cond (nat_lt max_size n) (reply.Error TooLarge) (number n)) (length-keys s)) i;
        batch = (
            either_first (length (keys s)) (insert (wanted k fresh (joins (keys s))) (meta_key k) (Some (life_text code.Set None fresh (length (keys s))))) (emptied_batch k (is_some (live_at c t k)))
            ∙ ap (λ n. cond (nat_lt max_size n) empty (cond (n == 0) (emptied_batch k (is_some (live_at c t k))) (insert (wanted k fresh (joins (keys s))) (meta_key k) (Some (life_text code.Set None fresh n))))) (length-keys s)
            ) i;
        until = (until_is c t k ks) i;
      }

  -- an error stores nothing
  error_plan : {m : RedisMap} (means : Means c t m) (e x : ReplyError) → e ≡ x → carried_out m t d ≡ Err x → Plans m (storing_or k fresh (is_some (live_at c t k)) until (Err e))
  error_plan {m} means e x same comes =
      subst (λ (u : Option ℕ). IsPlanOf c t fresh m d empty (reply.Error e) u) (ap (λ qs. least_above t (seen_deadlines c t qs)) named ∙ sym (until_is c t k ks))
      (refused_plan fresh d e means (comes ∙ ap (λ (y : ReplyError). Err y) (sym same)))

  -- by what is found of the sets
  by_sets : {m : RedisMap} (means : Means c t m) (ready : IsReady c t fresh (One d)) (error : Option ReplyError) (o : Outcome (List Set)) → SeesSets c (zip ks (set_lives c t ks)) error o
      → carried_out m t d ≡ (o >>= λ xs. put sets m k (combined_by how xs) None >>= λ n. Ok (number (size (combined_by how xs)), n))
      → let members = members_or error (combined_members c how (zip ks (set_lives c t ks))) in IfOk members (λ xs. All IsName xs) → Plans m (storing_or k fresh (is_some (live_at c t k)) until members)
  by_sets {m} means ready None (Ok xs) are comes names =
      let members = combined_are c how (zip ks (set_lives c t ks)) xs are in
      subst (λ (qs : List Bytes). Plans m (storing k fresh (is_some (live_at c t k)) until qs)) (sym members)
      (set_plan means ready (combined_by how xs) (subst (λ (qs : List Bytes). All IsName qs) members names) comes)
  by_sets means ready (Some e) (Err x) same comes names = error_plan means e x same comes
  by_sets means ready None (Err x) are comes names = absurd are
  by_sets means ready (Some e) (Ok xs) are comes names = absurd are

  -- where the members fit into raw keys, it has this plan
  store_carries : ComesToNames c t how ks → Carries c t fresh d (store_plan c t fresh how k ks)
  unfolding store_plan
  store_carries names = record {
    plan = λ m means ready. by_sets means ready (first_error (set_lives c t ks)) (sets_at m ks) (sees_sets means ks) (is m) names;
  }

-- the target is a name among the keys
target_is_short : (k : Bytes) (ks : List Bytes) → All IsName (k ∷ ks) → IsTrue (is_key k)
target_is_short k ks names = name_is_key k (All-head IsName k ks names)

pub s_inter_store_carries : (c : Rows) (t fresh : ℕ) (k : Bytes) (ks : List Bytes) (w : ℕ) → IsWithin (cmd.SInterStore k ks w) → ComesToNames c t Inter ks
    → Carries c t fresh (cmd.SInterStore k ks w) (store_plan c t fresh Inter k ks)
unfolding carried_out
s_inter_store_carries c t fresh k ks w within names = store_carries c t fresh (cmd.SInterStore k ks w) Inter k ks refl refl (target_is_short k ks within.names) (λ m n. refl) (λ m. refl) names

pub s_union_store_carries : (c : Rows) (t fresh : ℕ) (k : Bytes) (ks : List Bytes) (w : ℕ) → IsWithin (cmd.SUnionStore k ks w) → ComesToNames c t Union ks
    → Carries c t fresh (cmd.SUnionStore k ks w) (store_plan c t fresh Union k ks)
unfolding carried_out
s_union_store_carries c t fresh k ks w within names = store_carries c t fresh (cmd.SUnionStore k ks w) Union k ks refl refl (target_is_short k ks within.names) (λ m n. refl) (λ m. refl) names

pub s_diff_store_carries : (c : Rows) (t fresh : ℕ) (k : Bytes) (ks : List Bytes) (w : ℕ) → IsWithin (cmd.SDiffStore k ks w) → ComesToNames c t Diff ks
    → Carries c t fresh (cmd.SDiffStore k ks w) (store_plan c t fresh Diff k ks)
unfolding carried_out
s_diff_store_carries c t fresh k ks w within names = store_carries c t fresh (cmd.SDiffStore k ks w) Diff k ks refl refl (target_is_short k ks within.names) (λ m n. refl) (λ m. refl) names

-- ---- the function that answers it

-- an answer that is this plan, where what is stored has names, is a plan of a command within its limits
pub planned_names : (r : Result Plan StoreFault) (rows : Option Rows) (q : Rows → Plan) (P : Rows → Type 0) (t fresh : ℕ) (d e : Command) → d ≡ e → IsWithin d
    → IfOk r (λ p. IfSome rows (λ c. p ≡ q c)) → IfOk r (λ p. IfSome rows P) → (IsWithin e → (c : Rows) → P c → IsPlan c t fresh e (q c).batch (q c).reply (q c).until)
    → IfOk r (λ p. IfSome rows (λ c. IsPlan c t fresh d p.batch p.reply p.until))
planned_names (Ok p) None q P t fresh d e is within plan names carries = tt
planned_names (Ok p) (Some c) q P t fresh d e is within plan names carries =
    subst (λ (x : Command). IsPlan c t fresh x p.batch p.reply p.until) (sym is)
    (subst (λ (o : Plan). IsPlan c t fresh e o.batch o.reply o.until) (sym plan) (carries (subst IsWithin is within) c names))
planned_names (Err fault) rows q P t fresh d e is within plan names carries = tt
