-- The plans of commands that change the deadline of a key of any type.
use Rattle.std.proofs.Common.{◌≡◌, ℕ, refl, sym, ap, subst, ◌∙◌, true, cond, [], ◌∷◌}
use Rattle.std.specs.Prelude.{◌≢◌, Option, Some, None, Ok, is_some, option_and_then}
use Rattle.kv_base.specs.Map.{Bytes, empty, get, insert, same_itself, get-insert}
use Rattle.kv_base.specs.MetaValues.{MetaValue, is_deadline}
use Rattle.redis_model.specs.declared.command.Command.{Command}
use Rattle.redis_model.specs.declared.command.Command.TheVariants as cmd
use Rattle.redis_model.specs.declared.command.Expiry.{Expiry}
use Rattle.redis_model.specs.Value.{Entry, RedisMap}
use Rattle.redis_model.specs.Outcome.{number}
use Rattle.redis_model.specs.Strings.{deadline_of}
use Rattle.redis_model.specs.Keys.{among, expire, expire_entry, persist_entry}
use Rattle.redis_model.specs.Limits.{IsWithin, IsName, IsTime}
use Rattle.redis_model.specs.About.{keys_of}
use Rattle.redis_model.specs.Apply.{carried_out}
use Rattle.redis_model.specs.Touched.{written_again, if_there}
use Rattle.lives_model.specs.Rows.{Rows}
use Rattle.lives_model.specs.Clean.{live_at}
use Rattle.lives_model.specs.Means.{Means}
use Rattle.lives_model.specs.Moved.{head_after}
use Rattle.lives_model.specs.Plans.{IsPlanOf, least_above}
use Rattle.plan_base.specs.Seen.{deadline_in}
use Rattle.plan_base.specs.SeenLaws.{seen_none, seen_some, seen_deadline}
use Rattle.plan_base.specs.MetaRows.{meta_batch, live_row, expire_number}
use Rattle.plan_base.specs.KeyStepLaws.{touched_again, touched_differs}
use Rattle.plan_base.specs.Retimed.{KeepsLife}
use Rattle.plan_base.specs.KeyPlanLaws.{still_plan, retimed_plan, found_deadline_fits, live_is_found, set_deadline_fits}
use Rattle.plan_base.specs.KeyLimitLaws.{among_itself, name_is_key}
use Rattle.meta_codec.specs.Metas.{with_expire}
use Rattle.string_cmds.specs.Planned.{expire_plan, persisting, persist_plan}
use Rattle.string_cmds.specs.Carried.{CarriesOut}
use Rattle.string_cmds.specs.CarriedLaws.{with_one_key, name_within, given_time}

-- the entry of a key that is there has the deadline of its metadata
entry_deadline : {c : Rows} {t : ℕ} {m : RedisMap} (means : Means c t m) (k : Bytes) (e : Entry) (meta : MetaValue) → get m k ≡ Some e → live_at c t k ≡ Some meta → e.deadline ≡ deadline_in (Some meta)
entry_deadline {c} {t} {m} means k e meta there found =
    ap (option_and_then (λ (x : Entry). x.deadline)) (sym there) ∙ seen_deadline means k ∙ ap deadline_in found

-- ---- EXPIRE, PEXPIRE, EXPIREAT and PEXPIREAT

expires : (c : Rows) (t fresh : ℕ) (d : Command) (k : Bytes) (x : Expiry) → ((m : RedisMap) → carried_out m t d ≡ expire m k x) → keys_of d ≡ k ∷ []
    → ((m n : RedisMap) → written_again m n d ≡ if_there m k) → ((m : RedisMap) → KeepsLife m d k)
    → IsName k → IsTime x → CarriesOut c t fresh d (expire_plan t (live_at c t k) k x)
unfolding expire_plan
expires c t fresh d k x is one again keeps name time = record { law = λ m means. by_found m means (live_at c t k) refl }
  where
    by_found : (m : RedisMap) → Means c t m → (o : Option MetaValue) → live_at c t k ≡ o → let p = expire_plan t o k x in IsPlanOf c t fresh m d p.batch p.reply p.until
    by_found m means None e =
        let none : get m k ≡ None = seen_none means k e in
        subst (λ (o : Option MetaValue). IsPlanOf c t fresh m d empty (number 0) (least_above t (deadline_in o ∷ []))) e
        (with_one_key c t fresh m d empty (number 0) k one
        (still_plan fresh d (number 0) means (is m ∙ ap (expire_entry m k x) none)
        (again m m ∙ ap (λ o. cond (is_some o) (k ∷ []) []) none)))
    by_found m means (Some meta) e =
        let there = seen_some means k meta e in
        let old : there.0.deadline ≡ deadline_in (Some meta) = entry_deadline means k there.0 meta there.1 e in
        let new : Option ℕ = deadline_of x (deadline_in (Some meta)) in
        let fits = subst (λ (o : Option MetaValue). is_deadline (expire_number (deadline_in o)) ≡ true) e (found_deadline_fits (live_at c t k) (live_is_found c t k)) in
        subst (λ (o : Option MetaValue). IsPlanOf c t fresh m d (meta_batch k (live_row t new (with_expire (expire_number new) meta))) (number 1) (least_above t (deadline_in o ∷ new ∷ []))) e
        (retimed_plan fresh d k there.0 new meta (number 1) means there.1 e
        (is m ∙ ap (expire_entry m k x) there.1 ∙ ap (λ o. Ok (number 1, insert m k (record { value = there.0.value; deadline = deadline_of x o }))) old)
        one (name_is_key k name)
        (touched_again m _ d k (ap (λ ks. among ks k) (again m _ ∙ ap (λ o. cond (is_some o) (k ∷ []) []) there.1) ∙ among_itself k))
        (keeps m) (set_deadline_fits x (deadline_in (Some meta)) time fits))

keeps_expire : (m : RedisMap) (k : Bytes) (x : Expiry) (w : ℕ) → KeepsLife m (cmd.Expire k x w) k
unfolding head_after
keeps_expire m k x w = record { no_store = refl; head = λ h. refl }

keeps_p_expire : (m : RedisMap) (k : Bytes) (x : Expiry) (w : ℕ) → KeepsLife m (cmd.PExpire k x w) k
unfolding head_after
keeps_p_expire m k x w = record { no_store = refl; head = λ h. refl }

keeps_expire_at : (m : RedisMap) (k : Bytes) (x : Expiry) (w : ℕ) → KeepsLife m (cmd.ExpireAt k x w) k
unfolding head_after
keeps_expire_at m k x w = record { no_store = refl; head = λ h. refl }

keeps_p_expire_at : (m : RedisMap) (k : Bytes) (x : Expiry) (w : ℕ) → KeepsLife m (cmd.PExpireAt k x w) k
unfolding head_after
keeps_p_expire_at m k x w = record { no_store = refl; head = λ h. refl }

pub expire_carries : (c : Rows) (t fresh : ℕ) (k : Bytes) (x : Expiry) (w : ℕ) → IsWithin (cmd.Expire k x w) → CarriesOut c t fresh (cmd.Expire k x w) (expire_plan t (live_at c t k) k x)
unfolding carried_out
expire_carries c t fresh k x w within = expires c t fresh (cmd.Expire k x w) k x (λ m. refl) refl (λ m n. refl) (λ m. keeps_expire m k x w) (name_within k within.names) (given_time x within.fields)

pub p_expire_carries : (c : Rows) (t fresh : ℕ) (k : Bytes) (x : Expiry) (w : ℕ) → IsWithin (cmd.PExpire k x w) → CarriesOut c t fresh (cmd.PExpire k x w) (expire_plan t (live_at c t k) k x)
unfolding carried_out
p_expire_carries c t fresh k x w within = expires c t fresh (cmd.PExpire k x w) k x (λ m. refl) refl (λ m n. refl) (λ m. keeps_p_expire m k x w) (name_within k within.names) (given_time x within.fields)

pub expire_at_carries : (c : Rows) (t fresh : ℕ) (k : Bytes) (x : Expiry) (w : ℕ) → IsWithin (cmd.ExpireAt k x w) → CarriesOut c t fresh (cmd.ExpireAt k x w) (expire_plan t (live_at c t k) k x)
unfolding carried_out
expire_at_carries c t fresh k x w within = expires c t fresh (cmd.ExpireAt k x w) k x (λ m. refl) refl (λ m n. refl) (λ m. keeps_expire_at m k x w) (name_within k within.names) (given_time x within.fields)

pub p_expire_at_carries : (c : Rows) (t fresh : ℕ) (k : Bytes) (x : Expiry) (w : ℕ) → IsWithin (cmd.PExpireAt k x w) → CarriesOut c t fresh (cmd.PExpireAt k x w) (expire_plan t (live_at c t k) k x)
unfolding carried_out
p_expire_at_carries c t fresh k x w within = expires c t fresh (cmd.PExpireAt k x w) k x (λ m. refl) refl (λ m n. refl) (λ m. keeps_p_expire_at m k x w) (name_within k within.names) (given_time x within.fields)

-- ---- PERSIST

-- without its deadline an entry is another one
cleared_differs : (m : RedisMap) (k : Bytes) (e : Entry) (deadline : ℕ) → get m k ≡ Some e → e.deadline ≡ Some deadline → get m k ≢ get (insert m k (record { value = e.value; deadline = None })) k
cleared_differs m k e deadline there some equal =
    let left : get (insert m k (record { value = e.value; deadline = None })) k ≡ Some (record { value = e.value; deadline = None }) =
    get-insert m k (record { value = e.value; deadline = None }) k ∙ ap (λ b. cond b (Some (record { value = e.value; deadline = None })) (get m k)) (same_itself k) in
    let apart : Some deadline ≡ None = sym some ∙ ap (option_and_then (λ (x : Entry). x.deadline)) (sym there ∙ equal ∙ left) in
    cc

keeps_persist : (m : RedisMap) (k : Bytes) (w : ℕ) → KeepsLife m (cmd.Persist k w) k
unfolding head_after
keeps_persist m k w = record { no_store = refl; head = λ h. refl }

pub persist_carries : (c : Rows) (t fresh : ℕ) (k : Bytes) (w : ℕ) → IsWithin (cmd.Persist k w) → CarriesOut c t fresh (cmd.Persist k w) (persist_plan t (live_at c t k) k)
unfolding carried_out persist_plan
persist_carries c t fresh k w within = record { law = λ m means. by_found m means (live_at c t k) refl }
  where
    by_found : (m : RedisMap) → Means c t m → (o : Option MetaValue) → live_at c t k ≡ o → let p = persist_plan t o k in IsPlanOf c t fresh m (cmd.Persist k w) p.batch p.reply p.until
    by_found m means None e =
        subst (λ (o : Option MetaValue). IsPlanOf c t fresh m (cmd.Persist k w) empty (number 0) (least_above t (deadline_in o ∷ []))) e
        (still_plan fresh (cmd.Persist k w) (number 0) means (ap (persist_entry m k) (seen_none means k e)) refl)
    by_found m means (Some meta) e = by_deadline (deadline_in (Some meta)) refl
      where
        there : (x : Entry) × (get m k ≡ Some x)
        there = seen_some means k meta e

        by_deadline : (o : Option ℕ) → deadline_in (Some meta) ≡ o → let p = persisting t meta k o in IsPlanOf c t fresh m (cmd.Persist k w) p.batch p.reply p.until
        by_deadline None z =
            subst (λ (o : Option ℕ). IsPlanOf c t fresh m (cmd.Persist k w) empty (number 0) (least_above t (o ∷ []))) (ap deadline_in e ∙ z)
            (still_plan fresh (cmd.Persist k w) (number 0) means
            (ap (persist_entry m k) there.1
            ∙ ap (λ (o : Option ℕ). cond (is_some o) (Ok (number 1, insert m k (record { value = there.0.value; deadline = None }))) (Ok (number 0, m))) (entry_deadline means k there.0 meta there.1 e ∙ z)) refl)
        by_deadline (Some deadline) z =
            subst (λ (o : Option ℕ). IsPlanOf c t fresh m (cmd.Persist k w) (meta_batch k (live_row t None (with_expire 0 meta))) (number 1) (least_above t (o ∷ None ∷ []))) (ap deadline_in e ∙ z)
            (retimed_plan fresh (cmd.Persist k w) k there.0 None meta (number 1) means there.1 e
            (ap (persist_entry m k) there.1
            ∙ ap (λ (o : Option ℕ). cond (is_some o) (Ok (number 1, insert m k (record { value = there.0.value; deadline = None }))) (Ok (number 0, m))) (entry_deadline means k there.0 meta there.1 e ∙ z))
            refl (name_is_key k (name_within k within.names))
            (touched_differs m _ (cmd.Persist k w) k (cleared_differs m k there.0 deadline there.1 (entry_deadline means k there.0 meta there.1 e ∙ z)))
            (keeps_persist m k w) refl)
