-- A command that makes the list at its only key another one has the plan of `ListPlans.antt`.
use Rattle.std.proofs.Common.{ℕ, ◌≡◌, ◌≢◌, ◌+◌, ◌-◌, ◌<◌, ◌≤◌, ◌^◌, refl, sym, ap, subst, ◌∙◌, Bool, true, false, cond, List, [], ◌∷◌, length, arith}
use Rattle.std.proofs.lemmas.Bool.{and_from}
use Rattle.std.proofs.lemmas.Bool.Decides.{nat_tests}
use Rattle.std.specs.Prelude.{Option, Some, None, Ok, Err, IsTrue, IsFalse, ◌&&◌, ◌==◌, not, nat_lt}
use Rattle.kv_base.specs.Map.{Bytes, same, same_itself, get, insert, remove, get-insert}
use Rattle.kv_base.specs.RawKeys.{is_key, is_version}
use Rattle.kv_base.specs.MetaValues.{MetaValue, ListValue, is_deadline, is_size, is_life, is_meta_within, expire_of}
use Rattle.batch_codec.specs.Batches.{Batch}
use Rattle.redis_model.specs.declared.reply.Reply.{Reply}
use Rattle.redis_model.specs.declared.reply.Reply.TheVariants as reply
use Rattle.redis_model.specs.declared.reply.ReplyError.{ReplyError}
use Rattle.redis_model.specs.declared.reply.ReplyError.TheVariants.{TooLarge}
use Rattle.redis_model.specs.declared.command.Command.{Command}
use Rattle.redis_model.specs.declared.command.Cmds.TheVariants.{One}
use Rattle.redis_model.specs.Value.{Value, Str, Hash, ListOf, SetOf, ZSet, Entry, RedisMap, lives, deadline_at, max_size}
use Rattle.redis_model.specs.Outcome.{Outcome, ◌>>=◌, lists, as_list, seen, at_key, change, changing}
use Rattle.redis_model.specs.About.{keys_of}
use Rattle.redis_model.specs.Apply.{carried_out}
use Rattle.redis_model.specs.Touched.{is_touched}
use Rattle.lives_model.specs.declared.plan.Plan.{Plan}
use Rattle.lives_model.specs.Rows.{Rows, Scores, meta_key}
use Rattle.lives_model.specs.Clean.{live_at, is_live, deadline_from}
use Rattle.lives_model.specs.Means.{Means, LifeAt}
use Rattle.lives_model.specs.Moved.{head_after}
use Rattle.lives_model.specs.Plans.{IsPlan, IsPlanOf, IsReady, IsFresh, is_store, life_after, life_before, life_in, new_life, holds_type, same_type}
use Rattle.lives_model.specs.StepLaws.{live_lives}
use Rattle.plan_base.specs.Seen.{deadline_in}
use Rattle.plan_base.specs.SeenLaws.{seen_none, seen_some, seen_deadline}
use Rattle.plan_base.specs.MetaRows.{expire_number}
use Rattle.plan_base.specs.MetaRowLaws.{deadline_is_back}
use Rattle.plan_base.specs.KeyStepLaws.{touched_differs}
use Rattle.plan_base.specs.KeyPlanLaws.{refused_plan, removed_plan, found_deadline_fits, live_is_found}
use Rattle.plan_base.specs.LifePlans.{answering}
use Rattle.plan_base.specs.LifePlanLaws.{one_key_ahead}
use Rattle.plan_base.specs.LifeSteps.{WritesLife}
use Rattle.plan_base.specs.LifeStepLaws.{life_plan}
use Rattle.plan_base.specs.LifeChangeLaws.{life_batch, writes_life}
use Rattle.list_plans.specs.declared.sight.ListSight.{ListSight}
use Rattle.list_plans.specs.ListLives.{list_found, list_on, item_rows, IsListAt, IsListOf, SeesList}
use Rattle.list_plans.specs.ListLifeLaws.{sees_list, found_within, list_meta, none_meta, list_stands}
use Rattle.list_plans.specs.ListRows.{ChangesRows}
use Rattle.list_plans.specs.ListPlans as plans

-- ---- what a command comes to

-- a value that is a list is it
list_is : (v : Value) (items : List Bytes) → as_list v ≡ Ok items → v ≡ ListOf items
list_is (ListOf l) items e = cc
list_is (Str g) items e = absurd (cc)
list_is (Hash g) items e = absurd (cc)
list_is (SetOf g) items e = absurd (cc)
list_is (ZSet g) items e = absurd (cc)

above_max : (n : ℕ) → max_size < n → nat_lt max_size n ≡ true
above_max n h = grind (arith, nat_tests)

not_above_max : (n : ℕ) → n ≤ max_size → nat_lt max_size n ≡ false
not_above_max n h = grind (arith, nat_tests)

not_none : (n : ℕ) → 0 < n → (n == 0) ≡ false
not_none n h = grind (arith, nat_tests)

-- a list that is left, one with no items, and one with too many
pub left_there : (m : RedisMap) (k : Bytes) (next : List Bytes) → 0 < length next → length next ≤ max_size → change lists m k next ≡ Ok (insert m k (record { value = ListOf next; deadline = deadline_at m k }))
left_there m k next some few =
    ap (λ b. cond b (Err TooLarge) (cond (length next == 0) (Ok (remove m k)) (Ok (insert m k (record { value = ListOf next; deadline = deadline_at m k }))))) (not_above_max (length next) few)
    ∙ ap (λ b. cond b (Ok (remove m k)) (Ok (insert m k (record { value = ListOf next; deadline = deadline_at m k })))) (not_none (length next) some)

pub left_gone : (m : RedisMap) (k : Bytes) (next : List Bytes) → next ≡ [] → change lists m k next ≡ Ok (remove m k)
left_gone m k next is = ap (change lists m k) is

pub left_large : (m : RedisMap) (k : Bytes) (next : List Bytes) → max_size < length next → change lists m k next ≡ Err TooLarge
left_large m k next large = ap (λ b. cond b (Err TooLarge) (cond (length next == 0) (Ok (remove m k)) (Ok (insert m k (record { value = ListOf next; deadline = deadline_at m k }))))) (above_max (length next) large)

-- a command that changes a list comes to what the change comes to
pub changing_is : (m : RedisMap) (k : Bytes) (f : List Bytes → Outcome (Reply × List Bytes)) (items next : List Bytes) (answer : Reply) (o : Outcome RedisMap)
    → at_key lists m k ≡ Ok items → f items ≡ Ok (answer, next) → change lists m k next ≡ o → changing lists m k f ≡ (o >>= λ n. Ok (answer, n))
changing_is m k f items next answer o at is left =
    ap (λ (a : Outcome (List Bytes)). a >>= λ l. f l >>= λ r. change lists m k r.1 >>= λ n. Ok (r.0, n)) at
    ∙ ap (λ (r : Outcome (Reply × List Bytes)). r >>= λ r. change lists m k r.1 >>= λ n. Ok (r.0, n)) is
    ∙ ap (λ (o : Outcome RedisMap). o >>= λ n. Ok (answer, n)) left

-- ---- what is there

module _ {c : Rows} {t : ℕ} {m : RedisMap} (means : Means c t m) (k : Bytes) where
  -- the deadline of a key is above the moment
  old_lives : lives t (deadline_in (live_at c t k)) ≡ true
  old_lives = by_found (live_at c t k) refl
    where
      by_found : (o : Option MetaValue) → live_at c t k ≡ o → lives t (deadline_in o) ≡ true
      by_found None e = refl
      by_found (Some meta) e = live_lives c t k meta e

  -- the entry at a key where a list was found
  entry_there : (list : ListSight) (items : List Bytes) → list_found (live_at c t k) ≡ Ok (Some list) → at_key lists m k ≡ Ok items → (e : Entry) × (get m k ≡ Some e) × (e.value ≡ ListOf items)
  entry_there list items found at =
      let meta = list_meta (live_at c t k) list found in
      let there = seen_some means k (ListValue meta.0 list.version list.head list.tail) meta.1 in
      (there.0, there.1, list_is there.0.value items (sym (ap (seen lists) there.1) ∙ at))

  -- the life of a list goes on, and a new one has the version `fresh`
  pub list_goes_on : (fresh : ℕ) (d : Command) (found : Option ListSight) (items next : List Bytes) → IsFalse (is_store d) → list_found (live_at c t k) ≡ Ok found → at_key lists m k ≡ Ok items
      → life_after c t fresh m d k (ListOf next) ≡ record { version = (list_on fresh found).version; head = head_after m d k (list_on fresh found).head }
  unfolding life_after
  list_goes_on fresh d found items next no_store is at = after (life_at (list_on fresh found)) (by_found found is)
    where
      life_at : ListSight → LifeAt
      life_at list = record { version = list.version; head = list.head }

      after : (l : LifeAt) → life_before c t fresh m d k (ListOf next) ≡ l → life_after c t fresh m d k (ListOf next) ≡ record { version = l.version; head = head_after m d k l.head }
      after l e = ap (λ (x : LifeAt). record { version = x.version; head = head_after m d k x.head }) e

      before : (o : Option Entry) → get m k ≡ o → life_before c t fresh m d k (ListOf next) ≡ cond (holds_type o (ListOf next)) (life_in (live_at c t k) (new_life fresh)) (new_life fresh)
      before o e =
          ap (λ s. cond (not s && holds_type (get m k) (ListOf next)) (life_in (live_at c t k) (new_life fresh)) (new_life fresh)) no_store
          ∙ ap (λ x. cond (holds_type x (ListOf next)) (life_in (live_at c t k) (new_life fresh)) (new_life fresh)) e

      by_found : (f : Option ListSight) → list_found (live_at c t k) ≡ Ok f → life_before c t fresh m d k (ListOf next) ≡ life_at (list_on fresh f)
      by_found None e = before None (seen_none means k (none_meta (live_at c t k) e))
      by_found (Some list) e =
          let meta = list_meta (live_at c t k) list e in
          let there = entry_there list items e at in
          before (Some there.0) there.1
          ∙ ap (λ (v : Value). cond (same_type v (ListOf next)) (life_in (live_at c t k) (new_life fresh)) (new_life fresh)) there.2
          ∙ ap (λ f. life_in f (new_life fresh)) meta.1

-- ---- the batch

low_size : (n : ℕ) → 0 < n → n ≤ max_size → is_size n ≡ true
low_size n some few = grind (arith, nat_tests)

below : (a b : ℕ) → a < b → nat_lt a b ≡ true
below a b h = grind (arith, nat_tests)

-- the metadata of a list that is left is within its limits
pub ends_fit : (x version head n : ℕ) → is_deadline x ≡ true → is_version version ≡ true → 0 < n → n ≤ max_size → head + n < 2 ^ 64 → IsTrue (is_meta_within (ListValue x version head (head + n)))
unfolding is_meta_within
ends_fit x version head n dl fits some few low =
    let size : (head + n) - head ≡ n = omega arith in
    and_from (is_life x version ((head + n) - head)) (nat_lt (head + n) (2 ^ 64))
    (and_from (is_deadline x && is_version version) (is_size ((head + n) - head)) (and_from (is_deadline x) (is_version version) dl fits) (ap is_size size ∙ low_size n some few))
    (below (head + n) (2 ^ 64) low)

-- a list that has these rows afterwards
pub list_writes : (c : Rows) (k : Bytes) (list : ListSight) (items next : List Bytes) (head : ℕ) (rows : Batch) (old : Option ℕ)
    → IsTrue (is_key k) → old ≡ deadline_from (expire_number old) → IsTrue (is_deadline (expire_number old)) → IsTrue (is_version list.version) → IsListAt c k list items
    → 0 < length next → length next ≤ max_size → head + length next < 2 ^ 64 → ChangesRows c k list.version rows (item_rows next head)
    → WritesLife c (plans.list_batch k old (record { version = list.version; head = head; tail = head + length next }) rows) k (record { value = ListOf next; deadline = old }) (record { version = list.version; head = head }) (expire_number old)
list_writes c k list items next head rows old short dl dl_fits fits is some few low ch =
    let e : Entry = record { value = ListOf next; deadline = old } in
    let life : LifeAt = record { version = list.version; head = head } in
    let text : Bytes = plans.sight_text old (record { version = list.version; head = head; tail = head + length next }) in
    subst (λ (b : Batch). WritesLife c (insert b (meta_key k) (Some text)) k e life (expire_number old)) ch.differ
    (writes_life c k e life (expire_number old) ch.wanted (item_rows next head) short dl (ends_fit (expire_number old) list.version head (length next) dl_fits fits some few low) tt refl ch.wants (λ subkey. refl)
    (λ subkey. is.rows Scores subkey) (λ subkey. refl))

-- ---- the plan

-- what a key's life has as its version is one
on_fits : (c : Rows) (t fresh : ℕ) (k : Bytes) (found : Option ListSight) → list_found (live_at c t k) ≡ Ok found → IsTrue (is_version fresh) → IsTrue (is_version (list_on fresh found).version)
on_fits c t fresh k None is fits = fits
on_fits c t fresh k (Some list) is fits = (found_within c t k list is).version

-- a key where a list is left that is longer or shorter is touched
pub touched_longer : (m : RedisMap) (d : Command) (k : Bytes) (items next : List Bytes) (dl : Option ℕ) → at_key lists m k ≡ Ok items → length items ≢ length next
    → IsTrue (is_touched m (insert m k (record { value = ListOf next; deadline = dl })) d k)
touched_longer m d k items next dl at apart =
    touched_differs m _ d k (λ e.
    let alike : ok items ≡ Ok next = sym at ∙ ap (seen lists) (e ∙ get-insert m k (record { value = ListOf next; deadline = dl }) k ∙ ap (λ b. cond b (Some (record { value = ListOf next; deadline = dl })) (get m k)) (same_itself k)) in
    apart (ap length (same_ok items next alike)))
  where
    ok : List Bytes → Outcome (List Bytes)
    ok x = Ok x

    same_ok : (x y : List Bytes) → ok x ≡ Ok y → x ≡ y
    same_ok x y e = cc

-- what is put at a key stands there
put_there : (m : RedisMap) (k : Bytes) (e : Entry) → get (insert m k e) k ≡ Some e
put_there m k e = get-insert m k e k ∙ ap (λ b. cond b (Some e) (get m k)) (same_itself k)

module _ {c : Rows} {t : ℕ} {m : RedisMap} (fresh : ℕ) (d : Command) (k : Bytes) (means : Means c t m) (one : keys_of d ≡ k ∷ []) (short : IsTrue (is_key k)) where
  -- A command with one key that it touches, and at which it leaves this list, has the plan that does so.
  pub list_left : (found : Option ListSight) (items next : List Bytes) (head : ℕ) (rows : Batch) (answer : Reply) (n : RedisMap)
      → IsTrue (is_version fresh) → IsFresh c fresh k → list_found (live_at c t k) ≡ Ok found → IsListOf c k found items → at_key lists m k ≡ Ok items
      → IsFalse (is_store d) → head_after m d k (list_on fresh found).head ≡ head
      → n ≡ insert m k (record { value = ListOf next; deadline = deadline_at m k }) → carried_out m t d ≡ Ok (answer, n) → IsTrue (is_touched m n d k)
      → 0 < length next → length next ≤ max_size → head + length next < 2 ^ 64 → ChangesRows c k (list_on fresh found).version rows (item_rows next head)
      → let p = plans.list_plan t k (deadline_in (live_at c t k)) (record { version = (list_on fresh found).version; head = head; tail = head + length next }) rows answer in IsPlanOf c t fresh m d p.batch p.reply p.until
  list_left found items next head rows answer n fits above is there at no_store moves put done touch some few low ch =
      let old : Option ℕ = deadline_in (live_at c t k) in
      life_plan fresh d k (plans.list_batch k old (record { version = (list_on fresh found).version; head = head; tail = head + length next }) rows) answer n
      (record { value = ListOf next; deadline = old }) (record { version = (list_on fresh found).version; head = head }) (expire_number old)
      means done one short touch
      (ap (λ (n : RedisMap). get n k) (put ∙ ap (λ (dl : Option ℕ). insert m k (record { value = ListOf next; deadline = dl })) (seen_deadline means k)) ∙ put_there m k (record { value = ListOf next; deadline = old }))
      (old_lives means k)
      (list_goes_on means k fresh d found items next no_store is at ∙ ap (λ (h : ℕ). record { version = (list_on fresh found).version; head = h }) moves)
      (list_writes c k (list_on fresh found) items next head rows old short (deadline_is_back t old (old_lives means k)) (found_deadline_fits _ (live_is_found c t k)) (on_fits c t fresh k found is fits)
      (list_stands c k fresh found items there fits above) some few low ch)

  -- One that leaves no items takes the key away.
  pub list_gone : (list : ListSight) (answer : Reply) → list_found (live_at c t k) ≡ Ok (Some list) → carried_out m t d ≡ Ok (answer, remove m k)
      → let p = plans.gone_plan t k (deadline_in (live_at c t k)) answer in IsPlanOf c t fresh m d p.batch p.reply p.until
  list_gone list answer is done =
      let meta = list_meta (live_at c t k) list is in
      removed_plan fresh d k (ListValue meta.0 list.version list.head list.tail) answer means meta.1 done one short

  -- One that answers an error writes nothing.
  pub list_refused : (e : ReplyError) → carried_out m t d ≡ Err e → let p = answering t (deadline_in (live_at c t k)) (reply.Error e) in IsPlanOf c t fresh m d p.batch p.reply p.until
  list_refused e done = one_key_ahead c t fresh m d (reply.Error e) k one (refused_plan fresh d e means done)

-- The plan of a command on the list at its only key, by what is found there: an error where the key has another type.
pub list_changing : (c : Rows) (t fresh : ℕ) (d : Command) (k : Bytes) (plan : Option ListSight → Plan) → keys_of d ≡ k ∷ [] → IsTrue (is_key k)
    → ((m : RedisMap) (e : ReplyError) → at_key lists m k ≡ Err e → carried_out m t d ≡ Err e)
    → ((m : RedisMap) (found : Option ListSight) (items : List Bytes) → Means c t m → IsReady c t fresh (One d) → list_found (live_at c t k) ≡ Ok found → IsListOf c k found items → at_key lists m k ≡ Ok items
    → IsPlanOf c t fresh m d (plan found).batch (plan found).reply (plan found).until)
    → let p = plans.by_list t (deadline_in (live_at c t k)) plan (list_found (live_at c t k)) in IsPlan c t fresh d p.batch p.reply p.until
list_changing c t fresh d k plan one short wrong right = record { plan = λ m means ready. by_sight m means ready (list_found (live_at c t k)) refl (at_key lists m k) refl (sees_list means k) }
  where
    by_sight : (m : RedisMap) → Means c t m → IsReady c t fresh (One d) → (s : Outcome (Option ListSight)) → list_found (live_at c t k) ≡ s → (o : Outcome (List Bytes)) → at_key lists m k ≡ o → SeesList c k s o
        → let p = plans.by_list t (deadline_in (live_at c t k)) plan s in IsPlanOf c t fresh m d p.batch p.reply p.until
    by_sight m means ready (Ok found) is (Ok items) at there = right m found items means ready is there at
    by_sight m means ready (Err e) is (Err x) at there =
        subst (λ (e : ReplyError). let p = answering t (deadline_in (live_at c t k)) (reply.Error e) in IsPlanOf c t fresh m d p.batch p.reply p.until) (sym there)
        (list_refused fresh d k means one short x (wrong m x at))
    by_sight m means ready (Ok found) is (Err x) at there = absurd there
    by_sight m means ready (Err e) is (Ok items) at there = absurd there
