-- The plans of commands that set a string over whatever the key held, or take one away.
use Rattle.std.proofs.Common.{◌≡◌, ℕ, refl, sym, ap, ◌∙◌, Bool, true, false, cond, [], ◌∷◌}
use Rattle.std.specs.Prelude.{◌≢◌, Option, Some, None, Ok, Err, IsTrue, IsFalse, is_some}
use Rattle.kv_base.specs.Map.{Bytes, same_itself, get, has, insert, remove, get-insert}
use Rattle.kv_base.specs.MetaValues.{MetaValue, StringValue, LifeValue, ListValue}
use Rattle.redis_model.specs.declared.reply.Reply.TheVariants as reply
use Rattle.redis_model.specs.declared.command.Command.{Command}
use Rattle.redis_model.specs.declared.command.Command.TheVariants as cmd
use Rattle.redis_model.specs.declared.command.When.{When}
use Rattle.redis_model.specs.declared.command.When.TheVariants as when
use Rattle.redis_model.specs.declared.command.Expiry.{Expiry}
use Rattle.redis_model.specs.Value.{Str, Entry, RedisMap, deadline_at}
use Rattle.redis_model.specs.Outcome.{Outcome, ◌>>=◌, number, bulk_or_null, put_string}
use Rattle.redis_model.specs.Strings.{deadline_of, allowed, set}
use Rattle.redis_model.specs.Keys.{among}
use Rattle.redis_model.specs.Limits.{IsWithin, IsName, IsShort, IsTime}
use Rattle.redis_model.specs.About.{keys_of}
use Rattle.redis_model.specs.Apply.{carried_out}
use Rattle.redis_model.specs.Touched.{written_again}
use Rattle.lives_model.specs.Rows.{Rows}
use Rattle.lives_model.specs.Clean.{live_at}
use Rattle.lives_model.specs.Means.{Means}
use Rattle.lives_model.specs.Plans.{IsPlanOf}
use Rattle.plan_base.specs.Seen.{deadline_in, string_in}
use Rattle.plan_base.specs.SeenLaws.{seen_there, seen_none, seen_deadline, seen_string}
use Rattle.plan_base.specs.KeyStepLaws.{touched_again, touched_differs}
use Rattle.plan_base.specs.KeyPlanLaws.{refused_plan, still_plan, string_plan, removed_plan, remove_nothing, found_deadline_fits, live_is_found, set_deadline_fits}
use Rattle.plan_base.specs.KeyLimitLaws.{name_is_key, among_itself, short_is_payload}
use Rattle.string_cmds.specs.Planned.{idle, putting, by_string, taking, set_plan, set_nx_plan, get_set_plan, get_del_plan}
use Rattle.string_cmds.specs.Carried.{CarriesOut}
use Rattle.string_cmds.specs.CarriedLaws.{with_one_key, name_within, given_time}

-- ---- SET, SETEX and PSETEX

sets : (c : Rows) (t fresh : ℕ) (d : Command) (k v : Bytes) (w : When) (x : Expiry)
    → ((m : RedisMap) → carried_out m t d ≡ set m k v w x) → keys_of d ≡ k ∷ []
    → ((m n : RedisMap) → IsTrue (allowed w (has m k)) → IsTrue (among (written_again m n d) k))
    → ((m : RedisMap) → IsFalse (allowed w (has m k)) → written_again m m d ≡ [])
    → IsName k → IsShort v → IsTime x → CarriesOut c t fresh d (set_plan t (live_at c t k) k v w x)
unfolding set_plan
sets c t fresh d k v w x is one again quiet name short time = record { law = λ m means. by_test m means (allowed w (is_some (live_at c t k))) refl }
  where
    by_test : (m : RedisMap) → Means c t m → (b : Bool) → allowed w (is_some (live_at c t k)) ≡ b
        → let p = cond b (putting t k v (deadline_in (live_at c t k)) (deadline_of x (deadline_in (live_at c t k))) reply.Ok) (idle t (deadline_in (live_at c t k)) reply.Null) in IsPlanOf c t fresh m d p.batch p.reply p.until
    by_test m means true may =
        let there : allowed w (has m k) ≡ true = ap (allowed w) (seen_there means k) ∙ may in
        string_plan fresh d k v (deadline_of x (deadline_in (live_at c t k))) reply.Ok means
        (is m
        ∙ ap (λ b. cond b (Ok (reply.Ok, put_string m k v (deadline_of x (deadline_at m k)))) (Ok (reply.Null, m))) there
        ∙ ap (λ o. Ok (reply.Ok, put_string m k v (deadline_of x o))) (seen_deadline means k))
        one (name_is_key k name) (touched_again m _ d k (again m _ there))
        (set_deadline_fits x _ time (found_deadline_fits _ (live_is_found c t k))) (short_is_payload v short)
    by_test m means false bars =
        let absent : allowed w (has m k) ≡ false = ap (allowed w) (seen_there means k) ∙ bars in
        with_one_key c t fresh m d _ reply.Null k one
        (still_plan fresh d reply.Null means (is m ∙ ap (λ b. cond b (Ok (reply.Ok, put_string m k v (deadline_of x (deadline_at m k)))) (Ok (reply.Null, m))) absent) (quiet m absent))

pub set_carries : (c : Rows) (t fresh : ℕ) (k v : Bytes) (w : When) (x : Expiry) (weight : ℕ) → IsWithin (cmd.Set k v w x weight)
    → CarriesOut c t fresh (cmd.Set k v w x weight) (set_plan t (live_at c t k) k v w x)
unfolding carried_out
set_carries c t fresh k v w x weight within =
    sets c t fresh (cmd.Set k v w x weight) k v w x (λ m. refl) refl
    (λ m n may. ap (λ b. among (cond b (k ∷ []) []) k) may ∙ among_itself k) (λ m bars. ap (λ b. cond b (k ∷ []) []) bars) (name_within k within.names) within.fields.0 within.fields.1

pub set_ex_carries : (c : Rows) (t fresh : ℕ) (k v : Bytes) (x : Expiry) (w : ℕ) → IsWithin (cmd.SetEx k x v w)
    → CarriesOut c t fresh (cmd.SetEx k x v w) (set_plan t (live_at c t k) k v when.Any x)
unfolding carried_out
set_ex_carries c t fresh k v x w within =
    sets c t fresh (cmd.SetEx k x v w) k v when.Any x (λ m. refl) refl (λ m n may. among_itself k) (λ m bars. absurd (cc)) (name_within k within.names) within.fields.1 (given_time x within.fields.0)

pub p_set_ex_carries : (c : Rows) (t fresh : ℕ) (k v : Bytes) (x : Expiry) (w : ℕ) → IsWithin (cmd.PSetEx k x v w)
    → CarriesOut c t fresh (cmd.PSetEx k x v w) (set_plan t (live_at c t k) k v when.Any x)
unfolding carried_out
p_set_ex_carries c t fresh k v x w within =
    sets c t fresh (cmd.PSetEx k x v w) k v when.Any x (λ m. refl) refl (λ m n may. among_itself k) (λ m bars. absurd (cc)) (name_within k within.names) within.fields.1 (given_time x within.fields.0)

-- ---- SETNX

-- a string that is put where nothing was makes a difference
put_differs : (m : RedisMap) (k : Bytes) (e : Entry) → get m k ≡ None → get m k ≢ get (insert m k e) k
put_differs m k e none equal =
    let there : get (insert m k e) k ≡ Some e = get-insert m k e k ∙ ap (λ b. cond b (Some e) (get m k)) (same_itself k) in
    let apart : None ≡ Some e = sym none ∙ equal ∙ there in
    cc

pub set_nx_carries : (c : Rows) (t fresh : ℕ) (k v : Bytes) (w : ℕ) → IsWithin (cmd.SetNx k v w) → CarriesOut c t fresh (cmd.SetNx k v w) (set_nx_plan t (live_at c t k) k v)
unfolding carried_out set_nx_plan
set_nx_carries c t fresh k v w within = record { law = λ m means. by_found m means (live_at c t k) refl }
  where
    by_found : (m : RedisMap) → Means c t m → (o : Option MetaValue) → live_at c t k ≡ o
        → let p = cond (is_some o) (idle t (deadline_in (live_at c t k)) (number 0)) (putting t k v (deadline_in (live_at c t k)) None (number 1)) in IsPlanOf c t fresh m (cmd.SetNx k v w) p.batch p.reply p.until
    by_found m means None e =
        string_plan fresh (cmd.SetNx k v w) k v None (number 1) means
        (ap (λ b. cond b (Ok (number 0, m)) (Ok (number 1, put_string m k v None))) (seen_there means k ∙ ap is_some e))
        refl (name_is_key k (name_within k within.names)) (touched_differs m _ (cmd.SetNx k v w) k (put_differs m k (record { value = Str v; deadline = None }) (seen_none means k e)))
        refl (short_is_payload v within.fields)
    by_found m means (Some meta) e =
        still_plan fresh (cmd.SetNx k v w) (number 0) means
        (ap (λ b. cond b (Ok (number 0, m)) (Ok (number 1, put_string m k v None))) (seen_there means k ∙ ap is_some e)) refl

-- ---- GETSET

pub get_set_carries : (c : Rows) (t fresh : ℕ) (k v : Bytes) (w : ℕ) → IsWithin (cmd.GetSet k v w) → CarriesOut c t fresh (cmd.GetSet k v w) (get_set_plan t (live_at c t k) k v)
unfolding carried_out get_set_plan
get_set_carries c t fresh k v w within = record { law = λ m means. by_outcome m means (string_in (live_at c t k)) refl }
  where
    by_outcome : (m : RedisMap) → Means c t m → (o : Outcome (Option Bytes)) → string_in (live_at c t k) ≡ o
        → let p = by_string t (deadline_in (live_at c t k)) (λ old. putting t k v (deadline_in (live_at c t k)) None (bulk_or_null old)) o in IsPlanOf c t fresh m (cmd.GetSet k v w) p.batch p.reply p.until
    by_outcome m means (Ok old) e =
        string_plan fresh (cmd.GetSet k v w) k v None (bulk_or_null old) means
        (ap (λ o. o >>= λ old. Ok (bulk_or_null old, put_string m k v None)) (seen_string means k ∙ e))
        refl (name_is_key k (name_within k within.names)) (touched_again m _ (cmd.GetSet k v w) k (among_itself k)) refl (short_is_payload v within.fields)
    by_outcome m means (Err fault) e =
        refused_plan fresh (cmd.GetSet k v w) fault means (ap (λ o. o >>= λ old. Ok (bulk_or_null old, put_string m k v None)) (seen_string means k ∙ e))

-- ---- GETDEL

no_string : (found : Option MetaValue) → string_in found ≡ Ok None → found ≡ None
no_string None e = refl
no_string (Some (StringValue expire payload)) e = cc
no_string (Some (LifeValue kind expire version size)) e = cc
no_string (Some (ListValue expire version head tail)) e = cc

a_string : (found : Option MetaValue) (v : Bytes) → string_in found ≡ Ok (Some v) → (meta : MetaValue) × (found ≡ Some meta)
a_string None v e = absurd (cc)
a_string (Some meta) v e = (meta, refl)

pub get_del_carries : (c : Rows) (t fresh : ℕ) (k : Bytes) (w : ℕ) → IsWithin (cmd.GetDel k w) → CarriesOut c t fresh (cmd.GetDel k w) (get_del_plan t (live_at c t k) k)
unfolding carried_out get_del_plan
get_del_carries c t fresh k w within = record { law = λ m means. by_outcome m means (string_in (live_at c t k)) refl }
  where
    by_outcome : (m : RedisMap) → Means c t m → (o : Outcome (Option Bytes)) → string_in (live_at c t k) ≡ o
        → let p = by_string t (deadline_in (live_at c t k)) (taking t k (deadline_in (live_at c t k))) o in IsPlanOf c t fresh m (cmd.GetDel k w) p.batch p.reply p.until
    by_outcome m means (Ok None) e =
        still_plan fresh (cmd.GetDel k w) reply.Null means
        (ap (λ o. o >>= λ v. Ok (bulk_or_null v, remove m k)) (seen_string means k ∙ e)
        ∙ ap (λ (n : RedisMap). Ok (reply.Null, n)) (remove_nothing m k (seen_none means k (no_string (live_at c t k) e)))) refl
    by_outcome m means (Ok (Some v)) e =
        let there = a_string (live_at c t k) v e in
        removed_plan fresh (cmd.GetDel k w) k there.0 (reply.Bulk v) means there.1
        (ap (λ o. o >>= λ v. Ok (bulk_or_null v, remove m k)) (seen_string means k ∙ e)) refl (name_is_key k (name_within k within.names))
    by_outcome m means (Err fault) e =
        refused_plan fresh (cmd.GetDel k w) fault means (ap (λ o. o >>= λ v. Ok (bulk_or_null v, remove m k)) (seen_string means k ∙ e))
