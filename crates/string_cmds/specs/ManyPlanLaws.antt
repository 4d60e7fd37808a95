-- The plans of commands with many keys, and of those with none.
use Rattle.std.proofs.Common.{◌≡◌, ℕ, ◌+◌, refl, sym, ap, ◌∙◌, Bool, cond, List, [], ◌∷◌}
use Rattle.std.specs.Prelude.{Option, Some, None, map, option_map, fold, zip, count_by, is_some, ℤ}
use Rattle.kv_base.specs.Map.{Bytes, empty, has}
use Rattle.kv_base.specs.MetaValues.{MetaValue}
use Rattle.redis_model.specs.declared.reply.Reply.{Reply}
use Rattle.redis_model.specs.declared.reply.Reply.TheVariants as reply
use Rattle.redis_model.specs.declared.command.Command.TheVariants as cmd
use Rattle.redis_model.specs.Value.{RedisMap}
use Rattle.redis_model.specs.Outcome.{number, string_at}
use Rattle.redis_model.specs.Strings.{shown}
use Rattle.redis_model.specs.Keys.{among}
use Rattle.redis_model.specs.Limits.{IsWithin}
use Rattle.redis_model.specs.Apply.{apply, carried_out, ping}
use Rattle.lives_model.specs.Rows.{Rows}
use Rattle.lives_model.specs.Clean.{live_at}
use Rattle.lives_model.specs.Means.{Means}
use Rattle.lives_model.specs.Plans.{least_above}
use Rattle.plan_base.specs.declared.sight.KeySight.{KeySight}
use Rattle.plan_base.specs.Sights.{sight_of}
use Rattle.plan_base.specs.Seen.{string_in}
use Rattle.plan_base.specs.SeenLaws.{seen_there, seen_string}
use Rattle.plan_base.specs.Ahead.{seen_deadlines}
use Rattle.plan_base.specs.KeyStepLaws.{touched_again}
use Rattle.plan_base.specs.KeyPlanLaws.{reading_plan}
use Rattle.plan_base.specs.ManyKeyLaws.{strings_plan, deleted_plan}
use Rattle.plan_base.specs.KeyLimitLaws.{names_are_keys, pairs_are_within, names_of_pairs}
use Rattle.string_cmds.specs.Planned.{is_there, sights, sight_deadline, existing, m_get_plan, exists_plan, m_set_plan, del_plan, keyless}
use Rattle.string_cmds.specs.ReadPlanLaws.{sight_deadline_is}
use Rattle.string_cmds.specs.Carried.{CarriesOut}

-- ---- MGET and EXISTS

each_shown : {c : Rows} {t : ℕ} {m : RedisMap} (means : Means c t m) (ks : List Bytes) → map (λ k. shown (string_in (live_at c t k))) ks ≡ map (λ k. shown (string_at m k)) ks
each_shown {c} {t} {m} means ks = ap (λ (f : Bytes → Reply). map f ks) (λ i k. shown (sym (seen_string means k) i))

pub m_get_carries : (c : Rows) (t fresh : ℕ) (ks : List Bytes) (w : ℕ) → CarriesOut c t fresh (cmd.MGet ks w) (m_get_plan c t ks)
unfolding carried_out apply m_get_plan
m_get_carries c t fresh ks w = record {
  law = λ m means.
      reading_plan fresh (cmd.MGet ks w) (reply.Array (map (λ k. shown (string_in (live_at c t k))) ks)) means refl (ap (λ rs. reply.Array rs) (each_shown means ks));
}

all_there : {c : Rows} {t : ℕ} {m : RedisMap} (means : Means c t m) (ks : List Bytes) → count_by (is_there c t) ks ≡ count_by (has m) ks
all_there {c} {t} {m} means ks = ap (λ (p : Bytes → Bool). count_by p ks) (λ i k. sym (seen_there means k) i)

pub exists_carries : (c : Rows) (t fresh : ℕ) (ks : List Bytes) (w : ℕ) → CarriesOut c t fresh (cmd.Exists ks w) (exists_plan c t ks)
unfolding carried_out apply exists_plan
exists_carries c t fresh ks w = record {
  law = λ m means.
      reading_plan fresh (cmd.Exists ks w) (number (count_by (is_there c t) ks)) means refl (ap number (all_there means ks));
}

-- ---- what is seen of many keys

-- the deadlines that are seen
pub seen_soonest : (c : Rows) (t : ℕ) (ks : List Bytes) → map sight_deadline (sights c t ks) ≡ seen_deadlines c t ks
unfolding sights
seen_soonest c t [] = refl
seen_soonest c t (k ∷ ks) = let one = sight_deadline_is (live_at c t k) in let rest = seen_soonest c t ks in λ i. one i ∷ rest i

-- a key is seen where its metadata is
pub is_some_sight : (found : Option MetaValue) → is_some (option_map sight_of found) ≡ is_some found
is_some_sight None = refl
is_some_sight (Some meta) = refl

seen_count : (c : Rows) (t : ℕ) (ks : List Bytes) → count_by is_some (sights c t ks) ≡ count_by (is_there c t) ks
unfolding sights
seen_count c t ks = from 0 ks
  where
    from : (n : ℕ) (ks : List Bytes) → fold (λ a (s : Option KeySight). a + cond (is_some s) 1 0) n (map (λ k. option_map sight_of (live_at c t k)) ks) ≡ fold (λ a k. a + cond (is_there c t k) 1 0) n ks
    from n [] = refl
    from n (k ∷ ks) =
        ap (λ b. fold (λ a (s : Option KeySight). a + cond (is_some s) 1 0) (n + cond b 1 0) (map (λ k. option_map sight_of (live_at c t k)) ks)) (is_some_sight (live_at c t k))
        ∙ from (n + cond (is_there c t k) 1 0) ks

-- the plan by what is seen of the keys is the plan of EXISTS
pub existing_is : (c : Rows) (t : ℕ) (ks : List Bytes) → existing t (sights c t ks) ≡ exists_plan c t ks
unfolding exists_plan
existing_is c t ks =
    let count = seen_count c t ks in
    let ahead = seen_soonest c t ks in
    λ i. record { reply = number (count i); batch = empty; until = least_above t (ahead i) }

-- ---- MSET

pub m_set_carries : (c : Rows) (t fresh : ℕ) (ks vs : List Bytes) (w : ℕ) → IsWithin (cmd.MSet ks vs w)
    → CarriesOut c t fresh (cmd.MSet ks vs w) (m_set_plan c t ks vs)
unfolding carried_out m_set_plan
m_set_carries c t fresh ks vs w within = record {
  law = λ m means.
      strings_plan fresh (cmd.MSet ks vs w) (zip ks vs) reply.Ok means refl (sym (names_of_pairs ks vs within.fields.1)) (pairs_are_within ks vs within.names within.fields.2)
      (λ q named. touched_again m _ (cmd.MSet ks vs w) q (ap (λ ns. among ns q) (sym (names_of_pairs ks vs within.fields.1)) ∙ named));
}

-- ---- DEL

pub del_carries : (c : Rows) (t fresh : ℕ) (ks : List Bytes) (w : ℕ) → IsWithin (cmd.Del ks w) → CarriesOut c t fresh (cmd.Del ks w) (del_plan c t ks)
unfolding carried_out del_plan
del_carries c t fresh ks w within = record { law = λ m means. deleted_plan fresh (cmd.Del ks w) means refl refl (names_are_keys ks within.names) }

-- ---- PING, ECHO and SELECT

pub ping_carries : (c : Rows) (t fresh : ℕ) (v : Option Bytes) (w : ℕ) → CarriesOut c t fresh (cmd.Ping v w) (keyless (ping v))
unfolding carried_out apply
ping_carries c t fresh v w = record { law = λ m means. reading_plan fresh (cmd.Ping v w) (ping v) means refl refl }

pub echo_carries : (c : Rows) (t fresh : ℕ) (v : Bytes) (w : ℕ) → CarriesOut c t fresh (cmd.Echo v w) (keyless (reply.Bulk v))
unfolding carried_out apply
echo_carries c t fresh v w = record { law = λ m means. reading_plan fresh (cmd.Echo v w) (reply.Bulk v) means refl refl }

pub select_carries : (c : Rows) (t fresh : ℕ) (n : ℤ) (w : ℕ) → CarriesOut c t fresh (cmd.Select n w) (keyless reply.Ok)
unfolding carried_out apply
select_carries c t fresh n w = record { law = λ m means. reading_plan fresh (cmd.Select n w) reply.Ok means refl refl }
