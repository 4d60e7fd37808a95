-- The plans of commands that only read.
use Rattle.std.proofs.Common.{◌≡◌, ℕ, refl, sym, ap, subst, ◌∙◌, [], ◌∷◌, length}
use Rattle.std.specs.Prelude.{Option, Some, None, Ok, Err, IsFalse, option_and_then, option_map, unwrap_or, ℤ}
use Rattle.kv_base.specs.Map.{Bytes, get}
use Rattle.kv_base.specs.MetaValues.{MetaValue}
use Rattle.redis_model.specs.declared.reply.Reply.{Reply}
use Rattle.redis_model.specs.declared.reply.Reply.TheVariants as reply
use Rattle.redis_model.specs.declared.command.Command.{Command}
use Rattle.redis_model.specs.declared.command.Command.TheVariants as cmd
use Rattle.redis_model.specs.Value.{Entry, RedisMap}
use Rattle.redis_model.specs.Outcome.{Outcome, ◌>>=◌, answered, number, bulk_or_null, string_at}
use Rattle.redis_model.specs.Strings.{range}
use Rattle.redis_model.specs.Keys.{left, left_until, rounded_seconds}
use Rattle.redis_model.specs.About.{keys_of, writes}
use Rattle.redis_model.specs.Apply.{apply, carried_out}
use Rattle.lives_model.specs.Rows.{Rows}
use Rattle.lives_model.specs.Clean.{live_at}
use Rattle.lives_model.specs.Means.{Means}
use Rattle.plan_base.specs.Seen.{deadline_in, string_in, word_in}
use Rattle.plan_base.specs.SeenLaws.{seen_none, seen_some, seen_deadline, seen_string, seen_word}
use Rattle.plan_base.specs.Sights.{sight_of}
use Rattle.plan_base.specs.KeyPlanLaws.{reading_plan}
use Rattle.string_cmds.specs.Planned.{idle, string_reply, get_plan, str_len_plan, get_range_plan, sight_deadline, sight_word, type_plan, left_in, p_ttl_plan, ttl_plan}
use Rattle.string_cmds.specs.Carried.{CarriesOut}
use Rattle.string_cmds.specs.CarriedLaws.{with_one_key}

-- ---- one key

-- a command with one key that only reads answers what it comes to
reads : (c : Rows) (t fresh : ℕ) (d : Command) (k : Bytes) (answer : Reply) → IsFalse (writes d) → keys_of d ≡ k ∷ []
    → ((m : RedisMap) → Means c t m → answer ≡ (apply m t d).0) → CarriesOut c t fresh d (idle t (deadline_in (live_at c t k)) answer)
reads c t fresh d k answer reading one answers =
    record { law = λ m means. with_one_key c t fresh m d _ answer k one (reading_plan fresh d answer means reading (answers m means)) }

-- ---- strings

string_answer : (m : RedisMap) (f : Option Bytes → Reply) (o : Outcome (Option Bytes)) → string_reply f o ≡ (answered m (o >>= λ v. Ok (f v, m))).0
string_answer m f (Ok v) = refl
string_answer m f (Err e) = refl

-- so does one that reads a string
reads_string : (c : Rows) (t fresh : ℕ) (d : Command) (k : Bytes) (f : Option Bytes → Reply) → IsFalse (writes d) → keys_of d ≡ k ∷ []
    → ((m : RedisMap) → carried_out m t d ≡ (string_at m k >>= λ v. Ok (f v, m)))
    → CarriesOut c t fresh d (idle t (deadline_in (live_at c t k)) (string_reply f (string_in (live_at c t k))))
unfolding apply
reads_string c t fresh d k f reading one is =
    reads c t fresh d k (string_reply f (string_in (live_at c t k))) reading one (λ m means.
    ap (string_reply f) (sym (seen_string means k))
    ∙ string_answer m f (string_at m k)
    ∙ sym (ap (λ o. (answered m o).0) (is m)))

pub get_carries : (c : Rows) (t fresh : ℕ) (k : Bytes) (w : ℕ) → CarriesOut c t fresh (cmd.Get k w) (get_plan t (live_at c t k))
unfolding carried_out get_plan
get_carries c t fresh k w = reads_string c t fresh (cmd.Get k w) k bulk_or_null refl refl (λ m. refl)

pub str_len_carries : (c : Rows) (t fresh : ℕ) (k : Bytes) (w : ℕ) → CarriesOut c t fresh (cmd.StrLen k w) (str_len_plan t (live_at c t k))
unfolding carried_out str_len_plan
str_len_carries c t fresh k w = reads_string c t fresh (cmd.StrLen k w) k (λ v. number (length (unwrap_or v []))) refl refl (λ m. refl)

pub get_range_carries : (c : Rows) (t fresh : ℕ) (k : Bytes) (a b : ℤ) (w : ℕ) → CarriesOut c t fresh (cmd.GetRange k a b w) (get_range_plan t (live_at c t k) a b)
unfolding carried_out get_range_plan
get_range_carries c t fresh k a b w = reads_string c t fresh (cmd.GetRange k a b w) k (λ v. reply.Bulk (range (unwrap_or v []) a b)) refl refl (λ m. refl)

-- ---- keys of any type

-- the deadline that is seen is that of the metadata
pub sight_deadline_is : (found : Option MetaValue) → sight_deadline (option_map sight_of found) ≡ deadline_in found
sight_deadline_is None = refl
sight_deadline_is (Some meta) = refl

sight_word_is : (found : Option MetaValue) → sight_word (option_map sight_of found) ≡ word_in found
sight_word_is None = refl
sight_word_is (Some meta) = refl

pub type_carries : (c : Rows) (t fresh : ℕ) (k : Bytes) (w : ℕ) → CarriesOut c t fresh (cmd.TypeOf k w) (type_plan t (option_map sight_of (live_at c t k)))
unfolding carried_out apply type_plan
type_carries c t fresh k w =
    subst (λ (o : Option ℕ). CarriesOut c t fresh (cmd.TypeOf k w) (idle t o (reply.Word (sight_word (option_map sight_of (live_at c t k)))))) (sym (sight_deadline_is (live_at c t k)))
    (reads c t fresh (cmd.TypeOf k w) k (reply.Word (sight_word (option_map sight_of (live_at c t k)))) refl refl
    (λ m means. ap (λ x. reply.Word x) (sight_word_is (live_at c t k) ∙ sym (seen_word means k))))

left_is : {c : Rows} {t : ℕ} {m : RedisMap} (means : Means c t m) (k : Bytes) → left_in t (live_at c t k) ≡ left t (get m k)
left_is {c} {t} {m} means k = by_found (live_at c t k) refl
  where
    by_found : (o : Option MetaValue) → live_at c t k ≡ o → left_in t o ≡ left t (get m k)
    by_found None e = sym (ap (left t) (seen_none means k e))
    by_found (Some meta) e =
        let there = seen_some means k meta e in
        ap (left_until t) (sym (ap deadline_in e) ∙ sym (seen_deadline means k) ∙ ap (option_and_then (λ (x : Entry). x.deadline)) there.1) ∙ sym (ap (left t) there.1)

pub p_ttl_carries : (c : Rows) (t fresh : ℕ) (k : Bytes) (w : ℕ) → CarriesOut c t fresh (cmd.PTtl k w) (p_ttl_plan t (live_at c t k))
unfolding carried_out apply p_ttl_plan
p_ttl_carries c t fresh k w = reads c t fresh (cmd.PTtl k w) k (reply.Int (left_in t (live_at c t k))) refl refl (λ m means. ap (λ z. reply.Int z) (left_is means k))

pub ttl_carries : (c : Rows) (t fresh : ℕ) (k : Bytes) (w : ℕ) → CarriesOut c t fresh (cmd.Ttl k w) (ttl_plan t (live_at c t k))
unfolding carried_out apply ttl_plan
ttl_carries c t fresh k w = reads c t fresh (cmd.Ttl k w) k (reply.Int (rounded_seconds (left_in t (live_at c t k)))) refl refl (λ m means. ap (λ z. reply.Int (rounded_seconds z)) (left_is means k))
