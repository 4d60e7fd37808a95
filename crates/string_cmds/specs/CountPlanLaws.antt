-- The plans of commands that change a string that is there: APPEND and the counters. The deadline stays.
use Rattle.std.proofs.Common.{◌≡◌, ℕ, ◌<◌, ◌≤◌, ◌^◌, refl, sym, ap, ◌∙◌, Bool, true, false, cond, [], ◌∷◌, ◌++◌, length, arith}
use Rattle.std.proofs.lemmas.Bool.Decides.{nat_tests}
use Rattle.std.proofs.lemmas.Fmt.{length_signed_le}
use Rattle.std.specs.Prelude.{Option, Ok, Err, IsTrue, unwrap_or, nat_lt, ℤ, pos, negsuc, neg_ℤ, ◌+ℤ◌}
use Rattle.kv_base.specs.Map.{Bytes}
use Rattle.kv_base.specs.MetaValues.{is_payload}
use Rattle.kv_base.specs.Number.{int_text, fits}
use Rattle.redis_model.specs.declared.reply.Reply.{Reply}
use Rattle.redis_model.specs.declared.reply.Reply.TheVariants as reply
use Rattle.redis_model.specs.declared.reply.ReplyError.TheVariants.{NotInt, Overflow, TooLarge}
use Rattle.redis_model.specs.declared.command.Command.{Command}
use Rattle.redis_model.specs.declared.command.Command.TheVariants as cmd
use Rattle.redis_model.specs.Value.{RedisMap, deadline_at}
use Rattle.redis_model.specs.Outcome.{Outcome, ◌>>=◌, number, put_string}
use Rattle.redis_model.specs.Strings.{max_string, counter, added, incr_by}
use Rattle.redis_model.specs.Limits.{IsWithin, IsName}
use Rattle.redis_model.specs.About.{keys_of}
use Rattle.redis_model.specs.Apply.{carried_out}
use Rattle.redis_model.specs.Touched.{written_again}
use Rattle.redis_model.specs.Keys.{among}
use Rattle.lives_model.specs.Rows.{Rows}
use Rattle.lives_model.specs.Clean.{live_at}
use Rattle.lives_model.specs.Means.{Means}
use Rattle.lives_model.specs.Plans.{IsPlanOf}
use Rattle.plan_base.specs.Seen.{deadline_in, string_in}
use Rattle.plan_base.specs.SeenLaws.{seen_deadline, seen_string}
use Rattle.plan_base.specs.KeyStepLaws.{touched_again}
use Rattle.plan_base.specs.KeyPlanLaws.{refused_plan, string_plan, found_deadline_fits, live_is_found}
use Rattle.plan_base.specs.KeyLimitLaws.{among_itself, name_is_key}
use Rattle.string_cmds.specs.Planned.{idle, putting, by_string, appending, append_plan, counting, incr_plan}
use Rattle.string_cmds.specs.Carried.{CarriesOut}
use Rattle.string_cmds.specs.CarriedLaws.{with_one_key, name_within}

-- ---- APPEND

-- a string that is not too large is a payload
pub not_too_large : (v : Bytes) → nat_lt max_string (length v) ≡ false → IsTrue (is_payload v)
not_too_large v e = grind (arith, nat_tests)

abbrev appended : RedisMap → Bytes → Bytes → Option ℕ → Outcome (Option Bytes) → Outcome (Reply × RedisMap)
appended m k v dl o = o >>= λ old. let all = unwrap_or old [] ++ v in cond (nat_lt max_string (length all)) (Err TooLarge) (Ok (number (length all), put_string m k all dl))

pub append_carries : (c : Rows) (t fresh : ℕ) (k v : Bytes) (w : ℕ) → IsWithin (cmd.Append k v w) → CarriesOut c t fresh (cmd.Append k v w) (append_plan t (live_at c t k) k v)
unfolding carried_out append_plan
append_carries c t fresh k v w within = record { law = λ m means. by_outcome m means (string_in (live_at c t k)) refl }
  where
    by_outcome : (m : RedisMap) → Means c t m → (o : Outcome (Option Bytes)) → string_in (live_at c t k) ≡ o
        → let p = by_string t (deadline_in (live_at c t k)) (λ s. appending t k (deadline_in (live_at c t k)) (unwrap_or s [] ++ v)) o in IsPlanOf c t fresh m (cmd.Append k v w) p.batch p.reply p.until
    by_outcome m means (Ok s) e = by_test (nat_lt max_string (length (unwrap_or s [] ++ v))) refl
      where
        by_test : (b : Bool) → nat_lt max_string (length (unwrap_or s [] ++ v)) ≡ b
            → let p = cond b (idle t (deadline_in (live_at c t k)) (reply.Error TooLarge)) (putting t k (unwrap_or s [] ++ v) (deadline_in (live_at c t k)) (deadline_in (live_at c t k)) (number (length (unwrap_or s [] ++ v)))) in IsPlanOf c t fresh m (cmd.Append k v w) p.batch p.reply p.until
        by_test true large =
            refused_plan fresh (cmd.Append k v w) TooLarge means
            (ap (appended m k v (deadline_at m k)) (seen_string means k ∙ e)
            ∙ ap (λ b. cond b (Err TooLarge) (Ok (number (length (unwrap_or s [] ++ v)), put_string m k (unwrap_or s [] ++ v) (deadline_at m k)))) large)
        by_test false small =
            string_plan fresh (cmd.Append k v w) k (unwrap_or s [] ++ v) (deadline_in (live_at c t k)) (number (length (unwrap_or s [] ++ v))) means
            (ap (appended m k v (deadline_at m k)) (seen_string means k ∙ e)
            ∙ ap (λ b. cond b (Err TooLarge) (Ok (number (length (unwrap_or s [] ++ v)), put_string m k (unwrap_or s [] ++ v) (deadline_at m k)))) small
            ∙ ap (λ dl. Ok (number (length (unwrap_or s [] ++ v)), put_string m k (unwrap_or s [] ++ v) dl)) (seen_deadline means k))
            refl (name_is_key k (name_within k within.names)) (touched_again m _ (cmd.Append k v w) k (among_itself k))
            (found_deadline_fits _ (live_is_found c t k)) (not_too_large (unwrap_or s [] ++ v) small)
    by_outcome m means (Err fault) e =
        refused_plan fresh (cmd.Append k v w) fault means (ap (appended m k v (deadline_at m k)) (seen_string means k ∙ e))

-- ---- INCR, DECR, INCRBY and DECRBY

-- a text of a few bytes is a payload
pub short_text : (v : Bytes) → length v ≤ 40 → IsTrue (is_payload v)
short_text v h = grind (arith, nat_tests)

-- the text of a number of 64 bits is short
pub number_is_payload : (z : ℤ) → IsTrue (fits z) → IsTrue (is_payload (int_text z))
number_is_payload (pos n) h =
    let low : n < 2 ^ 63 = grind (arith, nat_tests, h) in
    let short : length (int_text (pos n)) ≤ 20 = length_signed_le 19 (pos n) (omega arith) (omega arith) in
    short_text (int_text (pos n)) (omega arith)
number_is_payload (negsuc n) h =
    let low : n < 2 ^ 63 = grind (arith, nat_tests, h) in
    let short : length (int_text (negsuc n)) ≤ 20 = length_signed_le 19 (negsuc n) (omega arith) (omega arith) in
    short_text (int_text (negsuc n)) (omega arith)

-- a sum fits
sum_fits : (o : Outcome (Option Bytes)) (n z : ℤ) → (o >>= λ s. added NotInt s n) ≡ Ok z → IsTrue (fits z)
sum_fits (Err e) n z is = absurd (cc)
sum_fits (Ok s) n z is = by_counter (counter NotInt s) is
  where
    by_counter : (a : Outcome ℤ) → (a >>= λ a. cond (fits (a +ℤ n)) (Ok (a +ℤ n)) (Err Overflow)) ≡ Ok z → fits z ≡ true
    by_counter (Err e) is = absurd (cc)
    by_counter (Ok a) is = by_test (fits (a +ℤ n)) refl is
      where
        by_test : (b : Bool) → fits (a +ℤ n) ≡ b → cond b (Ok (a +ℤ n)) (Err Overflow) ≡ Ok z → fits z ≡ true
        by_test true e is = let sum : a +ℤ n ≡ z = cc in ap fits (sym sum) ∙ e
        by_test false e is = absurd (cc)

-- a sum is answered and put
abbrev summed : RedisMap → Bytes → Option ℕ → ℤ → Outcome (Reply × RedisMap)
summed m k dl z = Ok (reply.Int z, put_string m k (int_text z) dl)

counted : (m : RedisMap) (k : Bytes) (n : ℤ) (dl : Option ℕ) (o : Outcome (Option Bytes)) → (o >>= λ old. added NotInt old n >>= summed m k dl) ≡ (o >>= (λ old. added NotInt old n) >>= summed m k dl)
counted m k n dl (Ok old) = refl
counted m k n dl (Err e) = refl

counts : (c : Rows) (t fresh : ℕ) (d : Command) (k : Bytes) (n : ℤ) → ((m : RedisMap) → carried_out m t d ≡ incr_by m k n) → keys_of d ≡ k ∷ []
    → ((m m' : RedisMap) → written_again m m' d ≡ k ∷ []) → IsName k → CarriesOut c t fresh d (incr_plan t (live_at c t k) k n)
unfolding incr_plan
counts c t fresh d k n is one again name = record { law = λ m means. by_sum m means (string_in (live_at c t k) >>= λ s. added NotInt s n) refl }
  where
    comes_to : (m : RedisMap) → Means c t m → (o : Outcome ℤ) → (string_in (live_at c t k) >>= λ s. added NotInt s n) ≡ o
        → carried_out m t d ≡ (o >>= summed m k (deadline_in (live_at c t k)))
    comes_to m means o e =
        is m
        ∙ ap (λ (s : Outcome (Option Bytes)). s >>= λ old. added NotInt old n >>= summed m k (deadline_at m k)) (seen_string means k)
        ∙ ap (λ (dl : Option ℕ). string_in (live_at c t k) >>= λ old. added NotInt old n >>= summed m k dl) (seen_deadline means k)
        ∙ counted m k n (deadline_in (live_at c t k)) (string_in (live_at c t k))
        ∙ ap (λ (s : Outcome ℤ). s >>= summed m k (deadline_in (live_at c t k))) e

    by_sum : (m : RedisMap) → Means c t m → (o : Outcome ℤ) → (string_in (live_at c t k) >>= λ s. added NotInt s n) ≡ o
        → let p = counting t k (deadline_in (live_at c t k)) o in IsPlanOf c t fresh m d p.batch p.reply p.until
    by_sum m means (Ok z) e =
        string_plan fresh d k (int_text z) (deadline_in (live_at c t k)) (reply.Int z) means (comes_to m means (Ok z) e)
        one (name_is_key k name) (touched_again m _ d k (ap (λ ks. among ks k) (again m _) ∙ among_itself k))
        (found_deadline_fits _ (live_is_found c t k)) (number_is_payload z (sum_fits (string_in (live_at c t k)) n z e))
    by_sum m means (Err fault) e = with_one_key c t fresh m d _ (reply.Error fault) k one (refused_plan fresh d fault means (comes_to m means (Err fault) e))

pub incr_carries : (c : Rows) (t fresh : ℕ) (k : Bytes) (w : ℕ) → IsWithin (cmd.Incr k w) → CarriesOut c t fresh (cmd.Incr k w) (incr_plan t (live_at c t k) k (pos 1))
unfolding carried_out
incr_carries c t fresh k w within = counts c t fresh (cmd.Incr k w) k (pos 1) (λ m. refl) refl (λ m n. refl) (name_within k within.names)

pub decr_carries : (c : Rows) (t fresh : ℕ) (k : Bytes) (w : ℕ) → IsWithin (cmd.Decr k w) → CarriesOut c t fresh (cmd.Decr k w) (incr_plan t (live_at c t k) k (negsuc 0))
unfolding carried_out
decr_carries c t fresh k w within = counts c t fresh (cmd.Decr k w) k (negsuc 0) (λ m. refl) refl (λ m n. refl) (name_within k within.names)

pub incr_by_carries : (c : Rows) (t fresh : ℕ) (k : Bytes) (n : ℤ) (w : ℕ) → IsWithin (cmd.IncrBy k n w) → CarriesOut c t fresh (cmd.IncrBy k n w) (incr_plan t (live_at c t k) k n)
unfolding carried_out
incr_by_carries c t fresh k n w within = counts c t fresh (cmd.IncrBy k n w) k n (λ m. refl) refl (λ m n. refl) (name_within k within.names)

pub decr_by_carries : (c : Rows) (t fresh : ℕ) (k : Bytes) (n : ℤ) (w : ℕ) → IsWithin (cmd.DecrBy k n w) → CarriesOut c t fresh (cmd.DecrBy k n w) (incr_plan t (live_at c t k) k (neg_ℤ n))
unfolding carried_out
decr_by_carries c t fresh k n w within = counts c t fresh (cmd.DecrBy k n w) k (neg_ℤ n) (λ m. refl) refl (λ m n. refl) (name_within k within.names)
