-- The commands on strings look at their own keys alone.
use Rattle.std.proofs.Common.{◌≡◌, ℕ, List, [], ◌∷◌, ◌++◌, length, refl, ap}
use Rattle.std.specs.Prelude.{map, zip, fold, Option, None, is_some, unwrap_or, ℤ, nat_lt}
use Rattle.kv_base.specs.Map.{Bytes, get, has}
use Rattle.redis_model.specs.declared.reply.Reply.{Reply}
use Rattle.redis_model.specs.declared.reply.Reply.TheVariants as reply
use Rattle.redis_model.specs.declared.reply.ReplyError.TheVariants.{NotInt}
use Rattle.redis_model.specs.declared.command.When.{When}
use Rattle.redis_model.specs.declared.command.Expiry.{Expiry}
use Rattle.redis_model.specs.Value.{Str, Entry, RedisMap}
use Rattle.redis_model.specs.Outcome.{Outcome, ◌>>=◌, string_of, string_at, put_string}
use Rattle.redis_model.specs.Strings.{allowed, deadline_of, set, set_nx, read, get_set, get_del, shown, m_get, m_set, max_string, append, str_len, get_range, added, incr_by}
use Rattle.key_locality.specs.Agree.{AgreeOn, Alike}
use Rattle.key_locality.specs.Alike.{agree_first, agree_later, agree_insert, agree_remove, same_deadline_at, alike_then, alike_if}

-- whether a key is there, in maps that agree at it
pub same_has : (m n : RedisMap) (k : Bytes) → get m k ≡ get n k → has m k ≡ has n k
same_has m n k here = ap (λ (o : Option Entry). is_some o) here

-- the same string put into both maps
pub put_string_agrees : (ks : List Bytes) (m n : RedisMap) (k v : Bytes) (d e : Option ℕ) → d ≡ e → AgreeOn ks m n → AgreeOn ks (put_string m k v d) (put_string n k v e)
put_string_agrees ks m n k v d e is agree = agree_insert ks m n k _ _ (λ i. record { value = Str v; deadline = is i }) agree

-- ---- one key

module _ (ks : List Bytes) (m n : RedisMap) (agree : AgreeOn ks m n) (k : Bytes) (here : get m k ≡ get n k) where
  -- the string at a key, and then alike
  string_alike : (f g : Option Bytes → Outcome (Reply × RedisMap)) → ((o : Option Bytes) → Alike ks (f o) (g o)) → Alike ks (string_at m k >>= f) (string_at n k >>= g)
  string_alike f g = alike_then ks (string_at m k) (string_at n k) f g (ap string_of here)

  -- SET and SETEX, SETNX, GET, GETSET, GETDEL, APPEND, STRLEN, GETRANGE, and the counters
  pub set_alike : (v : Bytes) (w : When) (x : Expiry) → Alike ks (set m k v w x) (set n k v w x)
  set_alike v w x =
      alike_if ks (allowed w (has m k)) (allowed w (has n k)) _ _ _ _ (ap (allowed w) (same_has m n k here))
      (refl, put_string_agrees ks m n k v _ _ (ap (deadline_of x) (same_deadline_at m n k here)) agree)
      (refl, agree)

  pub set_nx_alike : (v : Bytes) → Alike ks (set_nx m k v) (set_nx n k v)
  set_nx_alike v =
      alike_if ks (has m k) (has n k) _ _ _ _ (same_has m n k here) (refl, agree) (refl, put_string_agrees ks m n k v None None refl agree)

  pub read_alike : Alike ks (read m k) (read n k)
  read_alike = string_alike _ _ (λ o. (refl, agree))

  pub get_set_alike : (v : Bytes) → Alike ks (get_set m k v) (get_set n k v)
  get_set_alike v = string_alike _ _ (λ o. (refl, put_string_agrees ks m n k v None None refl agree))

  pub get_del_alike : Alike ks (get_del m k) (get_del n k)
  get_del_alike = string_alike _ _ (λ o. (refl, agree_remove ks m n k agree))

  pub append_alike : (v : Bytes) → Alike ks (append m k v) (append n k v)
  append_alike v =
      string_alike _ _ (λ o. alike_if ks (nat_lt max_string (length (unwrap_or o [] ++ v))) _ _ _ _ _ refl refl
      (refl, put_string_agrees ks m n k (unwrap_or o [] ++ v) _ _ (same_deadline_at m n k here) agree))

  pub str_len_alike : Alike ks (str_len m k) (str_len n k)
  str_len_alike = string_alike _ _ (λ o. (refl, agree))

  pub get_range_alike : (a b : ℤ) → Alike ks (get_range m k a b) (get_range n k a b)
  get_range_alike a b = string_alike _ _ (λ o. (refl, agree))

  pub incr_alike : (i : ℤ) → Alike ks (incr_by m k i) (incr_by n k i)
  incr_alike i =
      string_alike _ _ (λ o. alike_then ks (added NotInt o i) _ _ _ refl (λ z. (refl, put_string_agrees ks m n k _ _ _ (same_deadline_at m n k here) agree)))

-- ---- any number of keys

-- MGET shows the same
same_shown : (ks : List Bytes) (m n : RedisMap) → AgreeOn ks m n → map (λ k. shown (string_at m k)) ks ≡ map (λ k. shown (string_at n k)) ks
same_shown [] m n agree = refl
same_shown (k ∷ ks) m n agree = λ i. shown (string_of (agree_first k ks m n agree i)) ∷ same_shown ks m n (agree_later k ks m n agree) i

pub m_get_alike : (ks : List Bytes) (m n : RedisMap) → AgreeOn ks m n → Alike ks (m_get m ks) (m_get n ks)
m_get_alike ks m n agree = (λ i. reply.Array (same_shown ks m n agree i), agree)

-- the same strings put into both maps
all_put : (named ks vs : List Bytes) (m n : RedisMap) → AgreeOn named m n → AgreeOn named (fold (λ n e. put_string n e.0 e.1 None) m (zip ks vs)) (fold (λ n e. put_string n e.0 e.1 None) n (zip ks vs))
all_put named [] vs m n agree = agree
all_put named (k ∷ ks) [] m n agree = agree
all_put named (k ∷ ks) (v ∷ vs) m n agree = all_put named ks vs (put_string m k v None) (put_string n k v None) (put_string_agrees named m n k v None None refl agree)

pub m_set_alike : (named ks vs : List Bytes) (m n : RedisMap) → AgreeOn named m n → Alike named (m_set m ks vs) (m_set n ks vs)
m_set_alike named ks vs m n agree = (refl, all_put named ks vs m n agree)
