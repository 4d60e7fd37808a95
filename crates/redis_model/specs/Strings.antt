-- The commands on strings, after the Redis command reference.
use Rattle.std.specs.Prelude.{ℕ, ◌+◌, ◌-◌, ◌^◌, Bool, true, not, if◌then◌else◌, nat_lt, List, [], ◌++◌, map, zip, fold, length, take, drop, min, Option, Some, None, is_some, unwrap_or, ℤ, pos, negsuc, ◌+ℤ◌, Ok, Err}
use Rattle.kv_base.specs.Map.{Bytes, has, remove}
use Rattle.kv_base.specs.Number.{int_text, read_int, fits}
use Rattle.redis_model.specs.declared.reply.Reply.{Reply}
use Rattle.redis_model.specs.declared.reply.Reply.TheVariants as reply
use Rattle.redis_model.specs.declared.reply.ReplyError.{ReplyError}
use Rattle.redis_model.specs.declared.reply.ReplyError.TheVariants.{NotInt, Overflow, TooLarge}
use Rattle.redis_model.specs.declared.command.When.{When}
use Rattle.redis_model.specs.declared.command.When.TheVariants as when
use Rattle.redis_model.specs.declared.command.Expiry.{Expiry}
use Rattle.redis_model.specs.declared.command.Expiry.TheVariants as expiry
use Rattle.redis_model.specs.Value.{RedisMap, deadline_at}
use Rattle.redis_model.specs.Outcome.{Outcome, ◌>>=◌, number, bulk_or_null, string_at, put_string}

-- a deadline below 0 counts as 0, since no moment is below either (this server's own)
abbrev pub moment_of : ℤ → ℕ
moment_of (pos n) = n
moment_of (negsuc n) = 0

-- The deadline that a key has afterwards, where it had this one before. A command is carried out once its amount of time
-- has become a deadline; one that has not counts from the start of 1970.
abbrev pub deadline_of : Expiry → Option ℕ → Option ℕ
deadline_of expiry.None old = None
deadline_of expiry.Keep old = old
deadline_of (expiry.At d) old = Some (moment_of d)
deadline_of (expiry.After n) old = Some (moment_of n)

-- NX wants no key, and XX wants one (Redis command reference, SET)
abbrev pub allowed : When → Bool → Bool
allowed when.Any there = true
allowed when.IfAbsent there = not there
allowed when.IfPresent there = there

-- SET (Redis command reference), and SETEX and PSETEX, which have no options: over whatever the key held. Null where NX finds
-- the key or XX does not; the deadline goes, but with KEEPTTL it stays
abbrev pub set : RedisMap → Bytes → Bytes → When → Expiry → Outcome (Reply × RedisMap)
set m k v w x =
    if allowed w (has m k) then Ok (reply.Ok, put_string m k v (deadline_of x (deadline_at m k)))
    else Ok (reply.Null, m)

-- SETNX (Redis command reference): 1, or 0 where the key is there
abbrev pub set_nx : RedisMap → Bytes → Bytes → Outcome (Reply × RedisMap)
set_nx m k v = if has m k then Ok (number 0, m) else Ok (number 1, put_string m k v None)

-- GET (Redis command reference): the string, or null
abbrev pub read : RedisMap → Bytes → Outcome (Reply × RedisMap)
read m k = string_at m k >>= λ v. Ok (bulk_or_null v, m)

-- GETSET (Redis command reference): the old string, or null; the deadline goes
abbrev pub get_set : RedisMap → Bytes → Bytes → Outcome (Reply × RedisMap)
get_set m k v = string_at m k >>= λ old. Ok (bulk_or_null old, put_string m k v None)

-- GETDEL (Redis command reference): the string, or null; the key goes
abbrev pub get_del : RedisMap → Bytes → Outcome (Reply × RedisMap)
get_del m k = string_at m k >>= λ v. Ok (bulk_or_null v, remove m k)

-- MGET (Redis command reference): for each key its string, or null, also at a key of another type
abbrev pub shown : Outcome (Option Bytes) → Reply
shown (Ok v) = bulk_or_null v
shown (Err e) = reply.Null

abbrev pub m_get : RedisMap → List Bytes → Outcome (Reply × RedisMap)
m_get m ks = Ok (reply.Array (map (λ k. shown (string_at m k)) ks), m)

-- MSET (Redis command reference): sets each key to its value, over whatever it held and without a deadline; of a key that
-- comes twice the last value stays
abbrev pub m_set : RedisMap → List Bytes → List Bytes → Outcome (Reply × RedisMap)
m_set m ks vs = Ok (reply.Ok, fold (λ n e. put_string n e.0 e.1 None) m (zip ks vs))

-- how many bytes a string has at most: 1 MiB (this server's own)
abbrev pub max_string : ℕ
max_string = 2 ^ 20

-- APPEND (Redis command reference): the new length; the deadline stays. Nothing appended to no key makes an empty string
abbrev pub append : RedisMap → Bytes → Bytes → Outcome (Reply × RedisMap)
append m k v =
    string_at m k >>= λ old. let all = unwrap_or old [] ++ v in
    if nat_lt max_string (length all) then Err TooLarge
    else Ok (number (length all), put_string m k all (deadline_at m k))

-- STRLEN (Redis command reference): the length, 0 for no key
abbrev pub str_len : RedisMap → Bytes → Outcome (Reply × RedisMap)
str_len m k = string_at m k >>= λ v. Ok (number (length (unwrap_or v [])), m)

-- Where a range of places begins, and where it has ended, in a list of n items (Redis command reference, LRANGE). A negative
-- place counts from the end, where -1 is the last; what lies beyond an end counts up to it.
abbrev pub start_at : ℕ → ℤ → ℕ
start_at n (pos a) = a
start_at n (negsuc a) = n - (a + 1)

abbrev pub end_at : ℕ → ℤ → ℕ
end_at n (pos b) = min (b + 1) n
end_at n (negsuc b) = n - b

-- The items from place a to place b, both counted in. Where the range ends before the first item it is empty; that is this
-- server's own for GETRANGE, where Redis gives the first byte.
abbrev pub range {ℓ} : {A : Type ℓ} → List A → ℤ → ℤ → List A
range xs a b = let from = start_at (length xs) a in take (end_at (length xs) b - from) (drop from xs)

-- GETRANGE (Redis command reference): the bytes, none for no key
abbrev pub get_range : RedisMap → Bytes → ℤ → ℤ → Outcome (Reply × RedisMap)
get_range m k a b = string_at m k >>= λ v. Ok (reply.Bulk (range (unwrap_or v []) a b), m)

-- what a counter holds, 0 where there is none; a text that is no number of 64 bits is an error
abbrev pub counter : ReplyError → Option Bytes → Outcome ℤ
counter e None = Ok (pos 0)
counter e (Some v) = if is_some (read_int v) then Ok (unwrap_or (read_int v) (pos 0)) else Err e

-- the sum, which has to fit 64 bits
abbrev pub added : ReplyError → Option Bytes → ℤ → Outcome ℤ
added e old n = counter e old >>= λ a. if fits (a +ℤ n) then Ok (a +ℤ n) else Err Overflow

-- INCR, DECR, INCRBY and DECRBY (Redis command reference): the new number; the deadline stays
abbrev pub incr_by : RedisMap → Bytes → ℤ → Outcome (Reply × RedisMap)
incr_by m k n = string_at m k >>= λ old. added NotInt old n >>= λ z. Ok (reply.Int z, put_string m k (int_text z) (deadline_at m k))
