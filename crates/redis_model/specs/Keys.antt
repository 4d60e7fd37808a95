-- The commands on keys of any type, after the Redis command reference.
use Rattle.std.specs.Prelude.{ℕ, ◌+◌, ◌-◌, ◌/◌, Bool, not, if◌then◌else◌, List, count_by, Option, Some, None, is_some, ℤ, pos, negsuc, Ok}
use Rattle.std.specs.List.{list_any}
use Rattle.kv_base.specs.Map.{Bytes, get, has, insert, keep, size, same}
use Rattle.redis_model.specs.declared.reply.Reply.{Reply}
use Rattle.redis_model.specs.declared.reply.Reply.TheVariants as reply
use Rattle.redis_model.specs.declared.reply.TypeWord.{TypeWord}
use Rattle.redis_model.specs.declared.reply.TypeWord.TheVariants as word
use Rattle.redis_model.specs.declared.command.Expiry.{Expiry}
use Rattle.redis_model.specs.Value.{Value, Str, Hash, ListOf, SetOf, ZSet, Entry, RedisMap}
use Rattle.redis_model.specs.Outcome.{Outcome, number}
use Rattle.redis_model.specs.Strings.{deadline_of}

-- whether a key is one of these
abbrev pub among : List Bytes → Bytes → Bool
among ks k = list_any (same k) ks

-- DEL (Redis command reference): the number of keys that go; a key that comes twice counts once
abbrev pub del : RedisMap → List Bytes → Outcome (Reply × RedisMap)
del m ks = let rest = keep (λ k _. not (among ks k)) m in Ok (number (size m - size rest), rest)

-- EXISTS (Redis command reference): how many are there; a key that comes twice counts twice
abbrev pub exists : RedisMap → List Bytes → Outcome (Reply × RedisMap)
exists m ks = Ok (number (count_by (has m) ks), m)

-- the word for a value's type
abbrev pub word_of : Value → TypeWord
word_of (Str v) = word.Str
word_of (Hash h) = word.Hash
word_of (ListOf l) = word.List
word_of (SetOf s) = word.Set
word_of (ZSet z) = word.ZSet

abbrev pub word_at : Option Entry → TypeWord
word_at None = word.None
word_at (Some e) = word_of e.value

-- TYPE (Redis command reference): the word for the type, or for no key
abbrev pub type_of : RedisMap → Bytes → Outcome (Reply × RedisMap)
type_of m k = Ok (reply.Word (word_at (get m k)), m)

-- EXPIRE, PEXPIRE, EXPIREAT and PEXPIREAT (Redis command reference): 1, or 0 for no key. A deadline that has passed is put
-- there too, and the key is expired then
abbrev pub expire_entry : RedisMap → Bytes → Expiry → Option Entry → Outcome (Reply × RedisMap)
expire_entry m k x None = Ok (number 0, m)
expire_entry m k x (Some e) = Ok (number 1, insert m k (record e { deadline = deadline_of x e.deadline }))

abbrev pub expire : RedisMap → Bytes → Expiry → Outcome (Reply × RedisMap)
expire m k x = expire_entry m k x (get m k)

-- the milliseconds that a key has left at t: -2 for no key, -1 for no deadline (Redis command reference, PTTL)
abbrev pub left_until : ℕ → Option ℕ → ℤ
left_until t None = negsuc 0
left_until t (Some d) = pos (d - t)

abbrev pub left : ℕ → Option Entry → ℤ
left t None = negsuc 1
left t (Some e) = left_until t e.deadline

-- to the nearest second, as Redis rounds
abbrev pub rounded_seconds : ℤ → ℤ
rounded_seconds (pos n) = pos ((n + 500) / 1000)
rounded_seconds (negsuc n) = negsuc n

-- PTTL and TTL (Redis command reference)
abbrev pub p_ttl : RedisMap → ℕ → Bytes → Outcome (Reply × RedisMap)
p_ttl m t k = Ok (reply.Int (left t (get m k)), m)

abbrev pub ttl : RedisMap → ℕ → Bytes → Outcome (Reply × RedisMap)
ttl m t k = Ok (reply.Int (rounded_seconds (left t (get m k))), m)

-- PERSIST (Redis command reference): 1 where a deadline goes, else 0
abbrev pub persist_entry : RedisMap → Bytes → Option Entry → Outcome (Reply × RedisMap)
persist_entry m k None = Ok (number 0, m)
persist_entry m k (Some e) = if is_some e.deadline then Ok (number 1, insert m k (record e { deadline = None })) else Ok (number 0, m)

abbrev pub persist : RedisMap → Bytes → Outcome (Reply × RedisMap)
persist m k = persist_entry m k (get m k)
