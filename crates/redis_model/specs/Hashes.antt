-- The commands on hashes, after the Redis command reference. A hash that becomes empty leaves no key, and its key's
-- deadline stays while it is there.
use Rattle.std.specs.Prelude.{◌-◌, not, if◌then◌else◌, List, [], map, zip, flat_map, length, unwrap_or, ℤ, Ok, ◌∷◌}
use Rattle.kv_base.specs.Map.{Bytes, Map, get, has, insert, insert_all, keep, keys, values, size}
use Rattle.kv_base.specs.Number.{int_text}
use Rattle.redis_model.specs.declared.reply.Reply.{Reply}
use Rattle.redis_model.specs.declared.reply.Reply.TheVariants as reply
use Rattle.redis_model.specs.declared.reply.ReplyError.TheVariants.{HashNotInt}
use Rattle.redis_model.specs.Value.{RedisMap}
use Rattle.redis_model.specs.Outcome.{Outcome, ◌>>=◌, number, yes_no, bulk_or_null, bulks, hashes, reading, changing}
use Rattle.redis_model.specs.Strings.{added}
use Rattle.redis_model.specs.Keys.{among}

-- HSET (Redis command reference): sets each field to its value and answers the number of new fields; of a field that comes
-- twice the last value stays
abbrev pub set_fields : List Bytes → List Bytes → Map Bytes → Outcome (Reply × Map Bytes)
set_fields fs vs h = let new = insert_all h (zip fs vs) in Ok (number (size new - size h), new)

abbrev pub h_set : RedisMap → Bytes → List Bytes → List Bytes → Outcome (Reply × RedisMap)
h_set m k fs vs = changing hashes m k (set_fields fs vs)

-- HSETNX (Redis command reference): sets the field only where it is not there; 1, or 0 where it is
abbrev pub add_field : Bytes → Bytes → Map Bytes → Outcome (Reply × Map Bytes)
add_field f v h = if has h f then Ok (number 0, h) else Ok (number 1, insert h f v)

abbrev pub h_set_nx : RedisMap → Bytes → Bytes → Bytes → Outcome (Reply × RedisMap)
h_set_nx m k f v = changing hashes m k (add_field f v)

-- HGET (Redis command reference): the field's value, or null
abbrev pub h_get : RedisMap → Bytes → Bytes → Outcome (Reply × RedisMap)
h_get m k f = reading hashes m k (λ h. bulk_or_null (get h f))

-- HMGET (Redis command reference): for each field its value, or null
abbrev pub h_m_get : RedisMap → Bytes → List Bytes → Outcome (Reply × RedisMap)
h_m_get m k fs = reading hashes m k (λ h. reply.Array (map (λ f. bulk_or_null (get h f)) fs))

-- HDEL (Redis command reference): the number of fields that go; a field that comes twice counts once
abbrev pub remove_fields : List Bytes → Map Bytes → Outcome (Reply × Map Bytes)
remove_fields fs h = let rest = keep (λ f _. not (among fs f)) h in Ok (number (size h - size rest), rest)

abbrev pub h_del : RedisMap → Bytes → List Bytes → Outcome (Reply × RedisMap)
h_del m k fs = changing hashes m k (remove_fields fs)

-- HLEN (Redis command reference): the number of fields
abbrev pub h_len : RedisMap → Bytes → Outcome (Reply × RedisMap)
h_len m k = reading hashes m k (λ h. number (size h))

-- HEXISTS (Redis command reference): 1 or 0
abbrev pub h_exists : RedisMap → Bytes → Bytes → Outcome (Reply × RedisMap)
h_exists m k f = reading hashes m k (λ h. yes_no (has h f))

-- HSTRLEN (Redis command reference): the length of the field's value, 0 where there is none
abbrev pub h_str_len : RedisMap → Bytes → Bytes → Outcome (Reply × RedisMap)
h_str_len m k f = reading hashes m k (λ h. number (length (unwrap_or (get h f) [])))

-- HGETALL, HKEYS and HVALS (Redis command reference): fields with values, fields, values. The order by the fields' bytes is
-- this server's own; Redis leaves it open
abbrev pub h_get_all : RedisMap → Bytes → Outcome (Reply × RedisMap)
h_get_all m k = reading hashes m k (λ h. bulks (flat_map (λ e. e.0 ∷ e.1 ∷ []) h.entries))

abbrev pub h_keys : RedisMap → Bytes → Outcome (Reply × RedisMap)
h_keys m k = reading hashes m k (λ h. bulks (keys h))

abbrev pub h_vals : RedisMap → Bytes → Outcome (Reply × RedisMap)
h_vals m k = reading hashes m k (λ h. bulks (values h))

-- HINCRBY (Redis command reference): adds to the number in the field, 0 where there is none, and answers the sum
abbrev pub raise_field : Bytes → ℤ → Map Bytes → Outcome (Reply × Map Bytes)
raise_field f n h = added HashNotInt (get h f) n >>= λ z. Ok (reply.Int z, insert h f (int_text z))

abbrev pub h_incr_by : RedisMap → Bytes → Bytes → ℤ → Outcome (Reply × RedisMap)
h_incr_by m k f n = changing hashes m k (raise_field f n)
