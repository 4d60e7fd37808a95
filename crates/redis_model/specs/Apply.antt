-- The table of the data commands: what each comes to, after the Redis command reference.
use Rattle.std.specs.Prelude.{ℕ, ◌^◌, min, Option, Some, None, pos, negsuc, neg_ℤ, ◌+ℤ◌, Ok}
use Rattle.kv_base.specs.Map.{Bytes}
use Rattle.redis_model.specs.declared.reply.Reply.{Reply}
use Rattle.redis_model.specs.declared.reply.Reply.TheVariants as reply
use Rattle.redis_model.specs.declared.command.Command.{Command}
use Rattle.redis_model.specs.declared.command.Command.TheVariants as cmd
use Rattle.redis_model.specs.declared.command.End.TheVariants.{Left, Right}
use Rattle.redis_model.specs.declared.command.When.TheVariants as when
use Rattle.redis_model.specs.declared.command.Expiry.{Expiry}
use Rattle.redis_model.specs.declared.command.Expiry.TheVariants as expiry
use Rattle.redis_model.specs.Value.{RedisMap}
use Rattle.redis_model.specs.Outcome.{Outcome, answered}
use Rattle.redis_model.specs.Strings.{read, set, set_nx, get_set, get_del, m_get, m_set, append, str_len, get_range, incr_by}
use Rattle.redis_model.specs.Keys.{del, exists, type_of, expire, ttl, p_ttl, persist}
use Rattle.redis_model.specs.Hashes.{h_set, h_set_nx, h_get, h_m_get, h_del, h_len, h_exists, h_str_len, h_get_all, h_keys, h_vals, h_incr_by}
use Rattle.redis_model.specs.Lists.{push, push_x, pop, l_len, l_index, l_set, l_range, l_trim, l_move}
use Rattle.redis_model.specs.Sets.{s_add, s_rem, s_is_member, s_m_is_member, s_card, s_members, s_move, inter, union, diff, combined, stored}
use Rattle.redis_model.specs.SortedSets.{z_add, z_rem, z_score, z_card, z_count, z_rank, z_rev_rank, z_range, z_rev_range, z_range_by_score, z_incr_by, z_rem_range_by_rank, z_rem_range_by_score, z_pop_min, z_pop_max}

-- PING (Redis command reference): Pong, or the word that came with it
abbrev pub ping : Option Bytes → Reply
ping None = reply.Pong
ping (Some v) = reply.Bulk v

-- What a command comes to on the map m at the moment t, which TTL and PTTL alone read. Its deadline is absolute. INCR and
-- DECR go up and down by 1, and DECRBY by the number turned round.
unfoldable pub carried_out : RedisMap → ℕ → Command → Outcome (Reply × RedisMap)
carried_out m t (cmd.Ping v w) = Ok (ping v, m)
carried_out m t (cmd.Echo v w) = Ok (reply.Bulk v, m)
carried_out m t (cmd.Select n w) = Ok (reply.Ok, m)
carried_out m t (cmd.Get k w) = read m k
carried_out m t (cmd.Set k v c x w) = set m k v c x
carried_out m t (cmd.SetNx k v w) = set_nx m k v
carried_out m t (cmd.SetEx k x v w) = set m k v when.Any x
carried_out m t (cmd.PSetEx k x v w) = set m k v when.Any x
carried_out m t (cmd.GetSet k v w) = get_set m k v
carried_out m t (cmd.GetDel k w) = get_del m k
carried_out m t (cmd.MGet ks w) = m_get m ks
carried_out m t (cmd.MSet ks vs w) = m_set m ks vs
carried_out m t (cmd.Append k v w) = append m k v
carried_out m t (cmd.StrLen k w) = str_len m k
carried_out m t (cmd.GetRange k a b w) = get_range m k a b
carried_out m t (cmd.Incr k w) = incr_by m k (pos 1)
carried_out m t (cmd.Decr k w) = incr_by m k (negsuc 0)
carried_out m t (cmd.IncrBy k n w) = incr_by m k n
carried_out m t (cmd.DecrBy k n w) = incr_by m k (neg_ℤ n)
carried_out m t (cmd.Del ks w) = del m ks
carried_out m t (cmd.Exists ks w) = exists m ks
carried_out m t (cmd.TypeOf k w) = type_of m k
carried_out m t (cmd.Expire k x w) = expire m k x
carried_out m t (cmd.PExpire k x w) = expire m k x
carried_out m t (cmd.ExpireAt k x w) = expire m k x
carried_out m t (cmd.PExpireAt k x w) = expire m k x
carried_out m t (cmd.Ttl k w) = ttl m t k
carried_out m t (cmd.PTtl k w) = p_ttl m t k
carried_out m t (cmd.Persist k w) = persist m k
carried_out m t (cmd.HSet k fs vs w) = h_set m k fs vs
carried_out m t (cmd.HSetNx k f v w) = h_set_nx m k f v
carried_out m t (cmd.HGet k f w) = h_get m k f
carried_out m t (cmd.HMGet k fs w) = h_m_get m k fs
carried_out m t (cmd.HDel k fs w) = h_del m k fs
carried_out m t (cmd.HLen k w) = h_len m k
carried_out m t (cmd.HExists k f w) = h_exists m k f
carried_out m t (cmd.HStrLen k f w) = h_str_len m k f
carried_out m t (cmd.HGetAll k w) = h_get_all m k
carried_out m t (cmd.HKeys k w) = h_keys m k
carried_out m t (cmd.HVals k w) = h_vals m k
carried_out m t (cmd.HIncrBy k f n w) = h_incr_by m k f n
carried_out m t (cmd.LPush k vs w) = push m k Left vs
carried_out m t (cmd.RPush k vs w) = push m k Right vs
carried_out m t (cmd.LPushX k vs w) = push_x m k Left vs
carried_out m t (cmd.RPushX k vs w) = push_x m k Right vs
carried_out m t (cmd.LPop k w) = pop m k Left
carried_out m t (cmd.RPop k w) = pop m k Right
carried_out m t (cmd.LLen k w) = l_len m k
carried_out m t (cmd.LIndex k i w) = l_index m k i
carried_out m t (cmd.LSet k i v w) = l_set m k i v
carried_out m t (cmd.LRange k a b w) = l_range m k a b
carried_out m t (cmd.LTrim k a b w) = l_trim m k a b
carried_out m t (cmd.RPopLPush a b w) = l_move m a b Right Left
carried_out m t (cmd.LMove a b from to w) = l_move m a b from to
carried_out m t (cmd.SAdd k xs w) = s_add m k xs
carried_out m t (cmd.SRem k xs w) = s_rem m k xs
carried_out m t (cmd.SIsMember k x w) = s_is_member m k x
carried_out m t (cmd.SMIsMember k xs w) = s_m_is_member m k xs
carried_out m t (cmd.SCard k w) = s_card m k
carried_out m t (cmd.SMembers k w) = s_members m k
carried_out m t (cmd.SMove a b x w) = s_move m a b x
carried_out m t (cmd.SInter ks w) = combined m inter ks
carried_out m t (cmd.SUnion ks w) = combined m union ks
carried_out m t (cmd.SDiff ks w) = combined m diff ks
carried_out m t (cmd.SInterStore d ks w) = stored m inter d ks
carried_out m t (cmd.SUnionStore d ks w) = stored m union d ks
carried_out m t (cmd.SDiffStore d ks w) = stored m diff d ks
carried_out m t (cmd.ZAdd k ss xs how w) = z_add m k ss xs how
carried_out m t (cmd.ZRem k xs w) = z_rem m k xs
carried_out m t (cmd.ZScore k x w) = z_score m k x
carried_out m t (cmd.ZCard k w) = z_card m k
carried_out m t (cmd.ZCount k low high w) = z_count m k low high
carried_out m t (cmd.ZRank k x w) = z_rank m k x
carried_out m t (cmd.ZRevRank k x w) = z_rev_rank m k x
carried_out m t (cmd.ZRange k a b s w) = z_range m k a b s
carried_out m t (cmd.ZRevRange k a b s w) = z_rev_range m k a b s
carried_out m t (cmd.ZRangeByScore k low high s l w) = z_range_by_score m k low high s l
carried_out m t (cmd.ZIncrBy k s x w) = z_incr_by m k s x
carried_out m t (cmd.ZRemRangeByRank k a b w) = z_rem_range_by_rank m k a b
carried_out m t (cmd.ZRemRangeByScore k low high w) = z_rem_range_by_score m k low high
carried_out m t (cmd.ZPopMin k n w) = z_pop_min m k n
carried_out m t (cmd.ZPopMax k n w) = z_pop_max m k n

-- the reply, and the map afterwards; after an error it is as before
unfoldable pub apply : RedisMap → ℕ → Command → Reply × RedisMap
apply m t c = answered m (carried_out m t c)

-- ---- an amount of time becomes a deadline, in milliseconds

-- a reading of the clock counts as at most 2^61 (this server's own)
abbrev pub counted_now : ℕ → ℕ
counted_now now = min now (2 ^ 61)

-- that long after the reading (Redis command reference, EXPIRE)
abbrev pub due_time : ℕ → Expiry → Expiry
due_time now (expiry.After n) = expiry.At (n +ℤ pos (counted_now now))
due_time now x = x

-- a command at a reading of the clock
abbrev pub due : ℕ → Command → Command
due now (cmd.Set k v c x w) = cmd.Set k v c (due_time now x) w
due now (cmd.SetEx k x v w) = cmd.SetEx k (due_time now x) v w
due now (cmd.PSetEx k x v w) = cmd.PSetEx k (due_time now x) v w
due now (cmd.Expire k x w) = cmd.Expire k (due_time now x) w
due now (cmd.PExpire k x w) = cmd.PExpire k (due_time now x) w
due now (cmd.ExpireAt k x w) = cmd.ExpireAt k (due_time now x) w
due now (cmd.PExpireAt k x w) = cmd.PExpireAt k (due_time now x) w
due now c = c
