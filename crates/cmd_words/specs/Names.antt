-- The names of the commands.
use Rattle.std.specs.Prelude.{ℕ, ◌==◌, nat_lt, not, if◌then◌else◌, List, [], ◌∷◌, length, filter, get_or, Option, Some, None, codes}
use Rattle.kv_base.specs.Map.{Bytes}
use Rattle.cmd_words.specs.Words.{is, lower}
use Rattle.cmd_words.specs.declared.name.Name.{Name}
use Rattle.cmd_words.specs.declared.name.Name.TheVariants as name
use Rattle.cmd_words.specs.declared.no_keys.NoKeyName.TheVariants as no_keys
use Rattle.cmd_words.specs.declared.strings.StringName.TheVariants as strings
use Rattle.cmd_words.specs.declared.keys.KeyName.TheVariants as keys
use Rattle.cmd_words.specs.declared.hashes.HashName.TheVariants as hashes
use Rattle.cmd_words.specs.declared.lists.ListName.TheVariants as lists
use Rattle.cmd_words.specs.declared.sets.SetName.TheVariants as sets
use Rattle.cmd_words.specs.declared.sorted_sets.SortedSetName.TheVariants as sorted_sets
use Rattle.cmd_words.specs.declared.session.SessionName.TheVariants as session

-- a name, in lower case, and what it names
abbrev pub Names : Type 0
Names = List (Bytes × Name)

abbrev pub names : Names
names =
    (codes "ping", name.NoKeys no_keys.Ping) ∷
    (codes "echo", name.NoKeys no_keys.Echo) ∷
    (codes "select", name.NoKeys no_keys.Select) ∷
    (codes "get", name.Strings strings.Get) ∷
    (codes "set", name.Strings strings.Set) ∷
    (codes "setnx", name.Strings strings.SetNx) ∷
    (codes "setex", name.Strings strings.SetEx) ∷
    (codes "psetex", name.Strings strings.PSetEx) ∷
    (codes "getset", name.Strings strings.GetSet) ∷
    (codes "getdel", name.Strings strings.GetDel) ∷
    (codes "mget", name.Strings strings.MGet) ∷
    (codes "mset", name.Strings strings.MSet) ∷
    (codes "append", name.Strings strings.Append) ∷
    (codes "strlen", name.Strings strings.StrLen) ∷
    (codes "getrange", name.Strings strings.GetRange) ∷
    (codes "incr", name.Strings strings.Incr) ∷
    (codes "decr", name.Strings strings.Decr) ∷
    (codes "incrby", name.Strings strings.IncrBy) ∷
    (codes "decrby", name.Strings strings.DecrBy) ∷
    (codes "del", name.Keys keys.Del) ∷
    (codes "exists", name.Keys keys.Exists) ∷
    (codes "type", name.Keys keys.TypeOf) ∷
    (codes "expire", name.Keys keys.Expire) ∷
    (codes "pexpire", name.Keys keys.PExpire) ∷
    (codes "expireat", name.Keys keys.ExpireAt) ∷
    (codes "pexpireat", name.Keys keys.PExpireAt) ∷
    (codes "ttl", name.Keys keys.Ttl) ∷
    (codes "pttl", name.Keys keys.PTtl) ∷
    (codes "persist", name.Keys keys.Persist) ∷
    (codes "hset", name.Hashes hashes.HSet) ∷
    (codes "hsetnx", name.Hashes hashes.HSetNx) ∷
    (codes "hget", name.Hashes hashes.HGet) ∷
    (codes "hmget", name.Hashes hashes.HMGet) ∷
    (codes "hdel", name.Hashes hashes.HDel) ∷
    (codes "hlen", name.Hashes hashes.HLen) ∷
    (codes "hexists", name.Hashes hashes.HExists) ∷
    (codes "hstrlen", name.Hashes hashes.HStrLen) ∷
    (codes "hgetall", name.Hashes hashes.HGetAll) ∷
    (codes "hkeys", name.Hashes hashes.HKeys) ∷
    (codes "hvals", name.Hashes hashes.HVals) ∷
    (codes "hincrby", name.Hashes hashes.HIncrBy) ∷
    (codes "lpush", name.Lists lists.LPush) ∷
    (codes "rpush", name.Lists lists.RPush) ∷
    (codes "lpushx", name.Lists lists.LPushX) ∷
    (codes "rpushx", name.Lists lists.RPushX) ∷
    (codes "lpop", name.Lists lists.LPop) ∷
    (codes "rpop", name.Lists lists.RPop) ∷
    (codes "llen", name.Lists lists.LLen) ∷
    (codes "lindex", name.Lists lists.LIndex) ∷
    (codes "lset", name.Lists lists.LSet) ∷
    (codes "lrange", name.Lists lists.LRange) ∷
    (codes "ltrim", name.Lists lists.LTrim) ∷
    (codes "rpoplpush", name.Lists lists.RPopLPush) ∷
    (codes "lmove", name.Lists lists.LMove) ∷
    (codes "sadd", name.Sets sets.SAdd) ∷
    (codes "srem", name.Sets sets.SRem) ∷
    (codes "sismember", name.Sets sets.SIsMember) ∷
    (codes "smismember", name.Sets sets.SMIsMember) ∷
    (codes "scard", name.Sets sets.SCard) ∷
    (codes "smembers", name.Sets sets.SMembers) ∷
    (codes "smove", name.Sets sets.SMove) ∷
    (codes "sinter", name.Sets sets.SInter) ∷
    (codes "sunion", name.Sets sets.SUnion) ∷
    (codes "sdiff", name.Sets sets.SDiff) ∷
    (codes "sinterstore", name.Sets sets.SInterStore) ∷
    (codes "sunionstore", name.Sets sets.SUnionStore) ∷
    (codes "sdiffstore", name.Sets sets.SDiffStore) ∷
    (codes "zadd", name.SortedSets sorted_sets.ZAdd) ∷
    (codes "zrem", name.SortedSets sorted_sets.ZRem) ∷
    (codes "zscore", name.SortedSets sorted_sets.ZScore) ∷
    (codes "zcard", name.SortedSets sorted_sets.ZCard) ∷
    (codes "zcount", name.SortedSets sorted_sets.ZCount) ∷
    (codes "zrank", name.SortedSets sorted_sets.ZRank) ∷
    (codes "zrevrank", name.SortedSets sorted_sets.ZRevRank) ∷
    (codes "zrange", name.SortedSets sorted_sets.ZRange) ∷
    (codes "zrevrange", name.SortedSets sorted_sets.ZRevRange) ∷
    (codes "zrangebyscore", name.SortedSets sorted_sets.ZRangeByScore) ∷
    (codes "zincrby", name.SortedSets sorted_sets.ZIncrBy) ∷
    (codes "zremrangebyrank", name.SortedSets sorted_sets.ZRemRangeByRank) ∷
    (codes "zremrangebyscore", name.SortedSets sorted_sets.ZRemRangeByScore) ∷
    (codes "zpopmin", name.SortedSets sorted_sets.ZPopMin) ∷
    (codes "zpopmax", name.SortedSets sorted_sets.ZPopMax) ∷
    (codes "multi", name.Session session.Multi) ∷
    (codes "exec", name.Session session.Exec) ∷
    (codes "discard", name.Session session.Discard) ∷
    (codes "quit", name.Session session.Quit) ∷
    (codes "kvr", name.Session session.Kvr) ∷
    []

-- what a word names, in any case
unfoldable pub find_name : Names → Bytes → Option Name
find_name [] word = None
find_name (n ∷ ns) word = if is n.0 word then Some n.1 else find_name ns word

unfoldable pub named : Bytes → Option Name
named word = find_name names word

-- ---- parts of the names, by which one is found

abbrev pub starting : ℕ → Names
starting byte = filter (λ n. get_or (lower n.0) 0 0 == byte) names

abbrev pub shorter : ℕ → Names → Names
shorter length_limit = filter (λ n. nat_lt (length (lower n.0)) length_limit)

abbrev pub longer : ℕ → Names → Names
longer length_limit = filter (λ n. not (nat_lt (length (lower n.0)) length_limit))
