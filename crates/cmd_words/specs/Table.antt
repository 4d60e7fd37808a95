-- The table of the commands: what the words behind a name are read into. Names and answers are those of the Redis command
-- reference.
use Rattle.std.specs.Prelude.{ℕ, ℤ, pos, Bool, ◌==◌, nat_lt, if◌then◌else◌, List, [], ◌∷◌, length, Option, Some, None, Result, Ok, Err, codes}
use Rattle.kv_base.specs.Map.{Bytes}
use Rattle.kv_base.specs.Number.{read_int}
use Rattle.redis_model.specs.declared.command.Command.{Command}
use Rattle.redis_model.specs.declared.command.Command.TheVariants as cmd
use Rattle.redis_model.specs.declared.upkeep.Upkeep.TheVariants as upkeep
use Rattle.cmd_words.specs.Words.{is}
use Rattle.cmd_words.specs.Places.{Place, K, V, F, M, N, S, B, D, Count, NotLeast, Zero, TimeToLive, After, Until, Said}
use Rattle.cmd_words.specs.Reading.{◌>>=◌, said1, said2, said3, said4, said_more, said_k_more, said_pairs, said_k_pairs, said_maybe, said_k_maybe}
use Rattle.cmd_words.specs.Options.{set_command, range_by_score, said_range}
use Rattle.cmd_words.specs.Add.{add}
use Rattle.cmd_words.specs.declared.fault.FaultKind.{FaultKind}
use Rattle.cmd_words.specs.declared.fault.FaultKind.TheVariants as wrong
use Rattle.cmd_words.specs.declared.parsed.Parsed.{Parsed}
use Rattle.cmd_words.specs.declared.parsed.Parsed.TheVariants.{Data, Multi, Exec, Discard, Quit, Pin, Unpin, Upkeep}
use Rattle.cmd_words.specs.declared.name.Name.{Name}
use Rattle.cmd_words.specs.declared.name.Name.TheVariants as name
use Rattle.cmd_words.specs.declared.no_keys.NoKeyName.{NoKeyName}
use Rattle.cmd_words.specs.declared.no_keys.NoKeyName.TheVariants as no_keys
use Rattle.cmd_words.specs.declared.strings.StringName.{StringName}
use Rattle.cmd_words.specs.declared.strings.StringName.TheVariants as strings
use Rattle.cmd_words.specs.declared.keys.KeyName.{KeyName}
use Rattle.cmd_words.specs.declared.keys.KeyName.TheVariants as keys
use Rattle.cmd_words.specs.declared.hashes.HashName.{HashName}
use Rattle.cmd_words.specs.declared.hashes.HashName.TheVariants as hashes
use Rattle.cmd_words.specs.declared.lists.ListName.{ListName}
use Rattle.cmd_words.specs.declared.lists.ListName.TheVariants as lists
use Rattle.cmd_words.specs.declared.sets.SetName.{SetName}
use Rattle.cmd_words.specs.declared.sets.SetName.TheVariants as sets
use Rattle.cmd_words.specs.declared.sorted_sets.SortedSetName.{SortedSetName}
use Rattle.cmd_words.specs.declared.sorted_sets.SortedSetName.TheVariants as sorted_sets
use Rattle.cmd_words.specs.declared.session.SessionName.{SessionName}
use Rattle.cmd_words.specs.declared.session.SessionName.TheVariants as session

-- ---- patterns: which places the words take, and what is made of what they say and of the weight of all words

abbrev pub Row : Type 0
Row = ℕ → List Bytes → Result Command FaultKind

abbrev pub of1 : (p : Place) → (Said p → ℕ → Command) → Row
of1 p make weight ws = do
  x ← said1 p ws
  Ok (make x weight)

abbrev pub of2 : (p q : Place) → (Said p → Said q → ℕ → Command) → Row
of2 p q make weight ws = do
  x ← said2 p q ws
  Ok (make x.0 x.1 weight)

abbrev pub of3 : (p q r : Place) → (Said p → Said q → Said r → ℕ → Command) → Row
of3 p q r make weight ws = do
  x ← said3 p q r ws
  Ok (make x.0 x.1 x.2 weight)

abbrev pub of4 : (p q r s : Place) → (Said p → Said q → Said r → Said s → ℕ → Command) → Row
of4 p q r s make weight ws = do
  x ← said4 p q r s ws
  Ok (make x.0 x.1 x.2 x.3 weight)

-- one word or more
abbrev pub more : Place → (List Bytes → ℕ → Command) → Row
more p make weight ws = do
  x ← said_more p ws
  Ok (make x weight)

-- a key, and one word or more
abbrev pub k_more : Place → (Bytes → List Bytes → ℕ → Command) → Row
k_more p make weight ws = do
  x ← said_k_more p ws
  Ok (make x.0 x.1 weight)

-- one pair of a word and a value or more
abbrev pub read_pairs : Place → (List Bytes → List Bytes → ℕ → Command) → Row
read_pairs p make weight ws = do
  x ← said_pairs p ws
  Ok (make x.0 x.1 weight)

-- a key, and one pair of a word and a value or more
abbrev pub k_pairs : Place → (Bytes → List Bytes → List Bytes → ℕ → Command) → Row
k_pairs p make weight ws = do
  x ← said_k_pairs p ws
  Ok (make x.0 x.1 x.2 weight)

-- one word or none
abbrev pub maybe : (p : Place) → (Option (Said p) → ℕ → Command) → Row
maybe p make weight ws = do
  x ← said_maybe p ws
  Ok (make x weight)

-- a key, and one word or none
abbrev pub k_maybe : (p : Place) → (Bytes → Option (Said p) → ℕ → Command) → Row
k_maybe p make weight ws = do
  x ← said_k_maybe p ws
  Ok (make x.0 x.1 weight)

-- a key, two whole numbers, and WITHSCORES or nothing
abbrev pub ranged : (Bytes → ℤ → ℤ → Bool → ℕ → Command) → Row
ranged make weight ws = do
  x ← said_range ws
  Ok (make x.0 x.1 x.2 x.3 weight)

-- ---- the commands

unfoldable pub of_no_keys : NoKeyName → Row
of_no_keys no_keys.Ping = maybe V cmd.Ping
of_no_keys no_keys.Echo = of1 V cmd.Echo
of_no_keys no_keys.Select = of1 Zero cmd.Select

unfoldable pub of_strings : StringName → Row
of_strings strings.Get = of1 K cmd.Get
of_strings strings.Set = set_command
of_strings strings.SetNx = of2 K V cmd.SetNx
of_strings strings.SetEx = of3 K (TimeToLive 1000) V cmd.SetEx
of_strings strings.PSetEx = of3 K (TimeToLive 1) V cmd.PSetEx
of_strings strings.GetSet = of2 K V cmd.GetSet
of_strings strings.GetDel = of1 K cmd.GetDel
of_strings strings.MGet = more K cmd.MGet
of_strings strings.MSet = read_pairs K cmd.MSet
of_strings strings.Append = of2 K V cmd.Append
of_strings strings.StrLen = of1 K cmd.StrLen
of_strings strings.GetRange = of3 K N N cmd.GetRange
of_strings strings.Incr = of1 K cmd.Incr
of_strings strings.Decr = of1 K cmd.Decr
of_strings strings.IncrBy = of2 K N cmd.IncrBy
of_strings strings.DecrBy = of2 K NotLeast cmd.DecrBy

unfoldable pub of_keys : KeyName → Row
of_keys keys.Del = more K cmd.Del
of_keys keys.Exists = more K cmd.Exists
of_keys keys.TypeOf = of1 K cmd.TypeOf
of_keys keys.Expire = of2 K (After 1000) cmd.Expire
of_keys keys.PExpire = of2 K (After 1) cmd.PExpire
of_keys keys.ExpireAt = of2 K (Until 1000) cmd.ExpireAt
of_keys keys.PExpireAt = of2 K (Until 1) cmd.PExpireAt
of_keys keys.Ttl = of1 K cmd.Ttl
of_keys keys.PTtl = of1 K cmd.PTtl
of_keys keys.Persist = of1 K cmd.Persist

unfoldable pub of_hashes : HashName → Row
of_hashes hashes.HSet = k_pairs F cmd.HSet
of_hashes hashes.HSetNx = of3 K F V cmd.HSetNx
of_hashes hashes.HGet = of2 K F cmd.HGet
of_hashes hashes.HMGet = k_more F cmd.HMGet
of_hashes hashes.HDel = k_more F cmd.HDel
of_hashes hashes.HLen = of1 K cmd.HLen
of_hashes hashes.HExists = of2 K F cmd.HExists
of_hashes hashes.HStrLen = of2 K F cmd.HStrLen
of_hashes hashes.HGetAll = of1 K cmd.HGetAll
of_hashes hashes.HKeys = of1 K cmd.HKeys
of_hashes hashes.HVals = of1 K cmd.HVals
of_hashes hashes.HIncrBy = of3 K F N cmd.HIncrBy

unfoldable pub of_lists : ListName → Row
of_lists lists.LPush = k_more V cmd.LPush
of_lists lists.RPush = k_more V cmd.RPush
of_lists lists.LPushX = k_more V cmd.LPushX
of_lists lists.RPushX = k_more V cmd.RPushX
of_lists lists.LPop = of1 K cmd.LPop
of_lists lists.RPop = of1 K cmd.RPop
of_lists lists.LLen = of1 K cmd.LLen
of_lists lists.LIndex = of2 K N cmd.LIndex
of_lists lists.LSet = of3 K N V cmd.LSet
of_lists lists.LRange = of3 K N N cmd.LRange
of_lists lists.LTrim = of3 K N N cmd.LTrim
of_lists lists.RPopLPush = of2 K K cmd.RPopLPush
of_lists lists.LMove = of4 K K D D cmd.LMove

unfoldable pub of_sets : SetName → Row
of_sets sets.SAdd = k_more M cmd.SAdd
of_sets sets.SRem = k_more M cmd.SRem
of_sets sets.SIsMember = of2 K M cmd.SIsMember
of_sets sets.SMIsMember = k_more M cmd.SMIsMember
of_sets sets.SCard = of1 K cmd.SCard
of_sets sets.SMembers = of1 K cmd.SMembers
of_sets sets.SMove = of3 K K M cmd.SMove
of_sets sets.SInter = more K cmd.SInter
of_sets sets.SUnion = more K cmd.SUnion
of_sets sets.SDiff = more K cmd.SDiff
of_sets sets.SInterStore = k_more K cmd.SInterStore
of_sets sets.SUnionStore = k_more K cmd.SUnionStore
of_sets sets.SDiffStore = k_more K cmd.SDiffStore

unfoldable pub of_sorted_sets : SortedSetName → Row
of_sorted_sets sorted_sets.ZAdd = add
of_sorted_sets sorted_sets.ZRem = k_more M cmd.ZRem
of_sorted_sets sorted_sets.ZScore = of2 K M cmd.ZScore
of_sorted_sets sorted_sets.ZCard = of1 K cmd.ZCard
of_sorted_sets sorted_sets.ZCount = of3 K B B cmd.ZCount
of_sorted_sets sorted_sets.ZRank = of2 K M cmd.ZRank
of_sorted_sets sorted_sets.ZRevRank = of2 K M cmd.ZRevRank
of_sorted_sets sorted_sets.ZRange = ranged cmd.ZRange
of_sorted_sets sorted_sets.ZRevRange = ranged cmd.ZRevRange
of_sorted_sets sorted_sets.ZRangeByScore = range_by_score
of_sorted_sets sorted_sets.ZIncrBy = of3 K S M cmd.ZIncrBy
of_sorted_sets sorted_sets.ZRemRangeByRank = of3 K N N cmd.ZRemRangeByRank
of_sorted_sets sorted_sets.ZRemRangeByScore = of3 K B B cmd.ZRemRangeByScore
of_sorted_sets sorted_sets.ZPopMin = k_maybe Count cmd.ZPopMin
of_sorted_sets sorted_sets.ZPopMax = k_maybe Count cmd.ZPopMax

-- ---- what is no data command

abbrev pub alone : Parsed → List Bytes → Result Parsed FaultKind
alone p ws = if length ws == 0 then Ok p else Err wrong.Arity

-- a level from 0 to 3
abbrev pub level_number : Option ℤ → Option ℕ
level_number (Some (pos n)) = if nat_lt n 4 then Some n else None
level_number _ = None

abbrev pub compact_of : Option ℕ → Result Parsed FaultKind
compact_of None = Err wrong.NotInt
compact_of (Some n) = Ok (Upkeep (upkeep.Compact (Some n)))

-- KVR, this server's own
unfoldable pub kvr : List Bytes → Result Parsed FaultKind
kvr [] = Err wrong.Arity
kvr (w ∷ []) =
    if is (codes "pin") w then Ok Pin
    else if is (codes "unpin") w then Ok Unpin
    else if is (codes "flush") w then Ok (Upkeep upkeep.Flush)
    else if is (codes "compact") w then Ok (Upkeep (upkeep.Compact None))
    else if is (codes "levels") w then Ok (Upkeep upkeep.Levels)
    else Err wrong.Syntax
kvr (w ∷ n ∷ []) = if is (codes "compact") w then compact_of (level_number (read_int n)) else Err wrong.Syntax
kvr (w ∷ n ∷ m ∷ ws) = Err wrong.Syntax

unfoldable pub of_session : SessionName → List Bytes → Result Parsed FaultKind
of_session session.Multi = alone Multi
of_session session.Exec = alone Exec
of_session session.Discard = alone Discard
of_session session.Quit = alone Quit
of_session session.Kvr = kvr

-- ---- all of them

abbrev pub data_of : Result Command FaultKind → Result Parsed FaultKind
data_of r = r >>= λ c. Ok (Data c)

unfoldable pub read_command : Name → ℕ → List Bytes → Result Parsed FaultKind
read_command (name.NoKeys n) weight ws = data_of (of_no_keys n weight ws)
read_command (name.Strings n) weight ws = data_of (of_strings n weight ws)
read_command (name.Keys n) weight ws = data_of (of_keys n weight ws)
read_command (name.Hashes n) weight ws = data_of (of_hashes n weight ws)
read_command (name.Lists n) weight ws = data_of (of_lists n weight ws)
read_command (name.Sets n) weight ws = data_of (of_sets n weight ws)
read_command (name.SortedSets n) weight ws = data_of (of_sorted_sets n weight ws)
read_command (name.Session n) weight ws = of_session n ws
