-- The commands without keys, those on strings, on keys of any type, on hashes, lists, sets and sorted sets, in groups.
use Rattle.std.specs.Prelude.{Bool, true, false, ◌||◌}
use Rattle.redis_model.specs.declared.command.Command.{Command}
use Rattle.redis_model.specs.declared.command.Command.TheVariants as cmd

-- those that name no key
abbrev pub is_keyless_command : Command → Bool
is_keyless_command (cmd.Ping v w) = true
is_keyless_command (cmd.Echo v w) = true
is_keyless_command (cmd.Select n w) = true
is_keyless_command _ = false

-- those that read strings
abbrev pub reads_strings : Command → Bool
reads_strings (cmd.Get k w) = true
reads_strings (cmd.MGet ks w) = true
reads_strings (cmd.StrLen k w) = true
reads_strings (cmd.GetRange k a b w) = true
reads_strings _ = false

-- those that read of keys of any type whether they are there, their type or their deadline
abbrev pub reads_keys : Command → Bool
reads_keys (cmd.Exists ks w) = true
reads_keys (cmd.TypeOf k w) = true
reads_keys (cmd.Ttl k w) = true
reads_keys (cmd.PTtl k w) = true
reads_keys _ = false

-- those that set a string over whatever the key held, or take one away
abbrev pub sets_strings : Command → Bool
sets_strings (cmd.Set k v c x w) = true
sets_strings (cmd.SetNx k v w) = true
sets_strings (cmd.SetEx k x v w) = true
sets_strings (cmd.PSetEx k x v w) = true
sets_strings (cmd.GetSet k v w) = true
sets_strings (cmd.GetDel k w) = true
sets_strings (cmd.MSet ks vs w) = true
sets_strings _ = false

-- those that change a string that is there
abbrev pub changes_strings : Command → Bool
changes_strings (cmd.Append k v w) = true
changes_strings (cmd.Incr k w) = true
changes_strings (cmd.Decr k w) = true
changes_strings (cmd.IncrBy k n w) = true
changes_strings (cmd.DecrBy k n w) = true
changes_strings _ = false

-- those that change the deadlines of keys of any type, or take keys away
abbrev pub changes_keys : Command → Bool
changes_keys (cmd.Del ks w) = true
changes_keys (cmd.Expire k x w) = true
changes_keys (cmd.PExpire k x w) = true
changes_keys (cmd.ExpireAt k x w) = true
changes_keys (cmd.PExpireAt k x w) = true
changes_keys (cmd.Persist k w) = true
changes_keys _ = false

-- those that read hashes
abbrev pub reads_hashes : Command → Bool
reads_hashes (cmd.HGet k f w) = true
reads_hashes (cmd.HMGet k fs w) = true
reads_hashes (cmd.HLen k w) = true
reads_hashes (cmd.HExists k f w) = true
reads_hashes (cmd.HStrLen k f w) = true
reads_hashes (cmd.HGetAll k w) = true
reads_hashes (cmd.HKeys k w) = true
reads_hashes (cmd.HVals k w) = true
reads_hashes _ = false

-- those that change them
abbrev pub changes_hashes : Command → Bool
changes_hashes (cmd.HSet k fs vs w) = true
changes_hashes (cmd.HSetNx k f v w) = true
changes_hashes (cmd.HDel k fs w) = true
changes_hashes (cmd.HIncrBy k f n w) = true
changes_hashes _ = false

abbrev pub is_hash_command : Command → Bool
is_hash_command c = reads_hashes c || changes_hashes c

-- those that read lists
abbrev pub reads_lists : Command → Bool
reads_lists (cmd.LLen k w) = true
reads_lists (cmd.LIndex k i w) = true
reads_lists (cmd.LRange k a b w) = true
reads_lists _ = false

-- those that change one list
abbrev pub changes_lists : Command → Bool
changes_lists (cmd.LPush k vs w) = true
changes_lists (cmd.RPush k vs w) = true
changes_lists (cmd.LPushX k vs w) = true
changes_lists (cmd.RPushX k vs w) = true
changes_lists (cmd.LPop k w) = true
changes_lists (cmd.RPop k w) = true
changes_lists (cmd.LSet k i v w) = true
changes_lists (cmd.LTrim k a b w) = true
changes_lists _ = false

-- those that move an item from one list to another
abbrev pub moves_items : Command → Bool
moves_items (cmd.RPopLPush a b w) = true
moves_items (cmd.LMove a b from to w) = true
moves_items _ = false

abbrev pub is_list_command : Command → Bool
is_list_command c = reads_lists c || (changes_lists c || moves_items c)

-- those that read one set
abbrev pub reads_sets : Command → Bool
reads_sets (cmd.SIsMember k x w) = true
reads_sets (cmd.SMIsMember k xs w) = true
reads_sets (cmd.SCard k w) = true
reads_sets (cmd.SMembers k w) = true
reads_sets _ = false

-- those that change sets by members that they name
abbrev pub changes_sets : Command → Bool
changes_sets (cmd.SAdd k xs w) = true
changes_sets (cmd.SRem k xs w) = true
changes_sets (cmd.SMove a b x w) = true
changes_sets _ = false

-- those that combine sets and answer the members
abbrev pub combines_sets : Command → Bool
combines_sets (cmd.SInter ks w) = true
combines_sets (cmd.SUnion ks w) = true
combines_sets (cmd.SDiff ks w) = true
combines_sets _ = false

-- those that combine sets and store the members
abbrev pub stores_sets : Command → Bool
stores_sets (cmd.SInterStore d ks w) = true
stores_sets (cmd.SUnionStore d ks w) = true
stores_sets (cmd.SDiffStore d ks w) = true
stores_sets _ = false

abbrev pub is_set_command : Command → Bool
is_set_command c = reads_sets c || (changes_sets c || (combines_sets c || stores_sets c))

-- those that read sorted sets
abbrev pub reads_sorted_sets : Command → Bool
reads_sorted_sets (cmd.ZScore k x w) = true
reads_sorted_sets (cmd.ZCard k w) = true
reads_sorted_sets (cmd.ZCount k a b w) = true
reads_sorted_sets (cmd.ZRank k x w) = true
reads_sorted_sets (cmd.ZRevRank k x w) = true
reads_sorted_sets (cmd.ZRange k a b s w) = true
reads_sorted_sets (cmd.ZRevRange k a b s w) = true
reads_sorted_sets (cmd.ZRangeByScore k a b s l w) = true
reads_sorted_sets _ = false

-- those that give members scores
abbrev pub scores_members : Command → Bool
scores_members (cmd.ZAdd k ss xs how w) = true
scores_members (cmd.ZIncrBy k n x w) = true
scores_members _ = false

-- those that take members away
abbrev pub removes_members : Command → Bool
removes_members (cmd.ZRem k xs w) = true
removes_members (cmd.ZRemRangeByRank k a b w) = true
removes_members (cmd.ZRemRangeByScore k a b w) = true
removes_members (cmd.ZPopMin k n w) = true
removes_members (cmd.ZPopMax k n w) = true
removes_members _ = false

abbrev pub is_sorted_set_command : Command → Bool
is_sorted_set_command c = reads_sorted_sets c || (scores_members c || removes_members c)
