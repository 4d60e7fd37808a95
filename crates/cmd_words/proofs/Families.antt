-- Each row of the table reads a command that is within the limits.
use Rattle.std.proofs.Common.{◌≡◌, refl, ℕ, ◌≤◌, List, length, Ok}
use Rattle.std.specs.Prelude.{All}
use Rattle.std.proofs.lemmas.List.Elements.{All-cons}
use Rattle.kv_base.specs.Map.{Bytes}
use Rattle.redis_model.specs.Limits.{IsName, IsShort}
use Rattle.redis_model.specs.declared.command.Command.{Command}
use Rattle.redis_model.specs.declared.command.Command.TheVariants as cmd
use Rattle.cmd_words.specs.Places.{K, V, F, M, N, S, B, D, NotLeast, Zero, TimeToLive, After, Until}
use Rattle.cmd_words.specs.Table.{of_no_keys, of_strings, of_keys, of_hashes, of_lists, of_sets, of_sorted_sets}
use Rattle.cmd_words.proofs.Good.{Good, plain_good, pair_good, none_good, list_good, names_from, of1_good, of2_good, of3_good, of4_good, more_good, k_more_good, pairs_good, k_pairs_good, maybe_good, k_maybe_good, ranged_good}
use Rattle.cmd_words.proofs.GoodOptions.{set_good, range_by_score_good, add_good}
use Rattle.cmd_words.specs.declared.no_keys.NoKeyName.{NoKeyName}
use Rattle.cmd_words.specs.declared.no_keys.NoKeyName.TheVariants as no_keys
use Rattle.cmd_words.specs.declared.strings.StringName.{StringName}
use Rattle.cmd_words.specs.declared.strings.StringName.TheVariants as strings
use Rattle.cmd_words.specs.declared.keys.KeyName.{KeyName}
use Rattle.cmd_words.specs.declared.keys.KeyName.TheVariants as keys
use Rattle.cmd_words.specs.declared.hashes.HashName.{HashName}
use Rattle.cmd_words.specs.declared.hashes.HashName.TheVariants as hashes
use Rattle.cmd_words.specs.declared.lists.ListName.{ListName}
use Rattle.cmd_words.specs.declared.lists.ListName.TheVariants as lists
use Rattle.cmd_words.specs.declared.sets.SetName.{SetName}
use Rattle.cmd_words.specs.declared.sets.SetName.TheVariants as sets
use Rattle.cmd_words.specs.declared.sorted_sets.SortedSetName.{SortedSetName}
use Rattle.cmd_words.specs.declared.sorted_sets.SortedSetName.TheVariants as sorted_sets

pub no_keys_good : (x : NoKeyName) (n w : ℕ) (ws : List Bytes) (c : Command) → All IsShort ws → length ws ≤ n → of_no_keys x w ws ≡ Ok c → Good n w c
unfolding of_no_keys
no_keys_good no_keys.Ping n w ws c short few h = maybe_good n w V cmd.Ping (λ o h. none_good n w (cmd.Ping o w) refl h refl refl) ws c short h
no_keys_good no_keys.Echo n w ws c short few h = of1_good n w V cmd.Echo (λ x h. none_good n w (cmd.Echo x w) refl h refl refl) ws c short h
no_keys_good no_keys.Select n w ws c short few h = of1_good n w Zero cmd.Select (λ x h. none_good n w (cmd.Select x w) refl h refl refl) ws c short h

pub strings_good : (x : StringName) (n w : ℕ) (ws : List Bytes) (c : Command) → All IsShort ws → length ws ≤ n → of_strings x w ws ≡ Ok c → Good n w c
unfolding of_strings
strings_good strings.Get n w ws c short few h = of1_good n w K cmd.Get (λ k h. plain_good n w (cmd.Get k w) k refl h tt refl refl) ws c short h
strings_good strings.Set n w ws c short few h = set_good n w ws c short h
strings_good strings.SetNx n w ws c short few h = of2_good n w K V cmd.SetNx (λ k x h i. plain_good n w (cmd.SetNx k x w) k refl h i refl refl) ws c short h
strings_good strings.SetEx n w ws c short few h = of3_good n w K (TimeToLive 1000) V cmd.SetEx (λ k x y h i j. plain_good n w (cmd.SetEx k x y w) k refl h (i, j) refl refl) ws c short h
strings_good strings.PSetEx n w ws c short few h = of3_good n w K (TimeToLive 1) V cmd.PSetEx (λ k x y h i j. plain_good n w (cmd.PSetEx k x y w) k refl h (i, j) refl refl) ws c short h
strings_good strings.GetSet n w ws c short few h = of2_good n w K V cmd.GetSet (λ k x h i. plain_good n w (cmd.GetSet k x w) k refl h i refl refl) ws c short h
strings_good strings.GetDel n w ws c short few h = of1_good n w K cmd.GetDel (λ k h. plain_good n w (cmd.GetDel k w) k refl h tt refl refl) ws c short h
strings_good strings.MGet n w ws c short few h = more_good n w cmd.MGet (λ ks some names few. record { names = names; fields = some; few = few; weighs = refl }) ws c few h
strings_good strings.MSet n w ws c short few h = pairs_good n w cmd.MSet (λ ks vs some even names values few. record { names = names; fields = ((some, names), even, values); few = few; weighs = refl }) ws c short few h
strings_good strings.Append n w ws c short few h = of2_good n w K V cmd.Append (λ k x h i. plain_good n w (cmd.Append k x w) k refl h i refl refl) ws c short h
strings_good strings.StrLen n w ws c short few h = of1_good n w K cmd.StrLen (λ k h. plain_good n w (cmd.StrLen k w) k refl h tt refl refl) ws c short h
strings_good strings.GetRange n w ws c short few h = of3_good n w K N N cmd.GetRange (λ k x y h i j. plain_good n w (cmd.GetRange k x y w) k refl h tt refl refl) ws c short h
strings_good strings.Incr n w ws c short few h = of1_good n w K cmd.Incr (λ k h. plain_good n w (cmd.Incr k w) k refl h tt refl refl) ws c short h
strings_good strings.Decr n w ws c short few h = of1_good n w K cmd.Decr (λ k h. plain_good n w (cmd.Decr k w) k refl h tt refl refl) ws c short h
strings_good strings.IncrBy n w ws c short few h = of2_good n w K N cmd.IncrBy (λ k x h i. plain_good n w (cmd.IncrBy k x w) k refl h tt refl refl) ws c short h
strings_good strings.DecrBy n w ws c short few h = of2_good n w K NotLeast cmd.DecrBy (λ k x h i. plain_good n w (cmd.DecrBy k x w) k refl h i refl refl) ws c short h

pub keys_good : (x : KeyName) (n w : ℕ) (ws : List Bytes) (c : Command) → All IsShort ws → length ws ≤ n → of_keys x w ws ≡ Ok c → Good n w c
unfolding of_keys
keys_good keys.Del n w ws c short few h = more_good n w cmd.Del (λ ks some names few. record { names = names; fields = some; few = few; weighs = refl }) ws c few h
keys_good keys.Exists n w ws c short few h = more_good n w cmd.Exists (λ ks some names few. record { names = names; fields = some; few = few; weighs = refl }) ws c few h
keys_good keys.TypeOf n w ws c short few h = of1_good n w K cmd.TypeOf (λ k h. plain_good n w (cmd.TypeOf k w) k refl h tt refl refl) ws c short h
keys_good keys.Expire n w ws c short few h = of2_good n w K (After 1000) cmd.Expire (λ k x h i. plain_good n w (cmd.Expire k x w) k refl h i refl refl) ws c short h
keys_good keys.PExpire n w ws c short few h = of2_good n w K (After 1) cmd.PExpire (λ k x h i. plain_good n w (cmd.PExpire k x w) k refl h i refl refl) ws c short h
keys_good keys.ExpireAt n w ws c short few h = of2_good n w K (Until 1000) cmd.ExpireAt (λ k x h i. plain_good n w (cmd.ExpireAt k x w) k refl h i refl refl) ws c short h
keys_good keys.PExpireAt n w ws c short few h = of2_good n w K (Until 1) cmd.PExpireAt (λ k x h i. plain_good n w (cmd.PExpireAt k x w) k refl h i refl refl) ws c short h
keys_good keys.Ttl n w ws c short few h = of1_good n w K cmd.Ttl (λ k h. plain_good n w (cmd.Ttl k w) k refl h tt refl refl) ws c short h
keys_good keys.PTtl n w ws c short few h = of1_good n w K cmd.PTtl (λ k h. plain_good n w (cmd.PTtl k w) k refl h tt refl refl) ws c short h
keys_good keys.Persist n w ws c short few h = of1_good n w K cmd.Persist (λ k h. plain_good n w (cmd.Persist k w) k refl h tt refl refl) ws c short h

pub hashes_good : (x : HashName) (n w : ℕ) (ws : List Bytes) (c : Command) → All IsShort ws → length ws ≤ n → of_hashes x w ws ≡ Ok c → Good n w c
unfolding of_hashes
hashes_good hashes.HSet n w ws c short few h = k_pairs_good n w cmd.HSet (λ k xs vs h some even names values few. list_good n w (cmd.HSet k xs vs w) k refl h ((some, names), even, values) few refl) ws c short few h
hashes_good hashes.HSetNx n w ws c short few h = of3_good n w K F V cmd.HSetNx (λ k x y h i j. plain_good n w (cmd.HSetNx k x y w) k refl h (i, j) refl refl) ws c short h
hashes_good hashes.HGet n w ws c short few h = of2_good n w K F cmd.HGet (λ k x h i. plain_good n w (cmd.HGet k x w) k refl h i refl refl) ws c short h
hashes_good hashes.HMGet n w ws c short few h = k_more_good n w F cmd.HMGet (λ k xs h some values passed few. list_good n w (cmd.HMGet k xs w) k refl h (some, names_from F (λ _. refl) xs passed) few refl) ws c short few h
hashes_good hashes.HDel n w ws c short few h = k_more_good n w F cmd.HDel (λ k xs h some values passed few. list_good n w (cmd.HDel k xs w) k refl h (some, names_from F (λ _. refl) xs passed) few refl) ws c short few h
hashes_good hashes.HLen n w ws c short few h = of1_good n w K cmd.HLen (λ k h. plain_good n w (cmd.HLen k w) k refl h tt refl refl) ws c short h
hashes_good hashes.HExists n w ws c short few h = of2_good n w K F cmd.HExists (λ k x h i. plain_good n w (cmd.HExists k x w) k refl h i refl refl) ws c short h
hashes_good hashes.HStrLen n w ws c short few h = of2_good n w K F cmd.HStrLen (λ k x h i. plain_good n w (cmd.HStrLen k x w) k refl h i refl refl) ws c short h
hashes_good hashes.HGetAll n w ws c short few h = of1_good n w K cmd.HGetAll (λ k h. plain_good n w (cmd.HGetAll k w) k refl h tt refl refl) ws c short h
hashes_good hashes.HKeys n w ws c short few h = of1_good n w K cmd.HKeys (λ k h. plain_good n w (cmd.HKeys k w) k refl h tt refl refl) ws c short h
hashes_good hashes.HVals n w ws c short few h = of1_good n w K cmd.HVals (λ k h. plain_good n w (cmd.HVals k w) k refl h tt refl refl) ws c short h
hashes_good hashes.HIncrBy n w ws c short few h = of3_good n w K F N cmd.HIncrBy (λ k x y h i j. plain_good n w (cmd.HIncrBy k x y w) k refl h i refl refl) ws c short h

pub lists_good : (x : ListName) (n w : ℕ) (ws : List Bytes) (c : Command) → All IsShort ws → length ws ≤ n → of_lists x w ws ≡ Ok c → Good n w c
unfolding of_lists
lists_good lists.LPush n w ws c short few h = k_more_good n w V cmd.LPush (λ k xs h some values passed few. list_good n w (cmd.LPush k xs w) k refl h (some, values) few refl) ws c short few h
lists_good lists.RPush n w ws c short few h = k_more_good n w V cmd.RPush (λ k xs h some values passed few. list_good n w (cmd.RPush k xs w) k refl h (some, values) few refl) ws c short few h
lists_good lists.LPushX n w ws c short few h = k_more_good n w V cmd.LPushX (λ k xs h some values passed few. list_good n w (cmd.LPushX k xs w) k refl h (some, values) few refl) ws c short few h
lists_good lists.RPushX n w ws c short few h = k_more_good n w V cmd.RPushX (λ k xs h some values passed few. list_good n w (cmd.RPushX k xs w) k refl h (some, values) few refl) ws c short few h
lists_good lists.LPop n w ws c short few h = of1_good n w K cmd.LPop (λ k h. plain_good n w (cmd.LPop k w) k refl h tt refl refl) ws c short h
lists_good lists.RPop n w ws c short few h = of1_good n w K cmd.RPop (λ k h. plain_good n w (cmd.RPop k w) k refl h tt refl refl) ws c short h
lists_good lists.LLen n w ws c short few h = of1_good n w K cmd.LLen (λ k h. plain_good n w (cmd.LLen k w) k refl h tt refl refl) ws c short h
lists_good lists.LIndex n w ws c short few h = of2_good n w K N cmd.LIndex (λ k x h i. plain_good n w (cmd.LIndex k x w) k refl h tt refl refl) ws c short h
lists_good lists.LSet n w ws c short few h = of3_good n w K N V cmd.LSet (λ k x y h i j. plain_good n w (cmd.LSet k x y w) k refl h j refl refl) ws c short h
lists_good lists.LRange n w ws c short few h = of3_good n w K N N cmd.LRange (λ k x y h i j. plain_good n w (cmd.LRange k x y w) k refl h tt refl refl) ws c short h
lists_good lists.LTrim n w ws c short few h = of3_good n w K N N cmd.LTrim (λ k x y h i j. plain_good n w (cmd.LTrim k x y w) k refl h tt refl refl) ws c short h
lists_good lists.RPopLPush n w ws c short few h = of2_good n w K K cmd.RPopLPush (λ k l h i. pair_good n w (cmd.RPopLPush k l w) k l refl h i tt refl refl) ws c short h
lists_good lists.LMove n w ws c short few h = of4_good n w K K D D cmd.LMove (λ k l x y h i. pair_good n w (cmd.LMove k l x y w) k l refl h i tt refl refl) ws c short h

pub sets_good : (x : SetName) (n w : ℕ) (ws : List Bytes) (c : Command) → All IsShort ws → length ws ≤ n → of_sets x w ws ≡ Ok c → Good n w c
unfolding of_sets
sets_good sets.SAdd n w ws c short few h = k_more_good n w M cmd.SAdd (λ k xs h some values passed few. list_good n w (cmd.SAdd k xs w) k refl h (some, names_from M (λ _. refl) xs passed) few refl) ws c short few h
sets_good sets.SRem n w ws c short few h = k_more_good n w M cmd.SRem (λ k xs h some values passed few. list_good n w (cmd.SRem k xs w) k refl h (some, names_from M (λ _. refl) xs passed) few refl) ws c short few h
sets_good sets.SIsMember n w ws c short few h = of2_good n w K M cmd.SIsMember (λ k x h i. plain_good n w (cmd.SIsMember k x w) k refl h i refl refl) ws c short h
sets_good sets.SMIsMember n w ws c short few h = k_more_good n w M cmd.SMIsMember (λ k xs h some values passed few. list_good n w (cmd.SMIsMember k xs w) k refl h (some, names_from M (λ _. refl) xs passed) few refl) ws c short few h
sets_good sets.SCard n w ws c short few h = of1_good n w K cmd.SCard (λ k h. plain_good n w (cmd.SCard k w) k refl h tt refl refl) ws c short h
sets_good sets.SMembers n w ws c short few h = of1_good n w K cmd.SMembers (λ k h. plain_good n w (cmd.SMembers k w) k refl h tt refl refl) ws c short h
sets_good sets.SMove n w ws c short few h = of3_good n w K K M cmd.SMove (λ k l x h i j. pair_good n w (cmd.SMove k l x w) k l refl h i j refl refl) ws c short h
sets_good sets.SInter n w ws c short few h = more_good n w cmd.SInter (λ ks some names few. record { names = names; fields = some; few = few; weighs = refl }) ws c few h
sets_good sets.SUnion n w ws c short few h = more_good n w cmd.SUnion (λ ks some names few. record { names = names; fields = some; few = few; weighs = refl }) ws c few h
sets_good sets.SDiff n w ws c short few h = more_good n w cmd.SDiff (λ ks some names few. record { names = names; fields = some; few = few; weighs = refl }) ws c few h
sets_good sets.SInterStore n w ws c short few h = k_more_good n w K cmd.SInterStore (λ k ks h some values passed few. record { names = All-cons IsName k ks h (names_from K (λ _. refl) ks passed); fields = some; few = few; weighs = refl }) ws c short few h
sets_good sets.SUnionStore n w ws c short few h = k_more_good n w K cmd.SUnionStore (λ k ks h some values passed few. record { names = All-cons IsName k ks h (names_from K (λ _. refl) ks passed); fields = some; few = few; weighs = refl }) ws c short few h
sets_good sets.SDiffStore n w ws c short few h = k_more_good n w K cmd.SDiffStore (λ k ks h some values passed few. record { names = All-cons IsName k ks h (names_from K (λ _. refl) ks passed); fields = some; few = few; weighs = refl }) ws c short few h

pub sorted_sets_good : (x : SortedSetName) (n w : ℕ) (ws : List Bytes) (c : Command) → All IsShort ws → length ws ≤ n → of_sorted_sets x w ws ≡ Ok c → Good n w c
unfolding of_sorted_sets
sorted_sets_good sorted_sets.ZAdd n w ws c short few h = add_good n w ws c few h
sorted_sets_good sorted_sets.ZRem n w ws c short few h = k_more_good n w M cmd.ZRem (λ k xs h some values passed few. list_good n w (cmd.ZRem k xs w) k refl h (some, names_from M (λ _. refl) xs passed) few refl) ws c short few h
sorted_sets_good sorted_sets.ZScore n w ws c short few h = of2_good n w K M cmd.ZScore (λ k x h i. plain_good n w (cmd.ZScore k x w) k refl h i refl refl) ws c short h
sorted_sets_good sorted_sets.ZCard n w ws c short few h = of1_good n w K cmd.ZCard (λ k h. plain_good n w (cmd.ZCard k w) k refl h tt refl refl) ws c short h
sorted_sets_good sorted_sets.ZCount n w ws c short few h = of3_good n w K B B cmd.ZCount (λ k x y h i j. plain_good n w (cmd.ZCount k x y w) k refl h (i, j) refl refl) ws c short h
sorted_sets_good sorted_sets.ZRank n w ws c short few h = of2_good n w K M cmd.ZRank (λ k x h i. plain_good n w (cmd.ZRank k x w) k refl h i refl refl) ws c short h
sorted_sets_good sorted_sets.ZRevRank n w ws c short few h = of2_good n w K M cmd.ZRevRank (λ k x h i. plain_good n w (cmd.ZRevRank k x w) k refl h i refl refl) ws c short h
sorted_sets_good sorted_sets.ZRange n w ws c short few h = ranged_good n w cmd.ZRange (λ k a b s h. plain_good n w (cmd.ZRange k a b s w) k refl h tt refl refl) ws c h
sorted_sets_good sorted_sets.ZRevRange n w ws c short few h = ranged_good n w cmd.ZRevRange (λ k a b s h. plain_good n w (cmd.ZRevRange k a b s w) k refl h tt refl refl) ws c h
sorted_sets_good sorted_sets.ZRangeByScore n w ws c short few h = range_by_score_good n w ws c h
sorted_sets_good sorted_sets.ZIncrBy n w ws c short few h = of3_good n w K S M cmd.ZIncrBy (λ k x y h i j. plain_good n w (cmd.ZIncrBy k x y w) k refl h (i, j) refl refl) ws c short h
sorted_sets_good sorted_sets.ZRemRangeByRank n w ws c short few h = of3_good n w K N N cmd.ZRemRangeByRank (λ k x y h i j. plain_good n w (cmd.ZRemRangeByRank k x y w) k refl h tt refl refl) ws c short h
sorted_sets_good sorted_sets.ZRemRangeByScore n w ws c short few h = of3_good n w K B B cmd.ZRemRangeByScore (λ k x y h i j. plain_good n w (cmd.ZRemRangeByScore k x y w) k refl h (i, j) refl refl) ws c short h
sorted_sets_good sorted_sets.ZPopMin n w ws c short few h = k_maybe_good n w cmd.ZPopMin (λ k o h i. plain_good n w (cmd.ZPopMin k o w) k refl h i refl refl) ws c short h
sorted_sets_good sorted_sets.ZPopMax n w ws c short few h = k_maybe_good n w cmd.ZPopMax (λ k o h i. plain_good n w (cmd.ZPopMax k o w) k refl h i refl refl) ws c short h
