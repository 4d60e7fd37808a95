-- What a command's fields are within. A request is read only where its words are so, and a caller of the commands keeps to
-- it. The limits are this server's own; how options go together is the Redis command reference's.
use Rattle.std.specs.Prelude.{◌≡◌, ◌≢◌, ℕ, ◌+◌, ◌-◌, ◌*◌, ◌^◌, ◌<◌, ◌≤◌, List, length, All, IfSome, ℤ, pos, negsuc, ◌≤ℤ◌}
use Rattle.std.specs.Bool.{OnTrue}
use Rattle.kv_base.specs.Map.{Bytes}
use Rattle.redis_model.specs.declared.command.Command.{Command}
use Rattle.redis_model.specs.declared.command.Command.TheVariants as cmd
use Rattle.redis_model.specs.declared.command.Expiry.{Expiry}
use Rattle.redis_model.specs.declared.command.Expiry.TheVariants as expiry
use Rattle.redis_model.specs.declared.command.Bound.{Bound}
use Rattle.redis_model.specs.declared.command.Bound.TheVariants.{Closed, Past}
use Rattle.redis_model.specs.Strings.{max_string}
use Rattle.redis_model.specs.SortedSets.{max_score}
use Rattle.redis_model.specs.About.{keys_of, weight}

-- ---- one word

-- how many bytes a key, a field or a member has at most
abbrev pub max_name : ℕ
max_name = 65535

abbrev pub IsName : Bytes → Type 0
IsName x = length x ≤ max_name

-- a value or an element
abbrev pub IsShort : Bytes → Type 0
IsShort v = length v ≤ max_string

-- a score: a whole number from -2^53 to 2^53
abbrev pub IsWholeScore : ℤ → Type 0
IsWholeScore s = (negsuc (max_score - 1) ≤ℤ s) × (s ≤ℤ pos max_score)

-- an end of a range of scores
abbrev pub IsBound : Bound → Type 0
IsBound (Closed s) = IsWholeScore s
IsBound (Past s) = IsWholeScore s
IsBound _ = Unit {0}

-- an amount from -2^61 to 2^61 milliseconds: with a reading it gives a deadline that fits 64 bits
abbrev pub CanBeDue : Expiry → Type 0
CanBeDue (expiry.After n) = (negsuc (2 ^ 61 - 1) ≤ℤ n) × (n ≤ℤ pos (2 ^ 61))
CanBeDue _ = Unit {0}

-- and a deadline from -2^62 to 2^62
abbrev pub IsTime : Expiry → Type 0
IsTime (expiry.At n) = (negsuc (2 ^ 62 - 1) ≤ℤ n) × (n ≤ℤ pos (2 ^ 62))
IsTime x = CanBeDue x

-- where a time has to be given
abbrev pub IsGivenTime : Expiry → Type 0
IsGivenTime expiry.None = ⊥
IsGivenTime expiry.Keep = ⊥
IsGivenTime x = IsTime x

-- ---- words that may be repeated

-- a list of at least one word, each of which is so
abbrev pub Each : {A : Type 0} → (A → Type 0) → List A → Type 0
Each P xs = (0 < length xs) × All P xs

-- two lists of one length, for words that come in pairs
abbrev pub Pairs : {A B : Type 0} → (A → Type 0) → (B → Type 0) → List A → List B → Type 0
Pairs P Q xs ys = Each P xs × (length ys ≡ length xs) × All Q ys

-- how many words of a command may be repeated: the length of its lists
abbrev pub repeated : Command → ℕ
repeated (cmd.MGet ks w) = length ks
repeated (cmd.MSet ks vs w) = length ks + length vs
repeated (cmd.Del ks w) = length ks
repeated (cmd.Exists ks w) = length ks
repeated (cmd.HSet k fs vs w) = length fs + length vs
repeated (cmd.HMGet k fs w) = length fs
repeated (cmd.HDel k fs w) = length fs
repeated (cmd.LPush k vs w) = length vs
repeated (cmd.RPush k vs w) = length vs
repeated (cmd.LPushX k vs w) = length vs
repeated (cmd.RPushX k vs w) = length vs
repeated (cmd.SAdd k xs w) = length xs
repeated (cmd.SRem k xs w) = length xs
repeated (cmd.SMIsMember k xs w) = length xs
repeated (cmd.SInter ks w) = length ks
repeated (cmd.SUnion ks w) = length ks
repeated (cmd.SDiff ks w) = length ks
repeated (cmd.SInterStore d ks w) = length ks
repeated (cmd.SUnionStore d ks w) = length ks
repeated (cmd.SDiffStore d ks w) = length ks
repeated (cmd.ZAdd k ss xs how w) = length ss + length xs
repeated (cmd.ZRem k xs w) = length xs
repeated _ = 0

-- ---- a command

-- each of its fields but the keys
abbrev pub HasFields : Command → Type 0
HasFields (cmd.Ping v w) = IfSome v IsShort
HasFields (cmd.Echo v w) = IsShort v
HasFields (cmd.Select n w) = n ≡ pos 0
HasFields (cmd.Set k v c x w) = IsShort v × IsTime x
HasFields (cmd.SetNx k v w) = IsShort v
HasFields (cmd.SetEx k x v w) = IsGivenTime x × IsShort v
HasFields (cmd.PSetEx k x v w) = IsGivenTime x × IsShort v
HasFields (cmd.GetSet k v w) = IsShort v
HasFields (cmd.MGet ks w) = 0 < length ks
HasFields (cmd.MSet ks vs w) = Pairs IsName IsShort ks vs
HasFields (cmd.Append k v w) = IsShort v
HasFields (cmd.DecrBy k n w) = n ≢ negsuc (2 ^ 63 - 1)
HasFields (cmd.Del ks w) = 0 < length ks
HasFields (cmd.Exists ks w) = 0 < length ks
HasFields (cmd.Expire k x w) = IsGivenTime x
HasFields (cmd.PExpire k x w) = IsGivenTime x
HasFields (cmd.ExpireAt k x w) = IsGivenTime x
HasFields (cmd.PExpireAt k x w) = IsGivenTime x
HasFields (cmd.HSet k fs vs w) = Pairs IsName IsShort fs vs
HasFields (cmd.HSetNx k f v w) = IsName f × IsShort v
HasFields (cmd.HGet k f w) = IsName f
HasFields (cmd.HMGet k fs w) = Each IsName fs
HasFields (cmd.HDel k fs w) = Each IsName fs
HasFields (cmd.HExists k f w) = IsName f
HasFields (cmd.HStrLen k f w) = IsName f
HasFields (cmd.HIncrBy k f n w) = IsName f
HasFields (cmd.LPush k vs w) = Each IsShort vs
HasFields (cmd.RPush k vs w) = Each IsShort vs
HasFields (cmd.LPushX k vs w) = Each IsShort vs
HasFields (cmd.RPushX k vs w) = Each IsShort vs
HasFields (cmd.LSet k i v w) = IsShort v
HasFields (cmd.SAdd k xs w) = Each IsName xs
HasFields (cmd.SRem k xs w) = Each IsName xs
HasFields (cmd.SIsMember k x w) = IsName x
HasFields (cmd.SMIsMember k xs w) = Each IsName xs
HasFields (cmd.SMove a b x w) = IsName x
HasFields (cmd.SInter ks w) = 0 < length ks
HasFields (cmd.SUnion ks w) = 0 < length ks
HasFields (cmd.SDiff ks w) = 0 < length ks
HasFields (cmd.SInterStore d ks w) = 0 < length ks
HasFields (cmd.SUnionStore d ks w) = 0 < length ks
HasFields (cmd.SDiffStore d ks w) = 0 < length ks
HasFields (cmd.ZAdd k ss xs how w) = Pairs IsWholeScore IsName ss xs × OnTrue how.incr (length ss ≡ 1)
HasFields (cmd.ZRem k xs w) = Each IsName xs
HasFields (cmd.ZScore k x w) = IsName x
HasFields (cmd.ZCount k low high w) = IsBound low × IsBound high
HasFields (cmd.ZRank k x w) = IsName x
HasFields (cmd.ZRevRank k x w) = IsName x
HasFields (cmd.ZRangeByScore k low high s l w) = IsBound low × IsBound high
HasFields (cmd.ZIncrBy k s x w) = IsWholeScore s × IsName x
HasFields (cmd.ZRemRangeByScore k low high w) = IsBound low × IsBound high
HasFields (cmd.ZPopMin k n w) = IfSome n (λ i. pos 0 ≤ℤ i)
HasFields (cmd.ZPopMax k n w) = IfSome n (λ i. pos 0 ≤ℤ i)
HasFields _ = Unit {0}

-- how many words a request has at most, and how much they weigh at most
abbrev pub max_words : ℕ
max_words = 2 ^ 16

abbrev pub max_weight : ℕ
max_weight = 2 ^ 24

-- A command that a request can ask for. Each of its words weighs 16 at least, so a transaction, which may weigh no more than
-- one request, has at most 2^20 words.
pub record IsWithin (c : Command) : Type 0 where
  pub names : All IsName (keys_of c)
  pub fields : HasFields c
  pub few : repeated c ≤ max_words
  pub light : weight c ≤ max_weight
  pub weighed : 16 * repeated c ≤ weight c

-- ---- a command that falls due

-- with an amount of time, if it has one, that can become a deadline
abbrev pub HasDueTime : Command → Type 0
HasDueTime (cmd.Set k v c x w) = CanBeDue x
HasDueTime (cmd.SetEx k x v w) = CanBeDue x
HasDueTime (cmd.PSetEx k x v w) = CanBeDue x
HasDueTime (cmd.Expire k x w) = CanBeDue x
HasDueTime (cmd.PExpire k x w) = CanBeDue x
HasDueTime (cmd.ExpireAt k x w) = CanBeDue x
HasDueTime (cmd.PExpireAt k x w) = CanBeDue x
HasDueTime _ = Unit {0}

-- an amount of time has become a deadline
abbrev pub IsDueTime : Expiry → Type 0
IsDueTime (expiry.After n) = ⊥
IsDueTime _ = Unit {0}

abbrev pub IsDue : Command → Type 0
IsDue (cmd.Set k v c x w) = IsDueTime x
IsDue (cmd.SetEx k x v w) = IsDueTime x
IsDue (cmd.PSetEx k x v w) = IsDueTime x
IsDue (cmd.Expire k x w) = IsDueTime x
IsDue (cmd.PExpire k x w) = IsDueTime x
IsDue (cmd.ExpireAt k x w) = IsDueTime x
IsDue (cmd.PExpireAt k x w) = IsDueTime x
IsDue _ = Unit {0}
