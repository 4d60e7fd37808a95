-- What a map of keys is like at every moment.
use Rattle.std.specs.Prelude.{◌<◌, ◌≤◌, length, IfSome, All}
use Rattle.kv_base.specs.Map.{Bytes, get, size}
use Rattle.redis_model.specs.declared.command.Command.{Command}
use Rattle.redis_model.specs.declared.command.Command.TheVariants as cmd
use Rattle.redis_model.specs.declared.history.Step.{Step}
use Rattle.redis_model.specs.declared.history.Step.TheVariants.{Call, Exec}
use Rattle.redis_model.specs.Value.{Value, Str, Hash, ListOf, SetOf, ZSet, RedisMap, max_size}
use Rattle.redis_model.specs.Limits.{IsShort}

-- no collection is empty, and none has more than 2^32 - 1 elements
abbrev pub IsValue : Value → Type 0
IsValue (Str v) = IsShort v
IsValue (Hash h) = (0 < size h) × (size h ≤ max_size)
IsValue (ListOf l) = (0 < length l) × (length l ≤ max_size)
IsValue (SetOf s) = (0 < size s) × (size s ≤ max_size)
IsValue (ZSet z) = (0 < size z) × (size z ≤ max_size)

abbrev pub IsRedisMap : RedisMap → Type 0
IsRedisMap m = (k : Bytes) → IfSome (get m k) (λ e. IsValue e.value)

-- the strings that a command sets are short enough, as those of a request are. What APPEND makes is judged by the command
abbrev pub HasShortValues : Command → Type 0
HasShortValues (cmd.Set k v c x w) = IsShort v
HasShortValues (cmd.SetNx k v w) = IsShort v
HasShortValues (cmd.SetEx k x v w) = IsShort v
HasShortValues (cmd.PSetEx k x v w) = IsShort v
HasShortValues (cmd.GetSet k v w) = IsShort v
HasShortValues (cmd.MSet ks vs w) = All IsShort vs
HasShortValues _ = Unit {0}

-- and so are those that an entry of a history sets
abbrev pub SetsShortValues : Step → Type 0
SetsShortValues (Call now caller c) = HasShortValues c
SetsShortValues (Exec now caller cs) = All HasShortValues cs
SetsShortValues _ = Unit {0}
