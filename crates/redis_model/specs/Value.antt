-- What a user's keys hold.
use Rattle.std.specs.Prelude.{ℕ, ◌^◌, ◌-◌, Bool, true, ℤ, nat_lt, List, Option, Some, None, option_and_then}
use Rattle.kv_base.specs.Map.{Bytes, Map, Set, get, keep}

-- The five types of values (Redis command reference, TYPE): a string, a hash, a list, a set, or a sorted set, which has a
-- score for each member
pub data Value : Type 0 where
  Str : Bytes → Value
  Hash : Map Bytes → Value
  ListOf : List Bytes → Value
  SetOf : Set → Value
  ZSet : Map ℤ → Value

-- a value and, for a key that is to expire, its deadline in milliseconds since the start of 1970
pub record Entry : Type 0 where
  pub value : Value
  pub deadline : Option ℕ

-- the keys and what they hold
abbrev pub RedisMap : Type 0
RedisMap = Map Entry

-- a key is there before its deadline, and at the deadline it is there no more (this server's own)
abbrev pub lives : ℕ → Option ℕ → Bool
lives t None = true
lives t (Some d) = nat_lt t d

-- the keys that have not expired at t
unfoldable pub alive : RedisMap → ℕ → RedisMap
alive m t = keep (λ _ e. lives t e.deadline) m

-- the deadline of a key, if it is there and has one
abbrev pub deadline_at : RedisMap → Bytes → Option ℕ
deadline_at m k = option_and_then (λ e. e.deadline) (get m k)

-- how many elements a collection has at most (this server's own)
abbrev pub max_size : ℕ
max_size = 2 ^ 32 - 1
