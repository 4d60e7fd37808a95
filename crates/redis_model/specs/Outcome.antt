-- What carrying out a command comes to: a reply and the map after it, or an error. The errors of one command come in the
-- order in which its definition finds them: first another type, then what a stored value is, and last what becomes too
-- large (the order is this server's own).
use Rattle.std.specs.Prelude.{ℕ, Bool, nat_lt, ◌==◌, if◌then◌else◌, List, [], map, length, Option, Some, None, ℤ, pos, Result, Ok, Err}
use Rattle.kv_base.specs.Map.{Bytes, Map, Set, get, insert, remove, empty, size}
use Rattle.kv_base.specs.Number.{int_text}
use Rattle.redis_model.specs.declared.reply.Reply.{Reply}
use Rattle.redis_model.specs.declared.reply.Reply.TheVariants as reply
use Rattle.redis_model.specs.declared.reply.ReplyError.{ReplyError}
use Rattle.redis_model.specs.declared.reply.ReplyError.TheVariants.{WrongType, TooLarge}
use Rattle.redis_model.specs.Value.{Value, Str, Hash, ListOf, SetOf, ZSet, Entry, RedisMap, deadline_at, max_size}

-- what comes out, or the error that is answered
abbrev pub Outcome : Type 0 → Type 0
Outcome A = Result A ReplyError

-- the first error ends a command
infixl 10 ◌>>=◌
abbrev pub ◌>>=◌ : {A B : Type 0} → Outcome A → (A → Outcome B) → Outcome B
(Ok x) >>= f = f x
(Err e) >>= f = Err e

-- an error is the reply, and leaves the map as it was
abbrev pub answered : RedisMap → Outcome (Reply × RedisMap) → Reply × RedisMap
answered m (Ok r) = r
answered m (Err e) = (reply.Error e, m)

-- ---- replies

-- a whole number from 0 on
abbrev pub number : ℕ → Reply
number n = reply.Int (pos n)

-- 1 for yes and 0 for no
abbrev pub yes_no : Bool → Reply
yes_no b = if b then number 1 else number 0

-- bytes, or null where there are none
abbrev pub bulk_or_null : Option Bytes → Reply
bulk_or_null None = reply.Null
bulk_or_null (Some v) = reply.Bulk v

-- an array of byte strings
abbrev pub bulks : List Bytes → Reply
bulks vs = reply.Array (map reply.Bulk vs)

-- a score goes out as its digits
abbrev pub score_bulk : ℤ → Reply
score_bulk s = reply.Bulk (int_text s)

-- ---- strings

-- the string at a key, if the key is there. A key of another type is an error (Redis command reference, WRONGTYPE)
abbrev pub as_string : Value → Outcome (Option Bytes)
as_string (Str v) = Ok (Some v)
as_string _ = Err WrongType

abbrev pub string_of : Option Entry → Outcome (Option Bytes)
string_of None = Ok None
string_of (Some e) = as_string e.value

abbrev pub string_at : RedisMap → Bytes → Outcome (Option Bytes)
string_at m k = string_of (get m k)

-- sets a string with this deadline, over whatever the key held
abbrev pub put_string : RedisMap → Bytes → Bytes → Option ℕ → RedisMap
put_string m k v d = insert m k (record { value = Str v; deadline = d })

-- ---- collections

-- a kind of collection: how it stands in a value, the empty one, and how many elements one has
pub record Kind (A : Type 0) : Type 0 where
  -- the collection that a value is; another type is an error
  pub seen_as : Value → Outcome A
  pub value_of : A → Value
  pub none : A
  pub count : A → ℕ

-- a hash, a list, a set or a sorted set, where the value is one
abbrev pub as_hash : Value → Outcome (Map Bytes)
as_hash (Hash h) = Ok h
as_hash _ = Err WrongType

abbrev pub hashes : Kind (Map Bytes)
hashes = record { seen_as = as_hash; value_of = Hash; none = empty; count = size }

abbrev pub as_list : Value → Outcome (List Bytes)
as_list (ListOf l) = Ok l
as_list _ = Err WrongType

abbrev pub lists : Kind (List Bytes)
lists = record { seen_as = as_list; value_of = ListOf; none = []; count = length }

abbrev pub as_set : Value → Outcome Set
as_set (SetOf s) = Ok s
as_set _ = Err WrongType

abbrev pub sets : Kind Set
sets = record { seen_as = as_set; value_of = SetOf; none = empty; count = size }

abbrev pub as_sorted_set : Value → Outcome (Map ℤ)
as_sorted_set (ZSet z) = Ok z
as_sorted_set _ = Err WrongType

abbrev pub sorted_sets : Kind (Map ℤ)
sorted_sets = record { seen_as = as_sorted_set; value_of = ZSet; none = empty; count = size }

module _ {A : Type 0} (kind : Kind A) where
  -- a key that is not there counts as an empty collection (Redis command reference)
  abbrev pub seen : Option Entry → Outcome A
  seen None = Ok kind.none
  seen (Some e) = kind.seen_as e.value

  -- the collection at a key
  abbrev pub at_key : RedisMap → Bytes → Outcome A
  at_key m k = seen (get m k)

  -- puts a collection with this deadline at a key. An empty one leaves no key, as in Redis; one with too many elements is
  -- an error
  abbrev pub put : RedisMap → Bytes → A → Option ℕ → Outcome RedisMap
  put m k a d =
      if nat_lt max_size (kind.count a) then Err TooLarge
      else (if kind.count a == 0 then Ok (remove m k) else Ok (insert m k (record { value = kind.value_of a; deadline = d })))

  -- what a key's collection becomes: its deadline stays
  abbrev pub change : RedisMap → Bytes → A → Outcome RedisMap
  change m k a = put m k a (deadline_at m k)

  -- a command that only reads
  abbrev pub reading : RedisMap → Bytes → (A → Reply) → Outcome (Reply × RedisMap)
  reading m k f = at_key m k >>= λ a. Ok (f a, m)

  -- a command that answers and changes the collection
  abbrev pub changing : RedisMap → Bytes → (A → Outcome (Reply × A)) → Outcome (Reply × RedisMap)
  changing m k f = at_key m k >>= λ a. f a >>= λ r. change m k r.1 >>= λ n. Ok (r.0, n)
