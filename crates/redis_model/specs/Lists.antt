-- The commands on lists, after the Redis command reference. A list that becomes empty leaves no key, and its key's
-- deadline stays while it is there.
use Rattle.std.specs.Prelude.{ℕ, ◌+◌, ◌-◌, if◌then◌else◌, nat_lt, List, [], ◌∷◌, ◌++◌, length, take, drop, reverse, slice_get, slice_set, Option, Some, None, ℤ, pos, negsuc, Ok, Err}
use Rattle.kv_base.specs.Map.{Bytes, has, same}
use Rattle.redis_model.specs.declared.reply.Reply.{Reply}
use Rattle.redis_model.specs.declared.reply.Reply.TheVariants as reply
use Rattle.redis_model.specs.declared.reply.ReplyError.TheVariants.{NoSuchKey, IndexRange}
use Rattle.redis_model.specs.declared.command.End.{End}
use Rattle.redis_model.specs.declared.command.End.TheVariants.{Left, Right}
use Rattle.redis_model.specs.Value.{RedisMap}
use Rattle.redis_model.specs.Outcome.{Outcome, ◌>>=◌, number, bulk_or_null, bulks, lists, at_key, change, reading, changing}
use Rattle.redis_model.specs.Strings.{range}

-- a list after values were pushed at an end, one after the other
abbrev pub pushed : End → List Bytes → List Bytes → List Bytes
pushed Left l vs = reverse vs ++ l
pushed Right l vs = l ++ vs

-- LPUSH and RPUSH (Redis command reference): the new length
abbrev pub push_items : End → List Bytes → List Bytes → Outcome (Reply × List Bytes)
push_items end vs l = let new = pushed end l vs in Ok (number (length new), new)

abbrev pub push : RedisMap → Bytes → End → List Bytes → Outcome (Reply × RedisMap)
push m k end vs = changing lists m k (push_items end vs)

-- LPUSHX and RPUSHX (Redis command reference): only where the key is there, else 0
abbrev pub push_x : RedisMap → Bytes → End → List Bytes → Outcome (Reply × RedisMap)
push_x m k end vs = if has m k then push m k end vs else Ok (number 0, m)

-- the first item, and the last one
abbrev pub first_item : List Bytes → Option Bytes
first_item l = slice_get l 0

abbrev pub last_item : List Bytes → Option Bytes
last_item l = slice_get l (length l - 1)

-- the item at an end, and what is left
abbrev pub popped : End → List Bytes → Option Bytes × List Bytes
popped Left l = (first_item l, drop 1 l)
popped Right l = (last_item l, take (length l - 1) l)

-- LPOP and RPOP (Redis command reference): the item, or null
abbrev pub pop_item : End → List Bytes → Outcome (Reply × List Bytes)
pop_item end l = let p = popped end l in Ok (bulk_or_null p.0, p.1)

abbrev pub pop : RedisMap → Bytes → End → Outcome (Reply × RedisMap)
pop m k end = changing lists m k (pop_item end)

-- LLEN (Redis command reference): the number of items
abbrev pub l_len : RedisMap → Bytes → Outcome (Reply × RedisMap)
l_len m k = reading lists m k (λ l. number (length l))

-- the place of an item among n, if it is one; a negative place counts from the end, where -1 is the last
abbrev pub place : ℕ → ℤ → Option ℕ
place n (pos i) = if nat_lt i n then Some i else None
place n (negsuc i) = if nat_lt i n then Some (n - (i + 1)) else None

-- the item at a place, if there is one
abbrev pub item : List Bytes → Option ℕ → Option Bytes
item l None = None
item l (Some i) = slice_get l i

-- LINDEX (Redis command reference): the item at a place, or null
abbrev pub l_index : RedisMap → Bytes → ℤ → Outcome (Reply × RedisMap)
l_index m k i = reading lists m k (λ l. bulk_or_null (item l (place (length l) i)))

-- LSET (Redis command reference): the item at a place becomes another one. No key is an error, and so is no such place
abbrev pub with_item : List Bytes → Option ℕ → Bytes → Outcome (Reply × List Bytes)
with_item l None v = Err IndexRange
with_item l (Some i) v = Ok (reply.Ok, slice_set l i v)

abbrev pub set_item : ℤ → Bytes → List Bytes → Outcome (Reply × List Bytes)
set_item i v l = with_item l (place (length l) i) v

abbrev pub l_set : RedisMap → Bytes → ℤ → Bytes → Outcome (Reply × RedisMap)
l_set m k i v = if has m k then changing lists m k (set_item i v) else Err NoSuchKey

-- LRANGE (Redis command reference): the items from one place to another, both counted in
abbrev pub l_range : RedisMap → Bytes → ℤ → ℤ → Outcome (Reply × RedisMap)
l_range m k a b = reading lists m k (λ l. bulks (range l a b))

-- LTRIM (Redis command reference): keeps just these
abbrev pub trim : ℤ → ℤ → List Bytes → Outcome (Reply × List Bytes)
trim a b l = Ok (reply.Ok, range l a b)

abbrev pub l_trim : RedisMap → Bytes → ℤ → ℤ → Outcome (Reply × RedisMap)
l_trim m k a b = changing lists m k (trim a b)

-- LMOVE of an item v that is popped off the list at a, which leaves the rest, to the list at another key b
abbrev pub move_to : RedisMap → Bytes → Bytes → List Bytes → Bytes → End → List Bytes → Outcome (Reply × RedisMap)
move_to m a b rest v to target =
    change lists m a rest >>= λ n. change lists n b (pushed to target (v ∷ [])) >>= λ o. Ok (reply.Bulk v, o)

-- with one key twice the list is turned, and its deadline stays
abbrev pub moved : RedisMap → Bytes → Bytes → End → Option Bytes × List Bytes → List Bytes → Outcome (Reply × RedisMap)
moved m a b to (None, rest) target = Ok (reply.Null, m)
moved m a b to (Some v, rest) target =
    if same a b then (change lists m a (pushed to rest (v ∷ [])) >>= λ n. Ok (reply.Bulk v, n))
    else move_to m a b rest v to target

-- LMOVE (Redis command reference), and RPOPLPUSH, which goes from the right to the left: the moved item. Without the first
-- key it is null, whatever the second one holds; that, and one key twice, is this server's own
abbrev pub l_move : RedisMap → Bytes → Bytes → End → End → Outcome (Reply × RedisMap)
l_move m a b from to =
    if has m a then (at_key lists m a >>= λ l. at_key lists m b >>= λ target. moved m a b to (popped from l) target)
    else Ok (reply.Null, m)
