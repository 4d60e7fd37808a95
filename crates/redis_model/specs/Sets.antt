-- The commands on sets, after the Redis command reference. A set that becomes empty leaves no key, and its key's deadline
-- stays while it is there.
use Rattle.std.specs.Prelude.{◌-◌, Bool, not, if◌then◌else◌, List, [], ◌∷◌, map, None, Ok}
use Rattle.std.specs.List.{list_any, list_all}
use Rattle.kv_base.specs.Map.{Bytes, Set, has, insert, insert_all, remove, keep, keys, size, same, empty}
use Rattle.redis_model.specs.declared.reply.Reply.{Reply}
use Rattle.redis_model.specs.declared.reply.Reply.TheVariants as reply
use Rattle.redis_model.specs.Value.{RedisMap}
use Rattle.redis_model.specs.Outcome.{Outcome, ◌>>=◌, number, yes_no, bulks, sets, at_key, put, change, reading, changing}
use Rattle.redis_model.specs.Keys.{among}

-- a set with these members too
abbrev pub with_members : Set → List Bytes → Set
with_members s xs = insert_all s (map (λ x. (x, tt)) xs)

-- SADD (Redis command reference): the number of new members
abbrev pub add_members : List Bytes → Set → Outcome (Reply × Set)
add_members xs s = let new = with_members s xs in Ok (number (size new - size s), new)

abbrev pub s_add : RedisMap → Bytes → List Bytes → Outcome (Reply × RedisMap)
s_add m k xs = changing sets m k (add_members xs)

-- SREM (Redis command reference): the number of members that go
abbrev pub remove_members : List Bytes → Set → Outcome (Reply × Set)
remove_members xs s = let rest = keep (λ x _. not (among xs x)) s in Ok (number (size s - size rest), rest)

abbrev pub s_rem : RedisMap → Bytes → List Bytes → Outcome (Reply × RedisMap)
s_rem m k xs = changing sets m k (remove_members xs)

-- SISMEMBER and SMISMEMBER (Redis command reference): 1 or 0, for one member or for each
abbrev pub s_is_member : RedisMap → Bytes → Bytes → Outcome (Reply × RedisMap)
s_is_member m k x = reading sets m k (λ s. yes_no (has s x))

abbrev pub s_m_is_member : RedisMap → Bytes → List Bytes → Outcome (Reply × RedisMap)
s_m_is_member m k xs = reading sets m k (λ s. reply.Array (map (λ x. yes_no (has s x)) xs))

-- SCARD (Redis command reference): the number of members
abbrev pub s_card : RedisMap → Bytes → Outcome (Reply × RedisMap)
s_card m k = reading sets m k (λ s. number (size s))

-- SMEMBERS (Redis command reference): all members. Their order by bytes is this server's own; Redis leaves it open
abbrev pub s_members : RedisMap → Bytes → Outcome (Reply × RedisMap)
s_members m k = reading sets m k (λ s. bulks (keys s))

-- SMOVE of a member of s to the set t; with one key twice nothing changes
abbrev pub move_member : RedisMap → Bytes → Bytes → Bytes → Set → Set → Outcome (Reply × RedisMap)
move_member m a b x s t =
    if not (has s x) then Ok (number 0, m)
    else (if same a b then Ok (number 1, m)
    else (change sets m a (remove s x) >>= λ n. change sets n b (insert t x tt) >>= λ o. Ok (number 1, o)))

-- SMOVE (Redis command reference): 1, or 0 where the first set does not have the member. Without the first key it is 0,
-- whatever the second one holds; that, and one key twice, is this server's own
abbrev pub s_move : RedisMap → Bytes → Bytes → Bytes → Outcome (Reply × RedisMap)
s_move m a b x =
    if has m a then (at_key sets m a >>= λ s. at_key sets m b >>= λ t. move_member m a b x s t)
    else Ok (number 0, m)

-- the sets at these keys. One that is no set is an error, also where the answer is settled before it (this server's own)
abbrev pub sets_at : RedisMap → List Bytes → Outcome (List Set)
sets_at m [] = Ok []
sets_at m (k ∷ ks) = at_key sets m k >>= λ s. sets_at m ks >>= λ ss. Ok (s ∷ ss)

-- whether each of the sets has a member, and whether one of them has
abbrev pub in_each : List Set → Bytes → Bool
in_each ss x = list_all (λ s. has s x) ss

abbrev pub in_some : List Set → Bytes → Bool
in_some ss x = list_any (λ s. has s x) ss

-- what is in each, in one at least, in the first and in no other
abbrev pub inter : List Set → Set
inter [] = empty
inter (s ∷ ss) = keep (λ x _. in_each ss x) s

abbrev pub union : List Set → Set
union [] = empty
union (s ∷ ss) = with_members (union ss) (keys s)

abbrev pub diff : List Set → Set
diff [] = empty
diff (s ∷ ss) = keep (λ x _. not (in_some ss x)) s

-- SINTER, SUNION and SDIFF (Redis command reference): the members, by bytes
abbrev pub combined : RedisMap → (List Set → Set) → List Bytes → Outcome (Reply × RedisMap)
combined m f ks = sets_at m ks >>= λ ss. Ok (bulks (keys (f ss)), m)

-- SINTERSTORE, SUNIONSTORE and SDIFFSTORE (Redis command reference): the number of members that are stored, over whatever
-- the destination held and without a deadline; no members leave no key
abbrev pub stored : RedisMap → (List Set → Set) → Bytes → List Bytes → Outcome (Reply × RedisMap)
stored m f d ks = sets_at m ks >>= λ ss. put sets m d (f ss) None >>= λ n. Ok (number (size (f ss)), n)
