-- The commands on sorted sets, after the Redis command reference. A sorted set that becomes empty leaves no key, and its
-- key's deadline stays while it is there. Scores are whole numbers (this server's own).
use Rattle.std.specs.Prelude.{ℕ, ◌+◌, ◌-◌, ◌^◌, Bool, true, false, not, ◌&&◌, if◌then◌else◌, List, [], ◌∷◌, map, zip, fold, filter, flat_map, count_by, take, drop, reverse, Option, Some, None, option_map, ℤ, pos, negsuc, ◌+ℤ◌, int_lt, int_le, Ok, Err}
use Rattle.std.specs.declared.cmp.Ordering.{Ordering}
use Rattle.std.specs.Option.{option_map_or}
use Rattle.std.specs.Ordering.{ordering_then, int_cmp, int_eq, is_lt}
use Rattle.kv_base.specs.Map.{Bytes, Map, get, has, insert, keep, size, byte_cmp}
use Rattle.kv_base.specs.MetaValues.{is_score}
use Rattle.redis_model.specs.declared.reply.Reply.{Reply}
use Rattle.redis_model.specs.declared.reply.Reply.TheVariants as reply
use Rattle.redis_model.specs.declared.reply.ReplyError.TheVariants.{ScoreRange}
use Rattle.redis_model.specs.declared.command.When.{When}
use Rattle.redis_model.specs.declared.command.When.TheVariants as when
use Rattle.redis_model.specs.declared.command.Bound.{Bound}
use Rattle.redis_model.specs.declared.command.Bound.TheVariants.{Least, Greatest, Closed, Past}
use Rattle.redis_model.specs.declared.command.Limit.{Limit}
use Rattle.redis_model.specs.declared.command.ZAddHow.{ZAddHow}
use Rattle.redis_model.specs.Value.{RedisMap}
use Rattle.redis_model.specs.Outcome.{Outcome, number, bulks, score_bulk, sorted_sets, reading, changing}
use Rattle.redis_model.specs.Strings.{allowed, range}
use Rattle.redis_model.specs.Keys.{among}

-- a member and its score
abbrev pub Scored : Type 0
Scored = Bytes × ℤ

-- by score, then by bytes
abbrev pub rank_cmp : Scored → Scored → Ordering
rank_cmp a b = ordering_then (int_cmp a.1 b.1) (byte_cmp a.0 b.0)

-- a member put where it belongs, and all members so
abbrev pub in_place : Scored → List Scored → List Scored
in_place e [] = e ∷ []
in_place e (f ∷ fs) = if is_lt (rank_cmp e f) then e ∷ f ∷ fs else f ∷ in_place e fs

abbrev pub ascending : List Scored → List Scored
ascending [] = []
ascending (e ∷ es) = in_place e (ascending es)

-- the members by rank
abbrev pub ranked : Map ℤ → List Scored
ranked z = ascending z.entries

-- members, each followed by its score where that is asked
abbrev pub told : Bool → List Scored → Reply
told false es = bulks (map (λ e. e.0) es)
told true es = reply.Array (flat_map (λ e. reply.Bulk e.0 ∷ score_bulk e.1 ∷ []) es)

-- scores run from -2^53 to 2^53 (this server's own)
abbrev pub max_score : ℕ
max_score = 2 ^ 53

-- ---- ZADD and ZINCRBY

-- a sorted set, how many members were added, and how many changed their score
pub record ZaddTally : Type 0 where
  pub scores : Map ℤ
  pub added : ℕ
  pub changed : ℕ

-- one pair of ZADD: NX leaves a member that is there, XX one that is not
abbrev pub score_set : When → ZaddTally → Scored → Option ℤ → ZaddTally
score_set w n e None = if allowed w false then record { scores = insert n.scores e.0 e.1; added = n.added + 1; changed = n.changed } else n
score_set w n e (Some old) =
    if allowed w true && not (int_eq old e.1) then record { scores = insert n.scores e.0 e.1; added = n.added; changed = n.changed + 1 } else n

-- the pairs in their order
abbrev pub all_set : When → Map ℤ → List Scored → ZaddTally
all_set w z es = fold (λ n e. score_set w n e (get n.scores e.0)) (record { scores = z; added = 0; changed = 0 }) es

-- CH counts those that changed, too
abbrev pub counted : Bool → ZaddTally → ℕ
counted false n = n.added
counted true n = n.added + n.changed

-- a score that goes up, from 0 where there is no member
abbrev pub score_after : Option ℤ → ℤ → ℤ
score_after old s = option_map_or (λ o. o +ℤ s) old s

-- the new score, or null where NX finds the member or XX does not
abbrev pub score_raised : When → Map ℤ → Scored → Outcome (Reply × Map ℤ)
score_raised w z e =
    if not (allowed w (has z e.0)) then Ok (reply.Null, z)
    else (if is_score (score_after (get z e.0) e.1) then Ok (score_bulk (score_after (get z e.0) e.1), insert z e.0 (score_after (get z e.0) e.1))
    else Err ScoreRange)

-- with INCR there is one pair
abbrev pub all_raised : When → Map ℤ → List Scored → Outcome (Reply × Map ℤ)
all_raised w z [] = Ok (reply.Null, z)
all_raised w z (e ∷ es) = score_raised w z e

-- ZADD (Redis command reference): the number of members that were added, with CH those that changed too; with INCR the new
-- score or null, with CH or without
abbrev pub set_scores : List ℤ → List Bytes → ZAddHow → Map ℤ → Outcome (Reply × Map ℤ)
set_scores ss xs how z =
    if how.incr then all_raised how.when z (zip xs ss)
    else (let n = all_set how.when z (zip xs ss) in Ok (number (counted how.changed n), n.scores))

abbrev pub z_add : RedisMap → Bytes → List ℤ → List Bytes → ZAddHow → Outcome (Reply × RedisMap)
z_add m k ss xs how = changing sorted_sets m k (set_scores ss xs how)

-- ZINCRBY (Redis command reference): the new score
abbrev pub raise_score : ℤ → Bytes → Map ℤ → Outcome (Reply × Map ℤ)
raise_score s x z = score_raised when.Any z (x, s)

abbrev pub z_incr_by : RedisMap → Bytes → ℤ → Bytes → Outcome (Reply × RedisMap)
z_incr_by m k s x = changing sorted_sets m k (raise_score s x)

-- ---- what is there

-- ZREM (Redis command reference): the number of members that go
abbrev pub without : Map ℤ → List Bytes → Outcome (Reply × Map ℤ)
without z xs = let rest = keep (λ x _. not (among xs x)) z in Ok (number (size z - size rest), rest)

abbrev pub remove_scored : List Bytes → Map ℤ → Outcome (Reply × Map ℤ)
remove_scored xs z = without z xs

abbrev pub z_rem : RedisMap → Bytes → List Bytes → Outcome (Reply × RedisMap)
z_rem m k xs = changing sorted_sets m k (remove_scored xs)

-- ZSCORE (Redis command reference): the score, or null
abbrev pub score_or_null : Option ℤ → Reply
score_or_null None = reply.Null
score_or_null (Some s) = score_bulk s

abbrev pub z_score : RedisMap → Bytes → Bytes → Outcome (Reply × RedisMap)
z_score m k x = reading sorted_sets m k (λ z. score_or_null (get z x))

-- ZCARD (Redis command reference): the number of members
abbrev pub z_card : RedisMap → Bytes → Outcome (Reply × RedisMap)
z_card m k = reading sorted_sets m k (λ z. number (size z))

-- from a bound on, and up to one
abbrev pub from_bound : Bound → ℤ → Bool
from_bound Least s = true
from_bound Greatest s = false
from_bound (Closed b) s = int_le b s
from_bound (Past b) s = int_lt b s

abbrev pub to_bound : Bound → ℤ → Bool
to_bound Least s = false
to_bound Greatest s = true
to_bound (Closed b) s = int_le s b
to_bound (Past b) s = int_lt s b

-- whether a score lies between two bounds
abbrev pub between : Bound → Bound → Scored → Bool
between low high e = from_bound low e.1 && to_bound high e.1

-- ZCOUNT (Redis command reference): the number of members between two bounds
abbrev pub z_count : RedisMap → Bytes → Bound → Bound → Outcome (Reply × RedisMap)
z_count m k low high = reading sorted_sets m k (λ z. number (count_by (between low high) z.entries))

-- how many members stand before this one, and how many stand behind it
abbrev pub number_before : Map ℤ → Bytes → ℤ → ℕ
number_before z x s = count_by (λ e. is_lt (rank_cmp e (x, s))) z.entries

abbrev pub number_behind : Map ℤ → Bytes → ℤ → ℕ
number_behind z x s = count_by (λ e. is_lt (rank_cmp (x, s) e)) z.entries

-- a place, or null for no member
abbrev pub rank_or_null : Option ℕ → Reply
rank_or_null None = reply.Null
rank_or_null (Some n) = number n

-- ZRANK and ZREVRANK (Redis command reference): the member's place from 0, from the lowest or from the highest, or null
abbrev pub z_rank : RedisMap → Bytes → Bytes → Outcome (Reply × RedisMap)
z_rank m k x = reading sorted_sets m k (λ z. rank_or_null (option_map (number_before z x) (get z x)))

abbrev pub z_rev_rank : RedisMap → Bytes → Bytes → Outcome (Reply × RedisMap)
z_rev_rank m k x = reading sorted_sets m k (λ z. rank_or_null (option_map (number_behind z x) (get z x)))

-- ZRANGE and ZREVRANGE (Redis command reference): the members between two places, lowest or highest first
abbrev pub z_range : RedisMap → Bytes → ℤ → ℤ → Bool → Outcome (Reply × RedisMap)
z_range m k a b scores = reading sorted_sets m k (λ z. told scores (range (ranked z) a b))

abbrev pub z_rev_range : RedisMap → Bytes → ℤ → ℤ → Bool → Outcome (Reply × RedisMap)
z_rev_range m k a b scores = reading sorted_sets m k (λ z. told scores (range (reverse (ranked z)) a b))

-- LIMIT (Redis command reference): a negative count means all; that a negative offset gives none is this server's own
abbrev pub first_of : ℤ → List Scored → List Scored
first_of (pos n) es = take n es
first_of (negsuc n) es = es

abbrev pub from_offset : ℤ → List Scored → List Scored
from_offset (pos n) es = drop n es
from_offset (negsuc n) es = []

abbrev pub within_limit : Option Limit → List Scored → List Scored
within_limit None es = es
within_limit (Some l) es = first_of l.count (from_offset l.offset es)

-- ZRANGEBYSCORE (Redis command reference): the members between two bounds, lowest first
abbrev pub z_range_by_score : RedisMap → Bytes → Bound → Bound → Bool → Option Limit → Outcome (Reply × RedisMap)
z_range_by_score m k low high scores limit =
    reading sorted_sets m k (λ z. told scores (within_limit limit (filter (between low high) (ranked z))))

-- ZREMRANGEBYRANK and ZREMRANGEBYSCORE (Redis command reference): the number of members that go
abbrev pub remove_ranks : ℤ → ℤ → Map ℤ → Outcome (Reply × Map ℤ)
remove_ranks a b z = without z (map (λ e. e.0) (range (ranked z) a b))

abbrev pub z_rem_range_by_rank : RedisMap → Bytes → ℤ → ℤ → Outcome (Reply × RedisMap)
z_rem_range_by_rank m k a b = changing sorted_sets m k (remove_ranks a b)

abbrev pub remove_between : Bound → Bound → Map ℤ → Outcome (Reply × Map ℤ)
remove_between low high z = let rest = keep (λ x s. not (between low high (x, s))) z in Ok (number (size z - size rest), rest)

abbrev pub z_rem_range_by_score : RedisMap → Bytes → Bound → Bound → Outcome (Reply × RedisMap)
z_rem_range_by_score m k low high = changing sorted_sets m k (remove_between low high)

-- ZPOPMIN and ZPOPMAX (Redis command reference): that many members and their scores, one without a number
abbrev pub how_many : Option ℤ → ℕ
how_many None = 1
how_many (Some (pos n)) = n
how_many (Some (negsuc n)) = 0

-- these members are told with their scores, and go
abbrev pub taken : List Scored → Map ℤ → Outcome (Reply × Map ℤ)
taken es z = Ok (told true es, keep (λ x _. not (among (map (λ e. e.0) es) x)) z)

abbrev pub pop_lowest : Option ℤ → Map ℤ → Outcome (Reply × Map ℤ)
pop_lowest n z = taken (take (how_many n) (ranked z)) z

abbrev pub pop_highest : Option ℤ → Map ℤ → Outcome (Reply × Map ℤ)
pop_highest n z = taken (take (how_many n) (reverse (ranked z))) z

abbrev pub z_pop_min : RedisMap → Bytes → Option ℤ → Outcome (Reply × RedisMap)
z_pop_min m k n = changing sorted_sets m k (pop_lowest n)

abbrev pub z_pop_max : RedisMap → Bytes → Option ℤ → Outcome (Reply × RedisMap)
z_pop_max m k n = changing sorted_sets m k (pop_highest n)
