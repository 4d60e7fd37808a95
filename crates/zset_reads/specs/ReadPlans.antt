-- The plan of each command that reads a sorted set, by what it finds.
use Rattle.std.specs.Prelude.{ℕ, ◌-◌, Bool, List, [], ◌∷◌, take, drop, reverse, Option, Some, None, option_map, option_and_then, true, false, ℤ, pos, negsuc}
use Rattle.kv_base.specs.Map.{Bytes}
use Rattle.kv_base.specs.declared.kind.Kind.TheVariants as code
use Rattle.subkey_codec.specs.Numbers.{read_score_bytes}
use Rattle.redis_model.specs.declared.reply.Reply.{Reply}
use Rattle.redis_model.specs.declared.reply.Reply.TheVariants as reply
use Rattle.redis_model.specs.declared.command.Bound.{Bound}
use Rattle.redis_model.specs.declared.command.Limit.{Limit}
use Rattle.redis_model.specs.Outcome.{number, score_bulk}
use Rattle.redis_model.specs.Strings.{start_at, end_at}
use Rattle.redis_model.specs.SortedSets.{Scored, score_or_null, rank_or_null, told}
use Rattle.lives_model.specs.declared.plan.Plan.{Plan}
use Rattle.lives_model.specs.Rows.{Rows}
use Rattle.lives_model.specs.Clean.{live_at}
use Rattle.plan_base.specs.declared.life.LifeSight.{LifeSight}
use Rattle.plan_base.specs.Seen.{deadline_in}
use Rattle.plan_base.specs.Lives.{life_found, life_size, row_in_life}
use Rattle.plan_base.specs.LifePlans.{answering, life_reply}
use Rattle.zset_pages.specs.Ranks.{ranks_in, ranks_between, number_between, number_ahead, number_from}

-- a command that reads the sorted set at its key, by the life that is found there
abbrev pub sorted_set_reading : Rows → ℕ → Bytes → (Option LifeSight → Reply) → Plan
sorted_set_reading c t k answer = answering t (deadline_in (live_at c t k)) (life_reply answer (life_found code.ZSet (live_at c t k)))

-- ---- lookups

-- the score in the row of a member, if there is one; bytes that are none count as none
abbrev pub score_in : Option Bytes → Option ℤ
score_in row = option_and_then read_score_bytes row

abbrev pub score_in_life : Rows → Bytes → Bytes → Option LifeSight → Option ℤ
score_in_life c k x found = score_in (row_in_life c k found x)

-- ZSCORE
unfoldable pub z_score_plan : Rows → ℕ → Bytes → Bytes → Plan
z_score_plan c t k x = sorted_set_reading c t k (λ found. score_or_null (score_in_life c k x found))

-- ZCARD
unfoldable pub z_card_plan : Rows → ℕ → Bytes → Plan
z_card_plan c t k = sorted_set_reading c t k (λ found. number (life_size found))

-- ---- counts

-- how many members lie between two bounds, none where there is no life
abbrev pub count_in_life : Rows → Bytes → Bound → Bound → Option LifeSight → ℕ
count_in_life c k low high None = 0
count_in_life c k low high (Some life) = number_between c k life low high

-- ZCOUNT
unfoldable pub z_count_plan : Rows → ℕ → Bytes → Bound → Bound → Plan
z_count_plan c t k low high = sorted_set_reading c t k (λ found. number (count_in_life c k low high found))

-- the place of a member from the lowest, or from the highest, by its score
abbrev pub place_of : Rows → Bytes → Bytes → LifeSight → Bool → ℤ → ℕ
place_of c k x life false s = number_ahead c k life (x, s)
place_of c k x life true s = number_from c k life (x, s) - 1

abbrev pub place_in_life : Rows → Bytes → Bytes → Bool → Option LifeSight → Option ℕ
place_in_life c k x highest None = None
place_in_life c k x highest (Some life) = option_map (place_of c k x life highest) (score_in_life c k x (Some life))

-- ZRANK, and from the highest ZREVRANK
unfoldable pub z_rank_plan : Rows → ℕ → Bytes → Bytes → Bool → Plan
z_rank_plan c t k x highest = sorted_set_reading c t k (λ found. rank_or_null (place_in_life c k x highest found))

-- ---- members

-- those from place a to place b, of so many
abbrev pub ranks_ranged : Rows → Bytes → ℤ → ℤ → Option LifeSight → List Scored
ranks_ranged c k a b None = []
ranks_ranged c k a b (Some life) = take (end_at life.size b - start_at life.size a) (drop (start_at life.size a) (ranks_in c k (Some life)))

-- ZRANGE
unfoldable pub z_range_plan : Rows → ℕ → Bytes → ℤ → ℤ → Bool → Plan
z_range_plan c t k a b scores = sorted_set_reading c t k (λ found. told scores (ranks_ranged c k a b found))

-- those from place a to place b, counted from the highest: they end as far ahead of the last one
abbrev pub ranks_turned : Rows → Bytes → ℤ → ℤ → Option LifeSight → List Scored
ranks_turned c k a b None = []
ranks_turned c k a b (Some life) = reverse (take (end_at life.size b - start_at life.size a) (drop (life.size - end_at life.size b) (ranks_in c k (Some life))))

-- ZREVRANGE
unfoldable pub z_rev_range_plan : Rows → ℕ → Bytes → ℤ → ℤ → Bool → Plan
z_rev_range_plan c t k a b scores = sorted_set_reading c t k (λ found. told scores (ranks_turned c k a b found))

-- how many members LIMIT passes over
abbrev pub passed_by : ℤ → ℕ
passed_by (pos n) = n
passed_by (negsuc n) = 0

abbrev pub limit_skip : Option Limit → ℕ
limit_skip None = 0
limit_skip (Some l) = passed_by l.offset

-- and how many follow at most, of so many: none for a negative offset, all for a negative count
abbrev pub followed_by : ℕ → ℤ → ℤ → ℕ
followed_by size (negsuc n) count = 0
followed_by size (pos n) (pos m) = m
followed_by size (pos n) (negsuc m) = size

abbrev pub limit_count : ℕ → Option Limit → ℕ
limit_count size None = size
limit_count size (Some l) = followed_by size l.offset l.count

-- the members between two bounds within a limit
abbrev pub ranks_limited : Rows → Bytes → Bound → Bound → Option Limit → Option LifeSight → List Scored
ranks_limited c k low high limit None = []
ranks_limited c k low high limit (Some life) = take (limit_count life.size limit) (drop (limit_skip limit) (ranks_between c k life low high))

-- ZRANGEBYSCORE
unfoldable pub z_range_by_score_plan : Rows → ℕ → Bytes → Bound → Bound → Bool → Option Limit → Plan
z_range_by_score_plan c t k low high scores limit = sorted_set_reading c t k (λ found. told scores (ranks_limited c k low high limit found))

-- ---- replies

-- what is told of a member
abbrev pub member_parts : Bool → Scored → List Reply
member_parts false e = reply.Bulk e.0 ∷ []
member_parts true e = reply.Bulk e.0 ∷ score_bulk e.1 ∷ []
