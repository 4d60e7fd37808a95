-- Which members go by rank or by score: with ZPOPMIN, ZPOPMAX, ZREMRANGEBYRANK and ZREMRANGEBYSCORE.
use Rattle.std.specs.Prelude.{◌≡◌, ℕ, ◌-◌, false, true, List, [], ◌∷◌, map, filter, take, drop, reverse, Option, Some, None, ℤ}
use Rattle.kv_base.specs.Map.{Bytes, Map, get, size}
use Rattle.redis_model.specs.declared.command.Bound.TheVariants.{Least, Greatest}
use Rattle.redis_model.specs.declared.reply.Reply.{Reply}
use Rattle.redis_model.specs.Keys.{among}
use Rattle.redis_model.specs.Limits.{IsBound}
use Rattle.redis_model.specs.Outcome.{Outcome}
use Rattle.redis_model.specs.Strings.{start_at, end_at, range}
use Rattle.redis_model.specs.SortedSets.{Scored, ranked, told, between, taken, remove_ranks, remove_between}
use Rattle.lives_model.specs.declared.plan.Plan.{Plan}
use Rattle.lives_model.specs.Rows.{Rows}
use Rattle.plan_base.specs.declared.life.LifeSight.{LifeSight}
use Rattle.life_changes.specs.declared.plan.LifeFound.{LifeFound}
use Rattle.zset_plans.specs.declared.scoring.Scoring.{Scoring}
use Rattle.zset_plans.specs.ScorePlans.{scoring_plan}
use Rattle.zset_pages.specs.Ranks.{ranks_between}
use Rattle.zset_changes.specs.ScoreTables.{AllStand}
use Rattle.zset_changes.specs.Founds.{gone_number}
use Rattle.zset_cmds.specs.declared.take.Taking.{Taking}
use Rattle.zset_cmds.specs.declared.take.Taking.TheVariants.{Lowest, Highest, Places, Within}
use Rattle.zset_cmds.specs.declared.take.TakenSpan.{TakenSpan}

-- ---- what a command comes to

-- the bounds that it names are scores
abbrev pub HasBounds : Taking → Type 0
HasBounds (Within low high) = IsBound low × IsBound high
HasBounds _ = Unit {0}

-- what it makes of a sorted set
abbrev pub taking_outcome : Taking → Map ℤ → Outcome (Reply × Map ℤ)
taking_outcome (Lowest n) z = taken (take n (ranked z)) z
taking_outcome (Highest n) z = taken (take n (reverse (ranked z))) z
taking_outcome (Places a b) z = remove_ranks a b z
taking_outcome (Within low high) z = remove_between low high z

-- the members that go, lowest first
abbrev pub members_taken : Taking → Map ℤ → List Scored
members_taken (Lowest n) z = take n (ranked z)
members_taken (Highest n) z = take n (drop (size z - n) (ranked z))
members_taken (Places a b) z = range (ranked z) a b
members_taken (Within low high) z = filter (between low high) (ranked z)

-- ---- where they stand

-- so many from a place on
abbrev pub by_place : ℕ → ℕ → TakenSpan
by_place skip count = record { low = Least; high = Greatest; skip = skip; count = count }

-- by the number of members that there are
abbrev pub span_of : Taking → ℕ → TakenSpan
span_of (Lowest n) all = by_place 0 n
span_of (Highest n) all = by_place (all - n) n
span_of (Places a b) all = by_place (start_at all a) (end_at all b - start_at all a)
span_of (Within low high) all = record { low = low; high = high; skip = 0; count = all }

abbrev pub ranks_within : Rows → Bytes → LifeSight → TakenSpan → List Scored
ranks_within c k life span = take span.count (drop span.skip (ranks_between c k life span.low span.high))

-- the members that go of the life that is found at a key, none where there is no life
abbrev pub ranks_taken : Rows → Bytes → Taking → Option LifeSight → List Scored
ranks_taken c k taking None = []
ranks_taken c k taking (Some life) = ranks_within c k life (span_of taking life.size)

-- ---- that they go

-- the names of members
abbrev pub member_names : List Scored → List Bytes
member_names es = map (λ (e : Scored). e.0) es

-- Each of these has its score in a sorted set, and is among them once.
abbrev pub AreMembers : Map ℤ → List Scored → Type 0
AreMembers z [] = Unit {0}
AreMembers z (e ∷ es) = (get z e.0 ≡ Some e.1) × (among (member_names es) e.0 ≡ false) × AreMembers z es

-- a member that has this score goes
abbrev pub scored_leaving : Scored → Scoring
scored_leaving e = record { member = e.0; before = Some e.1; after = None }

-- the answer: a pop tells the members with their scores, and the others how many go
abbrev pub taking_reply : Taking → Option LifeSight → List Scored → Reply
taking_reply (Lowest n) found es = told true es
taking_reply (Highest n) found es = told true (reverse es)
taking_reply _ found es = gone_number found (map scored_leaving es)

-- The plan takes these members away, which can have rows, and answers so.
pub record TakesMembers (k : Bytes) (found : LifeFound) (taking : Taking) (es : List Scored) (plan : Plan) : Type 0 where
  pub stand : AllStand (map scored_leaving es)
  pub is : plan ≡ scoring_plan found.moment k found.old found.fresh found.life (map scored_leaving es) (taking_reply taking found.life es)
