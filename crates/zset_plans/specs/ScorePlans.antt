-- What a command that changes the sorted set at its only key comes to, and its plan.
use Rattle.std.proofs.Common.{ℕ, ◌≡◌}
use Rattle.std.specs.Prelude.{false, List, [], ◌∷◌, Option, Ok, Err, IsTrue, ℤ}
use Rattle.kv_base.specs.Map.{Bytes, Map}
use Rattle.kv_base.specs.RawKeys.{is_key}
use Rattle.kv_base.specs.declared.kind.Kind.TheVariants as code
use Rattle.redis_model.specs.declared.reply.Reply.{Reply}
use Rattle.redis_model.specs.declared.reply.Reply.TheVariants as reply
use Rattle.redis_model.specs.declared.command.Command.{Command}
use Rattle.redis_model.specs.Value.{RedisMap}
use Rattle.redis_model.specs.Outcome.{Outcome, sorted_sets, changing}
use Rattle.redis_model.specs.Keys.{among}
use Rattle.redis_model.specs.About.{keys_of}
use Rattle.redis_model.specs.Apply.{carried_out}
use Rattle.redis_model.specs.Touched.{written_again}
use Rattle.lives_model.specs.declared.plan.Plan.{Plan}
use Rattle.lives_model.specs.Rows.{Rows}
use Rattle.lives_model.specs.Clean.{live_at}
use Rattle.plan_base.specs.declared.life.LifeSight.{LifeSight}
use Rattle.plan_base.specs.Lives.{life_found}
use Rattle.plan_base.specs.Retimed.{KeepsLife}
use Rattle.plan_base.specs.Seen.{deadline_in}
use Rattle.plan_base.specs.LifeLaws.{score_row_of}
use Rattle.plan_base.specs.LifePlans.{answering}
use Rattle.plan_base.specs.LifeSteps.{life_on}
use Rattle.life_plans.specs.Changes.{FindsLife}
use Rattle.life_plans.specs.ChangePlans.{changing_plan, size_after}
use Rattle.zset_plans.specs.declared.scoring.Scoring.{Scoring}
use Rattle.zset_plans.specs.Scorings.{all_rescored, AreScorings, coming, going, scored_rows}

-- what is found at a key is this sorted set, and its rows stand in the life that goes on, or in the new one
abbrev pub FindsScores : Rows → Bytes → ℕ → Option LifeSight → Map ℤ → Type 0
FindsScores c k fresh found z = FindsLife sorted_sets score_row_of c k fresh found z

-- the plan of a command that answers so and makes this of the scores of members
abbrev pub scoring_plan : ℕ → Bytes → Option ℕ → ℕ → Option LifeSight → List Scoring → Reply → Plan
scoring_plan t k old fresh found ss answer =
    changing_plan t k code.ZSet old fresh found false (scored_rows k (life_on fresh found).version ss) (size_after found (coming ss) (going ss)) answer

-- A plan makes of the scores of members what a command comes to.
pub record ScoresPlanned (t : ℕ) (k : Bytes) (old : Option ℕ) (fresh : ℕ) (found : Option LifeSight) (z : Map ℤ) (left : Reply × Map ℤ) (plan : Plan) : Type 0 where
  pub scorings : List Scoring
  pub are : AreScorings z scorings
  pub leave : all_rescored z scorings ≡ left.1
  pub is : plan ≡ scoring_plan t k old fresh found scorings left.0

-- or it answers the error
abbrev pub IsScoresPlan : ℕ → Bytes → Option ℕ → ℕ → Option LifeSight → Map ℤ → Outcome (Reply × Map ℤ) → Plan → Type 0
IsScoresPlan t k old fresh found z (Ok left) plan = ScoresPlanned t k old fresh found z left plan
IsScoresPlan t k old fresh found z (Err e) plan = plan ≡ answering t old (reply.Error e)

-- The command changes the sorted set at its only key by this function, and writes the key only where something changes.
pub record ChangesScores (t : ℕ) (d : Command) (k : Bytes) (f : Map ℤ → Outcome (Reply × Map ℤ)) : Type 0 where
  pub one : keys_of d ≡ k ∷ []
  pub short : IsTrue (is_key k)
  pub keeps : (m : RedisMap) → KeepsLife m d k
  pub is : (m : RedisMap) → carried_out m t d ≡ changing sorted_sets m k f
  pub rewrites : (m n : RedisMap) → among (written_again m n d) k ≡ false

-- by the life that is found at its key; a key of another type is an error
abbrev pub PlansBy : Rows → ℕ → Bytes → ℕ → Outcome (Option LifeSight) → (Map ℤ → Outcome (Reply × Map ℤ)) → Plan → Type 0
PlansBy c t k fresh (Ok found) f plan = (z : Map ℤ) → FindsScores c k fresh found z → IsScoresPlan t k (deadline_in (live_at c t k)) fresh found z (f z) plan
PlansBy c t k fresh (Err e) f plan = plan ≡ answering t (deadline_in (live_at c t k)) (reply.Error e)

-- this plan makes of the sorted set at a key what the function comes to
abbrev pub PlansScores : Rows → ℕ → Bytes → ℕ → (Map ℤ → Outcome (Reply × Map ℤ)) → Plan → Type 0
PlansScores c t k fresh f plan = PlansBy c t k fresh (life_found code.ZSet (live_at c t k)) f plan
