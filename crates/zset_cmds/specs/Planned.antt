-- When a plan is right for what a command found at its key.
use Rattle.std.specs.Prelude.{◌≡◌, ℕ, Ok, Err, Result, Option, ℤ}
use Rattle.kv_base.specs.Map.{Bytes, Map, get}
use Rattle.kv_base.specs.declared.kind.Kind.TheVariants as code
use Rattle.redis_model.specs.declared.command.When.{When}
use Rattle.redis_model.specs.declared.reply.Reply.{Reply}
use Rattle.redis_model.specs.Outcome.{Outcome}
use Rattle.redis_model.specs.SortedSets.{score_raised}
use Rattle.lives_model.specs.declared.plan.Plan.{Plan}
use Rattle.lives_model.specs.Rows.{Rows}
use Rattle.lives_model.specs.Clean.{live_at}
use Rattle.plan_base.specs.Seen.{deadline_in}
use Rattle.plan_base.specs.Lives.{life_found}
use Rattle.life_changes.specs.declared.plan.LifeFound.{LifeFound}
use Rattle.zset_plans.specs.ScorePlans.{FindsScores, IsScoresPlan, PlansScores}

-- This is what stands at a key, where a new life gets the version `fresh`.
pub record FindsAt (c : Rows) (t : ℕ) (k : Bytes) (fresh : ℕ) (found : LifeFound) : Type 0 where
  pub moment : found.moment ≡ t
  pub version : found.fresh ≡ fresh
  pub old : found.old ≡ deadline_in (live_at c t k)
  pub life : life_found code.ZSet (live_at c t k) ≡ Ok found.life

-- it is found, or the plan answers the error, whatever the command makes of sorted sets
abbrev pub FindsOr : Rows → ℕ → Bytes → ℕ → Result LifeFound Plan → Type 0
FindsOr c t k fresh (Ok found) = FindsAt c t k fresh found
FindsOr c t k fresh (Err plan) = (f : Map ℤ → Outcome (Reply × Map ℤ)) → PlansScores c t k fresh f plan

-- the plan makes of the sorted set that was found what the function comes to
abbrev pub PlansFound : Rows → Bytes → LifeFound → (Map ℤ → Outcome (Reply × Map ℤ)) → Plan → Type 0
PlansFound c k found f plan = (z : Map ℤ) → FindsScores c k found.fresh found.life z → IsScoresPlan found.moment k found.old found.fresh found.life z (f z) plan

-- it raises the score of a member, where that is this one
abbrev pub RaisesScore : Bytes → LifeFound → When → Bytes → ℤ → Option ℤ → Plan → Type 0
RaisesScore k found w x s before plan = (z : Map ℤ) → get z x ≡ before → IsScoresPlan found.moment k found.old found.fresh found.life z (score_raised w z (x, s)) plan
