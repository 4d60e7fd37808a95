-- Laws on what stands in `Planned.antt`.
use Rattle.std.proofs.Common.{◌≡◌, ℕ, sym, subst}
use Rattle.std.specs.Prelude.{Option, Some, None, Ok, Err, Result, IfSome, ℤ}
use Rattle.kv_base.specs.Map.{Bytes, Map}
use Rattle.redis_model.specs.declared.reply.Reply.{Reply}
use Rattle.redis_model.specs.Outcome.{Outcome}
use Rattle.lives_model.specs.declared.plan.Plan.{Plan}
use Rattle.lives_model.specs.Rows.{Rows}
use Rattle.lives_model.specs.Clean.{live_at}
use Rattle.plan_base.specs.declared.life.LifeSight.{LifeSight}
use Rattle.plan_base.specs.Seen.{deadline_in}
use Rattle.life_changes.specs.declared.plan.LifeFound.{LifeFound}
use Rattle.zset_plans.specs.ScorePlans.{FindsScores, IsScoresPlan, PlansBy, PlansScores}
use Rattle.zset_cmds.specs.Planned.{FindsAt, FindsOr, PlansFound}

-- a plan that is right for what was found is right for the key
plans_found : (c : Rows) (t : ℕ) (k : Bytes) (fresh : ℕ) (found : LifeFound) (f : Map ℤ → Outcome (Reply × Map ℤ)) (plan : Plan) → FindsAt c t k fresh found → PlansFound c k found f plan → PlansScores c t k fresh f plan
plans_found c t k fresh found f plan finds plans =
    subst (λ (o : Outcome (Option LifeSight)). PlansBy c t k fresh o f plan) (sym finds.life) (λ z there.
    subst (λ (n : ℕ). IsScoresPlan n k (deadline_in (live_at c t k)) fresh found.life z (f z) plan) finds.moment
    (subst (λ (o : Option ℕ). IsScoresPlan found.moment k o fresh found.life z (f z) plan) finds.old
    (subst (λ (n : ℕ). IsScoresPlan found.moment k found.old n found.life z (f z) plan) finds.version
    (plans z (subst (λ (n : ℕ). FindsScores c k n found.life z) (sym finds.version) there)))))

pub plans_then : (rows now : Option Rows) (t : ℕ) (k : Bytes) (fresh : ℕ) (r : Result LifeFound Plan) (found : LifeFound) (f g : Map ℤ → Outcome (Reply × Map ℤ)) (plan : Plan) → now ≡ rows
    → IfSome rows (λ c. FindsOr c t k fresh r) → r ≡ Ok found → IfSome now (λ c. PlansFound c k found f plan) → ((z : Map ℤ) → f z ≡ g z) → IfSome rows (λ c. PlansScores c t k fresh g plan)
plans_then None now t k fresh r found f g plan same finds is plans alike = tt
plans_then (Some c) now t k fresh r found f g plan same finds is plans alike =
    let here : PlansFound c k found f plan = subst (λ (o : Option Rows). IfSome o (λ c. PlansFound c k found f plan)) same plans in
    plans_found c t k fresh found g plan (subst (FindsOr c t k fresh) is finds) (λ z there. subst (λ (o : Outcome (Reply × Map ℤ)). IsScoresPlan found.moment k found.old found.fresh found.life z o plan) (alike z) (here z there))

-- a plan that answers the error is right for whatever the command makes of sorted sets
pub refused_then : (rows : Option Rows) (t : ℕ) (k : Bytes) (fresh : ℕ) (r : Result LifeFound Plan) (f : Map ℤ → Outcome (Reply × Map ℤ)) (plan : Plan)
    → IfSome rows (λ c. FindsOr c t k fresh r) → r ≡ Err plan → IfSome rows (λ c. PlansScores c t k fresh f plan)
refused_then None t k fresh r f plan finds is = tt
refused_then (Some c) t k fresh r f plan finds is = let all : FindsOr c t k fresh (Err plan) = subst (FindsOr c t k fresh) is finds in all f
