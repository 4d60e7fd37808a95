-- How a function is shown to plan a command, from the plan that it answers.
use Rattle.std.proofs.Common.{ℕ, ◌≡◌, sym, subst}
use Rattle.std.specs.Prelude.{Option, Some, None, Result, Ok, Err, IfOk, IfSome}
use Rattle.kv_base.specs.declared.fault.StoreFault.{StoreFault}
use Rattle.redis_model.specs.declared.command.Command.{Command}
use Rattle.redis_model.specs.Limits.{IsWithin}
use Rattle.lives_model.specs.declared.plan.Plan.{Plan}
use Rattle.lives_model.specs.Rows.{Rows}
use Rattle.lives_model.specs.Plans.{IsPlan}

-- an answer that is this plan of a command within its limits is one of the command
pub planned : (r : Result Plan StoreFault) (rows : Option Rows) (q : Rows → Plan) (t fresh : ℕ) (d e : Command) → d ≡ e → IsWithin d
    → IfOk r (λ p. IfSome rows (λ c. p ≡ q c)) → (IsWithin e → (c : Rows) → IsPlan c t fresh e (q c).batch (q c).reply (q c).until)
    → IfOk r (λ p. IfSome rows (λ c. IsPlan c t fresh d p.batch p.reply p.until))
planned (Ok p) None q t fresh d e is within plan carries = tt
planned (Ok p) (Some c) q t fresh d e is within plan carries =
    subst (λ (x : Command). IsPlan c t fresh x p.batch p.reply p.until) (sym is)
    (subst (λ (o : Plan). IsPlan c t fresh e o.batch o.reply o.until) (sym plan) (carries (subst IsWithin is within) c))
planned (Err fault) rows q t fresh d e is within plan carries = tt
