-- How a function is shown to plan a command that reads, whatever version a new life would get.
use Rattle.std.proofs.Common.{ℕ, ◌≡◌}
use Rattle.std.specs.Prelude.{Option, Some, None, Result, Ok, Err, IfOk, IfSome}
use Rattle.kv_base.specs.declared.fault.StoreFault.{StoreFault}
use Rattle.redis_model.specs.declared.command.Command.{Command}
use Rattle.redis_model.specs.Limits.{IsWithin}
use Rattle.lives_model.specs.declared.plan.Plan.{Plan}
use Rattle.lives_model.specs.Rows.{Rows}
use Rattle.lives_model.specs.Plans.{IsPlan}
use Rattle.plan_base.specs.PlannedLaws.{planned}

-- an answer that is this plan of a command within its limits is one of the command, at each version
pub planned_read : (r : Result Plan StoreFault) (rows : Option Rows) (q : Rows → Plan) (t : ℕ) (d e : Command) → d ≡ e → IsWithin d
    → IfOk r (λ p. IfSome rows (λ c. p ≡ q c)) → (IsWithin e → (c : Rows) (fresh : ℕ) → IsPlan c t fresh e (q c).batch (q c).reply (q c).until)
    → IfOk r (λ p. IfSome rows (λ c. (fresh : ℕ) → IsPlan c t fresh d p.batch p.reply p.until))
planned_read (Ok p) None q t d e is within plan carries = tt
planned_read (Ok p) (Some c) q t d e is within plan carries = λ fresh. planned (Ok p) (Some c) q t fresh d e is within plan (λ w c. carries w c fresh)
planned_read (Err fault) rows q t d e is within plan carries = tt
