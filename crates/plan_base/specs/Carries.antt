-- What a plan is right for.
use Rattle.std.proofs.Common.{ℕ}
use Rattle.redis_model.specs.declared.command.Command.{Command}
use Rattle.lives_model.specs.declared.plan.Plan.{Plan}
use Rattle.lives_model.specs.Rows.{Rows}
use Rattle.lives_model.specs.Plans.{IsPlan}

-- this is a plan of a command
abbrev pub Carries : Rows → ℕ → ℕ → Command → Plan → Type 0
Carries c t fresh d p = IsPlan c t fresh d p.batch p.reply p.until
