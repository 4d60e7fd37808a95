use Rattle.redis_model.specs.LimitsLaws.{HasDueTime-from_within, IsWithin-due, IsDue-due}
use Rattle.redis_model.proofs.laws.due_commands_stay_within_limits.Goals as goal

pub returns : goal.returns
returns c = λ d now within. (HasDueTime-from_within d within, IsWithin-due d now within, IsDue-due d now)
