use Rattle.plan_laws.specs.HoldsLater.{holds_later}
use Rattle.plan_laws.proofs.laws.plans_hold_later.Goals as goal

pub returns : goal.returns
returns c = holds_later
