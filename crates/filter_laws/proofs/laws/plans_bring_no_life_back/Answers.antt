use Rattle.filter_laws.specs.DeadLifeLaws.{plan_stays_dead}
use Rattle.filter_laws.proofs.laws.plans_bring_no_life_back.Goals as goal

pub returns : goal.returns
returns c = plan_stays_dead
