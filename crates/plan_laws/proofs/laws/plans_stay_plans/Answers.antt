use Rattle.plan_laws.specs.HoldsLater.{still_plan, still_touched}
use Rattle.plan_laws.proofs.laws.plans_stay_plans.Goals as goal

pub returns-clause-plan : goal.returns-clause-plan
returns-clause-plan c = λ a b t later base m n commands batch answer until. still_plan a b t later base m n batch answer until commands

pub returns-clause-touched : goal.returns-clause-touched
returns-clause-touched c = λ a b t later base m n commands batch answer until. still_touched a b t later base m n batch answer until commands
