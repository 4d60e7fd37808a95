use Rattle.lives_model.specs.OnePlanLaws.{plans_same}
use Rattle.lives_model.proofs.laws.a_plan_is_one.Goals as goal

pub returns : goal.returns
returns c = plans_same
