use Rattle.plan_base.specs.LifeLaws.{hash_stands, set_stands}
use Rattle.life_plans.specs.ElementLaws.{hash_has_elements, set_has_elements}
use Rattle.life_plans.specs.ChangePlanLaws.{life_changing}
use Rattle.life_plans.proofs.laws.changes_are_planned.Goals as goal

pub returns-clause-hashes : goal.returns-clause-hashes
returns-clause-hashes c = life_changing hash_stands hash_has_elements

pub returns-clause-sets : goal.returns-clause-sets
returns-clause-sets c = life_changing set_stands set_has_elements
