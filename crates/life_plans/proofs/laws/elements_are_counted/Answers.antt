use Rattle.plan_base.specs.LifeLaws.{hash_stands, set_stands}
use Rattle.life_plans.specs.ElementLaws.{hash_has_elements, set_has_elements}
use Rattle.life_plans.specs.ChangeSizeLaws.{found_count_after}
use Rattle.life_plans.proofs.laws.elements_are_counted.Goals as goal

pub returns-clause-hashes : goal.returns-clause-hashes
returns-clause-hashes s c k fresh found a b wanted short finds w = found_count_after hash_stands hash_has_elements c k fresh found a b wanted short finds w

pub returns-clause-sets : goal.returns-clause-sets
returns-clause-sets s c k fresh found a b wanted short finds w = found_count_after set_stands set_has_elements c k fresh found a b wanted short finds w
