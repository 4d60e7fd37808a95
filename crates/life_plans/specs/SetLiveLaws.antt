-- A member is found where the set has it.
use Rattle.std.proofs.Common.{◌≡◌, refl, ap, ◌∙◌, []}
use Rattle.std.specs.Prelude.{Option, Some, None, is_some, option_map}
use Rattle.kv_base.specs.Map.{Bytes, Set, get, has}
use Rattle.redis_model.specs.Outcome.{sets}
use Rattle.lives_model.specs.Rows.{Rows}
use Rattle.plan_base.specs.declared.life.LifeSight.{LifeSight}
use Rattle.plan_base.specs.Lives.{IsLifeOf}
use Rattle.plan_base.specs.LifeLaws.{set_stands, member_row_of, element_there}
use Rattle.life_plans.specs.SetLives.{has_member}

-- a row without a value is there where the member is
abbrev no_value : Unit {0} → Bytes
no_value x = []

is_there : (o : Option (Unit {0})) → is_some (option_map no_value o) ≡ is_some o
is_there None = refl
is_there (Some x) = refl

-- a member is found where the set has it
pub has_member_is : (c : Rows) (k : Bytes) (found : Option LifeSight) (s : Set) (x : Bytes) → IsLifeOf sets member_row_of c k found s → has_member c k found x ≡ has s x
has_member_is c k found s x life = ap is_some (element_there set_stands c k found s x life) ∙ is_there (get s x)
