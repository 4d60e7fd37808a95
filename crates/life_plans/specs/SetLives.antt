-- What is found of a set, and of its members.
use Rattle.std.specs.Prelude.{ℕ, Option, is_some, Bool}
use Rattle.kv_base.specs.Map.{Bytes}
use Rattle.kv_base.specs.declared.kind.Kind.TheVariants as code
use Rattle.lives_model.specs.Rows.{Rows}
use Rattle.lives_model.specs.Clean.{live_at}
use Rattle.plan_base.specs.declared.key_life.KeyLife.{KeyLife}
use Rattle.plan_base.specs.declared.life.LifeSight.{LifeSight}
use Rattle.plan_base.specs.KeyLives.{key_life}
use Rattle.plan_base.specs.Lives.{row_in_life}

-- what is found at a key of a set
abbrev pub set_life : Rows → ℕ → Bytes → KeyLife
set_life c t k = key_life code.Set (live_at c t k)

-- whether a set has a member
abbrev pub has_member : Rows → Bytes → Option LifeSight → Bytes → Bool
has_member c k life x = is_some (row_in_life c k life x)
