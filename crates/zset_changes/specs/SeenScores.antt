-- The scores of members, as the rows of a life tell them.
use Rattle.std.specs.Prelude.{◌≡◌, ℕ, Option, option_and_then, ℤ}
use Rattle.kv_base.specs.Map.{Bytes, Map, get}
use Rattle.subkey_codec.specs.Numbers.{read_score_bytes}
use Rattle.redis_model.specs.Value.{ZSet}
use Rattle.lives_model.specs.Rows.{Rows}
use Rattle.lives_model.specs.Means.{HasWholeScores}
use Rattle.plan_base.specs.declared.life.LifeSight.{LifeSight}
use Rattle.plan_base.specs.Lives.{row_in_life}

-- the score of a member in the life that is found at a key
abbrev pub member_score : Rows → Bytes → Option LifeSight → Bytes → Option ℤ
member_score c k found x = option_and_then read_score_bytes (row_in_life c k found x)

-- The life that is found tells the scores of this sorted set.
pub record TellsScores (c : Rows) (k : Bytes) (found : Option LifeSight) (z : Map ℤ) : Type 0 where
  pub whole : HasWholeScores (ZSet z)
  pub told : (x : Bytes) → member_score c k found x ≡ get z x
