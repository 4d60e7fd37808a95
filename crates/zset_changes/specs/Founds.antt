-- What a command finds at its key before it changes the sorted set there.
use Rattle.std.specs.Prelude.{◌≡◌, ◌-◌, List, Option, IsTrue}
use Rattle.kv_base.specs.Map.{Bytes}
use Rattle.kv_base.specs.RawKeys.{is_version}
use Rattle.kv_base.specs.MetaValues.{is_deadline}
use Rattle.kv_base.specs.declared.kind.Kind.TheVariants as code
use Rattle.redis_model.specs.declared.reply.Reply.{Reply}
use Rattle.redis_model.specs.Limits.{IsName}
use Rattle.redis_model.specs.Outcome.{number}
use Rattle.plan_base.specs.declared.life.LifeSight.{LifeSight}
use Rattle.plan_base.specs.Lives.{HasSizeIn, HasVersionIn, life_size}
use Rattle.plan_base.specs.MetaRows.{expire_number}
use Rattle.life_plans.specs.ChangePlans.{size_after}
use Rattle.life_changes.specs.declared.plan.LifeFound.{LifeFound}
use Rattle.zset_plans.specs.declared.scoring.Scoring.{Scoring}
use Rattle.zset_plans.specs.Scorings.{coming, going}

-- It is the life of a sorted set at this key, or none, with numbers within their limits.
pub record IsScoresFound (found : LifeFound) (k : Bytes) : Type 0 where
  pub key : found.key ≡ k
  pub short : IsName k
  pub kind : found.kind ≡ code.ZSet
  pub fresh : IsTrue (is_version found.fresh)
  pub version : HasVersionIn found.life
  pub size : HasSizeIn found.life
  pub deadline : IsTrue (is_deadline (expire_number found.old))

-- how many members a life has fewer after scorings
abbrev pub gone_number : Option LifeSight → List Scoring → Reply
gone_number found ss = number (life_size found - size_after found (coming ss) (going ss))
