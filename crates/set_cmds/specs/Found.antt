-- What a command finds at its key before it changes the set there.
use Rattle.std.specs.Prelude.{◌≡◌, IsTrue}
use Rattle.kv_base.specs.Map.{Bytes}
use Rattle.kv_base.specs.RawKeys.{is_version}
use Rattle.kv_base.specs.MetaValues.{is_deadline}
use Rattle.kv_base.specs.declared.kind.Kind.TheVariants as code
use Rattle.plan_base.specs.Lives.{HasSizeIn, HasVersionIn}
use Rattle.plan_base.specs.MetaRows.{expire_number}
use Rattle.life_changes.specs.declared.plan.LifeFound.{LifeFound}

-- It is the life of a set at this key, or none, with numbers within their limits.
pub record IsSetFound (found : LifeFound) (k : Bytes) : Type 0 where
  pub key : found.key ≡ k
  pub kind : found.kind ≡ code.Set
  pub fresh : IsTrue (is_version found.fresh)
  pub version : HasVersionIn found.life
  pub size : HasSizeIn found.life
  pub deadline : IsTrue (is_deadline (expire_number found.old))
