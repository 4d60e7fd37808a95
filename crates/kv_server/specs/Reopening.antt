-- How a run begins that follows another one.
use Rattle.std.specs.Prelude.{◌≡◌, ◌≤◌, ℕ}
use Rattle.redis_model.specs.Value.{RedisMap, alive}
use Rattle.log_store.specs.Keeping.{HoldsKeys}
use Rattle.log_store.specs.Recover.{Recovered}

-- A log was opened that comes to these keys at a moment: its rows hold a map when it begins, which is not later, and the
-- keys are what of the map is alive at the moment.
pub record BeginsWith (moment : ℕ) (keys : RedisMap) (start : Recovered) : Type 0 where
  pub map : RedisMap
  pub holds : HoldsKeys start map
  pub past : start.floor ≤ moment
  pub keys_are : keys ≡ alive map moment
