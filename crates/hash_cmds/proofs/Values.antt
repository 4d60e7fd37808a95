-- Values within their limits.
use Rattle.std.proofs.Common.{ℕ, ◌≤◌, length, arith}
use Rattle.kv_base.specs.Map.{Bytes}
use Rattle.redis_model.specs.Limits.{IsShort}

-- a text of a few bytes is a value
pub short_value : (v : Bytes) → length v ≤ 40 → IsShort v
short_value v h = omega arith
