-- Plans of commands that write several keys, key by key: what the part of a plan at one key has to be.
use Rattle.std.proofs.Common.{ℕ, ◌≡◌}
use Rattle.std.specs.Prelude.{◌⊎◌, ◌==◌, nat_lt, Option, None, IsTrue, IsSome, false}
use Rattle.kv_base.specs.Map.{Bytes, get, insert, remove}
use Rattle.kv_base.specs.RawKeys.{is_key, is_raw_text}
use Rattle.batch_codec.specs.Batches.{Batch}
use Rattle.redis_model.specs.declared.command.Command.{Command}
use Rattle.redis_model.specs.Value.{RedisMap, deadline_at, max_size}
use Rattle.redis_model.specs.Outcome.{Kind}
use Rattle.lives_model.specs.Rows.{Rows}
use Rattle.lives_model.specs.RowKeys.{IsOfKey}
use Rattle.lives_model.specs.Plans.{KeyPlan}

-- The batch has rows of this key alone, which fits into a raw key, and they are on the grammar. It does there what the
-- command has to do at the key.
pub record PlansKey (c : Rows) (t fresh : ℕ) (m : RedisMap) (d : Command) (b : Batch) (k : Bytes) : Type 0 where
  pub short : IsTrue (is_key k)
  pub own : (raw : Bytes) → IsSome (get b raw) → IsOfKey k raw
  pub raw : (raw : Bytes) → IsSome (get b raw) → IsTrue (is_raw_text raw)
  pub plan : KeyPlan c t fresh m d b k

-- A collection is put at a key with this deadline, which leads from the first map to the second one: an empty one leaves no
-- key, and one with too many elements cannot be put there.
abbrev pub Puts : {A : Type 0} → Kind A → RedisMap → Bytes → A → Option ℕ → RedisMap → Type 0
Puts kind m k a deadline n =
    ((kind.count a ≡ 0) × (n ≡ remove m k))
    ⊎ (((kind.count a == 0) ≡ false) × (nat_lt max_size (kind.count a) ≡ false) × (n ≡ insert m k (record { value = kind.value_of a; deadline = deadline })))

-- from the first map to the second one a key keeps the deadline that it had, or has none afterwards
abbrev pub LeavesDeadline : RedisMap → RedisMap → Bytes → Type 0
LeavesDeadline m n k = (deadline_at n k ≡ deadline_at m k) ⊎ (deadline_at n k ≡ None)
