-- What a log comes to is what its opening begins with.
use Rattle.std.proofs.Common.{◌≡◌, ◌≤◌, ℕ, [], Ok, sym, subst, ◌∙◌}
use Rattle.kv_base.specs.Map.{Bytes, empty}
use Rattle.redis_model.specs.Value.{RedisMap}
use Rattle.log_store.specs.Keeping.{ComesToKeys, HoldsKeys}
use Rattle.log_store.specs.KeepLaws.{nothing_comes, same_state}
use Rattle.log_store.specs.Recover.{Recovered, recovered}
use Rattle.kv_server.specs.Reopening.{BeginsWith}

pub begins_with : (moment : ℕ) (keys : RedisMap) (bytes : Bytes) (start : Recovered) → ComesToKeys moment keys bytes → recovered bytes ≡ Ok start → BeginsWith moment keys start
begins_with moment keys bytes start comes is =
    let same : comes.state ≡ start = same_state comes.state start (sym comes.is ∙ is) in
    record {
      map = comes.at_last_batch;
      holds = subst (λ (r : Recovered). HoldsKeys r comes.at_last_batch) same comes.holds;
      past = subst (λ (r : Recovered). r.floor ≤ moment) same comes.past;
      keys_are = comes.keys_are;
    }

-- an empty log begins with no keys
pub begins_with_none : (moment : ℕ) (start : Recovered) → recovered [] ≡ Ok start → BeginsWith moment empty start
begins_with_none moment start is = begins_with moment empty [] start (nothing_comes moment) is
