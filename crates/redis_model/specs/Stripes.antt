-- The stripes of keys. There are sixteen, and keys of one stripe are locked together.
use Rattle.std.specs.Prelude.{ℕ, ◌==◌, Bool, List}
use Rattle.std.specs.Int.{bit_at}
use Rattle.std.specs.List.{list_any}
use Rattle.kv_base.specs.Map.{Bytes}
use Rattle.kv_base.specs.Hash.{stripe}
use Rattle.redis_model.specs.declared.stripes.Stripes.{Stripes}

-- whether a stripe is in a set: bit b of the set stands for stripe b
abbrev pub contains : Stripes → ℕ → Bool
contains set b = bit_at set.bits b == 1

-- whether one of these keys has this stripe
abbrev pub has_stripe : List Bytes → ℕ → Bool
has_stripe keys b = list_any (λ k. stripe k == b) keys
