-- The hash of byte strings of Fowler, Noll and Vo, FNV-1a in 32 bits, and the stripe of a key.
use Rattle.std.specs.Prelude.{ℕ, ◌*◌, ◌^◌, ◌%◌, bit_xor, fold}
use Rattle.kv_base.specs.Map.{Bytes}

-- from an offset on, each byte in turn
unfoldable pub fnv1a : ℕ → Bytes → ℕ
fnv1a offset bytes = fold (λ hash byte. bit_xor hash byte * 16777619 % 2 ^ 32) offset bytes

-- one of sixteen
abbrev pub stripe : Bytes → ℕ
stripe key = fnv1a 2166136261 key % 16
