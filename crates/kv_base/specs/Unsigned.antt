-- Whole numbers without a sign as texts.
use Rattle.std.specs.Prelude.{ℕ, ◌^◌, ◌&&◌, if◌then◌else◌, nat_lt, Option, Some, None, decimal}
use Rattle.kv_base.specs.Map.{Bytes, same}
use Rattle.kv_base.specs.Number.{value_of_digits}

-- the number of 64 bits whose decimal digits this text is: no other spelling of it is read
unfoldable pub read_u64 : Bytes → Option ℕ
read_u64 text = let n = value_of_digits text in if nat_lt n (2 ^ 64) && same text (decimal n) then Some n else None
