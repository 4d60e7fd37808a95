-- Numbers and texts as files have them: a number is unsigned, its high byte first, and a text has its length in front.
use Rattle.std.specs.Prelude.{ℕ, nat_le, if◌then◌else◌, ◌++◌, length, take, drop, Option, Some, None, option_and_then}
use Rattle.std.specs.Int.{to_be_bytes, from_be_bytes, w32, w64}
use Rattle.kv_base.specs.Map.{Bytes, same}

-- a number in four bytes, and in eight
unfoldable pub u32 : ℕ → Bytes
u32 = to_be_bytes w32

unfoldable pub u64 : ℕ → Bytes
u64 = to_be_bytes w64

-- bytes behind their length in four bytes
unfoldable pub text : Bytes → Bytes
text bytes = u32 (length bytes) ++ bytes

-- ---- what stands in front, and what is behind it

unfoldable pub read_u32 : Bytes → Option (ℕ × Bytes)
read_u32 bytes = let n = from_be_bytes w32 (take 4 bytes) in if same (take 4 bytes) (u32 n) then Some (n, drop 4 bytes) else None

unfoldable pub read_u64 : Bytes → Option (ℕ × Bytes)
read_u64 bytes = let n = from_be_bytes w64 (take 8 bytes) in if same (take 8 bytes) (u64 n) then Some (n, drop 8 bytes) else None

-- the bytes in front, so many
abbrev pub read_bytes : ℕ → Bytes → Option (Bytes × Bytes)
read_bytes n bytes = if nat_le n (length bytes) then Some (take n bytes, drop n bytes) else None

unfoldable pub read_text : Bytes → Option (Bytes × Bytes)
read_text bytes = option_and_then (λ front. read_bytes front.0 front.1) (read_u32 bytes)
