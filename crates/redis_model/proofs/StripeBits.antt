-- The bits of a set of stripes.
use Rattle.std.proofs.Common.{◌≡◌, ℕ, ◌*◌, ◌%◌, ◌^◌, ◌<◌, ◌≤◌, ◌==◌, nat_lt, bit_or, arith, w16}
use Rattle.std.specs.Prelude.{◌||◌}
use Rattle.std.specs.Int.{bit_at}
use Rattle.std.proofs.lemmas.Bool.Decides.{nat_tests}
use Rattle.std.proofs.lemmas.Nat.Bits.{bit_at_ones, bit_at_ones_above, bit_at_above, bit_at_set_same, bit_at_set_other}

-- sixteen ones
pub all_ones : (b : ℕ) → (bit_at 65535 b == 1) ≡ nat_lt b 16
all_ones b = grind (arith, nat_tests, bit_at_ones 16 b, bit_at_ones_above 16 b)

-- no bit is above the sixteenth
pub no_bit_above : (bits b : ℕ) → bits < 65536 → 16 ≤ b → nat_lt b 16 ≡ (bit_at bits b == 1)
no_bit_above bits b small h = grind (arith, nat_tests, bit_at_above bits 16 b small h)

-- `bits | 1 << k`
pub one_bit_more : (bits k b : ℕ) → k < 16 → (bit_at (bit_or bits (1 * 2 ^ k % 65536)) b == 1) ≡ (k == b || bit_at bits b == 1)
one_bit_more bits k b h = grind (arith, nat_tests, bit_at_set_same w16 bits k h, bit_at_set_other w16 bits k h b)
