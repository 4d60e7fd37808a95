-- The laws of stripes: a touched key's stripe is one of its command's, and a set is told by what it contains.
use Rattle.std.proofs.Common.{◌≡◌, ℕ, Bool, true, false, List, [], ◌∷◌, refl, ap, arith}
use Rattle.std.specs.Prelude.{◌==◌, ◌||◌, IsTrue}
use Rattle.std.specs.Int.{bit_at}
use Rattle.std.proofs.lemmas.Bool.Decides.{nat_tests}
use Rattle.std.proofs.lemmas.Nat.Bits.{bit_at-lt, same_from_bits}
use Rattle.kv_base.specs.Map.{Bytes, same, same_is}
use Rattle.kv_base.specs.Hash.{stripe}
use Rattle.redis_model.specs.declared.stripes.Stripes.{Stripes}
use Rattle.redis_model.specs.declared.command.Command.{Command}
use Rattle.redis_model.specs.Value.{RedisMap}
use Rattle.redis_model.specs.Keys.{among}
use Rattle.redis_model.specs.About.{keys_of}
use Rattle.redis_model.specs.Touched.{touched}
use Rattle.redis_model.specs.TouchedLaws.{touched_is_named}
use Rattle.redis_model.specs.Stripes.{contains, has_stripe}

-- ---- the stripe of one of these keys

itself : (n : ℕ) → (n == n) ≡ true
itself n = grind (arith, nat_tests)

or_true : (a b : Bool) → b ≡ true → (a || b) ≡ true
or_true true b h = refl
or_true false b h = h

-- the first key is this one, or the key is among the others
module _ (q : Bytes) (keys : List Bytes) (k : Bytes) (others : IsTrue (among keys k) → IsTrue (has_stripe keys (stripe k))) where
  among_one_more : (b : Bool) → same k q ≡ b → IsTrue (b || among keys k) → IsTrue (has_stripe (q ∷ keys) (stripe k))
  among_one_more true is h = rw (← same_is k q is) (rw (itself (stripe k)) refl)
  among_one_more false is h = or_true (stripe q == stripe k) (has_stripe keys (stripe k)) (others h)

among_has_stripe : (keys : List Bytes) (k : Bytes) → IsTrue (among keys k) → IsTrue (has_stripe keys (stripe k))
among_has_stripe [] k h = h
among_has_stripe (q ∷ keys) k h = among_one_more q keys k (among_has_stripe keys k) (same k q) refl h

-- a command that touches a key has the key's stripe
pub touched_has_stripe : (m : RedisMap) (t : ℕ) (c : Command) (k : Bytes) → IsTrue (among (touched m t c) k) → IsTrue (has_stripe (keys_of c) (stripe k))
touched_has_stripe m t c k h = among_has_stripe (keys_of c) k (touched_is_named m t c k h)

-- ---- sets of the same stripes

same_bit : (a b i : ℕ) → (bit_at a i == 1) ≡ (bit_at b i == 1) → bit_at a i ≡ bit_at b i
same_bit a b i h = grind (arith, nat_tests, bit_at-lt a i, bit_at-lt b i)

pub same_stripes : (s t : Stripes) → ((b : ℕ) → contains s b ≡ contains t b) → s ≡ t
same_stripes s t h = ap (λ (n : ℕ). let set : Stripes = record { bits = n } in set) (same_from_bits s.bits t.bits (λ i. same_bit s.bits t.bits i (h i)))
