-- What a word says at its place is within the limits, where the word is right.
use Rattle.std.proofs.Common.{◌≡◌, ◌≢◌, refl, ℕ, zero, suc, ◌≤◌, ◌-◌, ◌^◌, Bool, true, false, ◌||◌, ◌&&◌, if◌then◌else◌, nat_lt, [], ◌∷◌, length, take, drop, Option, Some, None, arith}
use Rattle.std.specs.Prelude.{ℤ, pos, negsuc, neg_ℤ, ◌≤ℤ◌, ◌*ℤ◌, int_le, int_lt, ◌==◌, nat_le, option_map, codes}
use Rattle.std.specs.Option.{unwrap_or}
use Rattle.std.specs.Char.{is_ascii_digit}
use Rattle.std.specs.List.{prefix_len}
use Rattle.std.proofs.lemmas.Bool.Decides.{nat_tests}
use Rattle.std.proofs.lemmas.Int.{ints}
use Rattle.kv_base.specs.Map.{Bytes}
use Rattle.kv_base.specs.Number.{value_of_digits}
use Rattle.kv_base.specs.Score.{is_zero_fraction, read_magnitude, signed, read_score}
use Rattle.redis_model.specs.declared.command.Bound.{Bound}
use Rattle.redis_model.specs.declared.command.Bound.TheVariants as bound
use Rattle.redis_model.specs.Limits.{IsName, IsShort, IsWholeScore, IsBound, IsGivenTime}
use Rattle.cmd_words.specs.Words.{is}
use Rattle.cmd_words.specs.Bounds.{bound_at, end_by, read_bound}
use Rattle.cmd_words.specs.Places.{Place, K, V, F, M, N, S, B, D, Count, NotLeast, Zero, TimeToLive, After, Until, Said, said, int_of, is_long, no_int, beyond, is_not_zero, too_long, not_int, bad_time, no_database}

abbrev pub Fits : (p : Place) → Said p → Type 0
Fits K w = IsName w
Fits V w = IsShort w
Fits F w = IsName w
Fits M w = IsName w
Fits N z = Unit {0}
Fits S z = IsWholeScore z
Fits B b = IsBound b
Fits D e = Unit {0}
Fits Count z = pos 0 ≤ℤ z
Fits NotLeast z = z ≢ negsuc (2 ^ 63 - 1)
Fits Zero z = z ≡ pos 0
Fits (TimeToLive u) x = IsGivenTime x
Fits (After u) x = IsGivenTime x
Fits (Until u) x = IsGivenTime x

-- ---- scores

abbrev Small : Option ℕ → Type 0
Small o = (n : ℕ) → o ≡ Some n → n ≤ 2 ^ 53

kept_small : (a b : Bool) (value n : ℕ) → (if a && b && nat_le value (2 ^ 53) then Some value else None) ≡ Some n → n ≤ 2 ^ 53
kept_small a b value n e = grind (arith, nat_tests)

magnitude_small : (w : Bytes) → Small (read_magnitude w)
unfolding read_magnitude
magnitude_small w n e = kept_small (nat_lt 0 (prefix_len is_ascii_digit w)) (is_zero_fraction (drop (prefix_len is_ascii_digit w) w)) (value_of_digits (take (prefix_len is_ascii_digit w) w)) n e

abbrev Whole : Option ℤ → Type 0
Whole o = IsWholeScore (unwrap_or o (pos 0))

zero_whole : IsWholeScore (pos 0)
zero_whole = (omega (arith, ints), omega (arith, ints))

plus_whole : (o : Option ℕ) → Small o → Whole (option_map pos o)
plus_whole None h = zero_whole
plus_whole (Some n) h = let k : n ≤ 2 ^ 53 = h n refl in (omega (arith, ints), omega (arith, ints))

minus_whole : (o : Option ℕ) → Small o → Whole (option_map (λ n. neg_ℤ (pos n)) o)
minus_whole None h = zero_whole
minus_whole (Some zero) h = zero_whole
minus_whole (Some (suc n)) h = let k : suc n ≤ 2 ^ 53 = h (suc n) refl in (omega (arith, ints), omega (arith, ints))

cond_whole : (b : Bool) (o p : Option ℤ) → Whole o → Whole p → Whole (if b then o else p)
cond_whole true o p h k = h
cond_whole false o p h k = k

signed_whole : (w : Bytes) → Whole (signed w)
signed_whole [] = zero_whole
signed_whole (b ∷ bs) = cond_whole (b == 45) _ _ (minus_whole (read_magnitude bs) (magnitude_small bs)) (cond_whole (b == 43) _ _ (plus_whole (read_magnitude bs) (magnitude_small bs)) (plus_whole (read_magnitude (b ∷ bs)) (magnitude_small (b ∷ bs))))

pub score_whole : (w : Bytes) → Whole (read_score w)
unfolding read_score
score_whole w = cond_whole (nat_le (length w) 64) _ _ (signed_whole w) zero_whole

-- ---- ends of ranges

abbrev Bounded : Option Bound → Type 0
Bounded o = IsBound (unwrap_or o bound.Least)

cond_bounded : (b : Bool) (o p : Option Bound) → Bounded o → Bounded p → Bounded (if b then o else p)
cond_bounded true o p h k = h
cond_bounded false o p h k = k

end_bounded : (past : Bool) (o : Option ℤ) → Whole o → Bounded (bound_at past o)
end_bounded past None h = tt
end_bounded true (Some z) h = h
end_bounded false (Some z) h = h

by_bounded : (past : Bool) (w : Bytes) → Bounded (end_by past w)
by_bounded past w = cond_bounded (is (codes "-inf") w) _ _ tt (cond_bounded (is (codes "+inf") w || is (codes "inf") w) _ _ tt (end_bounded past (read_score w) (score_whole w)))

pub bound_bounded : (w : Bytes) → Bounded (read_bound w)
unfolding read_bound
bound_bounded [] = tt
bound_bounded (b ∷ bs) = cond_bounded (b == 40) _ _ (by_bounded true bs) (by_bounded false (b ∷ bs))

-- ---- each place

pub name_fits : (w : Bytes) → is_long w ≡ false → IsName w
name_fits w h = grind (arith, nat_tests)

pub or_false_left : (a b : Bool) → (a || b) ≡ false → a ≡ false
or_false_left true b h = cc
or_false_left false b h = refl

pub or_false_right : (a b : Bool) → (a || b) ≡ false → b ≡ false
or_false_right true b h = cc
or_false_right false b h = h

count_fits : (z : ℤ) → int_lt z (pos 0) ≡ false → pos 0 ≤ℤ z
count_fits z h = omega (arith, ints)

least_fits : (z : ℤ) → int_le z (negsuc (2 ^ 63 - 1)) ≡ false → z ≢ negsuc (2 ^ 63 - 1)
least_fits z h e = omega (arith, ints)

zero_fits : (z : ℤ) → is_not_zero z ≡ false → z ≡ pos 0
zero_fits (pos zero) h = refl
zero_fits (pos (suc n)) h = cc
zero_fits (negsuc n) h = cc

pub amount_fits : (z : ℤ) → beyond 61 z ≡ false → (negsuc (2 ^ 61 - 1) ≤ℤ z) × (z ≤ℤ pos (2 ^ 61))
amount_fits z h =
    let low : int_lt z (negsuc (2 ^ 61 - 1)) ≡ false = or_false_left (int_lt z (negsuc (2 ^ 61 - 1))) _ h in
    let high : int_lt (pos (2 ^ 61)) z ≡ false = or_false_right (int_lt z (negsuc (2 ^ 61 - 1))) _ h in
    (omega (arith, ints), omega (arith, ints))

deadline_fits : (z : ℤ) → beyond 62 z ≡ false → (negsuc (2 ^ 62 - 1) ≤ℤ z) × (z ≤ℤ pos (2 ^ 62))
deadline_fits z h =
    let low : int_lt z (negsuc (2 ^ 62 - 1)) ≡ false = or_false_left (int_lt z (negsuc (2 ^ 62 - 1))) _ h in
    let high : int_lt (pos (2 ^ 62)) z ≡ false = or_false_right (int_lt z (negsuc (2 ^ 62 - 1))) _ h in
    (omega (arith, ints), omega (arith, ints))

-- a word with no fault
pub record Passed (p : Place) (w : Bytes) : Type 0 where
  pub name : too_long p w ≡ false
  pub whole : not_int p w ≡ false
  pub time : bad_time p w ≡ false
  pub database : no_database p w ≡ false

pub fit : (p : Place) (w : Bytes) → IsShort w → Passed p w → Fits p (said p w)
fit K w short h = name_fits w h.name
fit V w short h = short
fit F w short h = name_fits w h.name
fit M w short h = name_fits w h.name
fit N w short h = tt
fit S w short h = score_whole w
fit B w short h = bound_bounded w
fit D w short h = tt
fit Count w short h = count_fits (int_of w) (or_false_right (no_int w) _ h.whole)
fit NotLeast w short h = least_fits (int_of w) (or_false_right (no_int w) _ h.whole)
fit Zero w short h = zero_fits (int_of w) h.database
fit (TimeToLive u) w short h = amount_fits (pos u *ℤ int_of w) (or_false_right (int_lt (int_of w) (pos 1)) _ h.time)
fit (After u) w short h = amount_fits (pos u *ℤ int_of w) h.time
fit (Until u) w short h = deadline_fits (pos u *ℤ int_of w) h.time
