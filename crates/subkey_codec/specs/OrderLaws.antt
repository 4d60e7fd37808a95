-- Raw keys of a list's elements have the order of their places, and raw keys of a sorted set's members by score have the
-- order of scores and then of members.
use Rattle.std.proofs.Common.{◌≡◌, ℕ, zero, suc, ◌+◌, ◌-◌, ◌*◌, ◌/◌, ◌%◌, ◌<◌, ◌≤◌, ◌^◌, [], ◌∷◌, ◌++◌, refl, sym, ap, inl, inr, true, ◌∙◌, length, arith}
use Rattle.std.specs.Prelude.{ℤ, pos, negsuc, IsTrue, ◌⊎◌}
use Rattle.std.specs.Int.{byte_at, bytes_high_first}
use Rattle.std.specs.declared.cmp.Ordering.{Ordering}
use Rattle.std.specs.declared.cmp.Ordering.TheVariants.{Less, Equal, Greater}
use Rattle.std.specs.Ordering.{nat_cmp, int_cmp, ordering_then}
use Rattle.std.specs.Cmp.{nat_cmp_is}
use Rattle.std.proofs.lemmas.Bool.{cases_order}
use Rattle.std.proofs.lemmas.Bool.Decides.{nat_tests}
use Rattle.std.proofs.Math.Arith.{mod-mul}
use Rattle.std.proofs.Math.Nat.{mod-lt, mod-one, mod-eq_of_lt, mul-le-mul_right, pow-suc}
use Rattle.kv_base.specs.Map.{Bytes, byte_cmp}
use Rattle.kv_base.specs.Number.{fits}
use Rattle.kv_base.specs.Fields.{u64}
use Rattle.kv_base.specs.FieldLaws.{length-u64}
use Rattle.kv_base.specs.RawKeys.{ElementKey, ScoreKey, life_prefix, raw_text, score_number, element_space, score_space}
use Rattle.kv_base.specs.RawKeyLaws.{score_number_low}

-- ---- of numbers

less : (x y : ℕ) → x < y → nat_cmp x y ≡ Less
less x y h = sym (nat_cmp_is x y Less h)

equal : (x y : ℕ) → x ≡ y → nat_cmp x y ≡ Equal
equal x y h = sym (nat_cmp_is x y Equal h)

greater : (x y : ℕ) → y < x → nat_cmp x y ≡ Greater
greater x y h = sym (nat_cmp_is x y Greater h)

-- a digit decides, and else what is behind it
below : (w x y r s : ℕ) → r < w → x < y → x * w + r < y * w + s
below w x y r s low h = let more : suc x * w ≤ y * w = mul-le-mul_right w h in omega arith

shifted_by : (c r s : ℕ) → (r ≡ s) ⊎ ((r < s) ⊎ (s < r)) → nat_cmp (c + r) (c + s) ≡ nat_cmp r s
shifted_by c r s (inl e) = equal (c + r) (c + s) (omega arith) ∙ sym (equal r s e)
shifted_by c r s (inr (inl l)) = less (c + r) (c + s) (omega arith) ∙ sym (less r s l)
shifted_by c r s (inr (inr g)) = greater (c + r) (c + s) (omega arith) ∙ sym (greater r s g)

shifted : (c r s : ℕ) → nat_cmp (c + r) (c + s) ≡ nat_cmp r s
shifted c r s = shifted_by c r s (cases_order r s)

by_cases : (w x y r s : ℕ) → r < w → s < w → (x ≡ y) ⊎ ((x < y) ⊎ (y < x)) → nat_cmp (x * w + r) (y * w + s) ≡ ordering_then (nat_cmp x y) (nat_cmp r s)
by_cases w x y r s low high (inl e) =
    ap (λ k. nat_cmp (k * w + r) (y * w + s)) e ∙ shifted (y * w) r s ∙ sym (ap (λ o. ordering_then o (nat_cmp r s)) (equal x y e))
by_cases w x y r s low high (inr (inl l)) =
    less (x * w + r) (y * w + s) (below w x y r s low l) ∙ sym (ap (λ o. ordering_then o (nat_cmp r s)) (less x y l))
by_cases w x y r s low high (inr (inr g)) =
    greater (x * w + r) (y * w + s) (below w y x s r high g) ∙ sym (ap (λ o. ordering_then o (nat_cmp r s)) (greater x y g))

by_digit : (w x y r s : ℕ) → r < w → s < w → nat_cmp (x * w + r) (y * w + s) ≡ ordering_then (nat_cmp x y) (nat_cmp r s)
by_digit w x y r s low high = by_cases w x y r s low high (cases_order x y)

-- ---- of texts

-- bytes in front that are the same decide nothing
pub behind_front : (front x y : Bytes) → byte_cmp (front ++ x) (front ++ y) ≡ byte_cmp x y
behind_front [] x y = refl
behind_front (b ∷ front) x y = ap (λ o. ordering_then o (byte_cmp (front ++ x) (front ++ y))) (equal b b refl) ∙ behind_front front x y

then_assoc : (a b c : Ordering) → ordering_then a (ordering_then b c) ≡ ordering_then (ordering_then a b) c
then_assoc Less b c = refl
then_assoc Equal b c = refl
then_assoc Greater b c = refl

-- fronts of one length decide, and else what is behind them
pub by_fronts : (a b x y : Bytes) → length a ≡ length b → byte_cmp (a ++ x) (b ++ y) ≡ ordering_then (byte_cmp a b) (byte_cmp x y)
by_fronts [] [] x y long = refl
by_fronts [] (d ∷ b) x y long = absurd (omega arith)
by_fronts (c ∷ a) [] x y long = absurd (omega arith)
by_fronts (c ∷ a) (d ∷ b) x y long = ap (ordering_then (nat_cmp c d)) (by_fronts a b x y (omega arith)) ∙ then_assoc (nat_cmp c d) (byte_cmp a b) (byte_cmp x y)

-- ---- of numbers in bytes

digit_is : (k n : ℕ) → byte_at k n ≡ n / 256 ^ k % 256
digit_is zero n = omega arith
digit_is (suc k) n = refl

positive : (k : ℕ) → 0 < 256 ^ k
positive zero = omega arith
positive (suc k) = let before = positive k in rw (pow-suc 256 k) (omega arith)

split : (k n : ℕ) → n % 256 ^ suc k ≡ (n / 256 ^ k % 256) * 256 ^ k + n % 256 ^ k
split k n = ap (λ m. n % m) (omega (arith, pow-suc 256 k)) ∙ mod-mul n {m = 256} {c = 256 ^ k} (omega arith) (positive k)

high_first : (k a b : ℕ) → byte_cmp (bytes_high_first k a) (bytes_high_first k b) ≡ nat_cmp (a % 256 ^ k) (b % 256 ^ k)
high_first zero a b = sym (equal (a % 256 ^ 0) (b % 256 ^ 0) (mod-one a ∙ sym (mod-one b)))
high_first (suc k) a b =
    let w = 256 ^ k in
    ap (ordering_then (nat_cmp (byte_at k a) (byte_at k b))) (high_first k a b)
    ∙ (λ i. ordering_then (nat_cmp (digit_is k a i) (digit_is k b i)) (nat_cmp (a % w) (b % w)))
    ∙ sym (by_digit w (a / w % 256) (b / w % 256) (a % w) (b % w) (mod-lt a (positive k)) (mod-lt b (positive k)))
    ∙ (λ i. nat_cmp (sym (split k a) i) (sym (split k b) i))

-- numbers in eight bytes have the order of the numbers
pub numbers_ascend : (a b : ℕ) → a < 2 ^ 64 → b < 2 ^ 64 → byte_cmp (u64 a) (u64 b) ≡ nat_cmp a b
unfolding u64
numbers_ascend a b low high =
    let front : a % 256 ^ 8 ≡ a = mod-eq_of_lt low in
    let other : b % 256 ^ 8 ≡ b = mod-eq_of_lt high in
    high_first 8 a b ∙ (λ i. nat_cmp (front i) (other i))

-- ---- of places and scores

same_cmp : (a b : ℕ) → nat_cmp a b ≡ int_cmp (pos a) (pos b)
same_cmp a b = grind (arith, nat_tests)

low_below : (n : ℕ) → fits (negsuc n) ≡ true → n < 2 ^ 63
low_below n h = grind (arith, nat_tests, h)

flipped_by : (a b : ℕ) → a < 2 ^ 63 → b < 2 ^ 63 → (a ≡ b) ⊎ ((a < b) ⊎ (b < a)) → nat_cmp (2 ^ 63 - (a + 1)) (2 ^ 63 - (b + 1)) ≡ nat_cmp b a
flipped_by a b low high (inl e) = equal (2 ^ 63 - (a + 1)) (2 ^ 63 - (b + 1)) (omega arith) ∙ sym (equal b a (sym e))
flipped_by a b low high (inr (inl l)) = greater (2 ^ 63 - (a + 1)) (2 ^ 63 - (b + 1)) (omega arith) ∙ sym (greater b a l)
flipped_by a b low high (inr (inr g)) = less (2 ^ 63 - (a + 1)) (2 ^ 63 - (b + 1)) (omega arith) ∙ sym (less b a g)

same_below : (a b : ℕ) → nat_cmp b a ≡ int_cmp (negsuc a) (negsuc b)
same_below a b = grind (arith, nat_tests)

-- a score's number has the order of the score
pub score_numbers_ascend : (score other : ℤ) → IsTrue (fits score) → IsTrue (fits other) → nat_cmp (score_number score) (score_number other) ≡ int_cmp score other
score_numbers_ascend (pos a) (pos b) h g = shifted (2 ^ 63) a b ∙ same_cmp a b
score_numbers_ascend (pos a) (negsuc b) h g = greater (2 ^ 63 + a) (2 ^ 63 - (b + 1)) (omega arith)
score_numbers_ascend (negsuc a) (pos b) h g = less (2 ^ 63 - (a + 1)) (2 ^ 63 + b) (omega arith)
score_numbers_ascend (negsuc a) (negsuc b) h g = flipped_by a b (low_below a h) (low_below b g) (cases_order a b) ∙ same_below a b

-- the elements of a list stand in the order of their places
pub elements_ascend : (key : Bytes) (version index other : ℕ) → index < 2 ^ 64 → other < 2 ^ 64
    → byte_cmp (raw_text (ElementKey key version (u64 index))) (raw_text (ElementKey key version (u64 other))) ≡ nat_cmp index other
unfolding raw_text
elements_ascend key version index other low high =
    behind_front (life_prefix element_space key version) (u64 index) (u64 other) ∙ numbers_ascend index other low high

-- the members of a sorted set stand by score in the order of their scores, and then of their bytes
pub members_ascend : (key : Bytes) (version : ℕ) (score other : ℤ) (member q : Bytes) → IsTrue (fits score) → IsTrue (fits other)
    → byte_cmp (raw_text (ScoreKey key version score member)) (raw_text (ScoreKey key version other q)) ≡ ordering_then (int_cmp score other) (byte_cmp member q)
unfolding raw_text
members_ascend key version score other member q h g =
    let a = score_number score in
    let b = score_number other in
    behind_front (life_prefix score_space key version) (u64 a ++ member) (u64 b ++ q)
    ∙ by_fronts (u64 a) (u64 b) member q (length-u64 a ∙ sym (length-u64 b))
    ∙ ap (λ o. ordering_then o (byte_cmp member q)) (numbers_ascend a b (score_number_low score h) (score_number_low other g) ∙ score_numbers_ascend score other h g)
