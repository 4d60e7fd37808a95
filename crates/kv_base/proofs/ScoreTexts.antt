-- Scores as texts.
use Rattle.std.proofs.Common.{◌≡◌, ◌≢◌, refl, ℕ, ◌<◌, ◌≤◌, ◌^◌, ◌&&◌, Bool, true, false, if◌then◌else◌, nat_lt, [], ◌∷◌, length, take, drop, Option, Some, None, ap, sym, ◌∙◌, arith}
use Rattle.std.specs.Prelude.{ℤ, pos, neg_ℤ, ◌==◌, nat_le, option_map}
use Rattle.std.specs.Char.{is_ascii_digit}
use Rattle.std.specs.List.{prefix_len}
use Rattle.std.proofs.lemmas.Bool.Decides.{nat_tests}
use Rattle.std.proofs.lemmas.List.Sums.{prefix_len-le-length}
use Rattle.kv_base.specs.Map.{Bytes}
use Rattle.kv_base.specs.Number.{value_of_digits}
use Rattle.kv_base.specs.Score.{is_zero_fraction, read_magnitude, signed, read_score}

-- ---- what a text's digits and the text behind them decide

by_parts : Bool → Bool → Bool → ℕ → Option ℕ
by_parts a b c n = if a && b && c then Some n else None

at_count : Bytes → ℕ → Option ℕ
at_count text count = let value = value_of_digits (take count text) in by_parts (nat_lt 0 count) (is_zero_fraction (drop count text)) (nat_le value (2 ^ 53)) value

counted : (text : Bytes) (count : ℕ) → count ≡ prefix_len is_ascii_digit text → at_count text count ≡ read_magnitude text
unfolding read_magnitude at_count by_parts
counted text count e = ap (at_count text) e

no_second : (a b c : Bool) (n : ℕ) → b ≡ false → by_parts a b c n ≡ None
unfolding by_parts
no_second true b c n e = rw e refl
no_second false b c n e = refl

no_third : (a b c : Bool) (n : ℕ) → c ≡ false → by_parts a b c n ≡ None
unfolding by_parts
no_third true true c n e = rw e refl
no_third true false c n e = refl
no_third false b c n e = refl

all_three : (a b c : Bool) (n : ℕ) → a ≡ true → b ≡ true → c ≡ true → by_parts a b c n ≡ Some n
unfolding by_parts
all_three a b c n e f g = rw (e, f, g) refl

no_digits_at : (text : Bytes) (count : ℕ) → count ≡ 0 → at_count text count ≡ None
unfolding at_count by_parts
no_digits_at text count e = rw e refl

no_fraction_at : (text : Bytes) (count : ℕ) → is_zero_fraction (drop count text) ≡ false → at_count text count ≡ None
unfolding at_count
no_fraction_at text count f = no_second (nat_lt 0 count) _ (nat_le (value_of_digits (take count text)) (2 ^ 53)) _ f

too_large_at : (text : Bytes) (count : ℕ) → 2 ^ 53 < value_of_digits (take count text) → at_count text count ≡ None
unfolding at_count
too_large_at text count h =
    let c : nat_le (value_of_digits (take count text)) (2 ^ 53) ≡ false = grind (arith, nat_tests) in
    no_third (nat_lt 0 count) (is_zero_fraction (drop count text)) _ _ c

magnitude_at : (text : Bytes) (count : ℕ) → 0 < count → is_zero_fraction (drop count text) ≡ true → value_of_digits (take count text) ≤ 2 ^ 53 → at_count text count ≡ Some (value_of_digits (take count text))
unfolding at_count
magnitude_at text count some f h =
    let a : nat_lt 0 count ≡ true = grind (arith, nat_tests) in
    let c : nat_le (value_of_digits (take count text)) (2 ^ 53) ≡ true = grind (arith, nat_tests) in
    all_three _ _ _ _ a f c

-- ---- a magnitude, by the parts that the text was split into

pub digits_within : (text : Bytes) (count : ℕ) → count ≡ prefix_len is_ascii_digit text → count ≤ length text
digits_within text count e = omega (arith, prefix_len-le-length is_ascii_digit text)

pub no_digits : (text : Bytes) (count : ℕ) → count ≡ prefix_len is_ascii_digit text → count ≡ 0 → read_magnitude text ≡ None
no_digits text count e zero = sym (counted text count e) ∙ no_digits_at text count zero

pub no_fraction : (text : Bytes) (count : ℕ) → count ≡ prefix_len is_ascii_digit text → is_zero_fraction (drop count text) ≡ false → read_magnitude text ≡ None
no_fraction text count e f = sym (counted text count e) ∙ no_fraction_at text count f

pub too_large : (text : Bytes) (count : ℕ) → count ≡ prefix_len is_ascii_digit text → 2 ^ 53 < value_of_digits (take count text) → read_magnitude text ≡ None
too_large text count e h = sym (counted text count e) ∙ too_large_at text count h

pub magnitude : (text : Bytes) (count : ℕ) → count ≡ prefix_len is_ascii_digit text → 0 < count → is_zero_fraction (drop count text) ≡ true → value_of_digits (take count text) ≤ 2 ^ 53 → read_magnitude text ≡ Some (value_of_digits (take count text))
magnitude text count e some f h = sym (counted text count e) ∙ magnitude_at text count some f h

-- ---- a score, by its sign

pub score_too_long : (text : Bytes) → 64 < length text → read_score text ≡ None
unfolding read_score
score_too_long text h = let e : nat_le (length text) 64 ≡ false = grind (arith, nat_tests) in rw e refl

short : (text : Bytes) → length text ≤ 64 → read_score text ≡ signed text
unfolding read_score
short text h = let e : nat_le (length text) 64 ≡ true = grind (arith, nat_tests) in rw e refl

pub score_empty : (text : Bytes) → length text ≡ 0 → read_score text ≡ None
score_empty [] h = short [] (omega arith)
score_empty (b ∷ bs) h = let never : ⊥ = omega arith in absurd never

pub score_minus : (text : Bytes) (b : ℕ) (bs : Bytes) (r : Option ℕ) → length text ≤ 64 → text ≡ b ∷ bs → b ≡ 45 → read_magnitude bs ≡ r → read_score text ≡ option_map (λ n. neg_ℤ (pos n)) r
score_minus text b bs r h t m e = short text h ∙ rw (t, m, e) refl

pub score_plus : (text : Bytes) (b : ℕ) (bs : Bytes) (r : Option ℕ) → length text ≤ 64 → text ≡ b ∷ bs → b ≡ 43 → read_magnitude bs ≡ r → read_score text ≡ option_map pos r
score_plus text b bs r h t p e = short text h ∙ rw (t, p, e) refl

by_first : Bool → Bool → Bytes → Bytes → Option ℤ
by_first minus plus text bs = if minus then option_map (λ n. neg_ℤ (pos n)) (read_magnitude bs) else if plus then option_map pos (read_magnitude bs) else option_map pos (read_magnitude text)

signed_by : (b : ℕ) (bs : Bytes) → signed (b ∷ bs) ≡ by_first (b == 45) (b == 43) (b ∷ bs) bs
unfolding by_first
signed_by b bs = refl

no_sign : (minus plus : Bool) (text bs : Bytes) → minus ≡ false → plus ≡ false → by_first minus plus text bs ≡ option_map pos (read_magnitude text)
unfolding by_first
no_sign minus plus text bs e f = rw (e, f) refl

pub score_unsigned : (text : Bytes) (b : ℕ) (bs : Bytes) → length text ≤ 64 → text ≡ b ∷ bs → b ≢ 45 → b ≢ 43 → read_score text ≡ option_map pos (read_magnitude text)
score_unsigned text b bs h t m p =
    let e : (b == 45) ≡ false = grind (arith, nat_tests) in
    let f : (b == 43) ≡ false = grind (arith, nat_tests) in
    short text h ∙ ap signed t ∙ signed_by b bs ∙ no_sign _ _ (b ∷ bs) bs e f ∙ ap (λ w. option_map pos (read_magnitude w)) (sym t)
