-- Which texts are the one text of an integer.
use Rattle.std.proofs.Common.{◌≡◌, ◌≢◌, refl, ℕ, zero, suc, ◌<◌, ◌≤◌, ◌^◌, ◌&&◌, Bool, true, false, if◌then◌else◌, [], ◌∷◌, length, get_or, Option, Some, None, SomeIff, ap, sym, subst, ◌∙◌, arith}
use Rattle.std.specs.Prelude.{ℤ, pos, negsuc, neg_ℤ, ◌==◌}
use Rattle.std.specs.Fmt.{decimal}
use Rattle.std.proofs.lemmas.Bool.Decides.{nat_tests}
use Rattle.std.proofs.lemmas.Fmt.{decimal-digits_value, digits_decimal, first_decimal, decimal_nonempty, decimal_digit}
use Rattle.kv_base.specs.Digits.{IsPlain}
use Rattle.kv_base.specs.Map.{Bytes, same, same_is, same_itself}
use Rattle.kv_base.specs.Number.{value_of_digits, int_text, fits, read_int}
use Rattle.kv_base.proofs.DigitLists.{numerals, read_on_is}

-- ---- plain digits are the decimal of their number

pub decimal_is : (ds : Bytes) → IsPlain ds → value_of_digits ds < 2 ^ 64 → decimal (value_of_digits ds) ≡ ds
decimal_is ds p h = rw (read_on_is 0 ds) (decimal-digits_value numerals ds p.0 p.1 p.2 (rw (read_on_is 0 ds) at h))

first_zero : (n : ℕ) → n < 2 ^ 64 → get_or (decimal n) 0 0 ≡ 48 → length (decimal n) ≡ 1
first_zero zero h e = ap length (decimal_digit 0 (omega arith))
first_zero (suc n) h e = let no : ⊥ = omega (arith, first_decimal (suc n) (omega arith) h) in absurd no

pub decimal_plain : (n : ℕ) → n < 2 ^ 64 → IsPlain (decimal n)
decimal_plain n h = (digits_decimal numerals n h, decimal_nonempty n h, first_zero n h)

-- ---- the number whose text it is, if it fits

read_at : Bytes → ℤ → Option ℤ
read_at text z = if fits z && same text (int_text z) then Some z else None

read_by : (b : ℕ) (bs : Bytes) → read_int (b ∷ bs) ≡ read_at (b ∷ bs) (if b == 45 then neg_ℤ (pos (value_of_digits bs)) else pos (value_of_digits (b ∷ bs)))
unfolding read_int read_at
read_by b bs = refl

taken : (text : Bytes) (z : ℤ) → fits z ≡ true → int_text z ≡ text → read_at text z ≡ Some z
unfolding read_at
taken text z f e =
    let s : same text (int_text z) ≡ true = rw e (same_itself text) in
    rw (f, s) refl

refused : (text : Bytes) (z : ℤ) → (fits z ≡ true → int_text z ≡ text → ⊥) → read_at text z ≡ None
unfolding read_at
refused text z never =
    elim (fits z) as (λ a. fits z ≡ a → (if a && same text (int_text z) then Some z else None) ≡ None) [
      | true ↦ λ f. elim (same text (int_text z)) as (λ b. same text (int_text z) ≡ b → (if b then Some z else None) ≡ None) [
        | true ↦ λ s. absurd (never f (sym (same_is text (int_text z) s)))
        | false ↦ λ s. refl
      ] refl
      | false ↦ λ f. refl
    ] refl

decided : (text : Bytes) (z : ℤ) (P : Type 0) (r : Option ℤ) → SomeIff r P z → (P → (fits z ≡ true) × (int_text z ≡ text)) → (fits z ≡ true → int_text z ≡ text → P) → read_at text z ≡ r
decided text z P None h there back = refused text z (λ f e. h (back f e))
decided text z P (Some x) h there back = taken text z (there h.0).0 (there h.0).1 ∙ ap Some (sym h.1)

-- ---- the text of an integer

fits_above : (n : ℕ) → fits (pos n) ≡ true → n < 2 ^ 63
fits_above n h = grind (arith, nat_tests, h)

fits_above_if : (n : ℕ) → n < 2 ^ 63 → fits (pos n) ≡ true
fits_above_if n h = grind (arith, nat_tests)

fits_below : (n : ℕ) → fits (negsuc n) ≡ true → n < 2 ^ 63
fits_below n h = grind (arith, nat_tests, h)

fits_below_if : (n : ℕ) → n < 2 ^ 63 → fits (negsuc n) ≡ true
fits_below_if n h = grind (arith, nat_tests)

is_not : (b : ℕ) → b ≢ 45 → (b == 45) ≡ false
is_not b h = grind (arith, nat_tests)

pub int_empty : (text : Bytes) → length text ≡ 0 → read_int text ≡ None
unfolding read_int read_at
int_empty [] h = refused [] (pos 0) (λ f e. let never = ap length (sym (decimal_digit 0 (omega arith)) ∙ e) in omega (arith, never))
int_empty (b ∷ bs) h = let never : ⊥ = omega arith in absurd never

read_positive : (text : Bytes) (b : ℕ) (bs : Bytes) → text ≡ b ∷ bs → b ≢ 45 → read_int text ≡ read_at text (pos (value_of_digits text))
read_positive text b bs t m =
    ap read_int t ∙ read_by b bs ∙ ap (λ (s : Bool). read_at (b ∷ bs) (if s then neg_ℤ (pos (value_of_digits bs)) else pos (value_of_digits (b ∷ bs)))) (is_not b m) ∙ ap (λ (w : Bytes). read_at w (pos (value_of_digits w))) (sym t)

positive_is : (text : Bytes) → fits (pos (value_of_digits text)) ≡ true → decimal (value_of_digits text) ≡ text → IsPlain text × (value_of_digits text < 2 ^ 63)
positive_is text f e =
    let less = fits_above (value_of_digits text) f in
    (subst IsPlain e (decimal_plain (value_of_digits text) (omega (arith, less))), less)

pub int_positive : (text : Bytes) (b : ℕ) (bs : Bytes) (n : ℕ) (r : Option ℤ) → text ≡ b ∷ bs → b ≢ 45 → IsPlain text → n ≡ value_of_digits text → SomeIff r (n < 2 ^ 63) (pos n) → read_int text ≡ r
int_positive text b bs n r t m p e h =
    let at : SomeIff r (value_of_digits text < 2 ^ 63) (pos (value_of_digits text)) = rw e at h in
    read_positive text b bs t m ∙ decided text _ _ r at (λ less. (fits_above_if _ less, decimal_is text p (omega (arith, less)))) (λ f d. (positive_is text f d).1)

pub int_positive_none : (text : Bytes) (b : ℕ) (bs : Bytes) → text ≡ b ∷ bs → b ≢ 45 → (IsPlain text × (value_of_digits text < 2 ^ 64) → ⊥) → read_int text ≡ None
int_positive_none text b bs t m none =
    read_positive text b bs t m ∙ refused text _ (λ f d. let p = positive_is text f d in none (p.0, omega (arith, p.1)))

read_negative : (bs : Bytes) → read_int (45 ∷ bs) ≡ read_at (45 ∷ bs) (neg_ℤ (pos (value_of_digits bs)))
unfolding read_int read_at
read_negative bs = refl

zero_is_not : (bs : Bytes) → decimal 0 ≡ 45 ∷ bs → ⊥
zero_is_not bs e = let first = ap (λ (l : Bytes). get_or l 0 0) (sym (decimal_digit 0 (omega arith)) ∙ e) in omega (arith, first)

negative_is : (bs : Bytes) (v : ℕ) → fits (neg_ℤ (pos v)) ≡ true → int_text (neg_ℤ (pos v)) ≡ 45 ∷ bs → IsPlain bs × (0 < v) × (v ≤ 2 ^ 63)
negative_is bs zero f e = absurd (zero_is_not bs e)
negative_is bs (suc n) f e =
    let less = fits_below n f in
    let rest : decimal (suc n) ≡ bs = cc in
    (subst IsPlain rest (decimal_plain (suc n) (omega (arith, less))), omega arith, omega (arith, less))

negative_text : (bs : Bytes) (v : ℕ) → decimal v ≡ bs → (0 < v) × (v ≤ 2 ^ 63) → (fits (neg_ℤ (pos v)) ≡ true) × (int_text (neg_ℤ (pos v)) ≡ 45 ∷ bs)
negative_text bs zero e h = let never : ⊥ = omega (arith, h.0) in absurd never
negative_text bs (suc n) e h = (fits_below_if n (omega (arith, h.1)), ap (λ l. 45 ∷ l) e)

pub int_negative : (text : Bytes) (b : ℕ) (bs : Bytes) (n : ℕ) (r : Option ℤ) → text ≡ b ∷ bs → b ≡ 45 → IsPlain bs → n ≡ value_of_digits bs → SomeIff r ((0 < n) × (n ≤ 2 ^ 63)) (neg_ℤ (pos n)) → read_int text ≡ r
int_negative text b bs n r t m p e h =
    let at : SomeIff r ((0 < value_of_digits bs) × (value_of_digits bs ≤ 2 ^ 63)) (neg_ℤ (pos (value_of_digits bs))) = rw e at h in
    rw (t, m) (read_negative bs ∙ decided (45 ∷ bs) _ _ r at (λ b. negative_text bs _ (decimal_is bs p (omega (arith, b.1))) b) (λ f d. let p = negative_is bs (value_of_digits bs) f d in (p.1, p.2)))

pub int_negative_none : (text : Bytes) (b : ℕ) (bs : Bytes) → text ≡ b ∷ bs → b ≡ 45 → (IsPlain bs × (value_of_digits bs < 2 ^ 64) → ⊥) → read_int text ≡ None
int_negative_none text b bs t m none =
    rw (t, m) (read_negative bs ∙ refused (45 ∷ bs) _ (λ f d. let p = negative_is bs (value_of_digits bs) f d in none (p.0, omega (arith, p.2))))
