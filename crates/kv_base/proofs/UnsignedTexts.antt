-- Which texts are the one text of a number without a sign.
use Rattle.std.proofs.Common.{◌≡◌, refl, ℕ, ◌<◌, ◌^◌, ◌&&◌, true, false, if◌then◌else◌, Option, Some, None, SomeIff, ap, sym, subst, ◌∙◌, arith}
use Rattle.std.specs.Prelude.{nat_lt, decimal}
use Rattle.std.proofs.lemmas.Bool.Decides.{nat_tests}
use Rattle.kv_base.specs.Digits.{IsPlain}
use Rattle.kv_base.specs.Map.{Bytes, same, same_is, same_itself}
use Rattle.kv_base.specs.Number.{value_of_digits}
use Rattle.kv_base.specs.Unsigned.{read_u64}
use Rattle.kv_base.proofs.IntegerTexts.{decimal_is, decimal_plain}

fits_is : (n : ℕ) → nat_lt n (2 ^ 64) ≡ true → n < 2 ^ 64
fits_is n h = grind (arith, nat_tests, h)

fits_if : (n : ℕ) → n < 2 ^ 64 → nat_lt n (2 ^ 64) ≡ true
fits_if n h = grind (arith, nat_tests)

taken : (text : Bytes) → IsPlain text → value_of_digits text < 2 ^ 64 → read_u64 text ≡ Some (value_of_digits text)
unfolding read_u64
taken text p less =
    let f : nat_lt (value_of_digits text) (2 ^ 64) ≡ true = fits_if (value_of_digits text) less in
    let s : same text (decimal (value_of_digits text)) ≡ true = rw (decimal_is text p less) (same_itself text) in
    rw (f, s) refl

refused : (text : Bytes) → (IsPlain text × (value_of_digits text < 2 ^ 64) → ⊥) → read_u64 text ≡ None
unfolding read_u64
refused text never =
    let n = value_of_digits text in
    elim (nat_lt n (2 ^ 64)) as (λ a. nat_lt n (2 ^ 64) ≡ a → (if a && same text (decimal n) then Some n else None) ≡ None) [
      | true ↦ λ f. elim (same text (decimal n)) as (λ b. same text (decimal n) ≡ b → (if b then Some n else None) ≡ None) [
        | true ↦ λ s. absurd (never (subst IsPlain (sym (same_is text (decimal n) s)) (decimal_plain n (fits_is n f)), fits_is n f))
        | false ↦ λ s. refl
      ] refl
      | false ↦ λ f. refl
    ] refl

pub is_read : (text : Bytes) (r : Option ℕ) → SomeIff r (IsPlain text × (value_of_digits text < 2 ^ 64)) (value_of_digits text) → r ≡ read_u64 text
is_read text None never = sym (refused text never)
is_read text (Some n) h = ap Some h.1 ∙ sym (taken text h.0.0 h.0.1)
