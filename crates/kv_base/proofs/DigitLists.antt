-- Digits, and the number that they are.
use Rattle.std.proofs.Common.{◌≡◌, refl, ℕ, zero, suc, ◌+◌, ◌-◌, ◌*◌, ◌<◌, ◌≤◌, ◌^◌, true, false, cond, List, [], ◌∷◌, length, get_or, take, drop, ap, sym, ◌∙◌, arith, rules}
use Rattle.std.specs.Prelude.{fold}
use Rattle.std.specs.Char.{is_ascii_digit}
use Rattle.std.specs.List.{prefix_len}
use Rattle.std.proofs.lemmas.List.{drop_all}
use Rattle.std.proofs.lemmas.Str.Parse.{IsNumeralModel, numerals_by_fold}
use Rattle.kv_base.specs.Digits.{are_digits}
use Rattle.kv_base.specs.Map.{Bytes}
use Rattle.kv_base.specs.Number.{value_of_digits}

-- the number so far, and digits after it
abbrev pub read_on : ℕ → List ℕ → ℕ
read_on n [] = n
read_on n (c ∷ cs) = read_on (10 * n + (c - 48)) cs

pub read_on_is : (n : ℕ) (ds : List ℕ) → fold (λ n d. 10 * n + (d - 48)) n ds ≡ read_on n ds
read_on_is n [] = refl
read_on_is n (d ∷ ds) = read_on_is (10 * n + (d - 48)) ds

pub numerals : IsNumeralModel (λ ds. are_digits ds ≡ true) (read_on 0)
numerals = numerals_by_fold _ (search rules) read_on (search rules)

grows : (n : ℕ) (ds : List ℕ) → n ≤ read_on n ds
grows n [] = omega arith
grows n (d ∷ ds) = omega (arith, grows (10 * n + (d - 48)) ds)

step : (v : ℕ) (ws : List ℕ) (i : ℕ) → i < length ws → read_on v (drop i ws) ≡ read_on (10 * v + (get_or ws i 0 - 48)) (drop (suc i) ws)
step v [] i h = let no : ⊥ = omega arith in absurd no
step v (w ∷ ws) zero h = refl
step v (w ∷ ws) (suc i) h = let less : i < length ws = omega arith in step v ws i less

pub too_much : (text : Bytes) (i v : ℕ) → i < length text → read_on v (drop i text) ≡ read_on 0 text → 2 ^ 64 ≤ 10 * v + (get_or text i 0 - 48) → (value_of_digits text < 2 ^ 64 → ⊥)
too_much text i v h e m less =
    let s = step v text i h in
    let g = grows (10 * v + (get_or text i 0 - 48)) (drop (suc i) text) in
    let w = read_on_is 0 text in
    omega (arith, s, g, w, e)

take_one_more : (n b : ℕ) (bs : Bytes) → take (1 + n) (b ∷ bs) ≡ b ∷ take n bs
take_one_more n b bs = let e : 1 + n ≡ suc n = omega arith in ap (λ k. take k (b ∷ bs)) e

digit_more : (b : ℕ) (bs : Bytes) → is_ascii_digit b ≡ true → are_digits bs ≡ true → are_digits (b ∷ bs) ≡ true
digit_more b bs e f = rw (e, f) refl

pub digits_taken : (text : Bytes) → are_digits (take (prefix_len is_ascii_digit text) text) ≡ true
digits_taken [] = refl
digits_taken (b ∷ bs) =
    elim (is_ascii_digit b) as (λ t. is_ascii_digit b ≡ t → are_digits (take (cond t (1 + prefix_len is_ascii_digit bs) 0) (b ∷ bs)) ≡ true) [
      | true ↦ λ e. ap are_digits (take_one_more (prefix_len is_ascii_digit bs) b bs) ∙ digit_more b (take (prefix_len is_ascii_digit bs) bs) e (digits_taken bs)
      | false ↦ λ e. refl
    ] refl

pub whole_is : (text : Bytes) (v i : ℕ) → length text ≤ i → read_on v (drop i text) ≡ read_on 0 text → v ≡ value_of_digits text
whole_is text v i h e =
    let d : drop i text ≡ [] = drop_all i text h in
    let w = read_on_is 0 text in
    (rw d at e) ∙ sym w
