-- Whether an open record stands at the front of some bytes.
use Rattle.std.proofs.Common.{◌≡◌, ◌≢◌, inl, inr, ⊎_elim, lit<, Fits, w8, ℕ, ◌+◌, ◌*◌, ◌<◌, ◌≤◌, ◌^◌, List, [], ◌∷◌, ◌++◌, length, get_or, take, drop, refl, sym, ◌∙◌, ap, subst, arith, append_assoc, length-drop, length-take, take-append-drop}
use Rattle.std.proofs.lemmas.List.{get_or-drop, get_or-take, drop-drop, length-take-le, get_or_past}
use Rattle.std.proofs.lemmas.Bool.{cases_eq, cases_lt}
use Rattle.std.proofs.lemmas.Nat.{be_bytes_4}
use Rattle.kv_base.specs.Fields.{u32, text}
use Rattle.record_body.specs.Framed.{framed_number}
use Rattle.gated_log.specs.Gated.{records}
use Rattle.gated_log.specs.RecordLaws.{records_none, records_shut, records_cut, records_open}
use Rattle.gated_log.specs.Walk.{StandsAt}

-- the number in a head
pub number_of-head : (l : List ℕ) → 5 ≤ length l → get_or l 1 0 * 16777216 + get_or l 2 0 * 65536 + get_or l 3 0 * 256 + get_or l 4 0 ≡ framed_number (take 4 (drop 1 l))
unfolding framed_number
number_of-head (gate ∷ a ∷ b ∷ c ∷ d ∷ rest) long = omega arith
number_of-head [] long = absurd (omega arith)
number_of-head (gate ∷ []) long = absurd (omega arith)
number_of-head (gate ∷ a ∷ []) long = absurd (omega arith)
number_of-head (gate ∷ a ∷ b ∷ []) long = absurd (omega arith)
number_of-head (gate ∷ a ∷ b ∷ c ∷ []) long = absurd (omega arith)

-- no record: the gate is not open, the head is not whole, or the body is not whole
pub shut_none : (l : List ℕ) → 5 ≤ length l → get_or l 0 0 ≢ 1 → records l ≡ []
shut_none [] long shut = absurd (omega arith)
shut_none (gate ∷ rest) long shut = records_shut gate rest shut

pub short_none : (l : List ℕ) → length l < 5 → records l ≡ []
short_none [] short = records_none
short_none (gate ∷ rest) short = elim (cases_eq gate 1) [
  | inl is_open ↦ ap (λ (g : ℕ). records (g ∷ rest)) is_open ∙ records_cut rest (framed_number (take 4 rest)) refl (omega arith)
  | inr shut ↦ records_shut gate rest shut
]

pub cut_none : (l : List ℕ) (n : ℕ) → 5 ≤ length l → get_or l 0 0 ≡ 1 → n ≡ framed_number (take 4 (drop 1 l)) → length (drop 5 l) < n → records l ≡ []
cut_none [] n long is_open number cut = absurd (omega arith)
cut_none (gate ∷ rest) n long is_open number cut =
    ap (λ (g : ℕ). records (g ∷ rest)) is_open ∙ records_cut rest n (sym number) (omega (arith, length-drop 4 rest))

-- a record, where its gate is open and its body is whole
number_is : (l : List ℕ) (n : ℕ) → ((i : ℕ) → get_or l i 0 < 256) → 4 ≤ length l → n ≡ framed_number (take 4 l) → take 4 l ≡ u32 n
unfolding framed_number u32
number_is l n fits long number = sym (be_bytes_4 (take 4 l) n (length-take-le 4 l long) byte number)
  where
    byte : (i : ℕ) → get_or (take 4 l) i 0 < 256
    byte i = ⊎_elim
        (λ (lt : i < 4). subst (λ (x : ℕ). x < 256) (sym (get_or-take 4 l i 0 lt)) (fits i))
        (λ (le : 4 ≤ i). subst (λ (x : ℕ). x < 256) (sym (get_or_past (take 4 l) i 0 (omega (arith, length-take 4 l)))) (lit< tt))
        (cases_lt i 4)

pub stands_at : (file rest body : List ℕ) (place n : ℕ) → ((i : ℕ) → Fits w8 (get_or file i 0)) → rest ≡ drop place file → 5 ≤ length rest → get_or rest 0 0 ≡ 1
    → n ≡ framed_number (take 4 (drop 1 rest)) → n < 2 ^ 32 → n ≤ length (drop 5 rest) → body ≡ take n (drop 5 rest) → StandsAt place (place + 5 + n) body file
unfolding text
stands_at file rest body place n fits is long is_open number limit room is_body =
    let long_body : length body ≡ n = ap length is_body ∙ length-take-le n (drop 5 rest) room in
    let r = drop 1 rest in
    let byte : (i : ℕ) → get_or r i 0 < 256 = λ i. subst (λ (x : ℕ). x < 256) (sym (ap (λ (l : List ℕ). get_or (drop 1 l) i 0) is ∙ get_or-drop 1 (drop place file) i 0 ∙ get_or-drop place file (1 + i) 0)) (small (place + (1 + i))) in
    let head : take 4 r ≡ u32 n = number_is r n byte (omega (arith, length-drop 1 rest)) number in
    let behind : drop 4 r ≡ body ++ drop n (drop 5 rest) = drop-drop 4 1 rest ∙ sym (take-append-drop n (drop 5 rest)) ∙ ap (λ (l : List ℕ). l ++ drop n (drop 5 rest)) (sym is_body) in
    let last : drop n (drop 5 rest) ≡ drop (place + 5 + n) file = ap (λ (l : List ℕ). drop n (drop 5 l)) is ∙ ap (λ (l : List ℕ). drop n l) (drop-drop 5 place file) ∙ drop-drop n (place + 5) file in
    let whole : r ≡ text body ++ drop (place + 5 + n) file = sym (take-append-drop 4 r) ∙ spell head behind last long_body in
    record {
      fits = omega (arith, long_body, limit);
      is = sym is ∙ opened rest long is_open ∙ ap (λ (l : List ℕ). 1 ∷ l) whole;
      next_is = omega (arith, long_body);
    }
  where
    small : (i : ℕ) → get_or file i 0 < 256
    small i = omega (arith, fits i)

    opened : (l : List ℕ) → 5 ≤ length l → get_or l 0 0 ≡ 1 → l ≡ 1 ∷ drop 1 l
    opened [] long is_open = absurd (omega arith)
    opened (gate ∷ rest) long is_open = ap (λ (g : ℕ). g ∷ rest) is_open

    spell : take 4 (drop 1 rest) ≡ u32 n → drop 4 (drop 1 rest) ≡ body ++ drop n (drop 5 rest) → drop n (drop 5 rest) ≡ drop (place + 5 + n) file → length body ≡ n
        → take 4 (drop 1 rest) ++ drop 4 (drop 1 rest) ≡ text body ++ drop (place + 5 + n) file
    spell head behind last long_body =
        ap (λ (l : List ℕ). l ++ drop 4 (drop 1 rest)) (head ∙ ap u32 (sym long_body))
        ∙ ap (λ (l : List ℕ). u32 (length body) ++ l) (behind ∙ ap (λ (l : List ℕ). body ++ l) last)
        ∙ sym (append_assoc (u32 (length body)) body (drop (place + 5 + n) file))

pub stands_counts : (file body : List ℕ) (place next : ℕ) → StandsAt place next body file → records (drop place file) ≡ body ∷ records (drop next file)
stands_counts file body place next stands = ap records stands.is ∙ records_open body (drop next file) stands.fits
