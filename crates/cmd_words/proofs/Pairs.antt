-- Words in pairs, and words that are moved from the end.
use Rattle.std.proofs.Common.{◌≡◌, refl, ℕ, zero, suc, ◌<◌, ◌≤◌, ◌+◌, ◌-◌, ◌%◌, false, List, [], ◌∷◌, ◌++◌, length, length-append, length-drop, drop, reverse, append_assoc, ap, sym, ◌∙◌, arith}
use Rattle.std.proofs.lemmas.List.{reverse-append}
use Rattle.kv_base.specs.Map.{Bytes}
use Rattle.std.proofs.lemmas.Bool.Decides.{nat_tests}
use Rattle.cmd_words.specs.Add.{off}
use Rattle.cmd_words.specs.declared.add.AddFlags.{AddFlags}
use Rattle.cmd_words.specs.Reading.{firsts, seconds}

-- what is left, and then what was moved from its end
pub moved : {A : Type 0} (words left moved_ones whole : List A) (w : A) → words ++ reverse moved_ones ≡ whole → words ≡ left ++ w ∷ [] → left ++ reverse (moved_ones ++ w ∷ []) ≡ whole
moved words left moved_ones whole w h e =
    ap (λ r. left ++ r) (reverse-append moved_ones (w ∷ [])) ∙ sym (append_assoc left (w ∷ []) (reverse moved_ones)) ∙ ap (λ l. l ++ reverse moved_ones) (sym e) ∙ h

-- ---- a pair behind whole pairs

pub firsts-behind : (ws : List Bytes) (a b : Bytes) → length ws % 2 ≡ 0 → firsts (ws ++ a ∷ b ∷ []) ≡ firsts ws ++ a ∷ []
firsts-behind [] a b h = refl
firsts-behind (x ∷ []) a b h = let no : ⊥ = omega arith in absurd no
firsts-behind (x ∷ y ∷ ws) a b h = ap (λ l. x ∷ l) (firsts-behind ws a b (omega arith))

pub seconds-behind : (ws : List Bytes) (a b : Bytes) → length ws % 2 ≡ 0 → seconds (ws ++ a ∷ b ∷ []) ≡ seconds ws ++ b ∷ []
seconds-behind [] a b h = refl
seconds-behind (x ∷ []) a b h = let no : ⊥ = omega arith in absurd no
seconds-behind (x ∷ y ∷ ws) a b h = ap (λ l. y ∷ l) (seconds-behind ws a b (omega arith))

drop-front : {A : Type 0} (n : ℕ) (xs ys : List A) → n ≤ length xs → drop n (xs ++ ys) ≡ drop n xs ++ ys
drop-front zero xs ys h = refl
drop-front (suc n) [] ys h = let no : ⊥ = omega arith in absurd no
drop-front (suc n) (x ∷ xs) ys h = drop-front n xs ys (omega arith)

pub record IsPairBehind (left : ℕ) (words rest : List Bytes) (a b : Bytes) : Type 0 where
  pub within : left ≤ length rest
  pub whole : (length rest - left) % 2 ≡ 0
  pub first_one : firsts (drop left words) ≡ firsts (drop left rest) ++ a ∷ []
  pub second_one : seconds (drop left words) ≡ seconds (drop left rest) ++ b ∷ []

pub pair_behind : (left : ℕ) (words middle rest : List Bytes) (a b : Bytes) → left < length words → (length words - left) % 2 ≡ 0 → words ≡ middle ++ b ∷ [] → middle ≡ rest ++ a ∷ [] → IsPairBehind left words rest a b
pair_behind left words middle rest a b lt even e f =
    let g : words ≡ rest ++ (a ∷ b ∷ []) = e ∙ ap (λ m. m ++ b ∷ []) f ∙ append_assoc rest (a ∷ []) (b ∷ []) in
    let n : length words ≡ length rest + 2 = ap length g ∙ length-append rest (a ∷ b ∷ []) in
    let within : left ≤ length rest = omega arith in
    let whole : (length rest - left) % 2 ≡ 0 = omega arith in
    let d : drop left words ≡ drop left rest ++ a ∷ b ∷ [] = ap (drop left) g ∙ drop-front left rest (a ∷ b ∷ []) within in
    let k : length (drop left rest) % 2 ≡ 0 = rw (length-drop left rest) whole in
    record {
      within = within;
      whole = whole;
      first_one = ap firsts d ∙ firsts-behind (drop left rest) a b k;
      second_one = ap seconds d ∙ seconds-behind (drop left rest) a b k;
    }

pub whole_pairs : (f : AddFlags) (ws : List Bytes) → off f ws ≡ false → length ws % 2 ≡ 0
unfolding off
whole_pairs f ws h = grind (arith, nat_tests)
