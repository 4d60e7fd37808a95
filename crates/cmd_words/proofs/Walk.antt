-- Lists that are gone over.
use Rattle.std.proofs.Common.{◌≡◌, ℕ, zero, suc, ◌<◌, ◌+◌, Bool, List, [], ◌∷◌, length, drop, get_or, ap, sym, arith, add-one, rules}
use Rattle.std.specs.Prelude.{IsTrue, ◌↔◌}
use Rattle.std.specs.List.{remove}
use Rattle.std.proofs.lemmas.Slice.Eq.{bytes_eq-Decides}
use Rattle.kv_base.specs.Map.{Bytes}
use Rattle.cmd_words.specs.Words.{is, lower}

pub test_is : (r : Bool) (name w : Bytes) → (IsTrue r ↔ (lower w ≡ lower name)) → r ≡ is name w
unfolding is
test_is r name w h = search (rules, bytes_eq-Decides)

pub first_word : (ws : List Bytes) (n : Bytes) → 0 < length ws → n ≡ get_or ws 0 n → ws ≡ n ∷ remove ws 0
first_word [] n h e = let no : ⊥ = omega arith in absurd no
first_word (x ∷ ws) n h e = λ i. sym e i ∷ ws

-- what is behind a place begins with what stands there
pub drop-step : {A : Type 0} (ws : List A) (i : ℕ) (w : A) → i < length ws → w ≡ get_or ws i w → drop i ws ≡ w ∷ drop (i + 1) ws
drop-step [] i w h e = let no : ⊥ = omega arith in absurd no
drop-step (x ∷ ws) zero w h e = ap (λ y. y ∷ ws) (sym e)
drop-step (x ∷ ws) (suc i) w h e =
    let less : i < length ws = omega arith in
    let inner : drop i ws ≡ w ∷ drop (i + 1) ws = drop-step ws i w less e in
    rw add-one (rw add-one at inner)
