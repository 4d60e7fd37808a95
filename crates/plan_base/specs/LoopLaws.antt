-- What loops keep that look at one thing after the other, as they meet one more.
use Rattle.std.proofs.Common.{◌≡◌, ℕ, ◌+◌, ◌<◌, ap, sym, subst, ◌∙◌, List, [], ◌∷◌, ◌++◌, length, take, get_or}
use Rattle.std.proofs.lemmas.List.{take_more, map-append}
use Rattle.std.specs.Prelude.{Option, Some, None, IfSome, map}
use Rattle.kv_base.specs.Map.{Bytes}
use Rattle.lives_model.specs.Rows.{Rows}

-- a map over the first i items and the next one
pub map_next : {A B : Type 0} (f : A → B) (xs : List A) (i : ℕ) (d : A) → i < length xs → map f (take (i + 1) xs) ≡ map f (take i xs) ++ f (get_or xs i d) ∷ []
map_next f xs i d low = ap (map f) (take_more xs i d low) ∙ map-append f (take i xs) (get_or xs i d ∷ [])

-- nothing is found at the start
pub each_none : {A : Type 0} (rows : Option Rows) (f : Rows → Bytes → A) (found : List A) → found ≡ [] → IfSome rows (λ c. found ≡ map (f c) [])
each_none None f found none = tt
each_none (Some c) f found none = none

-- and then what is found of one key more
pub each_next : {A : Type 0} (rows now : Option Rows) (f : Rows → Bytes → A) (ks : List Bytes) (i : ℕ) (k q : Bytes) (found next : List A) (x : A) → i < length ks → k ≡ get_or ks i k → q ≡ k → now ≡ rows
    → IfSome rows (λ c. found ≡ map (f c) (take i ks)) → IfSome now (λ c. x ≡ f c q) → next ≡ found ++ x ∷ [] → IfSome rows (λ c. next ≡ map (f c) (take (i + 1) ks))
each_next None now f ks i k q found next x low is key same so_far one more = tt
each_next {A = A} (Some c) now f ks i k q found next x low is key same so_far one more =
    let here : x ≡ f c q = subst (λ (o : Option Rows). IfSome o (λ c. x ≡ f c q)) same one in
    more ∙ (λ j. so_far j ++ here j ∷ []) ∙ ap (λ p. map (f c) (take i ks) ++ f c p ∷ []) (key ∙ is) ∙ sym (map_next (f c) ks i k low)
