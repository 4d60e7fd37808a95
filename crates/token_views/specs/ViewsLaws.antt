-- What a change of one view does to what is said of all.
use Rattle.std.proofs.Common.{◌≡◌, ◌≢◌, ℕ, zero, suc, ◌+◌, ◌≤◌, List, [], ◌∷◌, ◌++◌, set, refl, sym, ap, subst, ⊎_elim, arith}
use Rattle.std.specs.Prelude.{slice_set, slice_index}
use mathlib.Core.Option.{some, some-injective, some-ne-none}
use lib.ListN.{get_elem?}
use Rattle.atomic_table.proofs.Lists.{at_set, at_snoc}
use Rattle.token_views.specs.Views.{total, first_token, other_tokens}

-- ---- sums

module _ {A : Type 0} (f : A → ℕ) where
  pub total-append : (xs ys : List A) → total f (xs ++ ys) ≡ total f xs + total f ys
  total-append [] ys = omega arith
  total-append (x ∷ xs) ys = omega (arith, total-append xs ys)

  pub total-set : (xs : List A) (k : ℕ) (v w : A) → get_elem? xs k ≡ some v → total f (set xs k w) + f v ≡ total f xs + f w
  total-set [] k v w e = absurd (some-ne-none v (sym e))
  total-set (x ∷ xs) zero v w e = let same = ap f (some-injective x v e) in omega arith
  total-set (x ∷ xs) (suc k) v w e = omega (arith, total-set xs k v w e)

  pub total-at : (xs : List A) (k : ℕ) (v : A) → get_elem? xs k ≡ some v → f v ≤ total f xs
  total-at [] k v e = absurd (some-ne-none v (sym e))
  total-at (x ∷ xs) zero v e = let same = ap f (some-injective x v e) in omega arith
  total-at (x ∷ xs) (suc k) v e = omega (arith, total-at xs k v e)

  pub total-two : (xs : List A) (i j : ℕ) (u v : A) → i ≢ j → get_elem? xs i ≡ some u → get_elem? xs j ≡ some v → f u + f v ≤ total f xs
  total-two [] i j u v n d e = absurd (some-ne-none u (sym d))
  total-two (x ∷ xs) zero zero u v n d e = absurd (n refl)
  total-two (x ∷ xs) zero (suc j) u v n d e = let same = ap f (some-injective x u d) in omega (arith, total-at xs j v e)
  total-two (x ∷ xs) (suc i) zero u v n d e = let same = ap f (some-injective x v e) in omega (arith, total-at xs i u d)
  total-two (x ∷ xs) (suc i) (suc j) u v n d e = omega (arith, total-two xs i j u v (λ s. n (ap suc s)) d e)

  pub total-zero : (xs : List A) → ((k : ℕ) (x : A) → get_elem? xs k ≡ some x → f x ≡ 0) → total f xs ≡ 0
  total-zero [] h = refl
  total-zero (x ∷ xs) h = omega (arith, h 0 x refl, total-zero xs (λ k y e. h (suc k) y e))

  -- the first token and the others
  pub total-cut : (v : List A) → total f (other_tokens v) + total f (first_token v) ≡ total f v
  total-cut [] = refl
  total-cut (x ∷ xs) = omega arith

-- ---- facts of each view

module _ {V : Type 0} (P : V → Type 0) where
  -- what holds of the other views and of the new one holds of each, once one of them is another
  pub each_set : (views : List V) (id : ℕ) (w : V) → ((k : ℕ) (v : V) → k ≢ id → get_elem? views k ≡ some v → P v) → P w → (k : ℕ) (v : V) → get_elem? (set views id w) k ≡ some v → P v
  each_set views id w all here k v e =
      ⊎_elim (λ (t : (k ≡ id) × (w ≡ v)). subst P t.1 here) (λ (t : (k ≢ id) × (get_elem? views k ≡ some v)). all k v t.0 t.1) (at_set views id k w v e)

  -- the same where a view is new besides
  pub each_snoc : (views : List V) (id : ℕ) (w x : V) → ((k : ℕ) (v : V) → k ≢ id → get_elem? views k ≡ some v → P v) → P w → P x → (k : ℕ) (v : V) → get_elem? (set views id w ++ x ∷ []) k ≡ some v → P v
  each_snoc views id w x all here new k v e =
      ⊎_elim (λ (was : get_elem? (set views id w) k ≡ some v). each_set views id w all here k v was) (λ (same : x ≡ v). subst P same new) (at_snoc (set views id w) x v k e)

-- ---- words

-- a single word that is put back is as it was
pub same_word : (words : List ℕ) (n : ℕ) → words ≡ n ∷ [] → slice_set words 0 (slice_index words 0) ≡ n ∷ []
same_word words n e = ap (λ (ws : List ℕ). slice_set ws 0 (slice_index ws 0)) e
