-- Four rows of four places.
use Rattle.std.proofs.Common.{◌≡◌, ◌≢◌, ◌⊎◌, ℕ, zero, suc, ◌+◌, ◌*◌, ◌/◌, ◌%◌, ◌<◌, Bool, true, false, List, [], ◌∷◌, length, map, set, get_or, refl, sym, ap, ◌∙◌, ⊎_elim, inl, inr, arith, rules, Some, None}
use Rattle.std.specs.Prelude.{Option, IfSome, IfNone}
use mathlib.Core.Logic.{dite}
use native.Mathlib.Decide.{ℕ_discrete}
use Rattle.std.specs.Prelude.{nat_lt}
use Rattle.std.proofs.lemmas.Bool.Decides.{nat_tests}
use Rattle.atomic_table.specs.Seated.{TableId}
use Rattle.key_locks.specs.Shares.{ShareOf, Spot, LentOut, InHand, is_held}
use Rattle.key_locks.specs.Slots.{spot_in, held_at}

-- what stands at a stripe, in rows of four
abbrev held_in : ℕ → List (List Spot) → Spot
held_in k rows = spot_in (map (λ r. spot_in r (k % 4)) rows) (k / 4)

set_here : (xs : List Spot) (s : ℕ) (x : Spot) → s < length xs → spot_in (set xs s x) s ≡ x
set_here [] s x lt = absurd (omega arith)
set_here (y ∷ ys) zero x lt = refl
set_here (y ∷ ys) (suc s) x lt = set_here ys s x (omega arith)

set_apart : (xs : List Spot) (s k : ℕ) (x : Spot) → k ≢ s → spot_in (set xs s x) k ≡ spot_in xs k
set_apart [] s k x ne = refl
set_apart (y ∷ ys) zero zero x ne = absurd (ne refl)
set_apart (y ∷ ys) zero (suc k) x ne = refl
set_apart (y ∷ ys) (suc s) zero x ne = refl
set_apart (y ∷ ys) (suc s) (suc k) x ne = set_apart ys s k x (λ e. ne (ap suc e))

held_there : (xs : List Spot) (s n : ℕ) → spot_in xs s ≡ InHand n → s < length xs
held_there [] s n e = absurd (cc (e))
held_there (y ∷ ys) zero n e = omega arith
held_there (y ∷ ys) (suc s) n e = let r = held_there ys s n e in omega arith

lent_there : (xs : List Spot) (s : ℕ) → spot_in xs s ≡ LentOut → s < length xs
lent_there [] s e = absurd (cc (e))
lent_there (y ∷ ys) zero e = omega arith
lent_there (y ∷ ys) (suc s) e = let r = lent_there ys s e in omega arith

module _ (f : List Spot → Spot) where
  row_at : (rows : List (List Spot)) (i : ℕ) → i < length rows → spot_in (map f rows) i ≡ f (get_or rows i [])
  row_at [] i lt = absurd (omega arith)
  row_at (r ∷ rs) zero lt = refl
  row_at (r ∷ rs) (suc i) lt = row_at rs i (omega arith)

  row_set : (rows : List (List Spot)) (i : ℕ) (n : List Spot) → i < length rows → spot_in (map f (set rows i n)) i ≡ f n
  row_set [] i n lt = absurd (omega arith)
  row_set (r ∷ rs) zero n lt = refl
  row_set (r ∷ rs) (suc i) n lt = row_set rs i n (omega arith)

  row_else : (rows : List (List Spot)) (i j : ℕ) (n : List Spot) → j ≢ i → spot_in (map f (set rows i n)) j ≡ spot_in (map f rows) j
  row_else [] i j n ne = refl
  row_else (r ∷ rs) zero zero n ne = absurd (ne refl)
  row_else (r ∷ rs) zero (suc j) n ne = refl
  row_else (r ∷ rs) (suc i) zero n ne = refl
  row_else (r ∷ rs) (suc i) (suc j) n ne = row_else rs i j n (λ e. ne (ap suc e))

-- what stands at a stripe of row i
at_row : (s i : ℕ) (rows : List (List Spot)) → s / 4 ≡ i → i < length rows → held_in s rows ≡ spot_in (get_or rows i []) (s % 4)
at_row s i rows e lt = ap (spot_in (map (λ r. spot_in r (s % 4)) rows)) e ∙ row_at (λ r. spot_in r (s % 4)) rows i lt

at_new_row : (s i : ℕ) (rows : List (List Spot)) (n : List Spot) → s / 4 ≡ i → i < length rows → held_in s (set rows i n) ≡ spot_in n (s % 4)
at_new_row s i rows n e lt = ap (spot_in (map (λ r. spot_in r (s % 4)) (set rows i n))) e ∙ row_set (λ r. spot_in r (s % 4)) rows i n lt

pub arm_share : (t : TableId) (s i : ℕ) (rows : List (List Spot)) (n : List Spot) (x : Option ShareOf) → s / 4 ≡ i → i < length rows
    → IfSome x (λ y. (y.table ≡ t) × (y.stripe ≡ 4 * i + s % 4) × (spot_in (get_or rows i []) (s % 4) ≡ InHand y.count) × (n ≡ set (get_or rows i []) (s % 4) LentOut))
    → IfSome x (λ y. (y.table ≡ t) × (y.stripe ≡ s) × (held_in s rows ≡ InHand y.count) × (held_in s (set rows i n) ≡ LentOut))
arm_share t s i rows n None e lt h = search rules
arm_share t s i rows n (Some y) e lt h =
    let stripe : y.stripe ≡ s = omega (arith, h.1) in
    (h.0, stripe, at_row s i rows e lt ∙ h.2, at_new_row s i rows n e lt ∙ (ap (λ (l : List Spot). spot_in l (s % 4)) h.3 ∙ set_here (get_or rows i []) (s % 4) LentOut (held_there (get_or rows i []) (s % 4) y.count h.2)))

pub arm_given : (s i c : ℕ) (rows : List (List Spot)) (n : List Spot) → s / 4 ≡ i → i < length rows → held_in s rows ≡ LentOut → n ≡ set (get_or rows i []) (s % 4) (InHand c) → held_in s (set rows i n) ≡ InHand c
arm_given s i c rows n e lt lent is =
    at_new_row s i rows n e lt ∙ (ap (λ (l : List Spot). spot_in l (s % 4)) is ∙ set_here (get_or rows i []) (s % 4) (InHand c) (lent_there (get_or rows i []) (s % 4) (sym (at_row s i rows e lt) ∙ lent)))

-- how a row may have changed
abbrev pub Changed : List Spot → ℕ → List Spot → Type 0
Changed r o n = (n ≡ r) ⊎ ((x : Spot) × (n ≡ set r o x))

pub changed : (t : TableId) (a o : ℕ) (r n : List Spot) (x : Option ShareOf) → IfSome x (λ y. (y.table ≡ t) × (y.stripe ≡ a) × (spot_in r o ≡ InHand y.count) × (n ≡ set r o LentOut)) → IfNone x ((is_held (spot_in r o) ≡ false) × (n ≡ r)) → Changed r o n
changed t a o r n None h g = inl g.1
changed t a o r n (Some y) h g = inr (LentOut, h.3)

same_place : (o j : ℕ) (r n : List Spot) → j ≢ o → Changed r o n → spot_in n j ≡ spot_in r j
same_place o j r n ne c = ⊎_elim (λ (e : n ≡ r). ap (λ (l : List Spot). spot_in l j) e) (λ (e : (x : Spot) × (n ≡ set r o x)). ap (λ (l : List Spot). spot_in l j) e.1 ∙ set_apart r o j e.0 ne) c

pub arm_others : (s k i : ℕ) (rows : List (List Spot)) (n : List Spot) → s / 4 ≡ i → i < length rows → k ≢ s → Changed (get_or rows i []) (s % 4) n → held_in k (set rows i n) ≡ held_in k rows
arm_others s k i rows n e lt ne c =
    dite (ℕ_discrete (k / 4) i)
    (λ (same : k / 4 ≡ i). at_new_row k i rows n same lt ∙ (same_place (s % 4) (k % 4) (get_or rows i []) n (λ o. ne (omega arith)) c ∙ sym (at_row k i rows same lt)))
    (λ apart. row_else (λ r. spot_in r (k % 4)) rows i (k / 4) n apart)

pub all_taken : (P : ℕ → Bool) (k : ℕ) (a b c d : List Spot) → ((j : ℕ) → j < 4 → is_held (spot_in a j) ≡ P (4 * 0 + j)) → ((j : ℕ) → j < 4 → is_held (spot_in b j) ≡ P (4 * 1 + j)) → ((j : ℕ) → j < 4 → is_held (spot_in c j) ≡ P (4 * 2 + j)) → ((j : ℕ) → j < 4 → is_held (spot_in d j) ≡ P (4 * 3 + j))
    → k < 16 → is_held (held_at k a b c d) ≡ P k
all_taken P k a b c d ha hb hc hd lt = row (k / 4) refl
  where
    row : (q : ℕ) → k / 4 ≡ q → is_held (spot_in (spot_in a (k % 4) ∷ spot_in b (k % 4) ∷ spot_in c (k % 4) ∷ spot_in d (k % 4) ∷ []) q) ≡ P k
    row zero e = ha (k % 4) (omega arith) ∙ ap P (omega arith)
    row (suc zero) e = hb (k % 4) (omega arith) ∙ ap P (omega arith)
    row (suc (suc zero)) e = hc (k % 4) (omega arith) ∙ ap P (omega arith)
    row (suc (suc (suc zero))) e = hd (k % 4) (omega arith) ∙ ap P (omega arith)
    row (suc (suc (suc (suc q)))) e = absurd (omega arith)

pub is_below : (k n : ℕ) → k < n → nat_lt k n ≡ true
is_below k n lt = grind (arith, nat_tests)
