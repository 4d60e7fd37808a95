-- Readings and sizes that are used up one after the other.
use Rattle.std.proofs.Common.{◌≡◌, ℕ, ◌+◌, ◌<◌, ◌≤◌, min, zero, suc, List, [], ◌∷◌, ⊎_elim, length, drop, get_or, Some, None, slice_get, refl, sym, ◌∙◌, ap, subst, arith, add-one, length-drop}
use Rattle.std.proofs.Math.Seq.{drop-cons}
use Rattle.std.proofs.lemmas.List.{drop_all}
use Rattle.std.proofs.lemmas.Bool.{cases_lt}
use Rattle.std.proofs.lemmas.Option.{get_or_from_slice_get, slice_get_within}
use Rattle.kv_outside.specs.Readings.{later_readings, TakesReading}
use Rattle.kv_fakes.specs.Source.{later_sizes}

-- the list from a place on
pub drop_at_get : {X : Type 0} (xs : List X) (i : ℕ) (x : X) → slice_get xs i ≡ Some x → drop i xs ≡ x ∷ drop (i + 1) xs
drop_at_get xs i x is =
    let here : get_or xs i x ≡ x = get_or_from_slice_get xs i x x is in
    let next : i + 1 ≡ suc i = omega arith in
    rw next (drop-cons xs i x (slice_get_within xs i x is) ∙ ap (λ y. y ∷ drop (suc i) xs) here)

slice_get_none : {X : Type 0} (xs : List X) (i : ℕ) → slice_get xs i ≡ None → drop i xs ≡ []
slice_get_none [] zero is = refl
slice_get_none [] (suc i) is = refl
slice_get_none (x ∷ xs) zero is = absurd (cc)
slice_get_none (x ∷ xs) (suc i) is = slice_get_none xs i is

later_more : (now : ℕ) (later : List ℕ) → 0 < length later → later_readings (now ∷ later) ≡ later
later_more now [] more = absurd (omega arith)
later_more now (next ∷ later) more = refl

later_last : (now : ℕ) (later : List ℕ) → length later ≤ 0 → later_readings (now ∷ later) ≡ now ∷ later
later_last now [] last = refl
later_last now (next ∷ later) last = absurd (omega arith)

pub no_reading : (readings ahead : List ℕ) (at : ℕ) → ahead ≡ drop at readings → slice_get readings at ≡ None → TakesReading (Some ahead) (Some ahead) 0
no_reading readings ahead at is none = subst (λ (l : List ℕ). TakesReading (Some l) (Some l) 0) (sym (is ∙ slice_get_none readings at none)) (refl, refl)

pub next_taken : (readings ahead : List ℕ) (at now : ℕ) → ahead ≡ drop at readings → slice_get readings at ≡ Some now → at + 1 < length readings
    → TakesReading (Some ahead) (Some (drop (at + 1) readings)) now
next_taken readings ahead at now is get more =
    let later = drop (at + 1) readings in
    subst (λ (l : List ℕ). TakesReading (Some l) (Some later) now) (sym (is ∙ drop_at_get readings at now get))
    (refl, sym (later_more now later (omega (arith, length-drop (at + 1) readings))))

pub last_repeats : (readings ahead : List ℕ) (at now : ℕ) → ahead ≡ drop at readings → slice_get readings at ≡ Some now → length readings ≤ at + 1
    → TakesReading (Some ahead) (Some ahead) now
last_repeats readings ahead at now is get last =
    let later = drop (at + 1) readings in
    subst (λ (l : List ℕ). TakesReading (Some l) (Some l) now) (sym (is ∙ drop_at_get readings at now get))
    (refl, sym (later_last now later (omega (arith, length-drop (at + 1) readings))))

later_drop : (sizes : List ℕ) (used : ℕ) → later_sizes (drop used sizes) ≡ drop (used + 1) sizes
later_drop [] zero = refl
later_drop [] (suc used) = sym (drop_all (suc used + 1) [] (omega arith))
later_drop (size ∷ sizes) zero = refl
later_drop (size ∷ sizes) (suc used) = rw (add-one (suc used)) (later_drop sizes used ∙ ap (λ (n : ℕ). drop n sizes) (add-one used))

-- the sizes that are left after one was used up, where there was one
pub sizes_used : (sizes ahead : List ℕ) (used next : ℕ) → drop used sizes ≡ ahead → next ≡ min (used + 1) (length sizes) → drop next sizes ≡ later_sizes ahead
sizes_used sizes ahead used next is place =
    min_drop (used + 1) next place ∙ sym (later_drop sizes used) ∙ ap later_sizes is
  where
    min_drop : (m n : ℕ) → n ≡ min m (length sizes) → drop n sizes ≡ drop m sizes
    min_drop m n place = ⊎_elim
        (λ (lt : length sizes < m). let here : n ≡ length sizes = omega arith in drop_all n sizes (omega arith) ∙ sym (drop_all m sizes (omega arith)))
        (λ (le : m ≤ length sizes). let here : n ≡ m = omega arith in ap (λ (k : ℕ). drop k sizes) here)
        (cases_lt (length sizes) m)
