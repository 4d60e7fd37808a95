-- Laws on what stands in `Name.antt`.
use Rattle.std.specs.Prelude.{◌≡◌, ◌≢◌, ℕ, Bool, true, false, ◌==◌, ◌&&◌, refl}
use Rattle.std.proofs.Common.{ap, arith}
use Rattle.std.proofs.lemmas.Bool.Decides.{nat_tests}
use Rattle.kv_base.specs.declared.name.FileName.{FileName}
use Rattle.kv_base.specs.declared.name.FileName.TheVariants.{SlotA, SlotB, Segment, Table}
use Rattle.kv_base.specs.Name.{same_name}

eq_true : (m n : ℕ) → (m == n) ≡ true → m ≡ n
eq_true m n is = grind (arith, nat_tests)

eq_self : (n : ℕ) → (n == n) ≡ true
eq_self n = grind (arith, nat_tests)

both_true : (p q : Bool) → (p && q) ≡ true → (p ≡ true) × (q ≡ true)
both_true true true is = (refl, refl)
both_true true false is = absurd (cc)
both_true false q is = absurd (cc)

pub same_name_true : (a b : FileName) → same_name a b ≡ true → a ≡ b
same_name_true SlotA SlotA is = refl
same_name_true SlotA SlotB is = absurd (cc)
same_name_true SlotA (Segment n) is = absurd (cc)
same_name_true SlotA (Table n) is = absurd (cc)
same_name_true SlotB SlotA is = absurd (cc)
same_name_true SlotB SlotB is = refl
same_name_true SlotB (Segment n) is = absurd (cc)
same_name_true SlotB (Table n) is = absurd (cc)
same_name_true (Segment m) SlotA is = absurd (cc)
same_name_true (Segment m) SlotB is = absurd (cc)
same_name_true (Segment m) (Segment n) is = ap (λ (k : ℕ). Segment k) (eq_true m n is)
same_name_true (Segment m) (Table n) is = absurd (cc)
same_name_true (Table a) SlotA is = absurd (cc)
same_name_true (Table a) SlotB is = absurd (cc)
same_name_true (Table a) (Segment n) is = absurd (cc)
same_name_true (Table a) (Table b) is =
    let both = both_true (a.run == b.run) (a.part == b.part) is in
    let runs : a.run ≡ b.run = eq_true a.run b.run both.0 in
    let parts : a.part ≡ b.part = eq_true a.part b.part both.1 in
    λ i. Table (record { run = runs i; part = parts i })

pub same_name_self : (a : FileName) → same_name a a ≡ true
same_name_self SlotA = refl
same_name_self SlotB = refl
same_name_self (Segment n) = eq_self n
same_name_self (Table a) = let runs = eq_self a.run in let parts = eq_self a.part in rw (runs, parts) refl

pub same_name_other : (a b : FileName) → a ≢ b → same_name a b ≡ false
same_name_other a b other = bool_cases (same_name a b) (λ is. other (same_name_true a b is))
  where
    bool_cases : (p : Bool) → (p ≡ true → ⊥) → p ≡ false
    bool_cases true not = absurd (not refl)
    bool_cases false not = refl
