-- Laws on what stands in `Readings.antt`.
use Rattle.std.specs.Prelude.{ℕ, List, [], ◌∷◌, ◌++◌, Option, refl}
use Rattle.std.proofs.Common.{subst}
use Rattle.kv_outside.specs.Readings.{TakesReading, TakesAll}

pub takes_none : (a : Option (List ℕ)) → TakesAll a a []
takes_none a = refl

pub takes_one : (a b : Option (List ℕ)) (now : ℕ) → TakesReading a b now → TakesAll a b (now ∷ [])
takes_one a b now p = (b, p, refl)

pub takes_then : (a b c : Option (List ℕ)) (xs ys : List ℕ) → TakesAll a b xs → TakesAll b c ys → TakesAll a c (xs ++ ys)
takes_then a b c [] ys p q = subst (λ (x : Option (List ℕ)). TakesAll x c ys) p q
takes_then a b c (x ∷ xs) ys p q = (p.0, p.1, takes_then p.0 b c xs ys p.2 q)
