-- What was taken from a source by several reads, where it tells its bytes.
use Rattle.std.specs.Prelude.{ℕ, List, [], ◌++◌, Option, Some, None, refl}
use Rattle.std.proofs.Common.{sym, ap, ◌∙◌, append_assoc}
use Rattle.std.specs.Io.KnownBytes.{Consumes, Keeps}

pub nothing_taken : (a : Option (List ℕ)) → Consumes a a []
nothing_taken None = tt
nothing_taken (Some xs) = refl

-- a read that failed takes nothing
pub kept_taken : (a b : Option (List ℕ)) → Keeps a b → Consumes a b []
kept_taken None b p = tt
kept_taken (Some xs) None p = absurd p
kept_taken (Some xs) (Some ys) p = sym p

pub taken_then : (a b c : Option (List ℕ)) (x y : List ℕ) → Consumes a b x → Consumes b c y → Consumes a c (x ++ y)
taken_then None b c x y p q = tt
taken_then (Some xs) None c x y p q = absurd p
taken_then (Some xs) (Some ys) None x y p q = absurd q
taken_then (Some xs) (Some ys) (Some zs) x y p q = p ∙ ap (λ (v : List ℕ). x ++ v) q ∙ sym (append_assoc x y zs)
