-- What a sink holds after several writes, where it tells it.
use Rattle.std.specs.Prelude.{ℕ, ◌+◌, List, [], ◌++◌, take, drop, Option, Some, None}
use Rattle.std.proofs.Common.{sym, ap, subst, ◌∙◌, append_assoc}
use Rattle.std.proofs.lemmas.List.{append-nil}
use Rattle.std.proofs.Math.Seq.{take-add}
use Rattle.std.specs.Io.KnownBytes.{Appends, Keeps}

pub nothing_sent : (a : Option (List ℕ)) → Appends a a []
nothing_sent None = tt
nothing_sent (Some xs) = sym (append-nil xs)

pub sent_then : (a b c : Option (List ℕ)) (x y : List ℕ) → Appends a b x → Appends b c y → Appends a c (x ++ y)
sent_then None b c x y p q = tt
sent_then (Some xs) None c x y p q = absurd p
sent_then (Some xs) (Some ys) None x y p q = absurd q
sent_then (Some xs) (Some ys) (Some zs) x y p q = q ∙ ap (λ (v : List ℕ). v ++ y) p ∙ append_assoc xs x y

-- a write that failed adds nothing
pub kept_then : (a b c : Option (List ℕ)) (x : List ℕ) → Appends a b x → Keeps b c → Appends a c x
kept_then None b c x p q = tt
kept_then (Some xs) None c x p q = absurd p
kept_then (Some xs) (Some ys) None x p q = absurd q
kept_then (Some xs) (Some ys) (Some zs) x p q = q ∙ p

-- one more write of what was left of a piece
pub sent_more : (a b c : Option (List ℕ)) (d n : ℕ) (xs : List ℕ) → Appends a b (take d xs) → Appends b c (take n (drop d xs)) → Appends a c (take (d + n) xs)
sent_more a b c d n xs p q = subst (Appends a c) (sym (take-add d n xs)) (sent_then a b c (take d xs) (take n (drop d xs)) p q)
