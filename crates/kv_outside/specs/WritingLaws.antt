-- Laws on what stands in `Writing.antt`.
use Rattle.std.specs.Prelude.{◌≡◌, ℕ, ◌+◌, ◌<◌, zero, suc, List, [], ◌∷◌, ◌++◌, length, take, drop, get_or, Option, Result, refl}
use Rattle.std.specs.List.{flat_map}
use Rattle.std.proofs.Common.{sym, ap, subst, ◌∙◌, append_assoc, arith}
use Rattle.std.proofs.lemmas.List.{take-append-drop}
use Rattle.std.specs.Io.KnownBytes.{Appends}
use Rattle.kv_outside.specs.SentLaws.{sent_then}
use Rattle.kv_outside.specs.Writing.{AppendsFront, Writes}

-- what was sent whole is a front of itself, and of itself with more behind it
pub whole_front : (a b : Option (List ℕ)) (text rest : List ℕ) → Appends a b text → AppendsFront a b (text ++ rest)
whole_front a b text rest p = (text, rest, refl, p)

-- a text, and then a front of the next one, which may have more behind it
pub front_then : (a b c : Option (List ℕ)) (text x rest whole : List ℕ) → whole ≡ x ++ (text ++ rest) → Appends a b x → AppendsFront b c text → AppendsFront a c whole
front_then a b c text x rest whole e p q =
    let parts : whole ≡ (x ++ q.0) ++ (q.1 ++ rest) = e ∙ ap (λ (v : List ℕ). x ++ (v ++ rest)) q.2 ∙ ap (λ (v : List ℕ). x ++ v) (append_assoc q.0 q.1 rest) ∙ sym (append_assoc x q.0 (q.1 ++ rest)) in
    (x ++ q.0, q.1 ++ rest, parts, sent_then a b c x q.0 p q.3)

-- a front of a text is one of the text with more behind it
pub front_on : (a b : Option (List ℕ)) (text rest : List ℕ) → AppendsFront a b text → AppendsFront a b (text ++ rest)
front_on a b text rest p = (p.0, p.1 ++ rest, ap (λ (v : List ℕ). v ++ rest) p.2 ∙ append_assoc p.0 p.1 rest, p.3)

pub front_after : (a b c : Option (List ℕ)) (x text : List ℕ) → Appends a b x → AppendsFront b c text → AppendsFront a c (x ++ text)
front_after a b c x text p q = (x ++ q.0, q.1, ap (λ (v : List ℕ). x ++ v) q.2 ∙ sym (append_assoc x q.0 q.1), sent_then a b c x q.0 p q.3)

-- the first bytes of a text
pub front_of : (a b : Option (List ℕ)) (d : ℕ) (xs : List ℕ) → Appends a b (take d xs) → AppendsFront a b xs
front_of a b d xs p = (take d xs, drop d xs, sym (take-append-drop d xs), p)

-- the same text in another spelling
pub writes_as : {T E : Type 0} (old new : Option (List ℕ)) (before now : ℕ) (a b : List ℕ) (r : Result T E) → a ≡ b → Writes old new before now a r → Writes old new before now b r
writes_as old new before now a b r e w = subst (λ (x : List ℕ). Writes old new before now x r) e w

-- pieces before, the piece at a place, and those behind it
pub pieces_at : {X : Type 0} (f : X → List ℕ) (xs : List X) (i : ℕ) (d : X) → i < length xs → flat_map f xs ≡ flat_map f (take i xs) ++ (f (get_or xs i d) ++ flat_map f (drop (i + 1) xs))
pieces_at f [] i d h = absurd (omega arith)
pieces_at f (x ∷ xs) zero d h = refl
pieces_at f (x ∷ xs) (suc i) d h =
    let e : suc i + 1 ≡ suc (i + 1) = omega arith in
    rw e (ap (λ (v : List ℕ). f x ++ v) (pieces_at f xs i d (omega arith)) ∙ sym (append_assoc (f x) (flat_map f (take i xs)) (f (get_or xs i d) ++ flat_map f (drop (i + 1) xs))))
