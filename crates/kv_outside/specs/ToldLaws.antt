-- Bytes that may not be told.
use Rattle.std.proofs.Common.{◌≡◌, ℕ, ◌+◌, ◌≤◌, List, ◌++◌, length, take, drop, Option, Some, None, IfSome, refl, ◌∙◌, sym, ap, subst, arith, append_assoc, take-append-drop, length-append, length-drop}
use Rattle.std.proofs.lemmas.List.{take_at, drop_at, length-take-le, drop-drop, take-take}
use Rattle.kv_outside.specs.Files.{Goes, HasWritten, Torn}

-- what the step keeps is kept where it is told
pub goes_keeps : (step : List ℕ → List ℕ → Type 0) (P Q : List ℕ → Type 0) → ((d c : List ℕ) → P d → step d c → Q c)
    → (old new : Option (List ℕ)) → Goes step old new → IfSome old P → IfSome new Q
goes_keeps step P Q leads None new goes was = subst (λ (o : Option (List ℕ)). IfSome o Q) (sym goes) tt
goes_keeps step P Q leads (Some d) new goes was = subst (λ (o : Option (List ℕ)). IfSome o Q) (sym goes.1) (leads d goes.0 was goes.2)

pub told_leads : (P Q : List ℕ → Type 0) → ((c : List ℕ) → P c → Q c) → (held : Option (List ℕ)) → IfSome held P → IfSome held Q
told_leads P Q leads None was = tt
told_leads P Q leads (Some c) was = leads c was

-- a write behind what stands there
pub holds_written : (at : ℕ) (front rest bytes old new : List ℕ) → old ≡ front ++ rest → length front ≡ at → HasWritten at bytes old new → new ≡ front ++ (bytes ++ drop (length bytes) rest)
holds_written at front rest bytes old new is long holds =
    let first : take at old ≡ front = ap (λ (l : List ℕ). take at l) is ∙ take_at front rest at long in
    let behind : drop at old ≡ rest = ap (λ (l : List ℕ). drop at l) is ∙ drop_at front rest at long in
    let last : drop (at + length bytes) old ≡ drop (length bytes) rest = sym (drop-drop (length bytes) at old) ∙ ap (λ (l : List ℕ). drop (length bytes) l) behind in
    holds ∙ cc (append_assoc front bytes (drop (length bytes) rest))

-- a write that is done is one that may be cut short
pub torn_of_holds : (at : ℕ) (bytes old new : List ℕ) → at ≤ length old → HasWritten at bytes old new → Torn at (length bytes) old new
torn_of_holds at bytes old new in_range holds =
    let front = take at old in
    let rest = drop at old in
    let n = length bytes in
    let split : old ≡ front ++ rest = sym (take-append-drop at old) in
    let long : length front ≡ at = length-take-le at old in_range in
    let is : new ≡ front ++ (bytes ++ drop n rest) = holds_written at front rest bytes old new split long holds in
    let from : drop at new ≡ bytes ++ drop n rest = ap (λ (l : List ℕ). drop at l) is ∙ drop_at front (bytes ++ drop n rest) at long in
    record {
      before = ap (λ (l : List ℕ). take at l) is ∙ take_at front (bytes ++ drop n rest) at long;
      after = sym (drop-drop n at new) ∙ ap (λ (l : List ℕ). drop n l) from ∙ drop_at bytes (drop n rest) n refl ∙ drop-drop n at old;
      no_shorter = omega (arith, ap length is, length-append front (bytes ++ drop n rest), length-append bytes (drop n rest), length-drop n rest, length-drop at old);
      no_longer = omega (arith, ap length is, length-append front (bytes ++ drop n rest), length-append bytes (drop n rest), length-drop n rest, length-drop at old);
    }

-- a write that is cut short behind some front keeps this front
pub torn_behind : (at n : ℕ) (front rest old new : List ℕ) → old ≡ front ++ rest → length front ≤ at → Torn at n old new → (behind : List ℕ) × (new ≡ front ++ behind)
torn_behind at n front rest old new is long torn =
    let m = length front in
    let same : take m new ≡ front =
    sym (take-take m at new long) ∙ ap (λ (l : List ℕ). take m l) torn.before ∙ take-take m at old long ∙ ap (λ (l : List ℕ). take m l) is ∙ take_at front rest m refl in
    (drop m new, sym (take-append-drop m new) ∙ ap (λ (l : List ℕ). l ++ drop m new) same)

-- where the bytes are told, a write that was tried leaves no fewer, and one that is done stands whole
pub torn_long : (at n k : ℕ) (old new : Option (List ℕ)) → Goes (Torn at n) old new → IfSome old (λ d. k ≤ length d) → IfSome new (λ c. k ≤ length c)
torn_long at n k old new goes was = goes_keeps (Torn at n) (λ d. k ≤ length d) (λ c. k ≤ length c) (λ d c le torn. omega (arith, le, torn.no_shorter)) old new goes was

pub held_long : (at : ℕ) (bytes : List ℕ) (old new : Option (List ℕ)) → Goes (HasWritten at bytes) old new → IfSome old (λ d. at ≤ length d) → IfSome new (λ c. at + length bytes ≤ length c)
held_long at bytes old new goes was = goes_keeps (HasWritten at bytes) (λ d. at ≤ length d) (λ c. at + length bytes ≤ length c)
    (λ d c le holds. omega (arith, ap length (holds_written at (take at d) (drop at d) bytes d c (sym (take-append-drop at d)) (length-take-le at d le) holds), length-append (take at d) (bytes ++ drop (length bytes) (drop at d)), length-append bytes (drop (length bytes) (drop at d)), length-take-le at d le)) old new goes was

pub torn_of_held : (at : ℕ) (bytes : List ℕ) (old new : Option (List ℕ)) → IfSome old (λ d. at ≤ length d) → Goes (HasWritten at bytes) old new → Goes (Torn at (length bytes)) old new
torn_of_held at bytes None new in_range goes = goes
torn_of_held at bytes (Some d) new in_range goes = (goes.0, goes.1, torn_of_holds at bytes d goes.0 in_range goes.2)

pub told_any : (held : Option (List ℕ)) → IfSome held (λ c. Unit {0})
told_any None = tt
told_any (Some c) = tt

pub told_given : (P : List ℕ → Type 0) (held : Option (List ℕ)) (bytes : List ℕ) → held ≡ Some bytes → IfSome held P → P bytes
told_given P held bytes is has = subst (λ (o : Option (List ℕ)). IfSome o P) is has

pub told_is : (P : List ℕ → Type 0) (held : Option (List ℕ)) (bytes : List ℕ) → held ≡ Some bytes → P bytes → IfSome held P
told_is P held bytes is has = subst (λ (o : Option (List ℕ)). IfSome o P) (sym is) has
