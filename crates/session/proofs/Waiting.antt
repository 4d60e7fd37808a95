-- A text on its way to a sink, behind what waits.
use Rattle.std.proofs.Common.{◌≡◌, ℕ, List, [], ◌++◌, length, take, Option, Some, Result, Ok, Err, refl, sym, ap, subst, ◌∙◌, append_assoc, arith}
use Rattle.std.proofs.lemmas.List.{append-nil, take_at}
use Rattle.std.specs.Io.KnownBytes.{Appends}
use Rattle.kv_outside.specs.SentLaws.{sent_then, nothing_sent}
use Rattle.kv_outside.specs.Writing.{AppendsFront}
use Rattle.kv_outside.specs.WritingLaws.{front_on, front_after}
use Rattle.kv_outside.specs.CauseLaws.{rose_since}
use Rattle.kv_outside.specs.Writing.{Writes}
use Rattle.session.specs.Serving.{Passes, Sends}

-- what waited was passed on, and then the text
pub passed_then : (a b c : Option (List ℕ)) (waits waits' said : List ℕ) → Appends a b waits → Appends b c said → waits' ≡ [] → Passes a c waits waits' said
passed_then a b c waits waits' said p q none =
    record { passed = waits ++ said; grew = sent_then a b c waits said p q; parts = sym (append-nil (waits ++ said)) ∙ ap (λ (v : List ℕ). waits ++ said ++ v) (sym none) }

-- what a write in memory that failed left is what waited before it
pub taken_back : (waits mid said : List ℕ) → AppendsFront (Some waits) (Some mid) said → take (length waits) mid ≡ waits
taken_back waits mid said p = ap (take (length waits)) p.3 ∙ take_at waits p.0 (length waits) refl

-- ---- one text behind another

pub passes_here : (a : Option (List ℕ)) (waits : List ℕ) → Passes a a waits waits []
passes_here a waits = record { passed = []; grew = nothing_sent a; parts = append-nil waits }

pub passes_then : (a b c : Option (List ℕ)) (u v w x y : List ℕ) → Passes a b u v x → Passes b c v w y → Passes a c u w (x ++ y)
passes_then a b c u v w x y p q = record {
  passed = p.passed ++ q.passed;
  grew = sent_then a b c p.passed q.passed p.grew q.grew;
  parts = sym (append_assoc u x y) ∙ ap (λ (l : List ℕ). l ++ y) p.parts ∙ append_assoc p.passed v y ∙ ap (λ (l : List ℕ). p.passed ++ l) q.parts ∙ sym (append_assoc p.passed q.passed w);
}

pub passes_front : (a b c : Option (List ℕ)) (u v x y : List ℕ) → Passes a b u v x → AppendsFront b c (v ++ y) → AppendsFront a c (u ++ (x ++ y))
passes_front a b c u v x y p q =
    let e : u ++ (x ++ y) ≡ p.passed ++ (v ++ y) = sym (append_assoc u x y) ∙ ap (λ (l : List ℕ). l ++ y) p.parts ∙ append_assoc p.passed v y in
    subst (AppendsFront a c) (sym e) (front_after a b c p.passed (v ++ y) p.grew q)

-- ---- one answer

module _ {T E : Type 0} where
  -- nothing was done
  pub sends_none : (h : Option (List ℕ)) (w : List ℕ) (f : ℕ) (x : T) → Sends {T = T} {E = E} h h w w f f [] (Ok x)
  sends_none h w f x = record { all = passes_here h w; front = tt; later = omega arith; failed = tt }

  -- what waited was passed on
  pub sends_flushed : (h h' : Option (List ℕ)) (w w' : List ℕ) (f f' : ℕ) (r : Result T E) → Writes h h' f f' w r → w' ≡ [] → Sends h h' w w' f f' [] r
  sends_flushed h h' w w' f f' (Ok x) p none = record { all = record { passed = w; grew = p.all; parts = ap (λ (v : List ℕ). w ++ v) (sym none) }; front = tt; later = p.later; failed = tt }
  sends_flushed h h' w w' f f' (Err e) p none = record { all = tt; front = subst (AppendsFront h h') (sym (append-nil w)) p.front; later = p.later; failed = p.failed }

  -- the answer waits, and what waits then was passed on or waits on
  pub sends_waiting : (h h' : Option (List ℕ)) (w mid w' : List ℕ) (f f' : ℕ) (said : List ℕ) (r : Result T E) → Appends (Some w) (Some mid) said → Sends h h' mid w' f f' [] r → Sends h h' w w' f f' said r
  sends_waiting h h' w mid w' f f' said (Ok x) e p =
      record { all = record { passed = p.all.passed; grew = p.all.grew; parts = sym e ∙ sym (append-nil mid) ∙ p.all.parts }; front = tt; later = p.later; failed = tt }
  sends_waiting h h' w mid w' f f' said (Err x) e p = record { all = tt; front = subst (AppendsFront h h') (append-nil mid ∙ e) p.front; later = p.later; failed = p.failed }

  -- what waited was passed on, and then the answer
  pub sends_straight : {F : Type 0} (h h1 h' : Option (List ℕ)) (w mid w' : List ℕ) (f f1 f' : ℕ) (said : List ℕ) (r : Result T E) → mid ≡ w → Writes {T = Unit {0}} {E = F} h h1 f f1 mid (Ok tt) → w' ≡ [] → Writes h1 h' f1 f' said r → Sends h h' w w' f f' said r
  sends_straight h h1 h' w mid w' f f1 f' said (Ok x) e p none q =
      record { all = passed_then h h1 h' w w' said (subst (Appends h h1) e p.all) q.all none; front = tt; later = omega (arith, p.later, q.later); failed = tt }
  sends_straight h h1 h' w mid w' f f1 f' said (Err x) e p none q =
      record { all = tt; front = front_after h h1 h' w said (subst (Appends h h1) e p.all) q.front; later = omega (arith, p.later, q.later); failed = rose_since f f1 f' p.later q.failed }

  -- what waited was not passed on
  pub sends_stuck : (h h' : Option (List ℕ)) (w mid w' : List ℕ) (f f' : ℕ) (said : List ℕ) (x : E) → mid ≡ w → Writes {T = T} h h' f f' mid (Err x) → Sends {T = T} h h' w w' f f' said (Err x)
  sends_stuck h h' w mid w' f f' said x e p = record { all = tt; front = front_on h h' w said (subst (AppendsFront h h') e p.front); later = p.later; failed = p.failed }

-- ---- what waits is passed on at last

pub passed_all : (a b c : Option (List ℕ)) (waits waits' said : List ℕ) → waits ≡ [] → Passes a b waits waits' said → Appends b c waits' → Appends a c said
passed_all a b c waits waits' said none p q =
    subst (Appends a c) (sym p.parts ∙ ap (λ (l : List ℕ). l ++ said) none) (sent_then a b c p.passed waits' p.grew q)

pub passed_front : (a b c : Option (List ℕ)) (waits waits' said : List ℕ) → waits ≡ [] → Passes a b waits waits' said → AppendsFront b c waits' → AppendsFront a c said
passed_front a b c waits waits' said none p q =
    subst (AppendsFront a c) (sym p.parts ∙ ap (λ (l : List ℕ). l ++ said) none) (front_after a b c p.passed waits' p.grew q)
