-- Beginnings of a history, and the entries of one caller.
use Rattle.std.proofs.Common.{◌≡◌, ◌≢◌, ℕ, ◌≤◌, ◌<◌, Bool, true, false, cond, eqb, ne_eqb, List, [], ◌∷◌, ◌++◌, length, refl, sym, ap, ◌∙◌, ⊎_elim, inl, inr, arith, append_assoc}
use Rattle.std.proofs.lemmas.List.{append-nil}
use Rattle.std.specs.Prelude.{nat_lt}
use Rattle.std.proofs.lemmas.Bool.Decides.{nat_tests}
use mathlib.Core.List.{IsPrefix}
use Rattle.turn_hall.specs.Hands.{entries_of, longer_log, IsGiven}
use Rattle.turn_hall.specs.Rule.{AllGiven}

shorter : (a b : ℕ) → nat_lt a b ≡ true → a ≤ b
shorter a b is = grind (arith, nat_tests)

not_shorter : (a b : ℕ) → nat_lt a b ≡ false → b ≤ a
not_shorter a b is = grind (arith, nat_tests)

module _ {E : Type 0} where
  pub prefix_self : (xs : List E) → IsPrefix xs xs
  prefix_self xs = ([], append-nil xs)

  pub prefix_trans : (xs ys zs : List E) → IsPrefix xs ys → IsPrefix ys zs → IsPrefix xs zs
  prefix_trans xs ys zs p q = (p.0 ++ q.0, sym (append_assoc xs p.0 q.0) ∙ (ap (λ w. w ++ q.0) p.1 ∙ q.1))

  -- of two fronts of one list the shorter begins the longer
  fronts : (xs ys p q : List E) → xs ++ p ≡ ys ++ q → length xs ≤ length ys → IsPrefix xs ys
  fronts [] ys p q e le = (ys, refl)
  fronts (x ∷ xs) [] p q e le = absurd (omega arith)
  fronts (x ∷ xs) (y ∷ ys) p q e le = let rest = fronts xs ys p q (cc e) (omega arith) in (rest.0, cc (e, rest.1))

  pub prefix_shorter : (xs ys zs : List E) → IsPrefix xs zs → IsPrefix ys zs → length xs ≤ length ys → IsPrefix xs ys
  prefix_shorter xs ys zs p q le = fronts xs ys p.0 q.0 (p.1 ∙ sym q.1) le

  pub prefix_more : (xs ys zs : List E) → IsPrefix xs ys → IsPrefix xs (ys ++ zs)
  prefix_more xs ys zs p = (p.0 ++ zs, sym (append_assoc xs p.0 zs) ∙ ap (λ w. w ++ zs) p.1)

  pub nil_left : (xs ys : List E) → xs ++ ys ≡ [] → xs ≡ []
  nil_left [] ys e = refl
  nil_left (x ∷ xs) ys e = absurd (cc (e))

  cancel : (xs ys : List E) → xs ++ ys ≡ xs → ys ≡ []
  cancel [] ys e = e
  cancel (x ∷ xs) ys e = cancel xs ys (cc (e))

  glued : (b : Bool) (x : E) (w l m : List E) → w ≡ l ++ m → cond b (x ∷ w) w ≡ cond b (x ∷ l) l ++ m
  glued true x w l m e = ap (λ (k : List E). x ∷ k) e
  glued false x w l m e = e

  module _ (caller : E → ℕ) where
    pub of-append : (n : ℕ) (xs ys : List E) → entries_of caller n (xs ++ ys) ≡ entries_of caller n xs ++ entries_of caller n ys
    of-append n [] ys = refl
    of-append n (x ∷ xs) ys = glued (eqb (caller x) n) x (entries_of caller n (xs ++ ys)) (entries_of caller n xs) (entries_of caller n ys) (of-append n xs ys)

    -- what stands between a beginning and the whole has the same entries, where the whole has no more than the beginning
    pub squeezed : (n : ℕ) (xs ys zs : List E) → IsPrefix xs ys → IsPrefix ys zs → entries_of caller n zs ≡ entries_of caller n xs → entries_of caller n ys ≡ entries_of caller n xs
    squeezed n xs ys zs p q same =
        let o : List E → List E = entries_of caller n in
        let e1 : o ys ≡ o xs ++ o p.0 = ap o (sym p.1) ∙ of-append n xs p.0 in
        let e2 : o zs ≡ o ys ++ o q.0 = ap o (sym q.1) ∙ of-append n ys q.0 in
        let whole : o xs ++ (o p.0 ++ o q.0) ≡ o xs = sym (append_assoc (o xs) (o p.0) (o q.0)) ∙ (ap (λ (l : List E). l ++ o q.0) (sym e1) ∙ (sym e2 ∙ same)) in
        let none : o p.0 ≡ [] = nil_left (o p.0) (o q.0) (cancel (o xs) (o p.0 ++ o q.0) whole) in
        e1 ∙ (ap (λ (l : List E). o xs ++ l) none ∙ append-nil (o xs))

    pub of-other : (n : ℕ) (xs : List E) (e : E) → caller e ≢ n → entries_of caller n (xs ++ e ∷ []) ≡ entries_of caller n xs
    of-other n xs e ne = of-append n xs (e ∷ []) ∙ (ap (λ b. entries_of caller n xs ++ cond b (e ∷ []) []) (ne_eqb (caller e) n ne) ∙ append-nil (entries_of caller n xs))

    -- a number that was not handed out has no entry
    pub of-none : (low n : ℕ) (es : List E) → AllGiven caller low es → n ≢ 0 → n < low → entries_of caller n es ≡ []
    of-none low n [] all ne lt = refl
    of-none low n (e ∷ es) all ne lt =
        let apart : caller e ≢ n = λ same. ⊎_elim (λ (z : caller e ≡ 0). ne (sym same ∙ z)) (λ (le : low ≤ caller e). absurd (omega arith)) all.0 in
        ap (λ b. cond b (e ∷ entries_of caller n es) (entries_of caller n es)) (ne_eqb (caller e) n apart) ∙ of-none low n es all.1 ne lt

    pub given-weaker : (low less : ℕ) (es : List E) → less ≤ low → AllGiven caller low es → AllGiven caller less es
    given-weaker low less [] le all = tt
    given-weaker low less (e ∷ es) le all = (⊎_elim inl (λ (x : low ≤ caller e). inr (omega arith)) all.0, given-weaker low less es le all.1)

    pub given-more : (low : ℕ) (es : List E) (e : E) → AllGiven caller low es → IsGiven low (caller e) → AllGiven caller low (es ++ e ∷ [])
    given-more low [] e all is = (is, tt)
    given-more low (x ∷ xs) e all is = (all.0, given-more low xs e all.1 is)

  -- the longer of two beginnings of one list
  pub longer_of : (xs ys zs : List E) → IsPrefix xs zs → IsPrefix ys zs → IsPrefix xs (longer_log xs ys) × IsPrefix ys (longer_log xs ys) × IsPrefix (longer_log xs ys) zs
  longer_of xs ys zs p q = pick (nat_lt (length xs) (length ys)) refl
    where
      pick : (b : Bool) → nat_lt (length xs) (length ys) ≡ b → IsPrefix xs (cond b ys xs) × IsPrefix ys (cond b ys xs) × IsPrefix (cond b ys xs) zs
      pick true is = (prefix_shorter xs ys zs p q (shorter (length xs) (length ys) is), prefix_self ys, q)
      pick false is = (prefix_self xs, prefix_shorter ys xs zs q p (not_shorter (length xs) (length ys) is), p)
