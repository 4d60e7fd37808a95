-- What the rule says of hands, as the history grows and as numbers are handed out.
use Rattle.std.proofs.Common.{◌≡◌, ◌≢◌, ℕ, ◌≤◌, ◌<◌, Bool, true, false, not, ◌&&◌, cond, eqb, eq-eqb, ne_eqb, List, [], ◌∷◌, ◌++◌, refl, sym, ap, ◌∙◌, ⊎_elim, inl, inr, arith}
use Rattle.turn_hall.specs.declared.hand.Hand.{Hand}
use Rattle.turn_hall.specs.Hands.{one_writer, one_pass}
use Rattle.token_views.specs.Views.{total, first_token, other_tokens}
use Rattle.turn_hall.specs.Rule.{FitsAs, AllFit}
use Rattle.turn_hall.proofs.Logs.{prefix_more, of-other}

-- a number whose test adds nothing is another number
refuted : (b : Bool) → b ≡ true → cond {A = ℕ} b 1 0 ≡ 0 → ⊥
refuted true e z = absurd (omega arith)
refuted false e z = absurd (cc (e))

other_number : (a b : ℕ) → cond {A = ℕ} (eqb a b) 1 0 ≡ 0 → a ≢ b
other_number a b z e = refuted (eqb a b) (eq-eqb a b e) z

module _ {E : Type 0} (caller : E → ℕ) where
  pub fit-append : (history : List E) (low : ℕ) (xs ys : List (Hand E)) → AllFit caller history low xs → AllFit caller history low ys → AllFit caller history low (xs ++ ys)
  fit-append history low [] ys h g = g
  fit-append history low (x ∷ xs) ys h g = (h.0, fit-append history low xs ys h.1 g)

  pub fit-first : (history : List E) (low : ℕ) (v : List (Hand E)) → AllFit caller history low v → AllFit caller history low (first_token v)
  fit-first history low [] h = tt
  fit-first history low (x ∷ xs) h = (h.0, tt)

  pub fit-others : (history : List E) (low : ℕ) (v : List (Hand E)) → AllFit caller history low v → AllFit caller history low (other_tokens v)
  fit-others history low [] h = tt
  fit-others history low (x ∷ xs) h = h.1

  grown : (b : Bool) (history : List E) (low : ℕ) (e : E) (t : Hand E) → cond {A = ℕ} b 1 0 ≡ 0 → cond {A = ℕ} (not b && eqb t.number (caller e)) 1 0 ≡ 0 → FitsAs caller b history low t → FitsAs caller b (history ++ e ∷ []) low t
  grown true history low e t z y f = absurd (omega arith)
  grown false history low e t z y f = record {
    begins = prefix_more t.seen history (e ∷ []) f.begins;
    own = of-other caller t.number history e (λ same. other_number t.number (caller e) y (sym same)) ∙ f.own;
    given = f.given;
    free = f.free;
  }

  -- hands that neither write nor are passes of the entry's caller fit the longer history too
  pub fit-grown : (history : List E) (low : ℕ) (e : E) (ts : List (Hand E)) → total one_writer ts ≡ 0 → total (one_pass (caller e)) ts ≡ 0 → AllFit caller history low ts → AllFit caller (history ++ e ∷ []) low ts
  fit-grown history low e [] z y h = tt
  fit-grown history low e (t ∷ ts) z y h = (grown t.writes history low e t (omega arith) (omega arith) h.0, fit-grown history low e ts (omega arith) (omega arith) h.1)

  lessened : (b : Bool) (history : List E) (low less : ℕ) (t : Hand E) → less ≤ low → cond {A = ℕ} (not b && eqb t.number 0) 1 0 ≡ 0 → FitsAs caller b history low t → FitsAs caller b history less t
  lessened true history low less t le y f = f
  lessened false history low less t le y f = record {
    begins = f.begins;
    own = f.own;
    given = ⊎_elim inl (λ (x : low ≤ t.number). inr (omega arith)) f.given;
    free = ⊎_elim inl (λ (x : (t.free ≡ low) × (t.number ≡ 0)). absurd (other_number t.number 0 y x.1)) f.free;
  }

  -- hands other than the first pass fit where one more number was handed out
  pub fit-lessened : (history : List E) (low less : ℕ) (ts : List (Hand E)) → less ≤ low → total (one_pass 0) ts ≡ 0 → AllFit caller history low ts → AllFit caller history less ts
  fit-lessened history low less [] le y h = tt
  fit-lessened history low less (t ∷ ts) le y h = (lessened t.writes history low less t le (omega arith) h.0, fit-lessened history low less ts le (omega arith) h.1)

  unused : (b : Bool) (history : List E) (low n : ℕ) (t : Hand E) → n ≢ 0 → n < low → FitsAs caller b history low t → cond {A = ℕ} (not b && eqb t.number n) 1 0 ≡ 0
  unused true history low n t ne lt f = refl
  unused false history low n t ne lt f =
      let apart : t.number ≢ n = λ same. ⊎_elim (λ (z : t.number ≡ 0). ne (sym same ∙ z)) (λ (le : low ≤ t.number). absurd (omega arith)) f.given in
      ap (λ (b : Bool). cond {A = ℕ} b 1 0) (ne_eqb t.number n apart)

  -- no pass has a number that was not handed out
  pub no_pass : (history : List E) (low n : ℕ) (ts : List (Hand E)) → n ≢ 0 → n < low → AllFit caller history low ts → total (one_pass n) ts ≡ 0
  no_pass history low n [] ne lt h = refl
  no_pass history low n (t ∷ ts) ne lt h = omega (arith, unused t.writes history low n t ne lt h.0, no_pass history low n ts ne lt h.1)
