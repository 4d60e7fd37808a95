-- The steps, at a seat whose hands are known.
use Rattle.std.proofs.Common.{◌≡◌, ◌≢◌, ℕ, ◌+◌, ◌%◌, ◌^◌, ◌<◌, eqb, List, [], ◌∷◌, length, sym, ap, ◌∙◌, subst}
use mathlib.Core.List.{IsPrefix}
use prog.Atomic.{either}
use Rattle.atomic_table.specs.Table.{Allows, Splits}
use Rattle.turn_hall.specs.declared.hand.Hand.{Hand}
use Rattle.turn_hall.specs.Hands.{writer_of, pass_of, longer_log, entries_of, number_in, free_in, seen_in, log_in, IsBoth, IsTwo, with_less, handed_out}
use Rattle.token_views.specs.Views.{other_tokens}
use Rattle.turn_hall.specs.Rule.{IsHall, CatchesUp, Merges, with_entry}
use Rattle.turn_hall.proofs.Moves.{hands_out, catches_up, appends, merges}

module _ {E : Type 0} (caller : E → ℕ) where
  pub hands_out_at : {S : Type 0} (id : ℕ) (v : List (Hand E)) → v ≡ pass_of (number_in v) (free_in v) (seen_in v) ∷ [] → 1 < free_in v
      → Splits {S = S} (λ s. IsHall caller s.words s.views) id v (with_less v) (handed_out v)
  hands_out_at {S} id v is more =
      let P : List (Hand E) → Type 0 = λ u. Splits {S = S} (λ s. IsHall caller s.words s.views) id u (with_less u) (handed_out u) in
      subst P (sym is) (hands_out caller {S = S} id (number_in v) (free_in v) (seen_in v) [] more)

  pub catches_up_at : {S : Type 0} (slots id : ℕ) (v : List (Hand E)) (c : List (ℕ × S)) → IsBoth v
      → Allows {S = S} (λ s. IsHall caller s.words s.views) slots id (v, c) 0 (λ n. n) (λ found w. CatchesUp caller v found w.0 × (w.1 ≡ c))
  catches_up_at {S} slots id v c is =
      let P : List (Hand E) → Type 0 = λ u. Allows {S = S} (λ s. IsHall caller s.words s.views) slots id (u, c) 0 (λ n. n) (λ found w. CatchesUp caller u found w.0 × (w.1 ≡ c)) in
      subst P (sym is) (catches_up caller {S = S} slots id (number_in v) (free_in v) (seen_in v) (log_in v) c)

  pub appends_at : {S : Type 0} (slots id old new : ℕ) (v : List (Hand E)) (c : List (ℕ × S)) (e : E) → IsBoth v → seen_in v ≡ log_in v → caller e ≡ number_in v → old ≡ length (log_in v) % 2 ^ 64 → new ≡ (length (log_in v) + 1) % 2 ^ 64
      → Allows {S = S} (λ s. IsHall caller s.words s.views) slots id (v, c) 0 (λ k. either (eqb k old) new k) (λ found w. (w.0 ≡ with_entry e v) × (w.1 ≡ c))
  appends_at {S} slots id old new v c e is caught by was now =
      let P : List (Hand E) → Type 0 = λ u. Allows {S = S} (λ s. IsHall caller s.words s.views) slots id (u, c) 0 (λ k. either (eqb k old) new k) (λ found w. (w.0 ≡ with_entry e u) × (w.1 ≡ c)) in
      let both : v ≡ pass_of (number_in v) (free_in v) (log_in v) ∷ writer_of (log_in v) ∷ [] = is ∙ ap (λ (l : List E). pass_of (number_in v) (free_in v) l ∷ writer_of (log_in v) ∷ []) caught in
      subst P (sym both) (appends caller {S = S} slots id (number_in v) (free_in v) old new (log_in v) c e by was now)

  pub merges_at : {S : Type 0} (slots id : ℕ) (v : List (Hand E)) (c : List (ℕ × S)) → IsTwo v
      → Allows {S = S} (λ s. IsHall caller s.words s.views) slots id (v, c) 0 (λ n. n) (λ found w. Merges caller v w.0 × (w.1 ≡ c))
  merges_at {S} slots id v c is =
      let P : List (Hand E) → Type 0 = λ u. Allows {S = S} (λ s. IsHall caller s.words s.views) slots id (u, c) 0 (λ n. n) (λ found w. Merges caller u w.0 × (w.1 ≡ c)) in
      subst P (sym is) (merges caller {S = S} slots id (number_in v) (free_in v) (number_in (other_tokens v)) (free_in (other_tokens v)) (seen_in v) (log_in v) c)

  -- what the step tells, of the hands that the seat had
  pub caught_up : (v w : List (Hand E)) (found : ℕ) → IsBoth v → CatchesUp caller v found w
      → (w ≡ pass_of (number_in v) (free_in v) (log_in v) ∷ writer_of (log_in v) ∷ []) × IsPrefix (seen_in v) (log_in v) × (entries_of caller (number_in v) (log_in v) ≡ entries_of caller (number_in v) (seen_in v)) × (found ≡ length (log_in v) % 2 ^ 64)
  caught_up v w found is h = subst (λ (u : List (Hand E)). CatchesUp caller u found w) is h

  pub merged : (v w : List (Hand E)) → IsTwo v → Merges caller v w
      → (w ≡ pass_of (number_in (other_tokens v)) (free_in (other_tokens v)) (longer_log (log_in v) (seen_in v)) ∷ []) × IsPrefix (log_in v) (longer_log (log_in v) (seen_in v)) × IsPrefix (seen_in v) (longer_log (log_in v) (seen_in v))
      × (entries_of caller (number_in (other_tokens v)) (longer_log (log_in v) (seen_in v)) ≡ entries_of caller (number_in (other_tokens v)) (log_in v)) × (entries_of caller (number_in v) (longer_log (log_in v) (seen_in v)) ≡ entries_of caller (number_in v) (seen_in v))
      × (number_in (other_tokens v) ≢ number_in v)
  merged v w is h = subst (λ (u : List (Hand E)). Merges caller u w) is h
