-- Each kind of step keeps the rule.
use Rattle.std.proofs.Common.{◌≡◌, ◌≢◌, ℕ, zero, suc, ◌+◌, ◌-◌, ◌%◌, ◌^◌, ◌≤◌, ◌<◌, Bool, true, false, cond, eqb, eq-eqb, List, [], ◌∷◌, ◌++◌, length, set, refl, sym, ap, ◌∙◌, subst, ⊎_elim, inl, inr, arith, length-append}
use Rattle.std.specs.Prelude.{slice_set, slice_index}
use Rattle.std.proofs.lemmas.Bool.{eqb-true}
use mathlib.Core.List.{IsPrefix}
use mathlib.Core.Option.{some, some-injective, some-ne-none}
use lib.ListN.{get_elem?}
use prog.Atomic.{either}
use Rattle.atomic_table.specs.Table.{keeps, Allows, Splits, Joins}
use Rattle.atomic_table.proofs.Lists.{set_else}
use Rattle.turn_hall.specs.declared.hand.Hand.{Hand}
use Rattle.turn_hall.specs.Hands.{writer_of, pass_of, one_writer, one_pass, longer_log, entries_of, IsGiven}
use Rattle.token_views.specs.Views.{total, first_token, other_tokens}
use Rattle.turn_hall.specs.Rule.{all_hands, AllFit, IsHall, CatchesUp, Merges, with_entry}
use Rattle.token_views.specs.ViewsLaws.{total-append, total-set, total-at, total-two, total-zero, total-cut, each_set, each_snoc, same_word}
use Rattle.turn_hall.proofs.Logs.{prefix_self, squeezed, longer_of, of-none, given-weaker, given-more, nil_left, of-append}
use Rattle.turn_hall.proofs.Fits.{fit-append, fit-first, fit-others, fit-grown, fit-lessened, no_pass}

module _ {E : Type 0} (caller : E → ℕ) where
  pub opens : IsHall caller (0 ∷ []) (all_hands ∷ [])
  opens = record {
    history = [];
    low = 2 ^ 32;
    word = refl;
    one_writes = omega arith;
    once = λ n. at_most (eqb 0 n);
    fits = one;
    known = tt;
  }
    where
      at_most : (b : Bool) → 0 + (cond {A = ℕ} b 1 0 + 0) + 0 ≤ 1
      at_most true = omega arith
      at_most false = omega arith

      one : (k : ℕ) (v : List (Hand E)) → get_elem? (all_hands ∷ []) k ≡ some v → AllFit caller [] (2 ^ 32) v
      one zero v e = subst (AllFit caller [] (2 ^ 32)) (some-injective _ _ e) (refl, (record { begins = ([], refl); own = refl; given = inl refl; free = inr (refl, refl) }, tt))
      one (suc k) v e = absurd (some-ne-none v (sym e))

  module _ {S : Type 0} where
    -- a cut of the view whose parts have what the whole had
    parts : (id : ℕ) (v left right : List (Hand E)) → ((f : Hand E → ℕ) → total f left + total f right ≡ total f v)
        → ((history : List E) (low : ℕ) → AllFit caller history low v → AllFit caller history low left × AllFit caller history low right)
        → Splits {S = S} (λ s. IsHall caller s.words s.views) id v left right
    parts id v left right sums fit s h at = record {
      history = h.history;
      low = h.low;
      word = h.word;
      one_writes = omega (arith, total-append (total one_writer) (set s.views id left) (right ∷ []), total-set (total one_writer) s.views id v left at, sums one_writer, h.one_writes);
      once = λ n. omega (arith, total-append (total (one_pass n)) (set s.views id left) (right ∷ []), total-set (total (one_pass n)) s.views id v left at, sums (one_pass n), h.once n);
      fits = let both = fit h.history h.low (h.fits id v at) in each_snoc (AllFit caller h.history h.low) s.views id left right (λ k u ne e. h.fits k u e) both.0 both.1;
      known = h.known;
    }

    pub splits_first : (id : ℕ) (v : List (Hand E)) → Splits {S = S} (λ s. IsHall caller s.words s.views) id v (other_tokens v) (first_token v)
    splits_first id v = parts id v (other_tokens v) (first_token v) (λ f. total-cut f v) (λ history low all. (fit-others caller history low v all, fit-first caller history low v all))

    pub splits_whole : (id : ℕ) (v : List (Hand E)) → Splits {S = S} (λ s. IsHall caller s.words s.views) id v [] v
    splits_whole id v = parts id v [] v (λ f. omega arith) (λ history low all. (tt, all))

    pub joins : (id : ℕ) (v : List (Hand E)) (other : ℕ) (w : List (Hand E)) → Joins {S = S} (λ s. IsHall caller s.words s.views) id v other w (w ++ v) []
    joins id v other w s h at apart there =
        let theirs : get_elem? s.views other ≡ some w = sym (set_else s.views id other (w ++ v) apart) ∙ there in
        let both = fit-append caller h.history h.low w v (h.fits other w theirs) (h.fits id v at) in
        let sums : (f : Hand E → ℕ) → total (total f) (set (set s.views id (w ++ v)) other []) ≡ total (total f) s.views =
        λ f. omega (arith, total-set (total f) (set s.views id (w ++ v)) other w [] there, total-set (total f) s.views id v (w ++ v) at, total-append f w v) in record {
          history = h.history;
          low = h.low;
          word = h.word;
          one_writes = omega (arith, sums one_writer, h.one_writes);
          once = λ n. omega (arith, sums (one_pass n), h.once n);
          fits = each_set (AllFit caller h.history h.low) (set s.views id (w ++ v)) other [] (λ k u ne e. each_set (AllFit caller h.history h.low) s.views id (w ++ v) (λ j y ne' d. h.fits j y d) both k u e) tt;
          known = h.known;
        }

    -- the first pass hands out its last number
    pub hands_out : (id n free : ℕ) (seen : List E) (ts : List (Hand E)) → 1 < free
        → Splits {S = S} (λ s. IsHall caller s.words s.views) id (pass_of n free seen ∷ ts) (pass_of n (free - 1) seen ∷ ts) (pass_of (free - 1) 0 seen ∷ [])
    hands_out id n free seen ts more s h at =
        let v : List (Hand E) = pass_of n free seen ∷ ts in
        let left : List (Hand E) = pass_of n (free - 1) seen ∷ ts in
        let right : List (Hand E) = pass_of (free - 1) 0 seen ∷ [] in
        let all = h.fits id v at in
        let p = all.0 in
        let is_first : (free ≡ h.low) × (n ≡ 0) = ⊎_elim (λ (z : free ≡ 0). absurd (omega arith)) (λ (x : (free ≡ h.low) × (n ≡ 0)). x) p.free in
        let less : ℕ = free - 1 in
        let positive : less ≢ 0 = λ z. absurd (omega arith) in
        let below : less < h.low = omega (arith, is_first.0) in
        let no : total (total (one_pass less)) s.views ≡ 0 = total-zero (total (one_pass less)) s.views (λ k u e. no_pass caller h.history h.low less u positive below (h.fits k u e)) in
        let mine : total (one_pass 0) v ≡ 1 + total (one_pass 0) ts = ap (λ (b : Bool). cond {A = ℕ} b 1 0 + total (one_pass 0) ts) (eq-eqb n 0 is_first.1) in
        let none : entries_of caller less h.history ≡ [] = of-none caller h.low less h.history h.known positive below in
        let none_seen : entries_of caller less seen ≡ [] = nil_left (entries_of caller less seen) (entries_of caller less p.begins.0) (sym (of-append caller less seen p.begins.0) ∙ (ap (entries_of caller less) p.begins.1 ∙ none)) in record {
          history = h.history;
          low = less;
          word = h.word;
          one_writes = omega (arith, total-append (total one_writer) (set s.views id left) (right ∷ []), total-set (total one_writer) s.views id v left at, h.one_writes);
          once = λ k.
              let sums : total (total (one_pass k)) (set s.views id left ++ right ∷ []) ≡ total (total (one_pass k)) s.views + cond {A = ℕ} (eqb less k) 1 0 =
              omega (arith, total-append (total (one_pass k)) (set s.views id left) (right ∷ []), total-set (total (one_pass k)) s.views id v left at) in
              pick k (eqb less k) refl (total (total (one_pass k)) s.views) (h.once k) (λ same. ap (λ (j : ℕ). total (total (one_pass j)) s.views) (sym same) ∙ no) (total (total (one_pass k)) (set s.views id left ++ right ∷ [])) sums;
          fits = each_snoc (AllFit caller h.history less) s.views id left right
              (λ k u ne e. fit-lessened caller h.history h.low less u (omega arith) (omega (arith, mine, total-two (total (one_pass 0)) s.views k id u v ne e at, h.once 0)) (h.fits k u e))
              (record { begins = p.begins; own = p.own; given = inl is_first.1; free = inr (refl, is_first.1) }, fit-lessened caller h.history h.low less ts (omega arith) (omega (arith, mine, total-at (total (one_pass 0)) s.views id v at, h.once 0)) all.1)
              (record { begins = p.begins; own = none ∙ sym none_seen; given = inr (omega arith); free = inl refl }, tt);
          known = given-weaker caller h.low less h.history (omega arith) h.known;
        }
      where
        pick : (k : ℕ) (b : Bool) → eqb (free - 1) k ≡ b → (t : ℕ) → t ≤ 1 → (free - 1 ≡ k → t ≡ 0) → (u : ℕ) → u ≡ t + cond {A = ℕ} (eqb (free - 1) k) 1 0 → u ≤ 1
        pick k true is t le z u e = let z' = z (eqb-true (free - 1) k is) in let e' : u ≡ t + 1 = rw is at e in omega arith
        pick k false is t le z u e = let e' : u ≡ t + 0 = rw is at e in omega arith

    -- the pass sees all that the writing hand has
    pub catches_up : (slots id n free : ℕ) (seen log : List E) (c : List (ℕ × S))
        → Allows {S = S} (λ s. IsHall caller s.words s.views) slots id (pass_of n free seen ∷ writer_of log ∷ [], c) 0 (λ n. n) (λ found w. CatchesUp caller (pass_of n free seen ∷ writer_of log ∷ []) found w.0 × (w.1 ≡ c))
    catches_up slots id n free seen log c s h homes at fits64 =
        let v : List (Hand E) = pass_of n free seen ∷ writer_of log ∷ [] in
        let w : List (Hand E) = pass_of n free log ∷ writer_of log ∷ [] in
        let all = h.fits id v at in
        let p = all.0 in
        let is_all : log ≡ h.history = all.1.0 in (
          w,
          keeps,
          tt,
          record {
            history = h.history;
            low = h.low;
            word = same_word s.words (length h.history % 2 ^ 64) h.word;
            one_writes = omega (arith, total-set (total one_writer) s.views id v w at, h.one_writes);
            once = λ k. omega (arith, total-set (total (one_pass k)) s.views id v w at, h.once k);
            fits = each_set (AllFit caller h.history h.low) s.views id w (λ k u ne e. h.fits k u e)
                (record { begins = subst (IsPrefix log) is_all (prefix_self log); own = ap (entries_of caller n) (sym is_all); given = p.given; free = p.free }, (is_all, tt));
            known = h.known;
          },
          (
            (
              refl,
              subst (IsPrefix seen) (sym is_all) p.begins,
              ap (entries_of caller n) is_all ∙ p.own,
              ap (λ (ws : List ℕ). slice_index ws 0) h.word ∙ ap (λ (l : List E). length l % 2 ^ 64) (sym is_all),
            ),
            refl,
          ),
        )

    -- the history gets the entry of the pass's caller
    pub appends : (slots id n free old new : ℕ) (log : List E) (c : List (ℕ × S)) (e : E) → caller e ≡ n → old ≡ length log % 2 ^ 64 → new ≡ (length log + 1) % 2 ^ 64
        → Allows {S = S} (λ s. IsHall caller s.words s.views) slots id (pass_of n free log ∷ writer_of log ∷ [], c) 0 (λ k. either (eqb k old) new k) (λ found w. (w.0 ≡ with_entry e (pass_of n free log ∷ writer_of log ∷ [])) × (w.1 ≡ c))
    appends slots id n free old new log c e by was now s h homes at fits64 =
        let v : List (Hand E) = pass_of n free log ∷ writer_of log ∷ [] in
        let w : List (Hand E) = pass_of n free (log ++ e ∷ []) ∷ writer_of (log ++ e ∷ []) ∷ [] in
        let all = h.fits id v at in
        let p = all.0 in
        let is_all : log ≡ h.history = all.1.0 in
        let longer' : log ++ e ∷ [] ≡ h.history ++ e ∷ [] = ap (λ (l : List E). l ++ e ∷ []) is_all in
        let found : slice_index s.words 0 ≡ old = ap (λ (ws : List ℕ). slice_index ws 0) h.word ∙ (ap (λ (l : List E). length l % 2 ^ 64) (sym is_all) ∙ sym was) in
        let swapped : either (eqb (slice_index s.words 0) old) new (slice_index s.words 0) ≡ new = ap (λ (b : Bool). either b new (slice_index s.words 0)) (eq-eqb (slice_index s.words 0) old found) in
        let len : length (h.history ++ e ∷ []) ≡ length log + 1 = length-append h.history (e ∷ []) ∙ ap (λ (l : List E). length l + 1) (sym is_all) in
        let mine : total (one_pass (caller e)) v ≡ 1 = ap (λ (b : Bool). cond {A = ℕ} b 1 0 + 0) (eq-eqb n (caller e) (sym by)) in (
          w,
          keeps,
          tt,
          record {
            history = h.history ++ e ∷ [];
            low = h.low;
            word = ap (λ (ws : List ℕ). slice_set ws 0 (either (eqb (slice_index s.words 0) old) new (slice_index s.words 0))) h.word ∙ ap (λ (k : ℕ). k ∷ []) (swapped ∙ (now ∙ ap (λ (k : ℕ). k % 2 ^ 64) (sym len)));
            one_writes = omega (arith, total-set (total one_writer) s.views id v w at, h.one_writes);
            once = λ k. omega (arith, total-set (total (one_pass k)) s.views id v w at, h.once k);
            fits = each_set (AllFit caller (h.history ++ e ∷ []) h.low) s.views id w
                (λ k u ne d. fit-grown caller h.history h.low e u
                (omega (arith, total-two (total one_writer) s.views k id u v ne d at, h.one_writes))
                (omega (arith, mine, total-two (total (one_pass (caller e))) s.views k id u v ne d at, h.once (caller e)))
                (h.fits k u d))
                (record { begins = subst (IsPrefix (log ++ e ∷ [])) longer' (prefix_self (log ++ e ∷ [])); own = ap (entries_of caller n) (sym longer'); given = p.given; free = p.free }, (longer', tt));
            known = given-more caller h.low h.history e h.known (subst (IsGiven h.low) (sym by) p.given);
          },
          (refl, refl),
        )

    -- two passes become one, which has seen what either has
    pub merges : (slots id m f n g : ℕ) (ys xs : List E) (c : List (ℕ × S))
        → Allows {S = S} (λ s. IsHall caller s.words s.views) slots id (pass_of m f ys ∷ pass_of n g xs ∷ [], c) 0 (λ n. n) (λ found w. Merges caller (pass_of m f ys ∷ pass_of n g xs ∷ []) w.0 × (w.1 ≡ c))
    merges slots id m f n g ys xs c s h homes at fits64 =
        let v : List (Hand E) = pass_of m f ys ∷ pass_of n g xs ∷ [] in
        let log : List E = longer_log xs ys in
        let w : List (Hand E) = pass_of n g log ∷ [] in
        let all = h.fits id v at in
        let q = all.0 in
        let p = all.1.0 in
        let l = longer_of xs ys h.history p.begins q.begins in
        let own : entries_of caller n log ≡ entries_of caller n xs = squeezed caller n xs log h.history l.0 l.2 p.own in
        let theirs : entries_of caller m log ≡ entries_of caller m ys = squeezed caller m ys log h.history l.1 l.2 q.own in
        let this_one : cond {A = ℕ} (eqb m m) 1 0 ≡ 1 = ap (λ (b : Bool). cond {A = ℕ} b 1 0) (eq-eqb m m refl) in
        let differ : n ≢ m = λ same.
        let that_one : cond {A = ℕ} (eqb n m) 1 0 ≡ 1 = ap (λ (b : Bool). cond {A = ℕ} b 1 0) (eq-eqb n m same) in
        absurd (omega (arith, this_one, that_one, total-at (total (one_pass m)) s.views id v at, h.once m)) in (
          w,
          keeps,
          tt,
          record {
            history = h.history;
            low = h.low;
            word = same_word s.words (length h.history % 2 ^ 64) h.word;
            one_writes = omega (arith, total-set (total one_writer) s.views id v w at, h.one_writes);
            once = λ k. omega (arith, total-set (total (one_pass k)) s.views id v w at, h.once k);
            fits = each_set (AllFit caller h.history h.low) s.views id w (λ k u ne e. h.fits k u e) (record { begins = l.2; own = p.own ∙ sym own; given = p.given; free = p.free }, tt);
            known = h.known;
          },
          ((refl, l.0, l.1, own, theirs, differ), refl),
        )
