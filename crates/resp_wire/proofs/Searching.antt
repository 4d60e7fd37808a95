-- What a search of a window on a line tells of the line.
use Rattle.std.proofs.Common.{◌≡◌, ℕ, ◌+◌, ◌-◌, ◌≤◌, ◌<◌, Bool, true, false, List, length, take, drop, slice_index, min, Err, refl, sym, ap, subst, ◌∙◌, arith, inl, inr}
use Rattle.std.specs.Prelude.{◌||◌, ◌==◌}
use Rattle.std.proofs.lemmas.Grind.{common_steps}
use Rattle.std.proofs.lemmas.Bool.{cases_Bool, cases_lt}
use Rattle.std.proofs.lemmas.List.{get_or-drop, get_or-take, length-drop, length-take}
use Rattle.memchr.specs.Find.{Nowhere, NoneBefore, Passes, is_byte3}
use Rattle.resp_wire.specs.declared.stop.ProtocolFault.TheVariants.{TooLong}
use Rattle.resp_wire.specs.declared.stop.Stop.TheVariants.{More, Bad}
use Rattle.resp_wire.specs.Grammar.{line}
use Rattle.resp_wire.specs.Lines.{IsSearched, is_stop}
use Rattle.resp_wire.specs.LineLaws.{line_full, line_unended}

abbrev pub is_sought : ℕ → Bool
is_sought = is_byte3 10 34 39

grouped : (a b c : Bool) → ((a || b) || c) ≡ (a || (b || c))
grouped true b c = refl
grouped false b c = refl

sought_is : (c : ℕ) → is_sought c ≡ is_stop c
sought_is c = grouped (c == 10) (c == 34) (c == 39)

not_sought : (c : ℕ) → (is_sought c ≡ true → ⊥) → is_stop c ≡ false
not_sought c h = elim (cases_Bool (is_stop c)) [
  | inl yes_is ↦ absurd (h (sought_is c ∙ yes_is))
  | inr no_is ↦ no_is
]

feed_stops : (c : ℕ) → c ≡ 10 → is_stop c ≡ false → ⊥
feed_stops c feed plain = grind (arith, common_steps)

-- a line of which some bytes were searched, a window on it, and what of the window was not searched
module _ (searched wide : ℕ) (bytes window fresh : List ℕ) (before : IsSearched searched bytes) (is_wide : wide ≡ min (length bytes) 65537) (front : window ≡ take wide bytes) (back : fresh ≡ drop searched window) where
  fresh_at : (k : ℕ) → searched + k < wide → slice_index fresh k ≡ slice_index bytes (searched + k)
  fresh_at k lt = ap (λ (l : List ℕ). slice_index l k) (back ∙ ap (drop searched) front) ∙ get_or-drop searched (take wide bytes) k 0 ∙ get_or-take wide bytes (searched + k) 0 lt

  window_len : length window ≡ wide
  window_len = ap length front ∙ omega (arith, length-take wide bytes)

  fresh_len : length fresh ≡ wide - searched
  fresh_len = ap length back ∙ length-drop searched window ∙ ap (λ (n : ℕ). n - searched) window_len

  plain_below : (end : ℕ) → searched + end ≤ wide → Nowhere (Passes is_sought fresh) 0 end → (k : ℕ) → k < searched + end → is_stop (slice_index bytes k) ≡ false
  plain_below end le none k lt = elim (cases_lt k searched) [
    | inl here ↦ before.plain k here
    | inr later ↦
        let at : searched + (k - searched) ≡ k = omega arith in
        let is : slice_index fresh (k - searched) ≡ slice_index bytes k = fresh_at (k - searched) (omega arith) ∙ ap (slice_index bytes) at in
        subst (λ (c : ℕ). is_stop c ≡ false) is (not_sought (slice_index fresh (k - searched)) (none (k - searched) (omega arith) (omega arith)))
  ]

  all_plain : Nowhere (Passes is_sought fresh) 0 (length fresh) → searched ≤ wide → (k : ℕ) → k < wide → is_stop (slice_index bytes k) ≡ false
  all_plain none le k lt = plain_below (length fresh) (omega (arith, fresh_len)) none k (omega (arith, fresh_len))

  pub none_long : Nowhere (Passes is_sought fresh) 0 (length fresh) → 65536 < length bytes → line bytes ≡ Err (Bad TooLong (length bytes))
  none_long none long =
      let plain = all_plain none (omega (arith, before.short)) in
      let front_searched : IsSearched 65536 bytes = record { inside = omega arith; short = omega arith; plain = λ k lt. plain k (omega arith) } in
      line_full 65536 bytes front_searched long refl (λ feed. feed_stops (slice_index bytes 65536) feed (plain 65536 (omega arith)))

  pub none_unended : Nowhere (Passes is_sought fresh) 0 (length fresh) → length bytes ≤ 65536 → line bytes ≡ Err More
  none_unended none short =
      let plain = all_plain none (omega (arith, before.inside)) in
      line_unended (length bytes) bytes (record { inside = omega arith; short = short; plain = λ k lt. plain k (omega arith) }) refl

  module _ (place : ℕ) (found : NoneBefore (Passes is_sought fresh) 0 (length fresh) place) (stop : Passes is_sought fresh place) where
    pub found_within : searched + place < wide
    found_within = omega (arith, fresh_len, found.high)

    pub found_searched : IsSearched (searched + place) bytes
    found_searched = record {
      inside = omega (arith, found_within);
      short = omega (arith, found_within);
      plain = plain_below place (omega (arith, found_within)) found.before;
    }

    pub found_stop : is_stop (slice_index bytes (searched + place)) ≡ true
    found_stop = sym (sought_is (slice_index bytes (searched + place))) ∙ ap is_sought (sym (fresh_at place found_within)) ∙ stop
