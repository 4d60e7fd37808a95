-- Pins that come and go leave each caller one at most.
use Rattle.std.specs.Prelude.{◌≡◌, ℕ, ◌==◌, Bool, true, false, not, List, [], ◌∷◌, ◌++◌, Option, None, Some, IsNone}
use Rattle.std.proofs.Common.{refl, ◌∙◌, ap, cond, arith}
use Rattle.std.proofs.lemmas.Bool.Decides.{nat_tests}
use Rattle.snap_pins.specs.declared.pins.PinAt.{PinAt}
use Rattle.snap_pins.specs.Pinned.{is_pin_of, pin_among, HaveOwnCallers, pins_without}

pub no_pin_is : (o : Option PinAt) → IsNone o → o ≡ None
no_pin_is None none = refl
no_pin_is (Some pin) none = absurd (cc)

-- where none is found, the first is not the caller's, and none of the others
pub record IsNotFirst (caller : ℕ) (first : PinAt) (pins : List PinAt) : Type 0 where
  pub other : is_pin_of caller first ≡ false
  pub none : pin_among caller pins ≡ None

passed : (caller : ℕ) (first : PinAt) (pins : List PinAt) → pin_among caller (first ∷ pins) ≡ None → IsNotFirst caller first pins
passed caller first pins none = by_test (is_pin_of caller first) refl none
  where
    by_test : (b : Bool) → is_pin_of caller first ≡ b → cond b (Some first) (pin_among caller pins) ≡ None → IsNotFirst caller first pins
    by_test true is none = absurd (cc)
    by_test false is none = record { other = is; none = none }

-- a pin of another caller behind them is not found
none_of_more : (caller : ℕ) (pins : List PinAt) (more : PinAt) → pin_among caller pins ≡ None → is_pin_of caller more ≡ false → pin_among caller (pins ++ more ∷ []) ≡ None
none_of_more caller [] more none other = ap (λ b. cond b (Some more) None) other
none_of_more caller (first ∷ pins) more none other =
    let at = passed caller first pins none in
    ap (λ b. cond b (Some first) (pin_among caller (pins ++ more ∷ []))) at.other ∙ none_of_more caller pins more at.none other

turned : (m n : ℕ) → (m == n) ≡ false → (n == m) ≡ false
turned m n apart = grind (arith, nat_tests)

pub own_with_more : (pins : List PinAt) (more : PinAt) → HaveOwnCallers pins → pin_among more.caller pins ≡ None → HaveOwnCallers (pins ++ more ∷ [])
own_with_more [] more own none = (refl, tt)
own_with_more (first ∷ pins) more own none =
    let at = passed more.caller first pins none in
    (none_of_more first.caller pins more own.0 (turned first.caller more.caller at.other), own_with_more pins more own.1 at.none)

-- one that is not there is not there among fewer
none_of_fewer : (caller gone : ℕ) (pins : List PinAt) → pin_among caller pins ≡ None → pin_among caller (pins_without gone pins) ≡ None
none_of_fewer caller gone [] none = refl
none_of_fewer caller gone (first ∷ pins) none =
    let at = passed caller first pins none in
    by_test (not (is_pin_of gone first)) at.other (none_of_fewer caller gone pins at.none)
  where
    by_test : (b : Bool) → is_pin_of caller first ≡ false → pin_among caller (pins_without gone pins) ≡ None → pin_among caller (cond b (first ∷ pins_without gone pins) (pins_without gone pins)) ≡ None
    by_test true other rest = ap (λ c. cond c (Some first) (pin_among caller (pins_without gone pins))) other ∙ rest
    by_test false other rest = rest

pub own_without : (gone : ℕ) (pins : List PinAt) → HaveOwnCallers pins → HaveOwnCallers (pins_without gone pins)
own_without gone [] own = tt
own_without gone (first ∷ pins) own = by_test (not (is_pin_of gone first)) (none_of_fewer first.caller gone pins own.0) (own_without gone pins own.1)
  where
    by_test : (b : Bool) → pin_among first.caller (pins_without gone pins) ≡ None → HaveOwnCallers (pins_without gone pins) → HaveOwnCallers (cond b (first ∷ pins_without gone pins) (pins_without gone pins))
    by_test true none rest = (none, rest)
    by_test false none rest = rest
