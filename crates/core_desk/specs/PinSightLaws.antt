-- Whether a caller has a pin is changed by its own entries alone, and by no tick.
use Rattle.std.proofs.Common.{◌≡◌, ℕ, List, [], ◌∷◌, ◌++◌, refl, ap, ◌∙◌, Bool, true, false, cond, inl, inr, arith}
use Rattle.std.proofs.lemmas.Bool.Decides.{nat_tests}
use Rattle.std.specs.Prelude.{◌==◌, not, find, filter, Option, Some, None, is_some}
use Rattle.redis_model.specs.declared.history.Step.{Step}
use Rattle.redis_model.specs.declared.history.Step.TheVariants.{Tick, Call, Exec, PinNow, PinnedRead, PinnedRefused, Unpin, Job}
use Rattle.redis_model.specs.Machine.{State, Pin, is_of, pin_of, step, run, at_moment, pinned, unpinned}
use Rattle.redis_model.specs.Legal.{is_call_of, calls_of}
use Rattle.redis_model.specs.Desk.{has_pin, IsTicked}

-- ---- the pins of others

-- another caller's pin that comes
pin_comes : (caller : ℕ) (ps : List Pin) (p : Pin) → is_of caller p ≡ false → is_some (find (is_of caller) (ps ++ p ∷ [])) ≡ is_some (find (is_of caller) ps)
pin_comes caller [] p other = ap (λ b. is_some (cond b (Some p) None)) other
pin_comes caller (q ∷ ps) p other = by_test (is_of caller q) (pin_comes caller ps p other)
  where
    by_test : (b : Bool) → is_some (find (is_of caller) (ps ++ p ∷ [])) ≡ is_some (find (is_of caller) ps)
        → is_some (cond b (Some q) (find (is_of caller) (ps ++ p ∷ []))) ≡ is_some (cond b (Some q) (find (is_of caller) ps))
    by_test true rest = refl
    by_test false rest = rest

-- and one that goes
pins_go : (caller other : ℕ) (ps : List Pin) → (other == caller) ≡ false → is_some (find (is_of caller) (filter (λ q. not (is_of other q)) ps)) ≡ is_some (find (is_of caller) ps)
pins_go caller other [] apart = refl
pins_go caller other (q ∷ ps) apart = by_tests (q.caller == other) (q.caller == caller) refl refl (pins_go caller other ps apart)
  where
    rest : List Pin
    rest = filter (λ q. not (is_of other q)) ps

    by_tests : (a b : Bool) → (q.caller == other) ≡ a → (q.caller == caller) ≡ b → is_some (find (is_of caller) rest) ≡ is_some (find (is_of caller) ps)
        → is_some (find (is_of caller) (cond (not a) (q ∷ rest) rest)) ≡ is_some (cond b (Some q) (find (is_of caller) ps))
    by_tests true true is at_it same = absurd (grind (arith, nat_tests))
    by_tests true false is at_it same = same
    by_tests false true is at_it same = ap (λ b. is_some (cond b (Some q) (find (is_of caller) rest))) at_it
    by_tests false false is at_it same = ap (λ b. is_some (cond b (Some q) (find (is_of caller) rest))) at_it ∙ same

-- ---- entries

pinned_by_other : (s : State) (caller other : ℕ) (o : Option Pin) → (other == caller) ≡ false → has_pin (pinned s other o).1 caller ≡ has_pin s caller
pinned_by_other s caller other None apart = pin_comes caller s.pins (record { caller = other; seen = s.keys; moment = s.floor }) apart
pinned_by_other s caller other (Some p) apart = refl

unpinned_by_other : (s : State) (caller other : ℕ) (o : Option Pin) → (other == caller) ≡ false → has_pin (unpinned s other o).1 caller ≡ has_pin s caller
unpinned_by_other s caller other None apart = refl
unpinned_by_other s caller other (Some p) apart = pins_go caller other s.pins apart

-- an entry of another caller, or a job
other_keeps_pin : (s : State) (caller : ℕ) (e : Step) → is_call_of caller e ≡ false → has_pin (step s e).1 caller ≡ has_pin s caller
unfolding step
other_keeps_pin s caller (Tick now other) apart = refl
other_keeps_pin s caller (Call now other c) apart = refl
other_keeps_pin s caller (Exec now other cs) apart = refl
other_keeps_pin s caller (PinNow now other) apart = pinned_by_other (at_moment s now) caller other (pin_of s other) apart
other_keeps_pin s caller (PinnedRead now other c) apart = refl
other_keeps_pin s caller (PinnedRefused now other cs) apart = refl
other_keeps_pin s caller (Unpin now other) apart = unpinned_by_other (at_moment s now) caller other (pin_of s other) apart
other_keeps_pin s caller (Job other kind mark) apart = refl

-- a tick, whose ever
tick_keeps_pin : (s : State) (caller now other : ℕ) → has_pin (step s (Tick now other)).1 caller ≡ has_pin s caller
unfolding step
tick_keeps_pin s caller now other = refl

-- Entries of which a caller has at most a tick.
pub ticked_keeps_pin : (s : State) (caller now : ℕ) (es : List Step) → IsTicked caller now (calls_of caller es) → has_pin (run s es) caller ≡ has_pin s caller
ticked_keeps_pin s caller now [] ticked = refl
ticked_keeps_pin s caller now (e ∷ es) ticked = by_test (ticked_keeps_pin (step s e).1 caller now es) (is_call_of caller e) refl ticked
  where
    after : State
    after = (step s e).1

    by_test : (IsTicked caller now (calls_of caller es) → has_pin (run after es) caller ≡ has_pin after caller) → (b : Bool) → is_call_of caller e ≡ b
        → IsTicked caller now (cond b (e ∷ calls_of caller es) (calls_of caller es)) → has_pin (run after es) caller ≡ has_pin s caller
    by_test rest false apart ticked = rest ticked ∙ other_keeps_pin s caller e apart
    by_test rest true is (inl none) = absurd (cc)
    by_test rest true is (inr one) = rest (inl (cc)) ∙ ap (λ (x : Step). has_pin (step s x).1 caller) (cc) ∙ tick_keeps_pin s caller now caller
