-- Moments never fall, and a history goes on from the state that its front leaves.
use Rattle.std.proofs.Common.{◌≡◌, ℕ, zero, suc, ◌+◌, ◌≤◌, List, [], ◌∷◌, ◌++◌, length, refl, ap, subst, sym, arith}
use Rattle.std.specs.Prelude.{max, Option, Some, None}
use Rattle.std.specs.List.{AllAdjacentBelow, slice_index_or}
use Rattle.std.specs.List.Sorted.{IsNonDecreasing}
use Rattle.std.proofs.lemmas.List.Sorted.{IsNonDecreasingBy-from_all_adjacent}
use Rattle.redis_model.specs.declared.history.Step.{Step}
use Rattle.redis_model.specs.declared.history.Step.TheVariants.{Tick, Call, Exec, PinNow, PinnedRead, PinnedRefused, Unpin, Job}
use Rattle.redis_model.specs.declared.reply.Reply.{Reply}
use Rattle.redis_model.specs.Apply.{counted_now}
use Rattle.redis_model.specs.Legal.{Jobs, jobs_after, IsLegalFrom}
use Rattle.redis_model.specs.Machine.{State, Pin, step, run, replies, moments, pinned, unpinned, at_moment, pin_of}

-- ---- moments

rises : (floor now : ℕ) → floor ≤ max floor (counted_now now)
rises floor now = omega arith

pinned_floor : (s : State) (caller : ℕ) (p : Option Pin) → (pinned s caller p).1.floor ≡ s.floor
pinned_floor s caller None = refl
pinned_floor s caller (Some p) = refl

unpinned_floor : (s : State) (caller : ℕ) (p : Option Pin) → (unpinned s caller p).1.floor ≡ s.floor
unpinned_floor s caller None = refl
unpinned_floor s caller (Some p) = refl

-- a step does not lower the floor
pub step_floor : (s : State) (e : Step) → s.floor ≤ (step s e).1.floor
unfolding step
step_floor s (Tick now caller) = rises s.floor now
step_floor s (Call now caller c) = rises s.floor now
step_floor s (Exec now caller cs) = rises s.floor now
step_floor s (PinNow now caller) = subst (λ n. s.floor ≤ n) (sym (pinned_floor (at_moment s now) caller (pin_of s caller))) (rises s.floor now)
step_floor s (PinnedRead now caller c) = rises s.floor now
step_floor s (PinnedRefused now caller cs) = rises s.floor now
step_floor s (Unpin now caller) = subst (λ n. s.floor ≤ n) (sym (unpinned_floor (at_moment s now) caller (pin_of s caller))) (rises s.floor now)
step_floor s (Job caller kind mark) = omega arith

pub run_floor : (s : State) (es : List Step) → s.floor ≤ (run s es).floor
run_floor s [] = omega arith
run_floor s (e ∷ es) = omega (arith, step_floor s e, run_floor (step s e).1 es)

adjacent : (s : State) (es : List Step) → AllAdjacentBelow (λ x y. x ≤ y) (s.floor ∷ moments s es) (length (s.floor ∷ moments s es))
adjacent s [] k d h = absurd (omega arith)
adjacent s (e ∷ es) zero d h = step_floor s e
adjacent s (e ∷ es) (suc k) d h =
    let next : suc k + 1 ≡ suc (k + 1) = omega arith in
    subst (λ (n : ℕ). slice_index_or (moments s (e ∷ es)) k d ≤ slice_index_or (s.floor ∷ moments s (e ∷ es)) n d) (sym next) (adjacent (step s e).1 es k d (omega arith))

-- the moments of a history never fall, and none is below the floor of its start
pub moments_never_fall : (s : State) (es : List Step) → IsNonDecreasing (s.floor ∷ moments s es)
moments_never_fall s es = IsNonDecreasingBy-from_all_adjacent (λ x. x) (s.floor ∷ moments s es) (adjacent s es)

-- ---- a history and what follows it

pub run-append : (s : State) (es fs : List Step) → run s (es ++ fs) ≡ run (run s es) fs
run-append s [] fs = refl
run-append s (e ∷ es) fs = run-append (step s e).1 es fs

pub replies-append : (s : State) (es fs : List Step) → replies s (es ++ fs) ≡ replies s es ++ replies (run s es) fs
replies-append s [] fs = refl
replies-append s (e ∷ es) fs = ap (λ (rs : List (Option Reply)). (step s e).0 ∷ rs) (replies-append (step s e).1 es fs)

-- the open jobs after a history
abbrev pub jobs_left : Jobs → List Step → Jobs
jobs_left j [] = j
jobs_left j (e ∷ es) = jobs_left (jobs_after j e) es

-- a legal history goes on by what is legal from there
pub IsLegalFrom-append : (s : State) (j : Jobs) (es fs : List Step) → IsLegalFrom s j es → IsLegalFrom (run s es) (jobs_left j es) fs → IsLegalFrom s j (es ++ fs)
IsLegalFrom-append s j [] fs h k = k
IsLegalFrom-append s j (e ∷ es) fs h k = (h.0, IsLegalFrom-append (step s e).1 (jobs_after j e) es fs h.1 k)

pub IsLegalFrom-front : (s : State) (j : Jobs) (es fs : List Step) → IsLegalFrom s j (es ++ fs) → IsLegalFrom s j es
IsLegalFrom-front s j [] fs h = tt
IsLegalFrom-front s j (e ∷ es) fs h = (h.0, IsLegalFrom-front (step s e).1 (jobs_after j e) es fs h.1)

pub IsLegalFrom-rest : (s : State) (j : Jobs) (es fs : List Step) → IsLegalFrom s j (es ++ fs) → IsLegalFrom (run s es) (jobs_left j es) fs
IsLegalFrom-rest s j [] fs h = h
IsLegalFrom-rest s j (e ∷ es) fs h = IsLegalFrom-rest (step s e).1 (jobs_after j e) es fs h.1
