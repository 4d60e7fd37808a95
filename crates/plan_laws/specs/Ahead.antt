-- A plan that has not lapsed: none of the deadlines that it looked ahead to has come.
use Rattle.std.proofs.Common.{◌≡◌, ℕ, ◌<◌, ◌≤◌, Bool, true, false, cond, ◌&&◌, ◌||◌, List, [], ◌∷◌, refl, sym, ap, subst, ◌∙◌, inl, inr, arith}
use Rattle.std.proofs.lemmas.Bool.Decides.{nat_tests}
use Rattle.std.proofs.lemmas.Bool.{or_parts}
use Rattle.std.proofs.lemmas.List.Elements.{All-head, All-tail}
use Rattle.std.specs.Prelude.{◌⊎◌, nat_lt, Option, Some, None, IsFalse}
use Rattle.redis_model.specs.declared.command.Command.{Command}
use Rattle.redis_model.specs.declared.command.Cmds.{Cmds}
use Rattle.key_locality.specs.Agree.{SameMoment}
use Rattle.key_locality.specs.Between.{IsNotBetween, NoneBetween}
use Rattle.key_locality.specs.Moments.{none_between_itself}
use Rattle.key_locality.specs.Until.{none_between_until}
use Rattle.lives_model.specs.Plans.{sooner, least_above}
use Rattle.lives_model.specs.Lapses.{reads_clock, any_reads_clock, is_past, lapses}

-- ---- the same at the later moment

-- a deadline that is not between two moments is above one exactly where it is above the other
same_above : (t later d : ℕ) (b : Bool) → t ≤ later → (t < d → later < d) → nat_lt t d ≡ b → nat_lt later d ≡ b
same_above t later d true le h is =
    let there : t < d = grind (arith, nat_tests) in
    let ahead : later < d = h there in
    grind (arith, nat_tests)
same_above t later d false le h is = grind (arith, nat_tests)

-- so it is sooner than others above both or above neither
same_sooner : (t later : ℕ) (d u : Option ℕ) → t ≤ later → IsNotBetween t later d → sooner t d u ≡ sooner later d u
same_sooner t later None u le h = refl
same_sooner t later (Some d) None le h = ap (λ b. cond b (Some d) None) (sym (same_above t later d (nat_lt t d) le h refl))
same_sooner t later (Some d) (Some u) le h = ap (λ b. cond (b && nat_lt d u) (Some d) (Some u)) (sym (same_above t later d (nat_lt t d) le h refl))

-- where none of them lies between, the least above one moment is the least above the other
pub least_later : (t later : ℕ) (deadlines : List (Option ℕ)) → t ≤ later → NoneBetween t later deadlines → least_above t deadlines ≡ least_above later deadlines
least_later t later [] le none = refl
least_later t later (d ∷ ds) le none =
    same_sooner t later d (least_above t ds) le (All-head (IsNotBetween t later) d ds none)
    ∙ ap (sooner later d) (least_later t later ds le (All-tail (IsNotBetween t later) d ds none))

-- ---- what has not lapsed

-- the moment is the same, or none of the deadlines has come and nothing was answered by the clock
abbrev pub HoldsUntil : ℕ → ℕ → Option ℕ → Bool → Type 0
HoldsUntil t later until reads = (t ≡ later) ⊎ ((is_past later until ≡ false) × (reads ≡ false))

-- by the order of the moments
holds_by : (t later : ℕ) (until : Option ℕ) (reads b : Bool) → t ≤ later → nat_lt t later ≡ b → (b && (is_past later until || reads)) ≡ false → HoldsUntil t later until reads
holds_by t later until reads true le is e = inr (or_parts (is_past later until) reads e)
holds_by t later until reads false le is e = inl (grind (arith, nat_tests))

-- a plan that has not lapsed holds
pub not_lapsed : (t later : ℕ) (until : Option ℕ) (ds : Cmds) → t ≤ later → IsFalse (lapses t later until ds) → HoldsUntil t later until (any_reads_clock ds)
not_lapsed t later until ds le e = holds_by t later until (any_reads_clock ds) (nat_lt t later) le refl e

-- so no deadline that was looked ahead to lies between
pub holds_ahead : (t later : ℕ) (until : Option ℕ) (reads : Bool) (deadlines : List (Option ℕ)) → until ≡ least_above t deadlines → HoldsUntil t later until reads → NoneBetween t later deadlines
holds_ahead t later until reads deadlines is (inl same) = subst (λ (u : ℕ). NoneBetween t u deadlines) same (none_between_itself t deadlines)
holds_ahead t later until reads deadlines is (inr h) = none_between_until t later deadlines (ap (is_past later) (sym is) ∙ h.0)

-- ---- the clock

-- where a command did not read the clock, or the moment is the same, one moment serves as well as the other
pub holds_clock : (t later : ℕ) (until : Option ℕ) (d : Command) → HoldsUntil t later until (reads_clock d) → SameMoment d t later
holds_clock t later until d (inl same) reads = same
holds_clock t later until d (inr h) reads = cc
