-- What a turn adds to what a pass had seen.
use Rattle.std.proofs.Common.{◌≡◌, ℕ, List, ◌++◌, sym, ap, ◌∙◌, subst}
use mathlib.Core.List.{IsPrefix}
use Rattle.redis_model.specs.declared.history.Place.{Place}
use Rattle.redis_model.specs.Desk.{mine}
use Rattle.redis_model.specs.Legal.{jobs_of}
use Rattle.redis_model.specs.Places.{steps_of}
use Rattle.turn_hall.specs.Passes.{PassOf}
use Rattle.turn_hall.specs.Places.{SameOwn}
use Rattle.turn_hall.specs.PlacesLaws.{more_calls, more_jobs}
use Rattle.turn_hall.proofs.Logs.{prefix_more}

pub turn_adds : (n free : ℕ) (p : PassOf Place) (seen before after es : List Place) → p ≡ record { number = n; free = free; seen = after } → after ≡ before ++ es → IsPrefix seen before → SameOwn n before seen
    → IsPrefix seen p.seen × (mine n p.seen ≡ mine n seen ++ mine n es) × (jobs_of n (steps_of p.seen) ≡ jobs_of n (steps_of seen) ++ jobs_of n (steps_of es))
turn_adds n free p seen before after es is grown begins own =
    let whole : p.seen ≡ before ++ es = ap (λ (q : PassOf Place). q.seen) is ∙ grown in (
      subst (IsPrefix seen) (sym whole) (prefix_more seen before es begins),
      ap (mine n) whole ∙ more_calls n seen before es own,
      ap (λ (l : List Place). jobs_of n (steps_of l)) whole ∙ more_jobs n seen before es own,
    )
