-- Laws on what stands in `Walk.antt`.
use Rattle.std.proofs.Common.{◌≡◌, ℕ, ◌+◌, List, [], ◌∷◌, ◌++◌, drop, refl, sym, ◌∙◌, ap}
use Rattle.gated_log.specs.Gated.{records, gated, EndsAt}
use Rattle.gated_log.specs.RecordLaws.{end_none, end_more, gated-push}
use Rattle.gated_log.specs.Walk.{IsPassed, StandsAt}

pub walk_begins : (file : List ℕ) → IsPassed 0 [] file
unfolding gated
walk_begins file = record { at = end_none; is = refl }

pub walk_goes_on : (place next : ℕ) (bodies : List (List ℕ)) (body file : List ℕ) → IsPassed place bodies file → StandsAt place next body file → IsPassed next (bodies ++ body ∷ []) file
walk_goes_on place next bodies body file passed stands =
    let more = end_more place bodies body passed.at stands.fits in
    record {
      at = record { fits = more.fits; place = stands.next_is ∙ more.place };
      is = passed.is ∙ ap (λ (l : List ℕ). gated bodies ++ l) stands.is ∙ sym (gated-push bodies body (drop next file));
    }

pub walk_ends : (place : ℕ) (bodies : List (List ℕ)) (file : List ℕ) → IsPassed place bodies file → records (drop place file) ≡ [] → EndsAt place bodies file
walk_ends place bodies file passed none = record { at = passed.at; tail = drop place file; none = none; is = passed.is }
