-- One member more that goes, as a loop over them meets it.
use Rattle.std.proofs.Common.{◌≡◌, ℕ, ◌+◌, ◌<◌, sym, ap, subst, ◌∙◌, List, [], ◌∷◌, ◌++◌, length, map, take, get_or}
use Rattle.std.proofs.lemmas.List.{map-append, take_more}
use Rattle.zset_pages.specs.declared.ranks.Ranked.{Ranked}
use Rattle.zset_pages.specs.Ranks.{scored_of}
use Rattle.zset_plans.specs.declared.scoring.Scoring.{Scoring}
use Rattle.zset_changes.specs.ScoreTables.{AllStand, CanStand}
use Rattle.zset_cmds.specs.Taken.{scored_leaving}

pub leaving_next : (ranks : List Ranked) (i : ℕ) (rank : Ranked) (s : Scoring) (old new : List Scoring) → i < length ranks → rank ≡ get_or ranks i rank
    → old ≡ map scored_leaving (map scored_of (take i ranks)) → s ≡ scored_leaving (scored_of rank) → new ≡ old ++ s ∷ [] → new ≡ map scored_leaving (map scored_of (take (i + 1) ranks))
leaving_next ranks i rank s old new low is so_far one more =
    more ∙ (λ j. so_far j ++ one j ∷ [])
    ∙ sym (ap (map scored_leaving)
    (ap (map scored_of) (take_more ranks i rank low ∙ ap (λ (r : Ranked). take i ranks ++ r ∷ []) (sym is)) ∙ map-append scored_of (take i ranks) (rank ∷ []))
    ∙ map-append scored_leaving (map scored_of (take i ranks)) (scored_of rank ∷ []))

stand_last : (ss : List Scoring) (s : Scoring) → AllStand ss → CanStand s → AllStand (ss ++ s ∷ [])
stand_last [] s all one = (one, tt)
stand_last (t ∷ ss) s all one = (all.0, stand_last ss s all.1 one)

pub stand_next : (s : Scoring) (old new : List Scoring) → AllStand old → CanStand s → new ≡ old ++ s ∷ [] → AllStand new
stand_next s old new all one more = subst AllStand (sym more) (stand_last old s all one)
