-- One scoring more, as a loop over them meets it.
use Rattle.std.proofs.Common.{◌≡◌, ℕ, zero, suc, ◌+◌, ◌<◌, sym, ap, subst, ◌∙◌, cond, List, [], ◌∷◌, length, take, get_or, arith}
use Rattle.std.proofs.lemmas.List.Sums.{fold_more, sum_by_more}
use Rattle.kv_base.specs.Map.{Bytes, empty}
use Rattle.zset_plans.specs.declared.scoring.Scoring.{Scoring}
use Rattle.zset_plans.specs.Scorings.{is_coming, is_going, with_scoring, scored_rows}
use Rattle.zset_changes.specs.declared.rows.ScoringRows.{ScoringRows}
use Rattle.zset_changes.specs.ScoreTables.{CanStand, AllStand}
use Rattle.zset_changes.specs.ScoreRows.{TakesScoring, AreScored}

-- none so far
pub scored_none : (k : Bytes) (version : ℕ) (now : ScoringRows) → now.rows ≡ empty → now.added ≡ 0 → now.removed ≡ 0 → AreScored k version [] now
unfolding scored_rows
scored_none k version now rows added removed = record { rows = rows; added = added; removed = removed }

-- and then one more
pub scored_next : (k : Bytes) (version : ℕ) (ss : List Scoring) (i : ℕ) (s : Scoring) (old new : ScoringRows) → i < length ss → s ≡ get_or ss i s → AreScored k version (take i ss) old → TakesScoring k version s old new → AreScored k version (take (i + 1) ss) new
unfolding scored_rows
scored_next k version ss i s old new low is so_far one = record {
  rows = one.rows ∙ (λ j. with_scoring k version (so_far.rows j) (is j)) ∙ sym (fold_more (with_scoring k version) empty ss i s low);
  added = one.added ∙ (λ j. so_far.added j + cond (is_coming (is j)) 1 0) ∙ sym (sum_by_more (λ x. cond (is_coming x) 1 0) ss i s low);
  removed = one.removed ∙ (λ j. so_far.removed j + cond (is_going (is j)) 1 0) ∙ sym (sum_by_more (λ x. cond (is_going x) 1 0) ss i s low);
}

-- each of them can stand
stands_at : (ss : List Scoring) (i : ℕ) (d : Scoring) → i < length ss → AllStand ss → CanStand (get_or ss i d)
stands_at [] i d low all = absurd (omega (arith, low))
stands_at (s ∷ ss) zero d low all = all.0
stands_at (s ∷ ss) (suc i) d low all = stands_at ss i d (omega (arith, low)) all.1

pub stands_there : (ss : List Scoring) (i : ℕ) (s : Scoring) → i < length ss → s ≡ get_or ss i s → AllStand ss → CanStand s
stands_there ss i s low is all = subst CanStand (sym is) (stands_at ss i s low all)
