-- What each command makes of the scores of members is what it comes to.
use Rattle.std.proofs.Common.{◌≡◌, ℕ, ◌+◌, ◌-◌, refl, sym, ap, subst, ◌∙◌, Bool, true, false, cond, List, [], ◌∷◌, arith}
use Rattle.std.proofs.lemmas.Bool.Decides.{nat_tests}
use Rattle.std.proofs.lemmas.Int.{ints}
use Rattle.std.specs.Prelude.{Option, Some, None, Ok, Err, Result, IfOk, IfSome, is_some, not, zip, ℤ, pos}
use Rattle.kv_base.specs.Map.{Bytes, Map, insert, size}
use Rattle.kv_base.specs.MetaValues.{is_score}
use Rattle.kv_base.specs.declared.memory.NoMem.{NoMem}
use Rattle.redis_model.specs.declared.command.When.{When}
use Rattle.redis_model.specs.declared.command.ZAddHow.{ZAddHow}
use Rattle.redis_model.specs.declared.reply.Reply.{Reply}
use Rattle.redis_model.specs.declared.reply.Reply.TheVariants as reply
use Rattle.redis_model.specs.declared.reply.ReplyError.TheVariants.{ScoreRange}
use Rattle.redis_model.specs.Limits.{IsName, IsWholeScore}
use Rattle.redis_model.specs.Outcome.{Outcome, number, score_bulk}
use Rattle.redis_model.specs.Strings.{allowed}
use Rattle.redis_model.specs.SortedSets.{Scored, ZaddTally, all_set, counted, score_after, score_raised, all_raised, set_scores, without}
use Rattle.lives_model.specs.declared.plan.Plan.{Plan}
use Rattle.lives_model.specs.Rows.{Rows}
use Rattle.lives_model.specs.AskedKeyLaws.{name_is_key}
use Rattle.plan_base.specs.declared.life.LifeSight.{LifeSight}
use Rattle.plan_base.specs.LifeLaws.{sorted_set_stands, size_there}
use Rattle.plan_base.specs.LifePlans.{answering}
use Rattle.life_changes.specs.declared.plan.LifeFound.{LifeFound}
use Rattle.zset_plans.specs.declared.scoring.Scoring.{Scoring}
use Rattle.zset_plans.specs.Scorings.{all_rescored, AreScorings}
use Rattle.zset_plans.specs.ScorePlans.{FindsScores, scoring_plan, ScoresPlanned, IsScoresPlan}
use Rattle.zset_plans.specs.ScorePlanLaws.{size_is}
use Rattle.zset_changes.specs.declared.add.ScoresAdded.{ScoresAdded}
use Rattle.zset_changes.specs.SeenScores.{member_score, TellsScores}
use Rattle.zset_changes.specs.SeenScoreLaws.{tells_scores}
use Rattle.zset_changes.specs.ScoreTables.{SetsScores, Removes, rest_of}
use Rattle.zset_changes.specs.Founds.{gone_number}
use Rattle.zset_cmds.specs.Planned.{PlansFound, RaisesScore}

abbrev ok : Reply × Map ℤ → Outcome (Reply × Map ℤ)
ok r = Ok r

-- ---- ZADD

-- without INCR
pub adds_all : (rows now : Option Rows) (k : Bytes) (found : LifeFound) (w : When) (pairs : List Scored) (changed : Bool) (set : ScoresAdded) (count : ℤ) (plan : Plan) → now ≡ rows
    → IfSome now (λ c. (z : Map ℤ) → TellsScores c k found.life z → SetsScores w z pairs set)
    → count ≡ pos (cond changed (set.added + set.changed) set.added)
    → plan ≡ scoring_plan found.moment k found.old found.fresh found.life set.scorings.items (reply.Int count)
    → IfSome rows (λ c. PlansFound c k found (λ z. let n = all_set w z pairs in Ok (number (counted changed n), n.scores)) plan)
adds_all None now k found w pairs changed set count plan same sets counts is = tt
adds_all (Some c) now k found w pairs changed set count plan same sets counts is = λ z there.
    let here : (z : Map ℤ) → TellsScores c k found.life z → SetsScores w z pairs set = subst (λ (o : Option Rows). IfSome o (λ c. (z : Map ℤ) → TellsScores c k found.life z → SetsScores w z pairs set)) same sets in
    let s = here z (tells_scores c k found.fresh found.life z there) in
    record {
      scorings = set.scorings.items;
      are = s.are;
      leave = s.leave;
      is = is ∙ ap (λ (n : ℤ). scoring_plan found.moment k found.old found.fresh found.life set.scorings.items (reply.Int n)) (counts ∙ ap pos ((λ i. cond changed (s.added i + s.changed i) (s.added i)) ∙ counted_is changed (all_set w z pairs)));
    }
  where
    counted_is : (b : Bool) (n : ZaddTally) → cond b (n.added + n.changed) n.added ≡ counted b n
    counted_is true n = refl
    counted_is false n = refl

-- what ZADD comes to, by its options
pub without_incr : (ss : List ℤ) (xs : List Bytes) (how : ZAddHow) (z : Map ℤ) → how.incr ≡ false
    → (let n = all_set how.when z (zip xs ss) in ok (number (counted how.changed n), n.scores)) ≡ set_scores ss xs how z
without_incr ss xs how z is =
    sym (ap (λ b. cond b (all_raised how.when z (zip xs ss)) (Ok (number (counted how.changed (all_set how.when z (zip xs ss))), (all_set how.when z (zip xs ss)).scores))) is)

pub with_incr : (ss : List ℤ) (xs : List Bytes) (how : ZAddHow) (z : Map ℤ) → how.incr ≡ true → all_raised how.when z (zip xs ss) ≡ set_scores ss xs how z
with_incr ss xs how z is =
    sym (ap (λ b. cond b (all_raised how.when z (zip xs ss)) (Ok (number (counted how.changed (all_set how.when z (zip xs ss))), (all_set how.when z (zip xs ss)).scores))) is)

-- where no score is set the sorted set stays
pub scores_stay : (t : ℕ) (k : Bytes) (old : Option ℕ) (fresh : ℕ) (found : Option LifeSight) (z : Map ℤ) (answer : Reply) (plan : Plan) → plan ≡ scoring_plan t k old fresh found [] answer → ScoresPlanned t k old fresh found z (answer, z) plan
scores_stay t k old fresh found z answer plan is = record { scorings = []; are = tt; leave = refl; is = is }

-- a score that goes up
module _ (k : Bytes) (found : LifeFound) (w : When) (x : Bytes) (s : ℤ) (before : Option ℤ) (plan : Plan) where
  abbrev planned : Map ℤ → Outcome (Reply × Map ℤ) → Type 0
  planned z o = IsScoresPlan found.moment k found.old found.fresh found.life z o plan

  pub raises_not : allowed w (is_some before) ≡ false → plan ≡ scoring_plan found.moment k found.old found.fresh found.life [] reply.Null → RaisesScore k found w x s before plan
  raises_not barred is z there =
      subst (planned z)
      (sym (ap (λ (o : Option ℤ). cond (not (allowed w (is_some o))) (Ok (reply.Null, z)) (cond (is_score (score_after o s)) (Ok (score_bulk (score_after o s), insert z x (score_after o s))) (Err ScoreRange))) there
      ∙ ap (λ b. cond (not b) (Ok (reply.Null, z)) (cond (is_score (score_after before s)) (Ok (score_bulk (score_after before s), insert z x (score_after before s))) (Err ScoreRange))) barred))
      (scores_stay found.moment k found.old found.fresh found.life z reply.Null plan is)

  pub raises_too_far : allowed w (is_some before) ≡ true → is_score (score_after before s) ≡ false → plan ≡ answering found.moment found.old (reply.Error ScoreRange) → RaisesScore k found w x s before plan
  raises_too_far may far is z there =
      subst (planned z)
      (sym (ap (λ (o : Option ℤ). cond (not (allowed w (is_some o))) (Ok (reply.Null, z)) (cond (is_score (score_after o s)) (Ok (score_bulk (score_after o s), insert z x (score_after o s))) (Err ScoreRange))) there
      ∙ (λ i. cond (not (may i)) (Ok (reply.Null, z)) (cond (far i) (Ok (score_bulk (score_after before s), insert z x (score_after before s))) (Err ScoreRange)))))
      is

  pub raises : allowed w (is_some before) ≡ true → is_score (score_after before s) ≡ true → IsWholeScore (score_after before s) → IsName x
      → plan ≡ scoring_plan found.moment k found.old found.fresh found.life (record { member = x; before = before; after = Some (score_after before s) } ∷ []) (score_bulk (score_after before s)) → RaisesScore k found w x s before plan
  raises may near whole name is z there =
      subst (planned z)
      (sym (ap (λ (o : Option ℤ). cond (not (allowed w (is_some o))) (Ok (reply.Null, z)) (cond (is_score (score_after o s)) (Ok (score_bulk (score_after o s), insert z x (score_after o s))) (Err ScoreRange))) there
      ∙ (λ i. cond (not (may i)) (Ok (reply.Null, z)) (cond (near i) (Ok (score_bulk (score_after before s), insert z x (score_after before s))) (Err ScoreRange)))))
      (record {
        scorings = record { member = x; before = before; after = Some (score_after before s) } ∷ [];
        are = (record { before = sym there; key = name_is_key x name; whole = whole }, refl, tt);
        leave = refl;
        is = is;
      })

-- the plan that sets it, where it is a score
pub raises_then : (k : Bytes) (found : LifeFound) (w : When) (x : Bytes) (s : ℤ) (before : Option ℤ) (after : ℤ) (ss : List Scoring) (answer : Reply) (r : Result Plan NoMem)
    → allowed w (is_some before) ≡ true → after ≡ score_after before s → is_score after ≡ true → IsName x
    → ss ≡ record { member = x; before = before; after = Some after } ∷ [] → answer ≡ score_bulk after
    → IfOk r (λ plan. plan ≡ scoring_plan found.moment k found.old found.fresh found.life ss answer) → IfOk r (λ plan. RaisesScore k found w x s before plan)
raises_then k found w x s before after ss answer (Err e) may up near name are told is = tt
raises_then k found w x s before after ss answer (Ok plan) may up near name are told is =
    let here : is_score (score_after before s) ≡ true = ap is_score (sym up) ∙ near in
    raises k found w x s before plan may here (in_range (score_after before s) here) name
    (is ∙ (λ i. scoring_plan found.moment k found.old found.fresh found.life ((are ∙ ap (λ (n : ℤ). record { member = x; before = before; after = Some n } ∷ []) up) i) ((told ∙ ap score_bulk up) i)))
  where
    in_range : (n : ℤ) → is_score n ≡ true → IsWholeScore n
    in_range n h = grind (arith, nat_tests, ints, h)

-- by the score in the life that is found
pub raises_found : (rows now : Option Rows) (k : Bytes) (found : LifeFound) (w : When) (x : Bytes) (s : ℤ) (before : Option ℤ) (plan : Plan) → now ≡ rows
    → IfSome rows (λ c. before ≡ member_score c k found.life x) → RaisesScore k found w x s before plan → IfSome rows (λ c. PlansFound c k found (λ z. score_raised w z (x, s)) plan)
raises_found None now k found w x s before plan same is up = tt
raises_found (Some c) now k found w x s before plan same is up = λ z there. up z (sym (is ∙ (tells_scores c k found.fresh found.life z there).told x))

-- ---- ZREM

-- how many members go
pub gone_is : (c : Rows) (k : Bytes) (fresh : ℕ) (found : Option LifeSight) (z rest : Map ℤ) (ss : List Scoring) → FindsScores c k fresh found z → AreScorings z ss → all_rescored z ss ≡ rest → gone_number found ss ≡ number (size z - size rest)
gone_is c k fresh found z rest ss finds are leave =
    (λ i. number (size_there sorted_set_stands c k found z finds.life i - (sym (size_is c k fresh found z ss finds are) ∙ ap size leave) i))

pub removes_all : (rows now : Option Rows) (k : Bytes) (found : LifeFound) (xs : List Bytes) (ss : List Scoring) (plan : Plan) → now ≡ rows
    → IfSome rows (λ c. (z : Map ℤ) → TellsScores c k found.life z → Removes z xs ss)
    → plan ≡ scoring_plan found.moment k found.old found.fresh found.life ss (gone_number found.life ss)
    → IfSome rows (λ c. PlansFound c k found (λ z. without z xs) plan)
removes_all None now k found xs ss plan same removes is = tt
removes_all (Some c) now k found xs ss plan same removes is = λ z there.
    let r = removes z (tells_scores c k found.fresh found.life z there) in
    record {
      scorings = ss;
      are = r.are;
      leave = r.leave;
      is = is ∙ ap (scoring_plan found.moment k found.old found.fresh found.life ss) (gone_is c k found.fresh found.life z (rest_of z xs) ss there r.are r.leave);
    }
