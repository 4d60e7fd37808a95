-- Laws on what stands in `Scorings.antt`, but for the rows: which score each member has afterwards, and how many there are.
use Rattle.std.proofs.Common.{ℕ, ◌≡◌, ◌+◌, ◌-◌, ◌<◌, zero, suc, refl, sym, ap, subst, ◌∙◌, Bool, true, false, cond, List, [], ◌∷◌, arith}
use Rattle.std.proofs.lemmas.Bool.Decides.{nat_tests}
use Rattle.std.proofs.lemmas.Int.{ints}
use Rattle.std.proofs.lemmas.List.Sums.{sum_by-cons}
use Rattle.std.specs.Prelude.{Option, Some, None, IfSome, IsTrue, IsFalse, is_some, not, ◌&&◌, ◌||◌, fold, count_by, ℤ}
use Rattle.std.specs.Ordering.{int_eq}
use Rattle.kv_base.specs.Map.{Bytes, Map, same, same_is, same_itself, get, has, insert, remove, size, get-empty, get-insert, get-remove, size-insert, size-remove}
use Rattle.redis_model.specs.Limits.{IsWholeScore}
use Rattle.redis_model.specs.Value.{ZSet}
use Rattle.redis_model.specs.Keys.{among}
use Rattle.lives_model.specs.Means.{HasWholeScores}
use Rattle.lives_model.specs.OwnKeyLaws.{no_size}
use Rattle.zset_plans.specs.declared.scoring.Scoring.{Scoring}
use Rattle.zset_plans.specs.Scorings.{scored_as, rescored, all_rescored, IsScoring, scored_members, AreScorings, is_coming, is_going, coming, going, same_score}

-- ---- scores

-- the test tells whether two scores are one
pub same_score_is : (a b : Option ℤ) → same_score a b ≡ true → a ≡ b
same_score_is None None h = refl
same_score_is None (Some b) h = absurd (cc)
same_score_is (Some a) None h = absurd (cc)
same_score_is (Some a) (Some b) h = ap (λ (s : ℤ). Some s) (grind (arith, nat_tests, ints))

pub same_score_itself : (a : Option ℤ) → same_score a a ≡ true
same_score_itself None = refl
same_score_itself (Some a) = grind (arith, nat_tests, ints)

-- ---- what a member has afterwards

pub get-scored : (z : Map ℤ) (x : Bytes) (o : Option ℤ) (q : Bytes) → get (scored_as z x o) q ≡ cond (same q x) o (get z q)
get-scored z x None q = get-remove z x q
get-scored z x (Some score) q = get-insert z x score q

-- scores stay whole numbers
pub whole_after : (z : Map ℤ) (x : Bytes) (o : Option ℤ) → HasWholeScores (ZSet z) → IfSome o IsWholeScore → HasWholeScores (ZSet (scored_as z x o))
whole_after z x o whole is q = subst (λ (s : Option ℤ). IfSome s IsWholeScore) (sym (get-scored z x o q)) (by_test (same q x))
  where
    by_test : (b : Bool) → IfSome (cond b o (get z q)) IsWholeScore
    by_test true = is
    by_test false = whole q

-- ---- members that are not scored yet

-- each of these members has the score that it had
abbrev pub AreUnscored : Map ℤ → Map ℤ → List Scoring → Type 0
AreUnscored z now [] = Unit {0}
AreUnscored z now (s ∷ ss) = (get now s.member ≡ get z s.member) × AreUnscored z now ss

pub all_unscored : (z : Map ℤ) (ss : List Scoring) → AreUnscored z z ss
all_unscored z [] = tt
all_unscored z (s ∷ ss) = (refl, all_unscored z ss)

-- the first of some members is not this one, nor are the others
not_among : (x y : Bytes) (ys : List Bytes) → among (y ∷ ys) x ≡ false → (same y x ≡ false) × (among ys x ≡ false)
not_among x y ys h = by_tests (same x y) (among ys x) refl refl h
  where
    apart : (b : Bool) → same y x ≡ b → same x y ≡ false → b ≡ false
    apart false is other = refl
    apart true is other =
        let yes : same x y ≡ true = subst (λ (q : Bytes). same x q ≡ true) (sym (same_is y x is)) (same_itself x) in
        absurd (cc)

    by_tests : (a b : Bool) → same x y ≡ a → among ys x ≡ b → (a || b) ≡ false → (same y x ≡ false) × (among ys x ≡ false)
    by_tests false false ea eb neither = (apart (same y x) refl ea, eb)
    by_tests true b ea eb neither = absurd (cc)
    by_tests false true ea eb neither = absurd (cc)

-- one member that is scored leaves the others
pub left_by_one : (z now : Map ℤ) (x : Bytes) (o : Option ℤ) (ss : List Scoring) → among (scored_members ss) x ≡ false → AreUnscored z now ss → AreUnscored z (scored_as now x o) ss
left_by_one z now x o [] apart left = tt
left_by_one z now x o (s ∷ ss) apart left =
    let tests = not_among x s.member (scored_members ss) apart in
    (get-scored now x o s.member ∙ ap (λ b. cond b o (get now s.member)) tests.0 ∙ left.0, left_by_one z now x o ss tests.1 left.1)

-- ---- how many members there are afterwards

-- a sorted set with a member has some
some_there : (z : Map ℤ) (x : Bytes) (score : ℤ) → get z x ≡ Some score → 0 < size z
some_there z x score there = by_size (size z) refl
  where
    by_size : (n : ℕ) → size z ≡ n → 0 < n
    by_size zero is =
        let none : get z x ≡ None = ap (λ (m : Map ℤ). get m x) ((no_size z).0 is) ∙ get-empty x in
        absurd (cc)
    by_size (suc n) is = omega arith

one_score : (z : Map ℤ) (x : Bytes) (before after : Option ℤ) → get z x ≡ before
    → size (scored_as z x after) + cond (not (is_some after) && is_some before) 1 0 ≡ size z + cond (is_some after && not (is_some before)) 1 0
one_score z x None None is =
    let here : size (remove z x) ≡ size z = size-remove z x ∙ ap (λ o. cond (is_some o) (size z - 1) (size z)) is in
    omega (arith, here)
one_score z x (Some b) None is =
    let here : size (remove z x) ≡ size z - 1 = size-remove z x ∙ ap (λ o. cond (is_some o) (size z - 1) (size z)) is in
    let some = some_there z x b is in
    omega (arith, here, some)
one_score z x None (Some a) is =
    let here : size (insert z x a) ≡ size z + 1 = size-insert z x a ∙ ap (λ o. cond (is_some o) (size z) (size z + 1)) is in
    omega (arith, here)
one_score z x (Some b) (Some a) is =
    let here : size (insert z x a) ≡ size z = size-insert z x a ∙ ap (λ o. cond (is_some o) (size z) (size z + 1)) is in
    omega (arith, here)

count-cons : (p : Scoring → Bool) (s : Scoring) (ss : List Scoring) → count_by p (s ∷ ss) ≡ cond (p s) 1 0 + count_by p ss
count-cons p s ss = sum_by-cons (λ x. cond (p x) 1 0) s ss

-- the members that were there and those that come are those that are there and those that go
pub size_rescored : (z now : Map ℤ) (ss : List Scoring) → AreScorings z ss → AreUnscored z now ss → size (all_rescored now ss) + going ss ≡ size now + coming ss
size_rescored z now [] all left = refl
size_rescored z now (s ∷ ss) all left =
    let here = one_score now s.member s.before s.after (left.0 ∙ sym all.0.before) in
    let rest = size_rescored z (rescored now s) ss all.2 (left_by_one z now s.member s.after ss all.1 left.1) in
    let come = count-cons is_coming s ss in
    let go = count-cons is_going s ss in
    omega (arith, here, rest, come, go)
