-- The soonest of the deadlines that lie ahead, of several keys and after a command.
use Rattle.std.proofs.Common.{ℕ, ◌≡◌, refl, sym, ap, ◌∙◌, Bool, true, false, cond, List, [], ◌∷◌, ◌++◌, arith}
use Rattle.std.proofs.lemmas.Bool.{ltb-true, ltb-false, lt-ltb, le-ltb}
use Rattle.std.specs.Prelude.{Option, Some, None, nat_lt, map, IsTrue, ◌&&◌, ◌||◌}
use Rattle.kv_base.specs.Map.{Bytes, same, same_itself}
use Rattle.redis_model.specs.declared.command.Command.{Command}
use Rattle.redis_model.specs.Value.{RedisMap, deadline_at}
use Rattle.redis_model.specs.Keys.{among}
use Rattle.redis_model.specs.About.{keys_of}
use Rattle.redis_model.specs.Apply.{apply}
use Rattle.lives_model.specs.Rows.{Rows}
use Rattle.lives_model.specs.Clean.{live_at}
use Rattle.lives_model.specs.Means.{Means}
use Rattle.lives_model.specs.Plans.{sooner, least, least_above, deadlines}
use Rattle.plan_base.specs.Seen.{deadline_in}
use Rattle.plan_base.specs.SeenLaws.{seen_deadline}
use Rattle.plan_base.specs.Ahead.{ahead, seen_deadlines}

-- ---- the lesser of two, of which each may be none

-- of one and none it is the one
pub least_none : (a : Option ℕ) → least a None ≡ a
least_none None = refl
least_none (Some a) = refl

-- of the same twice it is the same
pub least_itself : (a : Option ℕ) → least a a ≡ a
least_itself None = refl
least_itself (Some a) = by_test (nat_lt a a)
  where
    by_test : (b : Bool) → cond b (Some a) (Some a) ≡ Some a
    by_test true = refl
    by_test false = refl

-- the order of the two does not matter
pub least_turned : (a b : Option ℕ) → least a b ≡ least b a
least_turned None None = refl
least_turned None (Some b) = refl
least_turned (Some a) None = refl
least_turned (Some a) (Some b) = by_tests (nat_lt a b) (nat_lt b a) refl refl
  where
    by_tests : (p q : Bool) → nat_lt a b ≡ p → nat_lt b a ≡ q → cond p (Some a) (Some b) ≡ cond q (Some b) (Some a)
    by_tests true true ab ba = let low = ltb-true a b ab in let high = ltb-true b a ba in absurd (omega arith)
    by_tests true false ab ba = refl
    by_tests false true ab ba = refl
    by_tests false false ab ba = let low = ltb-false a b ab in let high = ltb-false b a ba in let is : b ≡ a = omega arith in ap (λ (n : ℕ). Some n) is

-- nor does it matter how three are grouped
pub least_grouped : (a b d : Option ℕ) → least (least a b) d ≡ least a (least b d)
least_grouped None b d = refl
least_grouped (Some a) None d = refl
least_grouped (Some a) (Some b) None = least_none (least (Some a) (Some b))
least_grouped (Some a) (Some b) (Some d) = by_tests (nat_lt a b) (nat_lt b d) refl refl
  where
    by_tests : (p q : Bool) → nat_lt a b ≡ p → nat_lt b d ≡ q → least (cond p (Some a) (Some b)) (Some d) ≡ least (Some a) (cond q (Some b) (Some d))
    by_tests true true ab bd =
        let low = ltb-true a b ab in let high = ltb-true b d bd in
        ap (λ t. cond t (Some a) (Some d)) (lt-ltb a d (omega arith)) ∙ sym (ap (λ t. cond t (Some a) (Some b)) ab)
    by_tests true false ab bd = refl
    by_tests false true ab bd = ap (λ t. cond t (Some b) (Some d)) bd ∙ sym (ap (λ t. cond t (Some a) (Some b)) ab)
    by_tests false false ab bd =
        let low = ltb-false a b ab in let high = ltb-false b d bd in
        ap (λ t. cond t (Some b) (Some d)) bd ∙ sym (ap (λ t. cond t (Some a) (Some d)) (le-ltb a d (omega arith)))

-- ---- the least above a moment

-- the sooner of two is the lesser one, where the first lies ahead
pub sooner_is : (t : ℕ) (d u : Option ℕ) → sooner t d u ≡ least (ahead t d) u
sooner_is t None u = refl
sooner_is t (Some d) None = by_test (nat_lt t d)
  where
    by_test : (b : Bool) → cond b (Some d) None ≡ least (cond b (Some d) None) None
    by_test true = refl
    by_test false = refl
sooner_is t (Some d) (Some u) = by_test (nat_lt t d) (nat_lt d u) refl
  where
    by_test : (a b : Bool) → nat_lt d u ≡ b → cond (a && b) (Some d) (Some u) ≡ least (cond a (Some d) None) (Some u)
    by_test true b e = ap (λ t. cond t (Some d) (Some u)) (sym e)
    by_test false b e = refl

-- of two lists together
pub least_above-append : (t : ℕ) (xs ys : List (Option ℕ)) → least_above t (xs ++ ys) ≡ least (least_above t xs) (least_above t ys)
least_above-append t [] ys = refl
least_above-append t (x ∷ xs) ys =
    ap (sooner t x) (least_above-append t xs ys)
    ∙ sooner_is t x (least (least_above t xs) (least_above t ys))
    ∙ sym (least_grouped (ahead t x) (least_above t xs) (least_above t ys))
    ∙ ap (λ u. least u (least_above t ys)) (sym (sooner_is t x (least_above t xs)))

-- of one deadline more at the end, as a loop over keys meets it
pub least_above-snoc : (t : ℕ) (xs : List (Option ℕ)) (d : Option ℕ) → least_above t (xs ++ d ∷ []) ≡ sooner t d (least_above t xs)
least_above-snoc t xs d =
    least_above-append t xs (d ∷ [])
    ∙ ap (least (least_above t xs)) (sooner_is t d None ∙ least_none (ahead t d))
    ∙ least_turned (least_above t xs) (ahead t d)
    ∙ sym (sooner_is t d (least_above t xs))

-- a list twice
pub least_above-twice : (t : ℕ) (xs : List (Option ℕ)) → least_above t (xs ++ xs) ≡ least_above t xs
least_above-twice t xs = least_above-append t xs xs ∙ least_itself (least_above t xs)

-- no deadlines at all
pub least_above-nones : (t : ℕ) (f : Bytes → Option ℕ) (ks : List Bytes) → ((k : Bytes) → IsTrue (among ks k) → f k ≡ None) → least_above t (map f ks) ≡ None
least_above-nones t f [] none = refl
least_above-nones t f (k ∷ ks) none =
    ap (λ d. sooner t d (least_above t (map f ks))) (none k (ap (λ b. b || among ks k) (same_itself k)))
    ∙ least_above-nones t f ks (λ q h. none q (or_second (same q k) (among ks q) h))
  where
    or_second : (a b : Bool) → b ≡ true → (a || b) ≡ true
    or_second true b e = refl
    or_second false b e = e

-- ---- the deadlines of a command's keys

-- the deadlines of keys are those in their metadata
pub seen_all : {c : Rows} {t : ℕ} {m : RedisMap} (means : Means c t m) (ks : List Bytes) → map (deadline_at m) ks ≡ seen_deadlines c t ks
seen_all {c} {t} {m} means [] = refl
seen_all {c} {t} {m} means (k ∷ ks) = let one = seen_deadline means k in let rest = seen_all means ks in λ i. one i ∷ rest i

-- a command that leaves the map looks ahead to the deadlines that it finds
pub ahead_still : {c : Rows} {t : ℕ} {m : RedisMap} (means : Means c t m) (d : Command) → (apply m t d).1 ≡ m
    → least_above t (seen_deadlines c t (keys_of d)) ≡ least_above t (deadlines m t d)
ahead_still {c} {t} {m} means d still =
    ap (least_above t) (sym (seen_all means (keys_of d)))
    ∙ sym (least_above-twice t (map (deadline_at m) (keys_of d)))
    ∙ ap (λ n. least_above t (map (deadline_at m) (keys_of d) ++ map (deadline_at n) (keys_of d))) (sym still)

-- and so does one that leaves no deadline at its keys
pub ahead_cleared : {c : Rows} {t : ℕ} {m : RedisMap} (means : Means c t m) (d : Command)
    → ((k : Bytes) → IsTrue (among (keys_of d) k) → deadline_at (apply m t d).1 k ≡ None)
    → least_above t (seen_deadlines c t (keys_of d)) ≡ least_above t (deadlines m t d)
ahead_cleared {c} {t} {m} means d none =
    ap (least_above t) (sym (seen_all means (keys_of d)))
    ∙ sym (least_none (least_above t (map (deadline_at m) (keys_of d))))
    ∙ ap (least (least_above t (map (deadline_at m) (keys_of d)))) (sym (least_above-nones t (deadline_at (apply m t d).1) (keys_of d) none))
    ∙ sym (least_above-append t (map (deadline_at m) (keys_of d)) (map (deadline_at (apply m t d).1) (keys_of d)))

-- a command with one key looks ahead to the deadline that it finds and the one that it leaves
pub ahead_one : {c : Rows} {t : ℕ} {m : RedisMap} (means : Means c t m) (d : Command) (k : Bytes) → keys_of d ≡ k ∷ []
    → least_above t (deadline_in (live_at c t k) ∷ deadline_at (apply m t d).1 k ∷ []) ≡ least_above t (deadlines m t d)
ahead_one {c} {t} {m} means d k one =
    ap (λ o. least_above t (o ∷ deadline_at (apply m t d).1 k ∷ [])) (sym (seen_deadline means k))
    ∙ ap (λ ks. least_above t (map (deadline_at m) ks ++ map (deadline_at (apply m t d).1) ks)) (sym one)
