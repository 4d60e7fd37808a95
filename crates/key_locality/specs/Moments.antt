-- What is there at a moment, and at a later one.
use Rattle.std.proofs.Common.{◌≡◌, ℕ, ◌<◌, ◌≤◌, Bool, true, false, cond, ◌||◌, List, [], ◌∷◌, ◌++◌, refl, sym, subst, ap, ◌∙◌, arith}
use Rattle.std.proofs.lemmas.Bool.Decides.{nat_tests}
use Rattle.std.proofs.lemmas.List.Elements.{All-nil, All-cons, All-head, All-tail}
use Rattle.std.specs.Prelude.{map, nat_lt, Option, Some, None, All, option_and_then}
use Rattle.kv_base.specs.Map.{Bytes, same, get, kept, get-keep, same_is, same_map}
use Rattle.redis_model.specs.Value.{Entry, RedisMap, lives, alive, deadline_at}
use Rattle.redis_model.specs.Keys.{among}
use Rattle.key_locality.specs.Agree.{AgreeOn}
use Rattle.key_locality.specs.Between.{IsNotBetween, NoneBetween}

-- ---- one deadline, and one entry

-- what has expired stays so
gone_later : (t u : ℕ) (deadline : Option ℕ) → t ≤ u → lives t deadline ≡ false → lives u deadline ≡ false
gone_later t u None le gone = gone
gone_later t u (Some d) le gone = grind (arith, nat_tests)

-- a deadline is ahead at both moments or at neither
still_there : (t u d : ℕ) (b : Bool) → t ≤ u → (t < d → u < d) → nat_lt t d ≡ b → nat_lt u d ≡ b
still_there t u d true le ahead is =
    let there : t < d = grind (arith, nat_tests) in
    let later : u < d = ahead there in
    grind (arith, nat_tests)
still_there t u d false le ahead is = grind (arith, nat_tests)

-- a deadline that does not lie in between counts the same at both moments
lives_later : (t u : ℕ) (deadline : Option ℕ) → t ≤ u → IsNotBetween t u deadline → lives t deadline ≡ lives u deadline
lives_later t u None le ahead = refl
lives_later t u (Some d) le ahead = sym (still_there t u d (nat_lt t d) le ahead refl)

-- an entry, if it has not expired
abbrev pub standing : ℕ → Option Entry → Option Entry
standing t = kept (λ e. lives t e.deadline)

abbrev pub entry_deadline : Option Entry → Option ℕ
entry_deadline = option_and_then (λ e. e.deadline)

-- an entry whose deadline does not lie in between
pub standing_later : (t u : ℕ) (o : Option Entry) → t ≤ u → IsNotBetween t u (entry_deadline o) → standing t o ≡ standing u o
standing_later t u None le ahead = refl
standing_later t u (Some e) le ahead = ap (λ (b : Bool). cond b (Some e) None) (lives_later t u e.deadline le ahead)

-- what is looked at twice is what the later look finds
pub standing_twice : (t u : ℕ) (o : Option Entry) → t ≤ u → standing u (standing t o) ≡ standing u o
standing_twice t u None le = refl
standing_twice t u (Some e) le =
    elim (lives t e.deadline) as (λ b. lives t e.deadline ≡ b → standing u (cond b (Some e) None) ≡ standing u (Some e)) [
      | true ↦ λ there. refl
      | false ↦ λ gone. ap (λ (b : Bool). cond b (Some e) None) (sym (gone_later t u e.deadline le gone))
    ] refl

-- ---- a map

-- what is at a key of what has not expired
pub get-alive-standing : (m : RedisMap) (t : ℕ) (k : Bytes) → get (alive m t) k ≡ standing t (get m k)
unfolding alive
get-alive-standing m t k = get-keep (λ _ e. lives t e.deadline) m k

-- what has not expired at a moment is there at a later one if it has not expired then
pub alive-later : (m : RedisMap) (t u : ℕ) → t ≤ u → alive (alive m t) u ≡ alive m u
alive-later m t u le =
    same_map _ _ (λ k. get-alive-standing (alive m t) u k ∙ ap (standing u) (get-alive-standing m t k) ∙ standing_twice t u (get m k) le ∙ sym (get-alive-standing m u k))

-- and at the same moment nothing changes
pub alive-twice : (m : RedisMap) (t : ℕ) → alive (alive m t) t ≡ alive m t
alive-twice m t = alive-later m t t (omega arith)

-- maps that agree on some keys agree on them at a moment, too
pub agree_alive : (ks : List Bytes) (m n : RedisMap) (t : ℕ) → AgreeOn ks m n → AgreeOn ks (alive m t) (alive n t)
agree_alive ks m n t agree k h = get-alive-standing m t k ∙ ap (standing t) (agree k h) ∙ sym (get-alive-standing n t k)

-- ---- deadlines that do not lie in between

-- what holds of each deadline of two lists holds of each in one
pub all_front : (P : Option ℕ → Type 0) (xs ys : List (Option ℕ)) → All P (xs ++ ys) → All P xs
all_front P [] ys h = All-nil P
all_front P (x ∷ xs) ys h = All-cons P x xs (All-head P x (xs ++ ys) h) (all_front P xs ys (All-tail P x (xs ++ ys) h))

pub all_behind : (P : Option ℕ → Type 0) (xs ys : List (Option ℕ)) → All P (xs ++ ys) → All P ys
all_behind P [] ys h = h
all_behind P (x ∷ xs) ys h = all_behind P xs ys (All-tail P x (xs ++ ys) h)

-- where `||` holds, one of its sides does
one_holds : (a b : Bool) (A : Type 0) → (a || b) ≡ true → (a ≡ true → A) → (b ≡ true → A) → A
one_holds true b A h first second = first refl
one_holds false b A h first second = second h

-- the deadline of each of these keys
pub none_between_at : (t u : ℕ) (m : RedisMap) (ks : List Bytes) → NoneBetween t u (map (deadline_at m) ks) → (k : Bytes) → among ks k ≡ true → IsNotBetween t u (deadline_at m k)
none_between_at t u m [] none k h = cc
none_between_at t u m (q ∷ ks) none k h =
    one_holds (same k q) (among ks k) (IsNotBetween t u (deadline_at m k)) h
    (λ is. subst (λ (x : Bytes). IsNotBetween t u (deadline_at m x)) (sym (same_is k q is)) (All-head (IsNotBetween t u) (deadline_at m q) (map (deadline_at m) ks) none))
    (λ later. none_between_at t u m ks (All-tail (IsNotBetween t u) (deadline_at m q) (map (deadline_at m) ks) none) k later)

-- nothing lies above a moment and at most the same
pub none_between_itself : (t : ℕ) (deadlines : List (Option ℕ)) → NoneBetween t t deadlines
none_between_itself t [] = All-nil (IsNotBetween t t)
none_between_itself t (None ∷ ds) = All-cons (IsNotBetween t t) None ds tt (none_between_itself t ds)
none_between_itself t (Some d ∷ ds) = All-cons (IsNotBetween t t) (Some d) ds (λ h. h) (none_between_itself t ds)

-- what has not expired at t has not expired at u either, at keys whose deadlines do not lie in between
pub agree_later_moment : (ks : List Bytes) (m : RedisMap) (t u : ℕ) → t ≤ u → NoneBetween t u (map (deadline_at (alive m t)) ks) → AgreeOn ks (alive m t) (alive m u)
agree_later_moment ks m t u le none k h =
    get-alive-standing m t k ∙ sym (standing_twice t t (get m k) (omega arith)) ∙ ap (standing t) (sym (get-alive-standing m t k))
    ∙ standing_later t u (get (alive m t) k) le (none_between_at t u (alive m t) ks none k h)
    ∙ sym (get-alive-standing (alive m t) u k) ∙ ap (λ (n : RedisMap). get n k) (alive-later m t u le)
