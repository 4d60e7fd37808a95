-- The members of a sorted set by rank have their scores, and each of them stands there once; so do some of them. What is left
-- where members go.
use Rattle.std.proofs.Common.{◌≡◌, ℕ, zero, suc, refl, sym, ap, ◌∙◌, Bool, true, false, cond, List, [], ◌∷◌, map, take, drop, reverse}
use Rattle.std.proofs.lemmas.List.{map-append, reverse-append}
use Rattle.std.proofs.lemmas.List.Folds.{list_any-append}
use Rattle.std.specs.Prelude.{Option, Some, None, T, is_some, not, ◌||◌, filter, ℤ}
use Rattle.std.specs.Ordering.{is_lt}
use Rattle.std.specs.Cmp.{eq_by_cmp_equiv}
use Rattle.std.specs.Cmp.Lexicographic.{nat_list_cmp_total}
use Rattle.std.specs.FinMap.Entries.{find, is_sorted, below_all}
use Rattle.kv_base.specs.Map.{Bytes, Map, byte_cmp, same, same_is, same_itself, get, has, remove, keep, kept, get-remove, get-keep, same_map}
use Rattle.kv_base.specs.InversionLaws.{same_some}
use Rattle.kv_base.specs.TestLaws.{first, second}
use Rattle.redis_model.specs.Keys.{among}
use Rattle.redis_model.specs.SortedSets.{Scored, rank_cmp, in_place, ascending, ranked}
use Rattle.lives_model.specs.PassingLaws.{find_at}
use Rattle.lives_model.specs.AskedKeyLaws.{name_is_key}
use Rattle.zset_plans.specs.Scorings.{all_rescored, scored_members, AreScorings}
use Rattle.zset_changes.specs.ScoreTables.{AllStand, rest_of}
use Rattle.zset_cmds.specs.Taken.{member_names, AreMembers, scored_leaving}

-- ---- all members

neither : (a b : Bool) → (a || b) ≡ false → (a ≡ false) × (b ≡ false)
neither false b h = (refl, h)
neither true b h = absurd (cc)

-- a name that is found is among the names
named_found : (q : Bytes) (es : List Scored) → among (member_names es) q ≡ is_some (find byte_cmp q es)
named_found q [] = refl
named_found q (e ∷ es) = by_test (same q e.0) (named_found q es)
  where
    by_test : (b : Bool) → among (member_names es) q ≡ is_some (find byte_cmp q es) → (b || among (member_names es) q) ≡ is_some (cond b (Some e.1) (find byte_cmp q es))
    by_test true rest = refl
    by_test false rest = rest

-- pairs in order, each of which is found in a sorted set
members_found : (z : Map ℤ) (es : List Scored) → T (is_sorted byte_cmp es) → ((q : Bytes) (s : ℤ) → find byte_cmp q es ≡ Some s → get z q ≡ Some s) → AreMembers z es
members_found z [] sorted found = tt
members_found z (e ∷ es) sorted found = (
  found e.0 e.1 (ap (λ b. cond b (Some e.1) (find byte_cmp e.0 es)) (same_itself e.0)),
  named_found e.0 es ∙ ap is_some none,
  members_found z es (second (below_all byte_cmp e.0 es) (is_sorted byte_cmp es) sorted) (λ q s is. found q s (by_test q s (same q e.0) refl is)),
)
  where
    none : find byte_cmp e.0 es ≡ None
    none = find_at e.0 es (first (below_all byte_cmp e.0 es) (is_sorted byte_cmp es) sorted)

    by_test : (q : Bytes) (s : ℤ) (b : Bool) → same q e.0 ≡ b → find byte_cmp q es ≡ Some s → cond b (Some e.1) (find byte_cmp q es) ≡ Some s
    by_test q s true here is =
        let gone : find byte_cmp q es ≡ None = ap (λ (x : Bytes). find byte_cmp x es) (same_is q e.0 here) ∙ none in
        absurd (cc)
    by_test q s false other is = is

-- a member that is put in its place
named-place : (e : Scored) (es : List Scored) (q : Bytes) → among (member_names (in_place e es)) q ≡ (same q e.0 || among (member_names es) q)
named-place e [] q = refl
named-place e (f ∷ fs) q = by_test (is_lt (rank_cmp e f)) (named-place e fs q)
  where
    swapped : (a b c : Bool) → (a || (b || c)) ≡ (b || (a || c))
    swapped true true c = refl
    swapped true false c = refl
    swapped false true c = refl
    swapped false false c = refl

    by_test : (b : Bool) → among (member_names (in_place e fs)) q ≡ (same q e.0 || among (member_names fs) q)
        → among (member_names (cond b (e ∷ f ∷ fs) (f ∷ in_place e fs))) q ≡ (same q e.0 || (same q f.0 || among (member_names fs) q))
    by_test true rest = refl
    by_test false rest = ap (λ b. same q f.0 || b) rest ∙ swapped (same q f.0) (same q e.0) (among (member_names fs) q)

named-order : (es : List Scored) (q : Bytes) → among (member_names (ascending es)) q ≡ among (member_names es) q
named-order [] q = refl
named-order (e ∷ es) q = named-place e (ascending es) q ∙ ap (λ b. same q e.0 || b) (named-order es q)

members-place : (z : Map ℤ) (e : Scored) (es : List Scored) → get z e.0 ≡ Some e.1 → among (member_names es) e.0 ≡ false → AreMembers z es → AreMembers z (in_place e es)
members-place z e [] there once all = (there, once, all)
members-place z e (f ∷ fs) there once all = by_test (is_lt (rank_cmp e f)) (members-place z e fs there apart.1 all.2)
  where
    apart : (same e.0 f.0 ≡ false) × (among (member_names fs) e.0 ≡ false)
    apart = neither (same e.0 f.0) (among (member_names fs) e.0) once

    other : same f.0 e.0 ≡ false
    other = (eq_by_cmp_equiv nat_list_cmp_total).symm f.0 e.0 ∙ apart.0

    by_test : (b : Bool) → AreMembers z (in_place e fs) → AreMembers z (cond b (e ∷ f ∷ fs) (f ∷ in_place e fs))
    by_test true rest = (there, once, all)
    by_test false rest = (all.0, named-place e fs f.0 ∙ (λ i. other i || all.1 i), rest)

members-order : (z : Map ℤ) (es : List Scored) → AreMembers z es → AreMembers z (ascending es)
members-order z [] all = tt
members-order z (e ∷ es) all = members-place z e (ascending es) all.0 (named-order es e.0 ∙ all.1) (members-order z es all.2)

-- Those by rank are its members,
pub ranked_members : (z : Map ℤ) → AreMembers z (ranked z)
unfolding get
ranked_members z = members-order z z.entries (members_found z z.entries z.sorted (λ q s is. is))

-- and all of them.
pub ranked_named : (z : Map ℤ) (q : Bytes) → among (member_names (ranked z)) q ≡ has z q
unfolding get
ranked_named z q = named-order z.entries q ∙ named_found q z.entries

-- ---- some of them

unnamed-take : (n : ℕ) (es : List Scored) (q : Bytes) → among (member_names es) q ≡ false → among (member_names (take n es)) q ≡ false
unnamed-take zero [] q none = refl
unnamed-take zero (e ∷ es) q none = refl
unnamed-take (suc n) [] q none = refl
unnamed-take (suc n) (e ∷ es) q none = let h = neither (same q e.0) (among (member_names es) q) none in (λ i. h.0 i || unnamed-take n es q h.1 i)

pub members-take : (z : Map ℤ) (n : ℕ) (es : List Scored) → AreMembers z es → AreMembers z (take n es)
members-take z zero [] all = tt
members-take z zero (e ∷ es) all = tt
members-take z (suc n) [] all = tt
members-take z (suc n) (e ∷ es) all = (all.0, unnamed-take n es e.0 all.1, members-take z n es all.2)

pub members-drop : (z : Map ℤ) (n : ℕ) (es : List Scored) → AreMembers z es → AreMembers z (drop n es)
members-drop z zero [] all = all
members-drop z zero (e ∷ es) all = all
members-drop z (suc n) [] all = tt
members-drop z (suc n) (e ∷ es) all = members-drop z n es all.2

unnamed-filter : (p : Scored → Bool) (es : List Scored) (q : Bytes) → among (member_names es) q ≡ false → among (member_names (filter p es)) q ≡ false
unnamed-filter p [] q none = refl
unnamed-filter p (e ∷ es) q none = let h = neither (same q e.0) (among (member_names es) q) none in by_test (p e) h.0 (unnamed-filter p es q h.1)
  where
    by_test : (b : Bool) → same q e.0 ≡ false → among (member_names (filter p es)) q ≡ false → among (member_names (cond b (e ∷ filter p es) (filter p es))) q ≡ false
    by_test true other rest = (λ i. other i || rest i)
    by_test false other rest = rest

pub members-filter : (z : Map ℤ) (p : Scored → Bool) (es : List Scored) → AreMembers z es → AreMembers z (filter p es)
members-filter z p [] all = tt
members-filter z p (e ∷ es) all = by_test (p e) (members-filter z p es all.2)
  where
    by_test : (b : Bool) → AreMembers z (filter p es) → AreMembers z (cond b (e ∷ filter p es) (filter p es))
    by_test true rest = (all.0, unnamed-filter p es e.0 all.1, rest)
    by_test false rest = rest

-- turned round they have the same names
named-reverse : (es : List Scored) (q : Bytes) → among (member_names (reverse es)) q ≡ among (member_names es) q
named-reverse [] q = refl
named-reverse (e ∷ es) q =
    ap (λ fs. among (member_names fs) q) (reverse-append (e ∷ []) es)
    ∙ ap (λ xs. among xs q) (map-append (λ (f : Scored). f.0) (reverse es) (e ∷ []))
    ∙ list_any-append (same q) (member_names (reverse es)) (e.0 ∷ [])
    ∙ ap (λ b. b || (same q e.0 || false)) (named-reverse es q)
    ∙ by_tests (among (member_names es) q) (same q e.0)
  where
    by_tests : (a b : Bool) → (a || (b || false)) ≡ (b || a)
    by_tests true true = refl
    by_tests true false = refl
    by_tests false true = refl
    by_tests false false = refl

-- a member is among those that pass a test where it passes with its score
named-filter : (z : Map ℤ) (p : Scored → Bool) (es : List Scored) (q : Bytes) (s : ℤ) → AreMembers z es → get z q ≡ Some s → among (member_names es) q ≡ true → among (member_names (filter p es)) q ≡ p (q, s)
named-filter z p [] q s all there named = absurd (cc)
named-filter z p (e ∷ es) q s all there named = by_test (same q e.0) refl (named-filter z p es q s all.2 there) named
  where
    this : (b : Bool) → same q e.0 ≡ true → among (member_names (filter p es)) q ≡ false → among (member_names (cond b (e ∷ filter p es) (filter p es))) q ≡ b
    this true here rest = ap (λ t. t || among (member_names (filter p es)) q) here
    this false here rest = rest

    another : (b : Bool) → same q e.0 ≡ false → among (member_names (filter p es)) q ≡ p (q, s) → among (member_names (cond b (e ∷ filter p es) (filter p es))) q ≡ p (q, s)
    another true other rest = ap (λ t. t || among (member_names (filter p es)) q) other ∙ rest
    another false other rest = rest

    by_test : (b : Bool) → same q e.0 ≡ b → (among (member_names es) q ≡ true → among (member_names (filter p es)) q ≡ p (q, s)) → (b || among (member_names es) q) ≡ true
        → among (member_names (cond (p e) (e ∷ filter p es) (filter p es))) q ≡ p (q, s)
    by_test true here rest found =
        let name : q ≡ e.0 = same_is q e.0 here in
        let score : s ≡ e.1 = same_some s e.1 (sym there ∙ ap (get z) name ∙ all.0) in
        this (p e) here (unnamed-filter p es q (ap (among (member_names es)) name ∙ all.1)) ∙ sym (λ i. p (name i, score i))
    by_test false other rest found = another (p e) other (rest found)

-- ---- what is left

get-left : (z : Map ℤ) (es : List Scored) (q : Bytes) → get (all_rescored z (map scored_leaving es)) q ≡ cond (among (member_names es) q) None (get z q)
get-left z [] q = refl
get-left z (e ∷ es) q =
    get-left (remove z e.0) es q
    ∙ ap (cond (among (member_names es) q) None) (get-remove z e.0 q)
    ∙ by_tests (among (member_names es) q) (same q e.0) (get z q)
  where
    by_tests : (a b : Bool) (o : Option ℤ) → cond a None (cond b None o) ≡ cond (b || a) None o
    by_tests true true o = refl
    by_tests true false o = refl
    by_tests false true o = refl
    by_tests false false o = refl

-- Where members go those are left that are not among them.
pub left_without : (z : Map ℤ) (es : List Scored) → all_rescored z (map scored_leaving es) ≡ rest_of z (member_names es)
left_without z es = same_map _ _ (λ q. get-left z es q ∙ by_test (among (member_names es) q) (get z q) ∙ sym (get-keep (λ x _. not (among (member_names es) x)) z q))
  where
    by_test : (b : Bool) (o : Option ℤ) → cond b None o ≡ kept (λ _. not b) o
    by_test true None = refl
    by_test true (Some s) = refl
    by_test false None = refl
    by_test false (Some s) = refl

pub rest-reverse : (z : Map ℤ) (es : List Scored) → rest_of z (member_names es) ≡ rest_of z (member_names (reverse es))
rest-reverse z es = sym (λ i. keep (λ x _. not (named-reverse es x i)) z)

-- Where those go that pass a test, those are left that do not.
pub rest-filter : (z : Map ℤ) (p : Scored → Bool) → rest_of z (member_names (filter p (ranked z))) ≡ keep (λ x s. not (p (x, s))) z
rest-filter z p = same_map _ _ (λ q.
    get-keep (λ x _. not (among (member_names (filter p (ranked z))) x)) z q ∙ by_score q (get z q) refl ∙ sym (get-keep (λ x s. not (p (x, s))) z q))
  where
    by_score : (q : Bytes) (o : Option ℤ) → get z q ≡ o → kept (λ _. not (among (member_names (filter p (ranked z))) q)) o ≡ kept (λ s. not (p (q, s))) o
    by_score q None is = refl
    by_score q (Some s) is =
        ap (λ b. cond (not b) (Some s) None) (named-filter z p (ranked z) q s (ranked_members z) is (ranked_named z q ∙ ap is_some is))

-- ---- scorings

names_in : (es : List Scored) → scored_members (map scored_leaving es) ≡ member_names es
names_in [] = refl
names_in (e ∷ es) = ap (λ xs. e.0 ∷ xs) (names_in es)

-- Members that can have rows may go.
pub members_leave : (z : Map ℤ) (es : List Scored) → AreMembers z es → AllStand (map scored_leaving es) → AreScorings z (map scored_leaving es)
members_leave z [] all stand = tt
members_leave z (e ∷ es) all stand = (
  record { before = sym all.0; key = name_is_key e.0 stand.0.name; whole = tt },
  ap (λ xs. among xs e.0) (names_in es) ∙ all.1,
  members_leave z es all.2 stand.1,
)
