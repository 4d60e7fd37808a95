-- What several sets come to together is what the command comes to, and the plans of SINTER, SUNION and SDIFF.
use Rattle.std.proofs.Common.{◌≡◌, ℕ, refl, sym, ap, subst, ◌∙◌, Bool, true, false, cond, List, [], ◌∷◌}
use Rattle.std.specs.Prelude.{Option, Some, None, Ok, Err, IsFalse, is_some, not, ◌&&◌, ◌||◌, zip, map, filter, fold}
use Rattle.std.specs.FinMap.Entries.{is_some-find}
use Rattle.kv_base.specs.Map.{Bytes, Set, byte_cmp, empty, get, has, insert, keep, keys, same, same_map, get-empty, get-insert}
use Rattle.redis_model.specs.declared.reply.Reply.{Reply}
use Rattle.redis_model.specs.declared.reply.Reply.TheVariants as reply
use Rattle.redis_model.specs.declared.reply.ReplyError.{ReplyError}
use Rattle.redis_model.specs.declared.command.Command.{Command}
use Rattle.redis_model.specs.declared.command.Command.TheVariants as cmd
use Rattle.redis_model.specs.Value.{RedisMap}
use Rattle.redis_model.specs.Outcome.{Outcome, ◌>>=◌, answered, bulks}
use Rattle.redis_model.specs.About.{keys_of, writes}
use Rattle.redis_model.specs.Apply.{apply, carried_out}
use Rattle.redis_model.specs.Keys.{among}
use Rattle.redis_model.specs.Sets.{combined, diff, in_each, in_some, inter, sets_at, union, with_members}
use Rattle.lives_model.specs.Rows.{Rows}
use Rattle.lives_model.specs.Plans.{IsPlanOf, least_above}
use Rattle.plan_base.specs.Ahead.{seen_deadlines}
use Rattle.plan_base.specs.KeyPlanLaws.{reading_plan}
use Rattle.set_operations.specs.declared.combine.Combination.{Combination}
use Rattle.set_operations.specs.declared.combine.Combination.TheVariants.{Inter, Union, Diff}
use Rattle.set_operations.specs.Combined.{SetAt, all_answer, combined_members, combining_plan, first_error, gathered, kept_members, life_or_none, members_at, members_or, members_reply, set_lives}
use Rattle.plan_base.specs.Carries.{Carries}
use Rattle.life_plans.specs.SetLiveLaws.{has_member_is}
use Rattle.set_operations.specs.SetListLaws.{AreSets, SeesSets, members_are, sees_sets, soonest_is}

-- ---- the members of the first set

-- each of the sets has a member
all_have : (c : Rows) (ss : List SetAt) (xs : List Set) (q : Bytes) → AreSets c ss xs → all_answer c ss true q ≡ in_each xs q
all_have c [] [] q are = refl
all_have c (s ∷ ss) (x ∷ xs) q are = let one = has_member_is c s.0 (life_or_none s.1.life) x q are.0 in let rest = all_have c ss xs q are.1 in λ i. one i && rest i
all_have c [] (x ∷ xs) q are = absurd are
all_have c (s ∷ ss) [] q are = absurd are

neither : (a b : Bool) → (not a && not b) ≡ not (a || b)
neither true b = refl
neither false b = refl

-- none of them has it
none_has : (c : Rows) (ss : List SetAt) (xs : List Set) (q : Bytes) → AreSets c ss xs → all_answer c ss false q ≡ not (in_some xs q)
none_has c [] [] q are = refl
none_has c (s ∷ ss) (x ∷ xs) q are =
    let one = has_member_is c s.0 (life_or_none s.1.life) x q are.0 in let rest = none_has c ss xs q are.1 in
    (λ i. not (one i) && rest i) ∙ neither (has x q) (in_some xs q)
none_has c [] (x ∷ xs) q are = absurd are
none_has c (s ∷ ss) [] q are = absurd are

filter_keys : (p : Bytes → Bool) (es : List (Bytes × Unit {0})) → filter p (map (λ e. e.0) es) ≡ map (λ e. e.0) (filter (λ e. p e.0) es)
filter_keys p [] = refl
filter_keys p (e ∷ es) = by_test (p e.0) (filter_keys p es)
  where
    by_test : (b : Bool) → filter p (map (λ x. x.0) es) ≡ map (λ x. x.0) (filter (λ x. p x.0) es)
        → cond b (e.0 ∷ filter p (map (λ x. x.0) es)) (filter p (map (λ x. x.0) es)) ≡ map (λ x. x.0) (cond b (e ∷ filter (λ x. p x.0) es) (filter (λ x. p x.0) es))
    by_test true rest = ap (λ xs. e.0 ∷ xs) rest
    by_test false rest = rest

-- the members that pass are those of the set of them
pub kept_keys : (p : Bytes → Bool) (x : Set) → filter p (keys x) ≡ keys (keep (λ q _. p q) x)
unfolding keep
kept_keys p x = filter_keys p x.entries

kept_are : (c : Rows) (s : SetAt) (x : Set) (p r : Bytes → Bool) → members_at c s ≡ keys x → ((q : Bytes) → p q ≡ r q) → filter p (members_at c s) ≡ keys (keep (λ q _. r q) x)
kept_are c s x p r are alike = (λ i. filter (λ q. alike q i) (are i)) ∙ kept_keys r x

inter_are : (c : Rows) (ss : List SetAt) (xs : List Set) → AreSets c ss xs → kept_members c true ss ≡ keys (inter xs)
unfolding empty
inter_are c [] [] are = refl
inter_are c (s ∷ ss) (x ∷ xs) are = kept_are c s x (all_answer c ss true) (in_each xs) (members_are c s.0 (life_or_none s.1.life) x are.0) (λ q. all_have c ss xs q are.1)
inter_are c [] (x ∷ xs) are = absurd are
inter_are c (s ∷ ss) [] are = absurd are

diff_are : (c : Rows) (ss : List SetAt) (xs : List Set) → AreSets c ss xs → kept_members c false ss ≡ keys (diff xs)
unfolding empty
diff_are c [] [] are = refl
diff_are c (s ∷ ss) (x ∷ xs) are = kept_are c s x (all_answer c ss false) (λ q. not (in_some xs q)) (members_are c s.0 (life_or_none s.1.life) x are.0) (λ q. none_has c ss xs q are.1)
diff_are c [] (x ∷ xs) are = absurd are
diff_are c (s ∷ ss) [] are = absurd are

-- ---- the members of all sets

-- a set with members has those, and its own
pub has-with_members : (s : Set) (xs : List Bytes) (q : Bytes) → has (with_members s xs) q ≡ (among xs q || has s q)
has-with_members s [] q = refl
has-with_members s (x ∷ xs) q =
    has-with_members (insert s x tt) xs q
    ∙ ap (λ o. among xs q || is_some o) (get-insert s x tt q)
    ∙ by_tests (same q x) (among xs q)
  where
    by_tests : (here later : Bool) → (later || is_some (cond here (Some tt) (get s q))) ≡ ((here || later) || has s q)
    by_tests true true = refl
    by_tests true false = refl
    by_tests false later = refl

-- what is among its members is what it has
among_keys : (x : Set) (q : Bytes) → among (keys x) q ≡ has x q
unfolding get
among_keys x q = sym (is_some-find byte_cmp q x.entries)

-- the union has what one of the sets has
union_has : (xs : List Set) (q : Bytes) → has (union xs) q ≡ in_some xs q
union_has [] q = ap is_some (get-empty q)
union_has (x ∷ xs) q = has-with_members (union xs) (keys x) q ∙ (λ i. among_keys x q i || union_has xs q i)

-- and so has what is gathered, beside what was there
gathered_has : (c : Rows) (ss : List SetAt) (xs : List Set) (all : Set) (q : Bytes) → AreSets c ss xs → has (fold (λ a s. with_members a (members_at c s)) all ss) q ≡ (has all q || in_some xs q)
gathered_has c [] [] all q are = by_test (has all q)
  where
    by_test : (b : Bool) → b ≡ (b || false)
    by_test true = refl
    by_test false = refl
gathered_has c (s ∷ ss) (x ∷ xs) all q are =
    gathered_has c ss xs (with_members all (members_at c s)) q are.1
    ∙ ap (λ b. b || in_some xs q) (has-with_members all (members_at c s) q ∙ ap (λ ms. among ms q || has all q) (members_are c s.0 (life_or_none s.1.life) x are.0) ∙ ap (λ b. b || has all q) (among_keys x q))
    ∙ turned (has x q) (has all q) (in_some xs q)
  where
    turned : (a b d : Bool) → ((a || b) || d) ≡ (b || (a || d))
    turned true true d = refl
    turned true false d = refl
    turned false b d = refl
gathered_has c [] (x ∷ xs) all q are = absurd are
gathered_has c (s ∷ ss) [] all q are = absurd are

same_there : (o p : Option (Unit {0})) → is_some o ≡ is_some p → o ≡ p
same_there None None is = refl
same_there (Some x) (Some y) is = refl
same_there (Some x) None is = absurd (cc)
same_there None (Some y) is = absurd (cc)

union_are : (c : Rows) (ss : List SetAt) (xs : List Set) → AreSets c ss xs → gathered c ss ≡ union xs
union_are c ss xs are =
    same_map (gathered c ss) (union xs) (λ q. same_there (get (gathered c ss) q) (get (union xs) q)
    (gathered_has c ss xs empty q are ∙ ap (λ o. is_some o || in_some xs q) (get-empty q) ∙ sym (union_has xs q)))

-- ---- the answer

-- the set that sets come to together
abbrev pub combined_by : Combination → List Set → Set
combined_by Inter xs = inter xs
combined_by Union xs = union xs
combined_by Diff xs = diff xs

-- its members, in order
pub combined_are : (c : Rows) (how : Combination) (ss : List SetAt) (xs : List Set) → AreSets c ss xs → combined_members c how ss ≡ keys (combined_by how xs)
unfolding combined_members
combined_are c Inter ss xs are = inter_are c ss xs are
combined_are c Union ss xs are = ap keys (union_are c ss xs are)
combined_are c Diff ss xs are = diff_are c ss xs are

reply_is : (c : Rows) (m : RedisMap) (how : Combination) (ss : List SetAt) (error : Option ReplyError) (o : Outcome (List Set)) → SeesSets c ss error o
    → members_reply (members_or error (combined_members c how ss)) ≡ (answered m (o >>= λ xs. Ok (bulks (keys (combined_by how xs)), m))).0
reply_is c m how ss None (Ok xs) are = ap bulks (combined_are c how ss xs are)
reply_is c m how ss (Some e) (Err x) are = ap reply.Error are
reply_is c m how ss None (Err x) are = absurd are
reply_is c m how ss (Some e) (Ok xs) are = absurd are

-- ---- the plans

combining_carries : (c : Rows) (t fresh : ℕ) (d : Command) (how : Combination) (ks : List Bytes) → IsFalse (writes d) → keys_of d ≡ ks
    → ((m : RedisMap) → carried_out m t d ≡ combined m (combined_by how) ks) → Carries c t fresh d (combining_plan c t how ks)
unfolding apply combining_plan
combining_carries c t fresh d how ks reads names is = record {
  plan = λ m means ready.
      subst (λ (u : Option ℕ). IsPlanOf c t fresh m d empty answer u) (ap (λ qs. least_above t (seen_deadlines c t qs)) names ∙ sym (soonest_is c t ks))
      (reading_plan fresh d answer means reads
      (reply_is c m how (zip ks (set_lives c t ks)) (first_error (set_lives c t ks)) (sets_at m ks) (sees_sets means ks)
      ∙ sym (ap (λ o. (answered m o).0) (is m))));
}
  where
    answer : Reply
    answer = members_reply (members_or (first_error (set_lives c t ks)) (combined_members c how (zip ks (set_lives c t ks))))

pub s_inter_carries : (c : Rows) (t fresh : ℕ) (ks : List Bytes) (w : ℕ) → Carries c t fresh (cmd.SInter ks w) (combining_plan c t Inter ks)
unfolding carried_out
s_inter_carries c t fresh ks w = combining_carries c t fresh (cmd.SInter ks w) Inter ks refl refl (λ m. refl)

pub s_union_carries : (c : Rows) (t fresh : ℕ) (ks : List Bytes) (w : ℕ) → Carries c t fresh (cmd.SUnion ks w) (combining_plan c t Union ks)
unfolding carried_out
s_union_carries c t fresh ks w = combining_carries c t fresh (cmd.SUnion ks w) Union ks refl refl (λ m. refl)

pub s_diff_carries : (c : Rows) (t fresh : ℕ) (ks : List Bytes) (w : ℕ) → Carries c t fresh (cmd.SDiff ks w) (combining_plan c t Diff ks)
unfolding carried_out
s_diff_carries c t fresh ks w = combining_carries c t fresh (cmd.SDiff ks w) Diff ks refl refl (λ m. refl)
