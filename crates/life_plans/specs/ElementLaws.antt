-- The kinds of collections whose elements alone have rows, hashes and sets, and what becomes of elements.
use Rattle.std.proofs.Common.{ℕ, zero, suc, ◌<◌, ◌≡◌, refl, sym, ap, ◌∙◌, Bool, true, false, cond, List, [], ◌∷◌, length, arith}
use Rattle.std.proofs.lemmas.List.{length-map}
use Rattle.std.specs.Prelude.{Option, Some, None, IsSome, is_some, map, option_map}
use Rattle.kv_base.specs.Map.{Bytes, Map, Set, same, same_itself, kept, get, has, insert, insert_all, keep, size, get-empty, get-insert, get-keep, same_map}
use Rattle.redis_model.specs.Outcome.{hashes, sets}
use Rattle.redis_model.specs.Sets.{with_members}
use Rattle.lives_model.specs.OwnKeyLaws.{no_size}
use Rattle.plan_base.specs.LifeLaws.{member_row_of}
use Rattle.life_plans.specs.ChangePlans.{HasElements}

-- a field has its value
pub hash_has_elements : HasElements hashes get
unfolding size
hash_has_elements = record {
  no_scores = λ h head subkey. refl;
  scores = λ h. tt;
  indices = λ h head. tt;
  count = λ h head. refl;
  one = same_map;
}

-- members are there alike where their rows are
same_member : (row : Bytes) (o p : Option (Unit {0})) → option_map (λ _. row) o ≡ option_map (λ _. row) p → o ≡ p
same_member row None None is = refl
same_member row (Some x) (Some y) is = refl
same_member row (Some x) None is = absurd (cc)
same_member row None (Some y) is = absurd (cc)

-- a member has an empty row
pub set_has_elements : HasElements sets member_row_of
unfolding size
set_has_elements = record {
  no_scores = λ s head subkey. refl;
  scores = λ s. tt;
  indices = λ s head. tt;
  count = λ s head. sym (length-map s.entries (λ e. (e.0, [])));
  one = λ a b alike. same_map a b (λ q. same_member [] (get a q) (get b q) (alike q));
}

-- ---- what becomes of elements

-- what is there stays with others that are put
pub put_stays : {X : Type 0} (es : List (Bytes × X)) (m : Map X) (q : Bytes) → IsSome (get m q) → IsSome (get (insert_all m es) q)
put_stays [] m q there = there
put_stays (e ∷ es) m q there = put_stays es (insert m e.0 e.1) q (ap is_some (get-insert m e.0 e.1 q) ∙ by_test (same q e.0) there)
  where
    by_test : (s : Bool) → is_some (get m q) ≡ true → is_some (cond s (Some e.1) (get m q)) ≡ true
    by_test true there = refl
    by_test false there = there

-- what is left was there
pub left_was_there : {X : Type 0} (p : Bytes → X → Bool) (m : Map X) (q : Bytes) → IsSome (get (keep p m) q) → IsSome (get m q)
left_was_there {X = X} p m q there = by_get (get m q) (sym (ap is_some (get-keep p m q)) ∙ there)
  where
    by_get : (o : Option X) → is_some (kept (p q) o) ≡ true → is_some o ≡ true
    by_get None h = h
    by_get (Some x) h = refl

-- a map with something that is put is not empty
pub put_fills : {X : Type 0} (es : List (Bytes × X)) (m : Map X) → 0 < length es → 0 < size (insert_all m es)
put_fills {X = X} [] m h = absurd (omega arith)
put_fills {X = X} (e ∷ es) m h = by_size (size (insert_all m (e ∷ es))) refl
  where
    there : is_some (get (insert_all m (e ∷ es)) e.0) ≡ true
    there = put_stays es (insert m e.0 e.1) e.0 (ap is_some (get-insert m e.0 e.1 e.0 ∙ ap (λ s. cond s (Some e.1) (get m e.0)) (same_itself e.0)))

    by_size : (n : ℕ) → size (insert_all m (e ∷ es)) ≡ n → 0 < n
    by_size zero none =
        let gone : is_some (get (insert_all m (e ∷ es)) e.0) ≡ false = ap (λ (o : Map X). is_some (get o e.0)) ((no_size (insert_all m (e ∷ es))).0 none) ∙ ap is_some (get-empty e.0) in
        let stays = there in
        absurd (cc)
    by_size (suc n) is = omega arith

-- a member has a row where it is there
member_there : (s : Set) (x : Bytes) → is_some (member_row_of s x) ≡ has s x
member_there s x = by_get [] (get s x)
  where
    by_get : (row : Bytes) (o : Option (Unit {0})) → is_some (option_map (λ _. row) o) ≡ is_some o
    by_get row None = refl
    by_get row (Some y) = refl

-- a member stays where others join
pub members_stay : (xs : List Bytes) (s : Set) (x : Bytes) → IsSome (member_row_of s x) → IsSome (member_row_of (with_members s xs) x)
members_stay xs s x there = member_there (with_members s xs) x ∙ put_stays (map (λ y. (y, tt)) xs) s x (sym (member_there s x) ∙ there)

-- and a member that is left was there
pub left_member_was_there : (p : Bytes → Unit {0} → Bool) (s : Set) (x : Bytes) → IsSome (member_row_of (keep p s) x) → IsSome (member_row_of s x)
left_member_was_there p s x there = member_there s x ∙ left_was_there p s x (sym (member_there (keep p s) x) ∙ there)
