-- The plans of commands that read a list.
use Rattle.std.proofs.Common.{ℕ, zero, suc, ◌≡◌, ◌+◌, ◌-◌, ◌<◌, ◌≤◌, refl, sym, ap, subst, ◌∙◌, Bool, true, false, cond, List, [], length, take, drop, map, arith}
use Rattle.std.proofs.lemmas.Bool.Decides.{nat_tests}
use Rattle.std.specs.Prelude.{Option, Some, None, Ok, Err, nat_le, nat_lt, min, ℤ, pos, negsuc}
use Rattle.kv_base.specs.Map.{Bytes}
use Rattle.kv_base.specs.RawKeys.{element_space, life_prefix}
use Rattle.redis_model.specs.declared.command.Command.TheVariants as cmd
use Rattle.redis_model.specs.Outcome.{Outcome, number, bulk_or_null, bulks}
use Rattle.redis_model.specs.Apply.{carried_out}
use Rattle.redis_model.specs.Lists.{place, item}
use Rattle.redis_model.specs.Strings.{start_at, end_at, range}
use Rattle.lives_model.specs.declared.plan.Plan.{Plan}
use Rattle.lives_model.specs.Rows.{Rows}
use Rattle.lives_model.specs.Clean.{live_at}
use Rattle.lives_model.specs.Page.{page}
use Rattle.plan_base.specs.Carries.{Carries}
use Rattle.plan_base.specs.LifePlans.{answering}
use Rattle.plan_base.specs.Seen.{deadline_in}
use Rattle.list_plans.specs.declared.sight.ListSight.{ListSight}
use Rattle.list_plans.specs.ListLives.{list_found, items_found, IsListAt, IsListOf}
use Rattle.list_plans.specs.ListReadLaws.{items_there, item_is_there, items_in_page, list_reading}
use Rattle.list_plans.specs.ListPlans.{by_list}
use Rattle.list_changes.specs.Found.{found_at, item_of, item_at_place, item_found, item_raw}
use Rattle.list_cmds.specs.Planned.{l_len_plan, l_index_plan, l_range_plan, items_between, items_in_range}

-- ---- LLEN

pub l_len_carries : (c : Rows) (t fresh : ℕ) (k : Bytes) (w : ℕ) → Carries c t fresh (cmd.LLen k w) (l_len_plan t (found_at c t k))
unfolding carried_out l_len_plan
l_len_carries c t fresh k w =
    list_reading c t fresh (cmd.LLen k w) k (λ items. number (length items)) (λ found. number (items_found found)) refl refl (λ m. refl)
    (λ found items is. ap number (items_there c k found items is))

-- ---- LINDEX

same_some : (a b : ℕ) → Some a ≡ Some b → a ≡ b
same_some a b e = cc

-- a place is that of an item
pub place_within : (n : ℕ) (at : ℤ) (i : ℕ) → place n at ≡ Some i → i < n
place_within n (pos a) i e = by_test (nat_lt a n) refl e
  where
    by_test : (b : Bool) → nat_lt a n ≡ b → cond b (Some a) None ≡ Some i → i < n
    by_test true low e = let here = same_some a i e in grind (arith, nat_tests, low, here)
    by_test false low e = absurd (cc)
place_within n (negsuc a) i e = by_test (nat_lt a n) refl e
  where
    by_test : (b : Bool) → nat_lt a n ≡ b → cond b (Some (n - (a + 1))) None ≡ Some i → i < n
    by_test true low e = let here = same_some (n - (a + 1)) i e in grind (arith, nat_tests, low, here)
    by_test false low e = absurd (cc)

-- as many items as metadata tells
pub items_are_many : (c : Rows) (k : Bytes) (list : ListSight) (items : List Bytes) → IsListAt c k list items → list.tail - list.head ≡ length items
items_are_many c k list items is = let ends = is.ends in omega (arith, ends)

-- the item at a place
pub place_item : (c : Rows) (k : Bytes) (list : ListSight) (items : List Bytes) (at : ℤ) (o : Option ℕ) → IsListAt c k list items → place (length items) at ≡ o → item_at_place c k list o ≡ item items o
place_item c k list items at None is e = refl
place_item c k list items at (Some i) is e = item_is_there c k list items i is (place_within (length items) at i e)

no_item : (o : Option ℕ) (items : List Bytes) → items ≡ [] → None ≡ item items o
no_item None items none = refl
no_item (Some i) items none = sym (ap (λ (l : List Bytes). item l (Some i)) none)

item_there : (c : Rows) (k : Bytes) (at : ℤ) (found : Option ListSight) (items : List Bytes) → IsListOf c k found items → item_of c k at found ≡ item items (place (length items) at)
item_there c k at None items is = no_item (place (length items) at) items is
item_there c k at (Some list) items is =
    ap (λ (n : ℕ). item_at_place c k list (place n at)) (items_are_many c k list items is)
    ∙ place_item c k list items at (place (length items) at) is refl

-- what was looked up is the item of what was found
looked_up : (t : ℕ) (old : Option ℕ) (f : Option ListSight → Option Bytes) (s : Outcome (Option ListSight))
    → by_list t old (λ found. answering t old (bulk_or_null (f found))) s ≡ by_list t old (λ found. answering t old (bulk_or_null (item_found f s))) s
looked_up t old f (Ok found) = refl
looked_up t old f (Err e) = refl

pub l_index_carries : (c : Rows) (t fresh : ℕ) (k : Bytes) (at : ℤ) (w : ℕ)
    → Carries c t fresh (cmd.LIndex k at w) (l_index_plan t (found_at c t k) (item_found (item_of c k at) (found_at c t k).list))
unfolding carried_out l_index_plan
l_index_carries c t fresh k at w =
    subst (λ (p : Plan). Carries c t fresh (cmd.LIndex k at w) p) (looked_up t (deadline_in (live_at c t k)) (item_of c k at) (list_found (live_at c t k)))
    (list_reading c t fresh (cmd.LIndex k at w) k (λ items. bulk_or_null (item items (place (length items) at))) (λ found. bulk_or_null (item_of c k at found)) refl refl (λ m. refl)
    (λ found items is. ap bulk_or_null (item_there c k at found items is)))

-- ---- LRANGE

-- a range ends within the list
min_within : (a b : ℕ) → min a b ≤ b
min_within a b = omega arith

pub end_within : (n : ℕ) (b : ℤ) → end_at n b ≤ n
end_within n (pos b) = min_within (b + 1) n
end_within n (negsuc b) = omega arith

-- nothing is between two places of nothing
none_taken : (n m : ℕ) → ◌≡◌ {A = List Bytes} (take n (drop m [])) []
none_taken zero m = refl
none_taken (suc n) zero = refl
none_taken (suc n) (suc m) = refl

pub none_between : (n m : ℕ) (items : List Bytes) → items ≡ [] → [] ≡ take n (drop m items)
none_between n m items none = sym (ap (λ (l : List Bytes). take n (drop m l)) none ∙ none_taken n m)

between_are : (c : Rows) (k : Bytes) (list : ListSight) (items : List Bytes) (from end : ℕ) → IsListAt c k list items → end ≤ length items
    → items_between c k list from end ≡ take (end - from) (drop from items)
between_are c k list items from end is within = by_test (nat_le end from) refl
  where
    by_test : (b : Bool) → nat_le end from ≡ b
        → cond b [] (map (λ row. row.1) (page c (item_raw k list (list.head + from)) (life_prefix element_space k list.version) (end - from))) ≡ take (end - from) (drop from items)
    by_test true e =
        let none : 0 ≡ end - from = grind (arith, nat_tests, e) in
        ap (λ (n : ℕ). take n (drop from items)) none
    by_test false e =
        let low : from ≤ length items = grind (arith, nat_tests, e, within) in
        items_in_page c k list items from (end - from) is low

range_is : (c : Rows) (k : Bytes) (a b : ℤ) (found : Option ListSight) (items : List Bytes) → IsListOf c k found items → items_in_range c k a b found ≡ range items a b
range_is c k a b None items is = none_between (end_at (length items) b - start_at (length items) a) (start_at (length items) a) items is
range_is c k a b (Some list) items is =
    ap (λ (n : ℕ). items_between c k list (start_at n a) (end_at n b)) (items_are_many c k list items is)
    ∙ between_are c k list items (start_at (length items) a) (end_at (length items) b) is (end_within (length items) b)

pub l_range_carries : (c : Rows) (t fresh : ℕ) (k : Bytes) (a b : ℤ) (w : ℕ) → Carries c t fresh (cmd.LRange k a b w) (l_range_plan c t (found_at c t k) k a b)
unfolding carried_out l_range_plan
l_range_carries c t fresh k a b w =
    list_reading c t fresh (cmd.LRange k a b w) k (λ items. bulks (range items a b)) (λ found. bulks (items_in_range c k a b found)) refl refl (λ m. refl)
    (λ found items is. ap bulks (range_is c k a b found items is))
