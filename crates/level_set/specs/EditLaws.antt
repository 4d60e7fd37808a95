-- What the tables after an edit keep.
use Rattle.std.proofs.Common.{◌≡◌, Bool, true, false, cond, List, [], ◌∷◌, ◌++◌, Some, option_map, option_and_then, refl, sym, ◌∙◌, ap, subst}
use Rattle.std.specs.Prelude.{◌&&◌}
use Rattle.std.specs.List.{list_all}
use Rattle.std.proofs.lemmas.List.Folds.{list_all-append}
use Rattle.kv_base.specs.InversionLaws.{same_some, and_then_is, map_is, kept_is, both_first, both_second}
use Rattle.kv_base.specs.declared.name.TableId.{TableId}
use Rattle.level_set.specs.declared.edit.Edit.{Edit}
use Rattle.level_set.specs.declared.home.Home.{Home}
use Rattle.level_set.specs.Tables.{same_id, goes_before, is_table, in_order, are_tables, are_runs_below}
use Rattle.level_set.specs.Edits.{tables_without, put_in, with_table, with_tables, tables_after}

pub both_true : (a b : Bool) → a ≡ true → b ≡ true → (a && b) ≡ true
both_true a b e f = rw (e, f) refl

-- a test of each element, in a list with one more in the middle
module _ (p : Home → Bool) where
  all_front : (xs ys : List Home) → list_all p (xs ++ ys) ≡ true → list_all p xs ≡ true
  all_front xs ys all = both_first (list_all p xs) (list_all p ys) (sym (list_all-append p xs ys) ∙ all)

  all_behind : (xs ys : List Home) → list_all p (xs ++ ys) ≡ true → list_all p ys ≡ true
  all_behind xs ys all = both_second (list_all p xs) (list_all p ys) (sym (list_all-append p xs ys) ∙ all)

  all_middle : (xs : List Home) (home : Home) (ys : List Home) → list_all p (xs ++ ys) ≡ true → list_all p (xs ++ home ∷ ys) ≡ p home
  all_middle xs home ys all =
      list_all-append p xs (home ∷ ys)
      ∙ ap (λ b. b && (p home && list_all p ys)) (all_front xs ys all)
      ∙ ap (λ b. p home && b) (all_behind xs ys all)
      ∙ and_true (p home)
    where
      and_true : (b : Bool) → (b && true) ≡ b
      and_true true = refl
      and_true false = refl

-- ---- one table more

order_middle : (xs : List Home) (home : Home) (ys : List Home) → in_order (xs ++ ys) ≡ true → list_all (λ t. goes_before t home) xs ≡ true
    → in_order (xs ++ home ∷ ys) ≡ list_all (goes_before home) ys
unfolding in_order
order_middle [] home ys order front = ap (λ b. list_all (goes_before home) ys && b) order ∙ and_true (list_all (goes_before home) ys)
  where
    and_true : (b : Bool) → (b && true) ≡ b
    and_true true = refl
    and_true false = refl
order_middle (x ∷ xs) home ys order front =
    let first = both_first (list_all (goes_before x) (xs ++ ys)) (in_order (xs ++ ys)) order in
    let rest = both_second (list_all (goes_before x) (xs ++ ys)) (in_order (xs ++ ys)) order in
    let here = both_first (goes_before x home) (list_all (λ t. goes_before t home) xs) front in
    let more = both_second (goes_before x home) (list_all (λ t. goes_before t home) xs) front in
    ap (λ b. b && in_order (xs ++ home ∷ ys)) (all_middle (goes_before x) xs home ys first ∙ here) ∙ order_middle xs home ys rest more

-- a table in the middle of others: whether it may stand there
pub tables_middle : (xs : List Home) (home : Home) (ys : List Home) → are_tables (xs ++ ys) ≡ true → list_all (λ t. goes_before t home) xs ≡ true
    → are_tables (xs ++ home ∷ ys) ≡ (is_table home && list_all (goes_before home) ys)
unfolding are_tables
tables_middle xs home ys are front =
    let each = both_first (list_all is_table (xs ++ ys)) (in_order (xs ++ ys)) are in
    let order = both_second (list_all is_table (xs ++ ys)) (in_order (xs ++ ys)) are in
    (λ i. all_middle is_table xs home ys each i && order_middle xs home ys order front i)

-- ---- the front of tables

order_front : (xs ys : List Home) → in_order (xs ++ ys) ≡ true → in_order xs ≡ true
unfolding in_order
order_front [] ys order = refl
order_front (x ∷ xs) ys order =
    let first = both_first (list_all (goes_before x) (xs ++ ys)) (in_order (xs ++ ys)) order in
    let rest = both_second (list_all (goes_before x) (xs ++ ys)) (in_order (xs ++ ys)) order in
    both_true (list_all (goes_before x) xs) (in_order xs) (all_front (goes_before x) xs ys first) (order_front xs ys rest)

pub tables_front : (xs ys : List Home) → are_tables (xs ++ ys) ≡ true → are_tables xs ≡ true
unfolding are_tables
tables_front xs ys are =
    both_true (list_all is_table xs) (in_order xs)
    (all_front is_table xs ys (both_first (list_all is_table (xs ++ ys)) (in_order (xs ++ ys)) are))
    (order_front xs ys (both_second (list_all is_table (xs ++ ys)) (in_order (xs ++ ys)) are))

pub tables_none : are_tables [] ≡ true
unfolding are_tables in_order
tables_none = refl

-- one more behind them all
all_before_behind : (xs : List Home) (home : Home) → in_order xs ≡ true → in_order (xs ++ home ∷ []) ≡ list_all (λ t. goes_before t home) xs
unfolding in_order
all_before_behind [] home order = refl
all_before_behind (x ∷ xs) home order =
    let first = both_first (list_all (goes_before x) xs) (in_order xs) order in
    let rest = both_second (list_all (goes_before x) xs) (in_order xs) order in
    ap (λ b. b && in_order (xs ++ home ∷ [])) (list_all-append (goes_before x) xs (home ∷ []) ∙ ap (λ b. b && (goes_before x home && true)) first ∙ and_true (goes_before x home))
    ∙ ap (λ b. goes_before x home && b) (all_before_behind xs home rest)
  where
    and_true : (b : Bool) → (b && true) ≡ b
    and_true true = refl
    and_true false = refl

pub tables_push : (xs : List Home) (home : Home) → are_tables xs ≡ true → are_tables (xs ++ home ∷ []) ≡ (is_table home && list_all (λ t. goes_before t home) xs)
unfolding are_tables
tables_push xs home are =
    let each = both_first (list_all is_table xs) (in_order xs) are in
    let order = both_second (list_all is_table xs) (in_order xs) are in
    (λ i. (list_all-append is_table xs (home ∷ []) ∙ ap (λ b. b && (is_table home && true)) each ∙ and_true (is_table home)) i && all_before_behind xs home order i)
  where
    and_true : (b : Bool) → (b && true) ≡ b
    and_true true = refl
    and_true false = refl

-- ---- tables that stay

all_staying : (p : Home → Bool) (tables : List Home) (ids : List TableId) (staying : List Home) → tables_without tables ids ≡ Some staying → list_all p tables ≡ true → list_all p staying ≡ true
all_staying p tables [] staying is all = subst (λ (l : List Home). list_all p l ≡ true) (same_some tables staying is) all
all_staying p [] (id ∷ ids) staying is all = absurd (cc)
all_staying p (home ∷ tables) (id ∷ ids) staying is all =
    let rest = both_second (p home) (list_all p tables) all in
    by_id (same_id home.desc.id id) (λ is. all_staying p tables ids staying is rest) (λ more is. all_staying p tables (id ∷ ids) more is rest) is
  where
    by_id : (same : Bool) → (tables_without tables ids ≡ Some staying → list_all p staying ≡ true) → ((more : List Home) → tables_without tables (id ∷ ids) ≡ Some more → list_all p more ≡ true)
        → cond same (tables_without tables ids) (option_map (λ rest. home ∷ rest) (tables_without tables (id ∷ ids))) ≡ Some staying → list_all p staying ≡ true
    by_id true gone stays is = gone is
    by_id false gone stays is =
        let more = map_is (λ (l : List Home). home ∷ l) (tables_without tables (id ∷ ids)) staying is in
        subst (λ (l : List Home). list_all p l ≡ true) more.2 (both_true (p home) (list_all p more.0) (both_first (p home) (list_all p tables) all) (stays more.0 more.1))

order_staying : (tables : List Home) (ids : List TableId) (staying : List Home) → tables_without tables ids ≡ Some staying → in_order tables ≡ true → in_order staying ≡ true
unfolding in_order
order_staying tables [] staying is order = subst (λ (l : List Home). in_order l ≡ true) (same_some tables staying is) order
order_staying [] (id ∷ ids) staying is order = absurd (cc)
order_staying (home ∷ tables) (id ∷ ids) staying is order =
    let rest = both_second (list_all (goes_before home) tables) (in_order tables) order in
    by_id (same_id home.desc.id id) (λ is. order_staying tables ids staying is rest) (λ more is. order_staying tables (id ∷ ids) more is rest) is
  where
    by_id : (same : Bool) → (tables_without tables ids ≡ Some staying → in_order staying ≡ true) → ((more : List Home) → tables_without tables (id ∷ ids) ≡ Some more → in_order more ≡ true)
        → cond same (tables_without tables ids) (option_map (λ rest. home ∷ rest) (tables_without tables (id ∷ ids))) ≡ Some staying → in_order staying ≡ true
    by_id true gone stays is = gone is
    by_id false gone stays is =
        let more = map_is (λ (l : List Home). home ∷ l) (tables_without tables (id ∷ ids)) staying is in
        subst (λ (l : List Home). in_order l ≡ true) more.2
        (both_true (list_all (goes_before home) more.0) (in_order more.0)
        (all_staying (goes_before home) tables (id ∷ ids) more.0 more.1 (both_first (list_all (goes_before home) tables) (in_order tables) order))
        (stays more.0 more.1))

pub tables_staying : (tables : List Home) (ids : List TableId) (staying : List Home) → tables_without tables ids ≡ Some staying → are_tables tables ≡ true → are_tables staying ≡ true
unfolding are_tables
tables_staying tables ids staying is are =
    both_true (list_all is_table staying) (in_order staying)
    (all_staying is_table tables ids staying is (both_first (list_all is_table tables) (in_order tables) are))
    (order_staying tables ids staying is (both_second (list_all is_table tables) (in_order tables) are))

-- ---- the tables after an edit may stand

pub tables_with : (tables more after : List Home) → with_tables tables more ≡ Some after → are_tables tables ≡ true → are_tables after ≡ true
unfolding with_tables
tables_with tables [] after is are = subst (λ (l : List Home). are_tables l ≡ true) (same_some tables after is) are
tables_with tables (home ∷ more) after is are =
    let one = and_then_is (λ (now : List Home). with_tables now more) (with_table tables home) after is in
    let kept_one = kept_is are_tables (Some (put_in home tables)) one.0 one.1 in
    tables_with one.0 more after one.2 kept_one.1

pub after_are_tables : (tables : List Home) (edit : Edit) (after : List Home) → tables_after tables edit ≡ Some after → are_tables tables ≡ true → are_tables after ≡ true
after_are_tables tables edit after is are =
    let whole = kept_is (are_runs_below edit.next_run) (option_and_then (λ (staying : List Home). with_tables staying edit.added) (tables_without tables edit.removed)) after is in
    let stay = and_then_is (λ (staying : List Home). with_tables staying edit.added) (tables_without tables edit.removed) after whole.0 in
    tables_with stay.0 edit.added after stay.2 (tables_staying tables edit.removed stay.0 stay.1 are)
