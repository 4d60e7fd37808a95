-- What the neighbours of a table and the names say of all that it stands among.
use Rattle.std.proofs.Common.{◌≡◌, ℕ, zero, suc, ◌+◌, ◌<◌, Bool, true, false, cond, not, List, [], ◌∷◌, ◌++◌, length, take, drop, get_or, refl, sym, ◌∙◌, ap, subst, arith, take-append-drop}
use Rattle.std.specs.Prelude.{◌&&◌, ◌||◌, ◌==◌, nat_lt}
use Rattle.std.specs.List.{list_all, prefix_len}
use Rattle.std.specs.Ordering.{is_lt}
use Rattle.std.specs.Cmp.Lexicographic.{nat_list_cmp_total}
use Rattle.std.specs.List.Sorted.{IsPartitionedBy}
use Rattle.std.proofs.lemmas.Bool.Decides.{nat_tests}
use Rattle.std.proofs.lemmas.List.Folds.{list_any-append}
use Rattle.kv_base.specs.Map.{byte_cmp}
use Rattle.kv_base.specs.InversionLaws.{both_first, both_second}
use Rattle.kv_base.specs.declared.name.TableId.{TableId}
use Rattle.level_set.specs.declared.home.Home.{Home}
use Rattle.level_set.specs.Choices.{is_less_than, is_range}
use Rattle.level_set.specs.ChoiceLaws.{all_at, is_less, lt_le}
use Rattle.level_set.specs.EditLaws.{both_true}
use Rattle.level_set.specs.Edits.{put_in}
use Rattle.level_set.specs.Neighbours.{stands_next, stands_ahead, is_named}
use Rattle.level_set.specs.PlaceLaws.{table_range}
use Rattle.level_set.specs.Tables.{same_id, is_table, is_in_front, stands_before, goes_before, in_order, are_tables}
use Rattle.level_set.proofs.Placing.{may_stand}

and_true : (b : Bool) → (b && true) ≡ b
and_true true = refl
and_true false = refl

pub and_false : (b : Bool) → (b && false) ≡ false
and_false true = refl
and_false false = refl

-- ---- what stands before a table stands before those behind it

less_through : (t u v : Home) → is_range u ≡ true → is_less_than t u ≡ true → is_less_than u v ≡ true → is_less_than t v ≡ true
less_through t u v range first second =
    let past = lt_le t.desc.greatest u.desc.least u.desc.greatest (is_less (byte_cmp t.desc.greatest u.desc.least) first) range in
    ap is_lt (nat_list_cmp_total.trans t.desc.greatest u.desc.greatest v.desc.least past (is_less (byte_cmp u.desc.greatest v.desc.least) second))

front_through : (t u v : Home) → is_range u ≡ true → t.level ≡ u.level → is_in_front t u ≡ true → is_in_front u v ≡ true → is_in_front t v ≡ true
front_through t u v range same first second = by_level (t.level == 0) refl (ap (λ (n : ℕ). n == 0) (sym same)) first second
  where
    runs : (m n k : ℕ) → nat_lt n m ≡ true → nat_lt k n ≡ true → nat_lt k m ≡ true
    runs m n k x y = grind (arith, nat_tests)

    by_level : (z : Bool) → (t.level == 0) ≡ z → (u.level == 0) ≡ (t.level == 0)
        → cond (t.level == 0) (nat_lt u.desc.id.run t.desc.id.run) (is_less_than t u) ≡ true
        → cond (u.level == 0) (nat_lt v.desc.id.run u.desc.id.run) (is_less_than u v) ≡ true
        → cond (t.level == 0) (nat_lt v.desc.id.run t.desc.id.run) (is_less_than t v) ≡ true
    by_level true at_zero alike first second =
        ap (λ z. cond z (nat_lt v.desc.id.run t.desc.id.run) (is_less_than t v)) at_zero
        ∙ runs t.desc.id.run u.desc.id.run v.desc.id.run
        (sym (ap (λ z. cond z (nat_lt u.desc.id.run t.desc.id.run) (is_less_than t u)) at_zero) ∙ first)
        (sym (ap (λ z. cond z (nat_lt v.desc.id.run u.desc.id.run) (is_less_than u v)) (alike ∙ at_zero)) ∙ second)
    by_level false at_zero alike first second =
        ap (λ z. cond z (nat_lt v.desc.id.run t.desc.id.run) (is_less_than t v)) at_zero
        ∙ less_through t u v range
        (sym (ap (λ z. cond z (nat_lt u.desc.id.run t.desc.id.run) (is_less_than t u)) at_zero) ∙ first)
        (sym (ap (λ z. cond z (nat_lt v.desc.id.run u.desc.id.run) (is_less_than u v)) (alike ∙ at_zero)) ∙ second)

levels_through : (a b c : ℕ) (f g h : Bool) → (a ≡ b → f ≡ true → g ≡ true → h ≡ true)
    → cond (a == b) f (nat_lt a b) ≡ true → cond (b == c) g (nat_lt b c) ≡ true → cond (a == c) h (nat_lt a c) ≡ true
levels_through a b c f g h both first second = by_tests (a == b) refl (b == c) refl first second
  where
    same : (m n : ℕ) → (m == n) ≡ true → m ≡ n
    same m n is = grind (arith, nat_tests)

    equal : (m n : ℕ) → m ≡ n → (m == n) ≡ true
    equal m n is = grind (arith, nat_tests)

    less : (m n : ℕ) → nat_lt m n ≡ true → m < n
    less m n is = grind (arith, nat_tests)

    other : (m n : ℕ) → m < n → (m == n) ≡ false
    other m n lt = grind (arith, nat_tests)

    yes_less : (m n : ℕ) → m < n → nat_lt m n ≡ true
    yes_less m n lt = grind (arith, nat_tests)

    below : a < c → cond (a == c) h (nat_lt a c) ≡ true
    below lt = ap (λ z. cond z h (nat_lt a c)) (other a c lt) ∙ yes_less a c lt

    by_tests : (p : Bool) → (a == b) ≡ p → (q : Bool) → (b == c) ≡ q → cond p f (nat_lt a b) ≡ true → cond q g (nat_lt b c) ≡ true → cond (a == c) h (nat_lt a c) ≡ true
    by_tests true e true k first second =
        ap (λ z. cond z h (nat_lt a c)) (equal a c (same a b e ∙ same b c k)) ∙ both (same a b e) first second
    by_tests true e false k first second = below (omega (arith, same a b e, less b c second))
    by_tests false e true k first second = below (omega (arith, less a b first, same b c k))
    by_tests false e false k first second = below (omega (arith, less a b first, less b c second))

pub stands_through : (t u v : Home) → is_table u ≡ true → stands_before t u ≡ true → stands_before u v ≡ true → stands_before t v ≡ true
stands_through t u v are first second =
    levels_through t.level u.level v.level (is_in_front t u) (is_in_front u v) (is_in_front t v)
    (λ same f g. front_through t u v (table_range u are) same f g) first second

-- what goes before it stands before it
stands_of : (t u : Home) → goes_before t u ≡ true → stands_before t u ≡ true
stands_of t u goes = both_second (not (same_id t.desc.id u.desc.id)) (stands_before t u) goes

-- ---- the neighbour in front

-- all stand before it, where the last of them does
pub all_stand : (front : List Home) (home : Home) → list_all is_table front ≡ true → in_order front ≡ true
    → list_all (λ t. stands_before t home) front ≡ stands_next front home
unfolding in_order
all_stand [] home each order = refl
all_stand (t ∷ []) home each order = and_true (stands_before t home)
all_stand (t ∷ u ∷ front) home each order =
    by_rest (list_all (λ t. stands_before t home) (u ∷ front)) refl
    ∙ all_stand (u ∷ front) home rest (both_second (list_all (goes_before t) (u ∷ front)) (in_order (u ∷ front)) order)
  where
    rest : list_all is_table (u ∷ front) ≡ true
    rest = both_second (is_table t) (list_all is_table (u ∷ front)) each

    goes : goes_before t u ≡ true
    goes = both_first (goes_before t u) (list_all (goes_before t) front) (both_first (list_all (goes_before t) (u ∷ front)) (in_order (u ∷ front)) order)

    by_rest : (b : Bool) → list_all (λ t. stands_before t home) (u ∷ front) ≡ b → (stands_before t home && list_all (λ t. stands_before t home) (u ∷ front)) ≡ list_all (λ t. stands_before t home) (u ∷ front)
    by_rest true is =
        let through = stands_through t u home (both_first (is_table u) (list_all is_table front) rest) (stands_of t u goes) (both_first (stands_before u home) (list_all (λ t. stands_before t home) front) is) in
        ap (λ b. b && list_all (λ t. stands_before t home) (u ∷ front)) through
    by_rest false is = ap (λ b. stands_before t home && b) is ∙ and_false (stands_before t home) ∙ sym is

-- they go before it, where they stand before it and none has its name
pub all_go : (front : List Home) (home : Home) → list_all (λ t. goes_before t home) front ≡ (list_all (λ t. stands_before t home) front && not (is_named home.desc.id front))
all_go [] home = refl
all_go (t ∷ front) home = by_first (same_id t.desc.id home.desc.id) (stands_before t home) (all_go front home)
  where
    by_first : (a b : Bool) → list_all (λ t. goes_before t home) front ≡ (list_all (λ t. stands_before t home) front && not (is_named home.desc.id front))
        → ((not a && b) && list_all (λ t. goes_before t home) front) ≡ ((b && list_all (λ t. stands_before t home) front) && not (a || is_named home.desc.id front))
    by_first true true rest = sym (and_false (list_all (λ t. stands_before t home) front))
    by_first true false rest = refl
    by_first false true rest = rest
    by_first false false rest = refl

-- whether a table may stand behind others, by the last of them and the names
pub follows : (front : List Home) (home : Home) → are_tables front ≡ true → list_all (λ t. goes_before t home) front ≡ (stands_next front home && not (is_named home.desc.id front))
unfolding are_tables
follows front home are =
    all_go front home
    ∙ ap (λ b. b && not (is_named home.desc.id front)) (all_stand front home (both_first (list_all is_table front) (in_order front) are) (both_second (list_all is_table front) (in_order front) are))

-- and one that may stand in a level
pub follows_there : (front : List Home) (home : Home) → are_tables front ≡ true
    → (is_table home && list_all (λ t. goes_before t home) front) ≡ ((is_table home && stands_next front home) && not (is_named home.desc.id front))
follows_there front home are =
    ap (λ b. is_table home && b) (follows front home are) ∙ regrouped (is_table home) (stands_next front home) (not (is_named home.desc.id front))
  where
    regrouped : (a b c : Bool) → (a && (b && c)) ≡ ((a && b) && c)
    regrouped true b c = refl
    regrouped false b c = refl

-- the names with one more
pub named_more : (front : List Home) (home : Home) (id : TableId) (old : Bool) → old ≡ is_named id front → cond (same_id home.desc.id id) true old ≡ is_named id (front ++ home ∷ [])
named_more front home id old is =
    ap (λ b. cond (same_id home.desc.id id) true b) is ∙ by_last (same_id home.desc.id id) (is_named id front)
    ∙ sym (list_any-append (λ t. same_id t.desc.id id) front (home ∷ []))
  where
    by_last : (a b : Bool) → cond a true b ≡ (b || (a || false))
    by_last true true = refl
    by_last true false = refl
    by_last false true = refl
    by_last false false = refl

pub last_stands : (front : List Home) (last home : Home) → stands_next (front ++ last ∷ []) home ≡ stands_before last home
last_stands [] last home = refl
last_stands (t ∷ []) last home = refl
last_stands (t ∷ u ∷ front) last home = last_stands (u ∷ front) last home

-- ---- the neighbour behind

-- it stands before all, where it does before the first of them
pub stands_before_all : (home : Home) (behind : List Home) → list_all is_table behind ≡ true → in_order behind ≡ true
    → list_all (stands_before home) behind ≡ stands_ahead home behind
unfolding in_order
stands_before_all home [] each order = refl
stands_before_all home (t ∷ behind) each order = by_first (stands_before home t) refl
  where
    table : is_table t ≡ true
    table = both_first (is_table t) (list_all is_table behind) each

    more : (us : List Home) → stands_before home t ≡ true → list_all (goes_before t) us ≡ true → list_all (stands_before home) us ≡ true
    more [] stands goes = refl
    more (u ∷ us) stands goes =
        both_true (stands_before home u) (list_all (stands_before home) us)
        (stands_through home t u table stands (stands_of t u (both_first (goes_before t u) (list_all (goes_before t) us) goes)))
        (more us stands (both_second (goes_before t u) (list_all (goes_before t) us) goes))

    by_first : (b : Bool) → stands_before home t ≡ b → (stands_before home t && list_all (stands_before home) behind) ≡ stands_before home t
    by_first true is = ap (λ b. b && list_all (stands_before home) behind) is ∙ more behind is (both_first (list_all (goes_before t) behind) (in_order behind) order) ∙ sym is
    by_first false is = ap (λ b. b && list_all (stands_before home) behind) is ∙ sym is

-- names are one in either order
same_swapped : (a b : TableId) → same_id a b ≡ same_id b a
same_swapped a b = (λ i. swap a.run b.run i && swap a.part b.part i)
  where
    swap : (m n : ℕ) → (m == n) ≡ (n == m)
    swap m n = grind (arith, nat_tests)

-- it goes before all, where it stands before them and none has its name
pub goes_before_those : (home : Home) (behind : List Home) → list_all (goes_before home) behind ≡ (list_all (stands_before home) behind && not (is_named home.desc.id behind))
goes_before_those home [] = refl
goes_before_those home (t ∷ behind) =
    ap (λ a. (not a && stands_before home t) && list_all (goes_before home) behind) (same_swapped home.desc.id t.desc.id)
    ∙ by_first (same_id t.desc.id home.desc.id) (stands_before home t) (goes_before_those home behind)
  where
    by_first : (a b : Bool) → list_all (goes_before home) behind ≡ (list_all (stands_before home) behind && not (is_named home.desc.id behind))
        → ((not a && b) && list_all (goes_before home) behind) ≡ ((b && list_all (stands_before home) behind) && not (a || is_named home.desc.id behind))
    by_first true true rest = sym (and_false (list_all (stands_before home) behind))
    by_first true false rest = refl
    by_first false true rest = rest
    by_first false false rest = refl

-- ---- a search by halves

goes_at : (xs : List Home) (i j : ℕ) (d : Home) → in_order xs ≡ true → i < j → j < length xs → goes_before (get_or xs i d) (get_or xs j d) ≡ true
unfolding in_order
goes_at [] i j d order low high = let never : ⊥ = omega arith in absurd never
goes_at (x ∷ xs) i zero d order low high = let never : ⊥ = omega arith in absurd never
goes_at (x ∷ xs) zero (suc j) d order low high = all_at (goes_before x) xs j d (both_first (list_all (goes_before x) xs) (in_order xs) order) (omega arith)
goes_at (x ∷ xs) (suc i) (suc j) d order low high = goes_at xs i j d (both_second (list_all (goes_before x) xs) (in_order xs) order) (omega arith) (omega arith)

-- those that stand before a table are in front
pub stands_once : (home : Home) (xs : List Home) → are_tables xs ≡ true → IsPartitionedBy (λ t. stands_before t home) xs
unfolding are_tables
stands_once home xs are i j d low high is =
    elim (nat_lt i j) as (λ b. nat_lt i j ≡ b → stands_before (get_or xs i d) home ≡ true) [
      | true ↦ λ t. stands_through (get_or xs i d) (get_or xs j d) home
          (all_at is_table xs j d (both_first (list_all is_table xs) (in_order xs) are) high)
          (stands_of (get_or xs i d) (get_or xs j d) (goes_at xs i j d (both_second (list_all is_table xs) (in_order xs) are) (grind (arith, nat_tests)) high)) is
      | false ↦ λ t. let one : i ≡ j = grind (arith, nat_tests) in subst (λ (n : ℕ). stands_before (get_or xs n d) home ≡ true) (sym one) is
    ] refl

-- ---- its place

-- all in front of the place stand before it
pub front_stands : (home : Home) (xs : List Home) → list_all (λ t. stands_before t home) (take (prefix_len (λ t. stands_before t home) xs) xs) ≡ true
front_stands home [] = refl
front_stands home (t ∷ xs) = by_first (stands_before t home) refl (front_stands home xs)
  where
    add_one : (n : ℕ) → 1 + n ≡ suc n
    add_one n = omega arith

    by_first : (b : Bool) → stands_before t home ≡ b → list_all (λ t. stands_before t home) (take (prefix_len (λ t. stands_before t home) xs) xs) ≡ true
        → list_all (λ t. stands_before t home) (take (cond b (1 + prefix_len (λ t. stands_before t home) xs) 0) (t ∷ xs)) ≡ true
    by_first true is rest =
        ap (λ (n : ℕ). list_all (λ t. stands_before t home) (take n (t ∷ xs))) (add_one (prefix_len (λ t. stands_before t home) xs))
        ∙ both_true (stands_before t home) (list_all (λ t. stands_before t home) (take (prefix_len (λ t. stands_before t home) xs) xs)) is rest
    by_first false is rest = refl

-- where none has its name, it is put behind those that stand before it
pub put_at : (home : Home) (xs : List Home) → is_named home.desc.id xs ≡ false
    → put_in home xs ≡ take (prefix_len (λ t. stands_before t home) xs) xs ++ home ∷ drop (prefix_len (λ t. stands_before t home) xs) xs
unfolding put_in
put_at home [] unnamed = refl
put_at home (t ∷ xs) unnamed = by_first (stands_before t home) refl (put_at home xs (other (same_id t.desc.id home.desc.id) (is_named home.desc.id xs) unnamed))
  where
    add_one : (n : ℕ) → 1 + n ≡ suc n
    add_one n = omega arith

    other : (a b : Bool) → (a || b) ≡ false → b ≡ false
    other true b is = absurd (cc)
    other false b is = is

    apart : (a b : Bool) → (a || b) ≡ false → a ≡ false
    apart true b is = absurd (cc)
    apart false b is = refl

    here : goes_before t home ≡ stands_before t home
    here = ap (λ a. not a && stands_before t home) (apart (same_id t.desc.id home.desc.id) (is_named home.desc.id xs) unnamed)

    n : ℕ
    n = prefix_len (λ t. stands_before t home) xs

    by_first : (b : Bool) → stands_before t home ≡ b → put_in home xs ≡ take n xs ++ home ∷ drop n xs
        → cond (goes_before t home) (t ∷ put_in home xs) (home ∷ t ∷ xs) ≡ take (cond (stands_before t home) (1 + n) 0) (t ∷ xs) ++ home ∷ drop (cond (stands_before t home) (1 + n) 0) (t ∷ xs)
    by_first true is rest =
        ap (λ b. cond b (t ∷ put_in home xs) (home ∷ t ∷ xs)) (here ∙ is)
        ∙ ap (λ (l : List Home). t ∷ l) rest
        ∙ ap (λ (k : ℕ). take k (t ∷ xs) ++ home ∷ drop k (t ∷ xs)) (sym (add_one n))
        ∙ ap (λ b. take (cond b (1 + n) 0) (t ∷ xs) ++ home ∷ drop (cond b (1 + n) 0) (t ∷ xs)) (sym is)
    by_first false is rest =
        ap (λ b. cond b (t ∷ put_in home xs) (home ∷ t ∷ xs)) (here ∙ is)
        ∙ ap (λ b. take (cond b (1 + n) 0) (t ∷ xs) ++ home ∷ drop (cond b (1 + n) 0) (t ∷ xs)) (sym is)

-- where one has its name, it may not stand among them wherever it is put
named_disorders : (home : Home) (xs : List Home) → is_named home.desc.id xs ≡ true → in_order (put_in home xs) ≡ false
unfolding put_in in_order
named_disorders home [] named = absurd (cc)
named_disorders home (t ∷ xs) named = by_goes (goes_before t home) refl (named_disorders home xs)
  where
    -- in front of them
    in_front : list_all (goes_before home) (t ∷ xs) ≡ false
    in_front = goes_before_those home (t ∷ xs) ∙ ap (λ b. list_all (stands_before home) (t ∷ xs) && not b) named ∙ and_false (list_all (stands_before home) (t ∷ xs))

    behind : (b : Bool) → same_id t.desc.id home.desc.id ≡ b → goes_before t home ≡ true → is_named home.desc.id xs ≡ true
    behind true same goes = absurd (cc (sym goes ∙ ap (λ a. not a && stands_before t home) same))
    behind false same goes = sym (ap (λ a. a || is_named home.desc.id xs) same) ∙ named

    by_goes : (b : Bool) → goes_before t home ≡ b → (is_named home.desc.id xs ≡ true → in_order (put_in home xs) ≡ false) → in_order (cond b (t ∷ put_in home xs) (home ∷ t ∷ xs)) ≡ false
    by_goes true goes rest =
        ap (λ b. list_all (goes_before t) (put_in home xs) && b) (rest (behind (same_id t.desc.id home.desc.id) refl goes))
        ∙ and_false (list_all (goes_before t) (put_in home xs))
    by_goes false goes rest = ap (λ b. b && in_order (t ∷ xs)) in_front

pub named_stands_nowhere : (home : Home) (xs : List Home) → is_named home.desc.id xs ≡ true → are_tables (put_in home xs) ≡ false
unfolding are_tables
named_stands_nowhere home xs named = ap (λ b. list_all is_table (put_in home xs) && b) (named_disorders home xs named) ∙ and_false (list_all is_table (put_in home xs))

-- ---- whether it may stand there

order_behind : (n : ℕ) (xs : List Home) → in_order xs ≡ true → in_order (drop n xs) ≡ true
unfolding in_order
order_behind zero xs order = order
order_behind (suc n) [] order = refl
order_behind (suc n) (x ∷ xs) order = order_behind n xs (both_second (list_all (goes_before x) xs) (in_order xs) order)

tables_behind : (n : ℕ) (xs : List Home) → list_all is_table xs ≡ true → list_all is_table (drop n xs) ≡ true
tables_behind zero xs each = each
tables_behind (suc n) [] each = refl
tables_behind (suc n) (x ∷ xs) each = tables_behind n xs (both_second (is_table x) (list_all is_table xs) each)

record IsUnnamed (id : TableId) (n : ℕ) (xs : List Home) : Type 0 where
  pub front : is_named id (take n xs) ≡ false
  pub behind : is_named id (drop n xs) ≡ false

unnamed : (id : TableId) (n : ℕ) (xs : List Home) → is_named id xs ≡ false → IsUnnamed id n xs
unnamed id n xs is =
    let both_are = sym (list_any-append (λ t. same_id t.desc.id id) (take n xs) (drop n xs)) ∙ ap (is_named id) (take-append-drop n xs) ∙ is in
    record { front = first (is_named id (take n xs)) (is_named id (drop n xs)) both_are; behind = second (is_named id (take n xs)) (is_named id (drop n xs)) both_are }
  where
    first : (a b : Bool) → (a || b) ≡ false → a ≡ false
    first true b is = absurd (cc)
    first false b is = refl

    second : (a b : Bool) → (a || b) ≡ false → b ≡ false
    second true b is = absurd (cc)
    second false b is = is

-- A table may come in among others where it may stand somewhere, stands before the first behind its place, and its name is
-- new.
pub comes_in : (home : Home) (xs : List Home) (n : ℕ) → are_tables xs ≡ true → n ≡ prefix_len (λ t. stands_before t home) xs
    → are_tables (put_in home xs) ≡ (is_table home && stands_ahead home (drop n xs) && not (is_named home.desc.id xs))
unfolding are_tables
comes_in home xs n are place = by_name (is_named home.desc.id xs) refl
  where
    each : list_all is_table xs ≡ true
    each = both_first (list_all is_table xs) (in_order xs) are

    order : in_order xs ≡ true
    order = both_second (list_all is_table xs) (in_order xs) are

    by_name : (b : Bool) → is_named home.desc.id xs ≡ b → are_tables (put_in home xs) ≡ (is_table home && stands_ahead home (drop n xs) && not (is_named home.desc.id xs))
    by_name true named =
        named_stands_nowhere home xs named
        ∙ sym (ap (λ b. is_table home && stands_ahead home (drop n xs) && not b) named ∙ and_false (is_table home && stands_ahead home (drop n xs)))
    by_name false new =
        let off = unnamed home.desc.id n xs new in
        let stands : list_all (λ t. stands_before t home) (take n xs) ≡ true = ap (λ (k : ℕ). list_all (λ t. stands_before t home) (take k xs)) place ∙ front_stands home xs in
        let goes = all_go (take n xs) home ∙ (λ i. stands i && not (off.front i)) in
        let put = put_at home xs new ∙ ap (λ (k : ℕ). take k xs ++ home ∷ drop k xs) (sym place) in
        may_stand home xs n are goes put
        ∙ ap (λ b. is_table home && b)
        (goes_before_those home (drop n xs) ∙ ap (λ b. list_all (stands_before home) (drop n xs) && not b) off.behind ∙ and_true (list_all (stands_before home) (drop n xs))
        ∙ stands_before_all home (drop n xs) (tables_behind n xs each) (order_behind n xs order))
        ∙ sym (ap (λ b. is_table home && stands_ahead home (drop n xs) && not b) new ∙ and_true (is_table home && stands_ahead home (drop n xs)))

-- and it is put there
pub put_there : (home : Home) (xs : List Home) (n : ℕ) → n ≡ prefix_len (λ t. stands_before t home) xs → (is_table home && stands_ahead home (drop n xs) && not (is_named home.desc.id xs)) ≡ true
    → put_in home xs ≡ take n xs ++ home ∷ drop n xs
put_there home xs n place may =
    put_at home xs (new (is_named home.desc.id xs) (both_second (is_table home && stands_ahead home (drop n xs)) (not (is_named home.desc.id xs)) may))
    ∙ ap (λ (k : ℕ). take k xs ++ home ∷ drop k xs) (sym place)
  where
    new : (b : Bool) → not b ≡ true → b ≡ false
    new true is = absurd (cc)
    new false is = refl
