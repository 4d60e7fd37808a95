-- The tables of one level stand side by side.
use Rattle.std.proofs.Common.{◌≡◌, ℕ, suc, ◌+◌, ◌-◌, ◌<◌, ◌≤◌, Bool, true, false, cond, not, List, [], ◌∷◌, take, drop, refl, sym, ◌∙◌, ap, arith}
use Rattle.std.specs.Prelude.{◌==◌, nat_lt, nat_le}
use Rattle.std.specs.List.{list_all, slice_range}
use Rattle.std.proofs.lemmas.Bool.Decides.{nat_tests}
use Rattle.kv_base.specs.InversionLaws.{both_first, both_second}
use Rattle.level_set.specs.declared.home.Home.{Home}
use Rattle.level_set.specs.Tables.{same_id, is_table, is_in_front, stands_before, goes_before, in_order, are_tables, at_level, lesser}
use Rattle.level_set.specs.EditLaws.{both_true}

pub lesser_more : (level : ℕ) (tables : List Home) → lesser level tables ≤ lesser (level + 1) tables
lesser_more level [] = omega arith
lesser_more level (t ∷ tables) = by_level (nat_lt t.level level) refl (lesser_more level tables)
  where
    upto : nat_lt t.level level ≡ true → nat_lt t.level (level + 1) ≡ true
    upto below = grind (arith, nat_tests)

    by_level : (b : Bool) → nat_lt t.level level ≡ b → lesser level tables ≤ lesser (level + 1) tables → cond b (1 + lesser level tables) 0 ≤ cond (nat_lt t.level (level + 1)) (1 + lesser (level + 1) tables) 0
    by_level true below rest = let more = ap (λ c. cond c (1 + lesser (level + 1) tables) 0) (upto below) in omega (arith, rest, more)
    by_level false below rest = omega arith

abbrev is_from : ℕ → Home → Bool
is_from level home = nat_le level home.level

-- a table goes before none of a lesser level
pub no_lesser : (t u : Home) → goes_before t u ≡ true → t.level ≤ u.level
no_lesser t u goes = by_level (t.level == u.level) refl (both_second (not (same_id t.desc.id u.desc.id)) (stands_before t u) goes)
  where
    equal : (m n : ℕ) → (m == n) ≡ true → m ≤ n
    equal m n is = grind (arith, nat_tests)

    less : (m n : ℕ) → nat_lt m n ≡ true → m ≤ n
    less m n is = grind (arith, nat_tests)

    by_level : (b : Bool) → (t.level == u.level) ≡ b → cond b (is_in_front t u) (nat_lt t.level u.level) ≡ true → t.level ≤ u.level
    by_level true same front = equal t.level u.level same
    by_level false same lt = less t.level u.level lt

deeper : (level : ℕ) (t : Home) (tables : List Home) → level ≤ t.level → list_all (goes_before t) tables ≡ true → list_all (is_from level) tables ≡ true
deeper level t [] le goes = refl
deeper level t (u ∷ tables) le goes =
    let one = no_lesser t u (both_first (goes_before t u) (list_all (goes_before t) tables) goes) in
    both_true (is_from level u) (list_all (is_from level) tables) (upto level u.level (omega (arith, one, le))) (deeper level t tables le (both_second (goes_before t u) (list_all (goes_before t) tables) goes))
  where
    upto : (m n : ℕ) → m ≤ n → nat_le m n ≡ true
    upto m n le = grind (arith, nat_tests)

none_lesser : (level : ℕ) (tables : List Home) → list_all (is_from level) tables ≡ true → lesser level tables ≡ 0
none_lesser level [] from = refl
none_lesser level (u ∷ tables) from = ap (λ b. cond b (1 + lesser level tables) 0) (not_less u.level (both_first (is_from level u) (list_all (is_from level) tables) from))
  where
    not_less : (n : ℕ) → nat_le level n ≡ true → nat_lt n level ≡ false
    not_less n le = grind (arith, nat_tests)

none_there : (level : ℕ) (tables : List Home) → list_all (is_from (level + 1)) tables ≡ true → at_level level tables ≡ []
none_there level [] from = refl
none_there level (u ∷ tables) from =
    ap (λ b. cond b (u ∷ at_level level tables) (at_level level tables)) (other u.level (both_first (is_from (level + 1) u) (list_all (is_from (level + 1)) tables) from))
    ∙ none_there level tables (both_second (is_from (level + 1) u) (list_all (is_from (level + 1)) tables) from)
  where
    other : (n : ℕ) → nat_le (level + 1) n ≡ true → (n == level) ≡ false
    other n le = grind (arith, nat_tests)

-- from how a table's level stands to this one
pub data LevelOrder (m n : ℕ) : Type 0 where
  Below : m < n → LevelOrder m n
  At : m ≡ n → LevelOrder m n
  Above : n < m → LevelOrder m n

side : (m n : ℕ) → LevelOrder m n
side m n = by_less (nat_lt m n) refl (nat_lt n m) refl
  where
    less : (m n : ℕ) → nat_lt m n ≡ true → m < n
    less m n is = grind (arith, nat_tests)

    equal : (m n : ℕ) → nat_lt m n ≡ false → nat_lt n m ≡ false → m ≡ n
    equal m n below above = grind (arith, nat_tests)

    by_less : (a : Bool) → nat_lt m n ≡ a → (b : Bool) → nat_lt n m ≡ b → LevelOrder m n
    by_less true below b above = Below (less m n below)
    by_less false below true above = Above (less n m above)
    by_less false below false above = At (equal m n below above)

order_level : (level : ℕ) (tables : List Home) → in_order tables ≡ true → slice_range tables (lesser level tables) (lesser (level + 1) tables) ≡ at_level level tables
unfolding in_order
order_level level [] order = refl
order_level level (t ∷ tables) order =
    let goes = both_first (list_all (goes_before t) tables) (in_order tables) order in
    by_side (side t.level level) goes (order_level level tables (both_second (list_all (goes_before t) tables) (in_order tables) order))
  where
    yes : (m n : ℕ) → m < n → nat_lt m n ≡ true
    yes m n lt = grind (arith, nat_tests)

    no : (m n : ℕ) → n ≤ m → nat_lt m n ≡ false
    no m n le = grind (arith, nat_tests)

    other : (m n : ℕ) → m < n → (m == n) ≡ false
    other m n lt = grind (arith, nat_tests)

    otherwise : (m n : ℕ) → n < m → (m == n) ≡ false
    otherwise m n lt = grind (arith, nat_tests)

    equal : (m n : ℕ) → m ≡ n → (m == n) ≡ true
    equal m n same = grind (arith, nat_tests)

    add_one : (n : ℕ) → 1 + n ≡ suc n
    add_one n = omega arith

    one_off : (m n : ℕ) → (1 + m) - (1 + n) ≡ m - n
    one_off m n = omega arith

    nothing_off : (n : ℕ) → n - 0 ≡ n
    nothing_off n = omega arith

    whole : (a b : Bool) (m n : ℕ) → nat_lt t.level level ≡ a → nat_lt t.level (level + 1) ≡ b → lesser level tables ≡ m → lesser (level + 1) tables ≡ n
        → slice_range (t ∷ tables) (lesser level (t ∷ tables)) (lesser (level + 1) (t ∷ tables)) ≡ take (cond b (1 + n) 0 - cond a (1 + m) 0) (drop (cond a (1 + m) 0) (t ∷ tables))
    whole a b m n below upto from to = (λ i. take (cond (upto i) (1 + to i) 0 - cond (below i) (1 + from i) 0) (drop (cond (below i) (1 + from i) 0) (t ∷ tables)))

    by_side : LevelOrder t.level level → list_all (goes_before t) tables ≡ true → slice_range tables (lesser level tables) (lesser (level + 1) tables) ≡ at_level level tables
        → slice_range (t ∷ tables) (lesser level (t ∷ tables)) (lesser (level + 1) (t ∷ tables)) ≡ at_level level (t ∷ tables)
    by_side (Below lt) goes rest =
        let m = lesser level tables in
        let n = lesser (level + 1) tables in
        whole true true m n (yes t.level level lt) (yes t.level (level + 1) (omega (arith, lt))) refl refl
        ∙ (λ i. take (one_off n m i) (drop (add_one m i) (t ∷ tables)))
        ∙ rest
        ∙ sym (ap (λ b. cond b (t ∷ at_level level tables) (at_level level tables)) (other t.level level lt))
    by_side (At same) goes rest =
        let n = lesser (level + 1) tables in
        let first : lesser level tables ≡ 0 = none_lesser level tables (deeper level t tables (omega (arith, same)) goes) in
        whole false true 0 n (no t.level level (omega (arith, same))) (yes t.level (level + 1) (omega (arith, same))) first refl
        ∙ (λ i. take ((nothing_off (1 + n) ∙ add_one n) i) (t ∷ tables))
        ∙ ap (λ (l : List Home). t ∷ l) (sym (λ i. take ((ap (λ (k : ℕ). n - k) first ∙ nothing_off n) i) (drop (first i) tables)) ∙ rest)
        ∙ sym (ap (λ b. cond b (t ∷ at_level level tables) (at_level level tables)) (equal t.level level same))
    by_side (Above lt) goes rest =
        let first : lesser level tables ≡ 0 = none_lesser level tables (deeper level t tables (omega (arith, lt)) goes) in
        let second : lesser (level + 1) tables ≡ 0 = none_lesser (level + 1) tables (deeper (level + 1) t tables (omega (arith, lt)) goes) in
        whole false false 0 0 (no t.level level (omega (arith, lt))) (no t.level (level + 1) (omega (arith, lt))) first second
        ∙ sym (ap (λ b. cond b (t ∷ at_level level tables) (at_level level tables)) (otherwise t.level level lt) ∙ none_there level tables (deeper (level + 1) t tables (omega (arith, lt)) goes))

pub level_stands : (level : ℕ) (tables : List Home) → are_tables tables ≡ true → slice_range tables (lesser level tables) (lesser (level + 1) tables) ≡ at_level level tables
unfolding are_tables
level_stands level tables are = order_level level tables (both_second (list_all is_table tables) (in_order tables) are)
