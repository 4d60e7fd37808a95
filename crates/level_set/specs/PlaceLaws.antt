-- A table that may stand among others has one place there, and is put there.
use Rattle.std.proofs.Common.{◌≡◌, ℕ, Bool, true, false, cond, not, List, [], ◌∷◌, ◌++◌, Some, None, refl, sym, ◌∙◌, ap, subst, arith}
use Rattle.std.specs.Prelude.{◌&&◌, ◌==◌, nat_lt, nat_le}
use Rattle.std.specs.List.{list_all}
use Rattle.std.specs.declared.cmp.Ordering.TheVariants.{Less}
use Rattle.std.specs.Cmp.Lexicographic.{nat_list_cmp_total}
use Rattle.std.specs.Cmp.{tied_itself}
use Rattle.std.proofs.lemmas.Bool.Decides.{nat_tests}
use Rattle.kv_base.specs.Map.{byte_cmp, kept}
use Rattle.kv_base.specs.RawKeys.{is_raw_text}
use Rattle.kv_base.specs.InversionLaws.{same_some, kept_is, both_first, both_second}
use Rattle.level_set.specs.declared.home.Home.{Home}
use Rattle.level_set.specs.Tables.{same_id, is_table, is_in_front, stands_before, goes_before, in_order, are_tables}
use Rattle.level_set.specs.Edits.{put_in, with_table, IsPut, IsWithTable}
use Rattle.level_set.specs.Choices.{is_range, is_less_than}
use Rattle.level_set.specs.ChoiceLaws.{is_less, le_lt, lt_le}
use Rattle.level_set.specs.LevelLaws.{no_lesser}

pub table_range : (home : Home) → is_table home ≡ true → is_range home ≡ true
table_range home is = both_second (nat_le home.level 4 && is_raw_text home.desc.least && is_raw_text home.desc.greatest) (is_range home) is

-- of one level each is in front of the other
not_both : (a b : Home) → is_range a ≡ true → is_range b ≡ true → a.level ≡ b.level → is_in_front a b ≡ true → is_in_front b a ≡ true → ⊥
not_both a b ra rb same first second = by_level (a.level == 0) refl (ap (λ (n : ℕ). n == 0) (sym same)) first second
  where
    runs : (m n : ℕ) → nat_lt m n ≡ true → nat_lt n m ≡ true → ⊥
    runs m n x y = grind (arith, nat_tests)

    never : byte_cmp b.desc.least b.desc.least ≡ Less → ⊥
    never is = absurd (cc (sym is ∙ tied_itself nat_list_cmp_total b.desc.least))

    by_level : (z : Bool) → (a.level == 0) ≡ z → (b.level == 0) ≡ (a.level == 0)
        → cond (a.level == 0) (nat_lt b.desc.id.run a.desc.id.run) (is_less_than a b) ≡ true → cond (b.level == 0) (nat_lt a.desc.id.run b.desc.id.run) (is_less_than b a) ≡ true → ⊥
    by_level true zero alike first second =
        runs b.desc.id.run a.desc.id.run
        (sym (ap (λ z. cond z (nat_lt b.desc.id.run a.desc.id.run) (is_less_than a b)) zero) ∙ first)
        (sym (ap (λ z. cond z (nat_lt a.desc.id.run b.desc.id.run) (is_less_than b a)) (alike ∙ zero)) ∙ second)
    by_level false zero alike first second =
        let ab = is_less (byte_cmp a.desc.greatest b.desc.least) (sym (ap (λ z. cond z (nat_lt b.desc.id.run a.desc.id.run) (is_less_than a b)) zero) ∙ first) in
        let ba = is_less (byte_cmp b.desc.greatest a.desc.least) (sym (ap (λ z. cond z (nat_lt a.desc.id.run b.desc.id.run) (is_less_than b a)) (alike ∙ zero)) ∙ second) in
        let up = le_lt b.desc.least b.desc.greatest a.desc.least rb ba in
        never (nat_list_cmp_total.trans b.desc.least a.desc.greatest b.desc.least (lt_le b.desc.least a.desc.least a.desc.greatest up ra) ab)

never_both : (a b : Home) → is_table a ≡ true → is_table b ≡ true → goes_before a b ≡ true → goes_before b a ≡ true → ⊥
never_both a b ta tb first second =
    let level : a.level ≡ b.level = omega (arith, no_lesser a b first, no_lesser b a second) in
    not_both a b (table_range a ta) (table_range b tb) level (front a b level first) (front b a (sym level) second)
  where
    equal : (m n : ℕ) → m ≡ n → (m == n) ≡ true
    equal m n same = grind (arith, nat_tests)

    front : (x y : Home) → x.level ≡ y.level → goes_before x y ≡ true → is_in_front x y ≡ true
    front x y same goes =
        sym (ap (λ b. cond b (is_in_front x y) (nat_lt x.level y.level)) (equal x.level y.level same))
        ∙ both_second (not (same_id x.desc.id y.desc.id)) (stands_before x y) goes

not_back : (a b : Home) → is_table a ≡ true → is_table b ≡ true → goes_before a b ≡ true → goes_before b a ≡ false
not_back a b ta tb goes = by_answer (goes_before b a) refl
  where
    by_answer : (z : Bool) → goes_before b a ≡ z → goes_before b a ≡ false
    by_answer true is = absurd (never_both a b ta tb goes is)
    by_answer false is = is

-- where all of these go before a table, and it goes before those, it is put between them
put_between : (xs ys : List Home) (home : Home) → in_order (xs ++ home ∷ ys) ≡ true → list_all is_table (xs ++ home ∷ ys) ≡ true → put_in home (xs ++ ys) ≡ xs ++ home ∷ ys
unfolding put_in in_order
put_between [] [] home order each = refl
put_between [] (y ∷ ys) home order each =
    let goes = both_first (goes_before home y) (list_all (goes_before home) ys) (both_first (list_all (goes_before home) (y ∷ ys)) (in_order (y ∷ ys)) order) in
    let th = both_first (is_table home) (list_all is_table (y ∷ ys)) each in
    let ty = both_first (is_table y) (list_all is_table ys) (both_second (is_table home) (list_all is_table (y ∷ ys)) each) in
    ap (λ b. cond b (y ∷ put_in home ys) (home ∷ y ∷ ys)) (not_back home y th ty goes)
put_between (x ∷ xs) ys home order each =
    let first = both_first (list_all (goes_before x) (xs ++ home ∷ ys)) (in_order (xs ++ home ∷ ys)) order in
    ap (λ b. cond b (x ∷ put_in home (xs ++ ys)) (home ∷ x ∷ xs ++ ys)) (in_middle xs first)
    ∙ ap (λ (l : List Home). x ∷ l) (put_between xs ys home (both_second (list_all (goes_before x) (xs ++ home ∷ ys)) (in_order (xs ++ home ∷ ys)) order) (both_second (is_table x) (list_all is_table (xs ++ home ∷ ys)) each))
  where
    in_middle : (zs : List Home) → list_all (goes_before x) (zs ++ home ∷ ys) ≡ true → goes_before x home ≡ true
    in_middle [] all = both_first (goes_before x home) (list_all (goes_before x) ys) all
    in_middle (z ∷ zs) all = in_middle zs (both_second (goes_before x z) (list_all (goes_before x) (zs ++ home ∷ ys)) all)

pub has_its_place : (xs ys : List Home) (home : Home) → are_tables (xs ++ home ∷ ys) ≡ true → with_table (xs ++ ys) home ≡ Some (xs ++ home ∷ ys)
unfolding are_tables
has_its_place xs ys home are =
    let put = put_between xs ys home (both_second (list_all is_table (xs ++ home ∷ ys)) (in_order (xs ++ home ∷ ys)) are) (both_first (list_all is_table (xs ++ home ∷ ys)) (in_order (xs ++ home ∷ ys)) are) in
    ap (λ (l : List Home). kept are_tables (Some l)) put ∙ ap (λ b. cond b (Some (xs ++ home ∷ ys)) None) are

put_somewhere : (home : Home) (tables : List Home) → IsPut tables (put_in home tables) home
unfolding put_in
put_somewhere home [] = record { front = []; behind = []; were = refl; are = refl }
put_somewhere home (t ∷ tables) = by_test (goes_before t home) (put_somewhere home tables)
  where
    by_test : (b : Bool) → IsPut tables (put_in home tables) home → IsPut (t ∷ tables) (cond b (t ∷ put_in home tables) (home ∷ t ∷ tables)) home
    by_test true rest = record { front = t ∷ rest.front; behind = rest.behind; were = ap (λ (l : List Home). t ∷ l) rest.were; are = ap (λ (l : List Home). t ∷ l) rest.are }
    by_test false rest = record { front = []; behind = t ∷ tables; were = refl; are = refl }

pub is_with : (tables after : List Home) (home : Home) → with_table tables home ≡ Some after → IsWithTable tables after home
is_with tables after home is =
    let made = kept_is are_tables (Some (put_in home tables)) after is in
    record { put = subst (λ (l : List Home). IsPut tables l home) (same_some (put_in home tables) after made.0) (put_somewhere home tables); may = made.1 }
