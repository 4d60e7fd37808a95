-- A table that comes in among others, and tables that go.
use Rattle.std.proofs.Common.{◌≡◌, ℕ, Bool, true, false, cond, List, [], ◌∷◌, ◌++◌, length, take, drop, Option, Some, None, option_map, option_and_then, refl, sym, ◌∙◌, ap, append_assoc, take-append-drop}
use Rattle.std.specs.Prelude.{◌&&◌, ◌==◌}
use Rattle.std.specs.List.{list_all}
use Rattle.kv_base.specs.Map.{kept}
use Rattle.kv_base.specs.declared.name.TableId.{TableId}
use Rattle.level_set.specs.declared.home.Home.{Home}
use Rattle.level_set.specs.Tables.{goes_before, is_table, are_tables}
use Rattle.level_set.specs.Edits.{is_first, tables_without, put_in, with_tables}
use Rattle.level_set.specs.EditLaws.{tables_middle, tables_front, tables_push}

-- ---- its place

module _ (home : Home) (tables : List Home) (i : ℕ) where
  pub may_stand : are_tables tables ≡ true → list_all (λ t. goes_before t home) (take i tables) ≡ true → put_in home tables ≡ take i tables ++ home ∷ drop i tables
      → are_tables (put_in home tables) ≡ (is_table home && list_all (goes_before home) (drop i tables))
  may_stand are front put = ap are_tables put ∙ tables_middle (take i tables) home (drop i tables) (ap are_tables (take-append-drop i tables) ∙ are) front

-- ---- with more

pub with_more : (now tables more behind : List Home) (home : Home) → more ≡ home ∷ behind → are_tables (put_in home now) ≡ true → tables ≡ put_in home now → with_tables now more ≡ with_tables tables behind
unfolding with_tables
with_more now tables more behind home is may put =
    ap (with_tables now) is
    ∙ ap (λ b. option_and_then (λ (l : List Home). with_tables l behind) (cond b (Some (put_in home now)) None)) may
    ∙ ap (λ (l : List Home). with_tables l behind) (sym put)

pub inserted : (slice now new : List Home) (at : ℕ) (made home : Home) → slice ≡ now → made ≡ home → new ≡ take at now ++ made ∷ drop at now → put_in home slice ≡ take at slice ++ home ∷ drop at slice → new ≡ put_in home now
inserted slice now new at made home same copy is put =
    is ∙ (λ i. take at (sym same i) ++ copy i ∷ drop at (sym same i)) ∙ sym put ∙ ap (put_in home) same

pub with_none : (now more behind : List Home) (home : Home) → more ≡ home ∷ behind → are_tables (put_in home now) ≡ false → with_tables now more ≡ None
unfolding with_tables
with_none now more behind home is may =
    ap (with_tables now) is
    ∙ ap (λ b. option_and_then (λ (l : List Home). with_tables l behind) (cond b (Some (put_in home now)) None)) may

pub with_all : (now more : List Home) → more ≡ [] → with_tables now more ≡ Some now
unfolding with_tables
with_all now more none = ap (with_tables now) none

-- ---- without some

pub front_none : (o : Option (List Home)) → option_map (λ (rest : List Home). [] ++ rest) o ≡ o
front_none None = refl
front_none (Some rest) = refl

pub goes : (left behind : List Home) (ids : List TableId) (home : Home) → left ≡ home ∷ behind → is_first home.desc.id ids ≡ true → tables_without left ids ≡ tables_without behind (drop 1 ids)
goes left behind [] home is first = absurd (cc)
goes left behind (id ∷ ids) home is first =
    ap (λ (l : List Home). tables_without l (id ∷ ids)) is
    ∙ ap (λ b. cond b (tables_without behind ids) (option_map (λ rest. home ∷ rest) (tables_without behind (id ∷ ids)))) first

pub stays : (staying left behind more : List Home) (ids : List TableId) (home : Home) → left ≡ home ∷ behind → is_first home.desc.id ids ≡ false → more ≡ staying ++ home ∷ []
    → option_map (λ (rest : List Home). staying ++ rest) (tables_without left ids) ≡ option_map (λ (rest : List Home). more ++ rest) (tables_without behind ids)
stays staying left behind more ids home is first pushed =
    ap (λ (o : Option (List Home)). option_map (λ (rest : List Home). staying ++ rest) o) (ap (λ (l : List Home). tables_without l ids) is ∙ kept_here ids first)
    ∙ through (tables_without behind ids)
    ∙ ap (λ (l : List Home). option_map (λ (rest : List Home). l ++ rest) (tables_without behind ids)) (sym pushed)
  where
    kept_here : (ids : List TableId) → is_first home.desc.id ids ≡ false → tables_without (home ∷ behind) ids ≡ option_map (λ (rest : List Home). home ∷ rest) (tables_without behind ids)
    kept_here [] first = refl
    kept_here (id ∷ ids) first = ap (λ b. cond b (tables_without behind ids) (option_map (λ rest. home ∷ rest) (tables_without behind (id ∷ ids)))) first

    through : (o : Option (List Home)) → option_map (λ (rest : List Home). staying ++ rest) (option_map (λ (rest : List Home). home ∷ rest) o) ≡ option_map (λ (rest : List Home). (staying ++ home ∷ []) ++ rest) o
    through None = refl
    through (Some rest) = ap (λ (l : List Home). Some l) (sym (append_assoc staying (home ∷ []) rest))

append_none : (xs : List Home) → xs ++ [] ≡ xs
append_none [] = refl
append_none (x ∷ xs) = ap (λ (l : List Home). x ∷ l) (append_none xs)

pub all_went : (staying left : List Home) (ids : List TableId) → left ≡ [] → ids ≡ [] → option_map (λ (rest : List Home). staying ++ rest) (tables_without left ids) ≡ Some staying
all_went staying left ids none gone =
    (λ i. option_map (λ (rest : List Home). staying ++ rest) (tables_without (none i) (gone i))) ∙ ap (λ (l : List Home). Some l) (append_none staying)

pub not_there : (staying left : List Home) (ids : List TableId) → left ≡ [] → (length ids == 0) ≡ false → option_map (λ (rest : List Home). staying ++ rest) (tables_without left ids) ≡ None
not_there staying left [] none some = absurd (cc)
not_there staying left (id ∷ ids) none some = ap (λ (l : List Home). option_map (λ (rest : List Home). staying ++ rest) (tables_without l (id ∷ ids))) none

-- ---- tables as they stand

pub stand_more : (homes front more : List Home) (home : Home) → are_tables front ≡ true → more ≡ front ++ home ∷ [] → (is_table home && list_all (λ t. goes_before t home) front) ≡ true → are_tables more ≡ true
stand_more homes front more home are is may = ap are_tables is ∙ tables_push front home are ∙ may

pub stand_no_more : (homes front behind more : List Home) (home : Home) → are_tables front ≡ true → more ≡ front ++ home ∷ [] → homes ≡ more ++ behind → (is_table home && list_all (λ t. goes_before t home) front) ≡ false
    → kept are_tables (Some homes) ≡ None
stand_no_more homes front behind more home are is split may = by_answer (are_tables homes) refl
  where
    never : are_tables homes ≡ true → ⊥
    never whole = absurd (cc (sym (ap are_tables is ∙ tables_push front home are ∙ may) ∙ tables_front more behind (ap are_tables (sym split) ∙ whole)))

    by_answer : (b : Bool) → are_tables homes ≡ b → cond b (Some homes) None ≡ None
    by_answer true is = absurd (never is)
    by_answer false is = refl
