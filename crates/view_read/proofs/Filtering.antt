-- Rows from a raw key on, of several lists and of all in order.
use Rattle.std.proofs.Common.{◌≡◌, ℕ, ◌≤◌, List, [], ◌∷◌, ◌++◌, refl, sym, ap, subst, ◌∙◌, Bool, true, false, cond, map, take, append-nil, Option, Some, None, arith, inl, inr}
use Rattle.std.specs.Prelude.{◌||◌, ◌⊎◌, IfSome, not, option_map, filter}
use Rattle.std.specs.List.{list_any, list_all, Contains, count_by}
use Rattle.std.specs.Ordering.{is_eq}
use Rattle.std.proofs.lemmas.List.Elements.{filter-append}
use Rattle.std.proofs.lemmas.List.Sums.{sum_by-cons}
use Rattle.kv_base.specs.Map.{Bytes}
use Rattle.mem_cursor.specs.RowsFromLaws.{ordered_filtered}
use Rattle.kv_base.specs.declared.name.FileName.{FileName}
use Rattle.kv_base.specs.declared.row.Row.{Row}
use Rattle.row_model.specs.Rows.{at}
use Rattle.row_model.specs.RowMapLaws.{at_merged}
use Rattle.row_model.specs.RowOrder.{row_cmp, is_below}
use Rattle.row_model.specs.RowLaws.{there_first, there_behind, there_cases, there_never}
use Rattle.row_model.specs.ReplayLaws.{one_order}
use Rattle.lives_model.specs.Page.{page}
use Rattle.mem_table.specs.Search.{rows_from}
use Rattle.merge_rows.specs.Merged.{AreDistinct, rows_in_order, told_rows, is_untold, all_told_rows, merged_rows}
use Rattle.merge_rows.specs.MergedLaws.{ordered_in_order, same_in_order}
use Rattle.merge_rows.specs.Parts.{CursorPart}
use Rattle.sst_file.specs.States.{TableState, table_off}
use Rattle.view_read.specs.SourceParts.{memory_part, frozen_parts, table_parts}
use Rattle.view_read.specs.Sources.{joined_rows, frozen_told, table_rows, tables_off}
use Rattle.view_read.specs.Walk.{greater, walked}
use Rattle.view_read.proofs.Paging.{starts, page_from, from_prefix}

-- ---- rows that pass a test

module _ (q : Row → Bool) where
  there_filtered : (xs : List Row) (r : Row) → Contains xs r → q r ≡ true → Contains (filter q xs) r
  there_filtered [] r t e = absurd (there_never r t)
  there_filtered (x ∷ xs) r t e = by (q x) refl (there_cases xs r x t) (λ k. there_filtered xs r k e)
    where
      by : (b : Bool) → q x ≡ b → (x ≡ r) ⊎ Contains xs r → (Contains xs r → Contains (filter q xs) r) → Contains (cond b (x ∷ filter q xs) (filter q xs)) r
      by true f (inl is) on = subst (λ (y : Row). Contains (x ∷ filter q xs) y) is (there_first (filter q xs) x)
      by true f (inr k) on = there_behind (filter q xs) r x (on k)
      by false f (inl is) on = let never : false ≡ true = sym f ∙ ap q is ∙ e in absurd (cc)
      by false f (inr k) on = on k

  in_filtered : (xs : List Row) (r : Row) → Contains (filter q xs) r → Contains xs r × (q r ≡ true)
  in_filtered [] r t = absurd (there_never r t)
  in_filtered (x ∷ xs) r t = by (q x) refl t (in_filtered xs r)
    where
      by : (b : Bool) → q x ≡ b → Contains (cond b (x ∷ filter q xs) (filter q xs)) r → (Contains (filter q xs) r → Contains xs r × (q r ≡ true)) → Contains (x ∷ xs) r × (q r ≡ true)
      by true f t on = elim (there_cases (filter q xs) r x t) [
        | inl is ↦ (subst (λ (y : Row). Contains (x ∷ xs) y) is (there_first xs x), ap q (sym is) ∙ f)
        | inr k ↦ let o = on k in (there_behind xs r x o.0, o.1)
      ]
      by false f t on = let o = on t in (there_behind xs r x o.0, o.1)

  fewer_filtered : (p : Row → Bool) (xs : List Row) → count_by p (filter q xs) ≤ count_by p xs
  fewer_filtered p [] = omega arith
  fewer_filtered p (x ∷ xs) = by (q x) (fewer_filtered p xs)
    where
      by : (b : Bool) → count_by p (filter q xs) ≤ count_by p xs → count_by p (cond b (x ∷ filter q xs) (filter q xs)) ≤ count_by p (x ∷ xs)
      by true rest = let one = sum_by-cons (λ y. cond (p y) 1 0) x (filter q xs) in let other = sum_by-cons (λ y. cond (p y) 1 0) x xs in omega (arith, one, other, rest)
      by false rest = let other = sum_by-cons (λ y. cond (p y) 1 0) x xs in omega (arith, other, rest)

  distinct_filtered : (rows : List Row) → AreDistinct rows → AreDistinct (filter q rows)
  distinct_filtered rows h = λ row. let few = fewer_filtered (λ other. is_eq (row_cmp row other)) rows in let all = h row in omega (arith, few, all)

  order_filtered : (rows : List Row) → AreDistinct rows → rows_in_order (filter q rows) ≡ filter q (rows_in_order rows)
  order_filtered rows h =
      let some = same_in_order (filter q rows) in
      let all = same_in_order rows in
      one_order (rows_in_order (filter q rows)) (filter q (rows_in_order rows)) (ordered_in_order (filter q rows) (distinct_filtered rows h)) (ordered_filtered q (rows_in_order rows) (ordered_in_order rows h))
      ((λ r t. let o = in_filtered rows r (some.1 r t) in there_filtered (rows_in_order rows) r (all.0 r o.0) o.1), (λ r t. let o = in_filtered (rows_in_order rows) r t in some.0 r (there_filtered rows r (all.1 r o.0) o.1)))

  all_filtered : (lists : List (Option (List Row))) → all_told_rows (map (option_map (filter q)) lists) ≡ filter q (all_told_rows lists)
  all_filtered [] = refl
  all_filtered (l ∷ lists) = (λ i. one l i ++ all_filtered lists i) ∙ sym (filter-append q (told_rows l) (all_told_rows lists))
    where
      one : (o : Option (List Row)) → told_rows (option_map (filter q) o) ≡ filter q (told_rows o)
      one None = refl
      one (Some rows) = refl

  untold_filtered : (lists : List (Option (List Row))) → list_any is_untold (map (option_map (filter q)) lists) ≡ list_any is_untold lists
  untold_filtered [] = refl
  untold_filtered (l ∷ lists) = (λ i. one l i || untold_filtered lists i)
    where
      one : (o : Option (List Row)) → is_untold (option_map (filter q) o) ≡ is_untold o
      one None = refl
      one (Some rows) = refl

-- ---- all rows from a raw key on

abbrev from_test : Bytes → Row → Bool
from_test start row = not (is_below start row)

pub distinct_from : (start : Bytes) (lists : List (Option (List Row))) → AreDistinct (all_told_rows lists) → AreDistinct (all_told_rows (map (option_map (rows_from start)) lists))
distinct_from start lists h = subst AreDistinct (sym (all_filtered (from_test start) lists)) (distinct_filtered (from_test start) (all_told_rows lists) h)

pub merged_from : (start : Bytes) (lists : List (Option (List Row))) → AreDistinct (all_told_rows lists)
    → merged_rows (map (option_map (rows_from start)) lists) ≡ option_map (λ rows. rows_from start (rows_in_order rows)) (joined_rows lists)
merged_from start lists h =
    (λ i. cond (untold_filtered (from_test start) lists i) None (Some ((ap rows_in_order (all_filtered (from_test start) lists) ∙ order_filtered (from_test start) (all_told_rows lists) h) i))) ∙ by (list_any is_untold lists)
  where
    by : (b : Bool) → cond b None (Some (rows_from start (rows_in_order (all_told_rows lists)))) ≡ option_map (λ rows. rows_from start (rows_in_order rows)) (cond b None (Some (all_told_rows lists)))
    by true = refl
    by false = refl

-- none of them is below the prefix
pub from_there : (lists : List (Option (List Row))) (from prefix start : Bytes) (now : Option (List Row)) → AreDistinct (all_told_rows lists) → start ≡ greater from prefix
    → now ≡ merged_rows (map (option_map (rows_from start)) lists) → IfSome now (λ all. list_all (λ row. not (is_below prefix row)) all ≡ true)
from_there lists from prefix start now h is told =
    subst (λ o. IfSome o (λ all. list_all (λ row. not (is_below prefix row)) all ≡ true)) (sym (told ∙ merged_from start lists h)) (by (list_any is_untold lists))
  where
    by : (b : Bool) → IfSome (option_map (λ rows. rows_from start (rows_in_order rows)) (cond b None (Some (all_told_rows lists)))) (λ all. list_all (λ row. not (is_below prefix row)) all ≡ true)
    by true = tt
    by false = from_prefix from prefix start (rows_in_order (all_told_rows lists)) is

-- what shows of them is the page
pub page_there : (lists : List (Option (List Row))) (s : ℕ) (from prefix start : Bytes) (limit : ℕ) (now : Option (List Row)) (found : List (Bytes × Bytes)) → AreDistinct (all_told_rows lists) → start ≡ greater from prefix
    → now ≡ merged_rows (map (option_map (rows_from start)) lists) → IfSome now (λ all. found ≡ take limit (filter (starts prefix) (walked s None all)))
    → IfSome (option_map (λ rows. at rows s) (joined_rows lists)) (λ c. found ≡ page c from prefix limit)
page_there lists s from prefix start limit now found h is told was =
    by (list_any is_untold lists) (subst (λ o. IfSome o (λ all. found ≡ take limit (filter (starts prefix) (walked s None all)))) (told ∙ merged_from start lists h) was)
  where
    all : List Row
    all = all_told_rows lists

    same : at (rows_in_order all) s ≡ at all s
    same = at_merged [] all s ∙ ap (λ (rows : List Row). at rows s) (append-nil all)

    by : (b : Bool) → IfSome (option_map (λ rows. rows_from start (rows_in_order rows)) (cond b None (Some all))) (λ rows. found ≡ take limit (filter (starts prefix) (walked s None rows)))
        → IfSome (option_map (λ rows. at rows s) (cond b None (Some all))) (λ c. found ≡ page c from prefix limit)
    by true p = tt
    by false p = p ∙ sym (page_from (rows_in_order all) s from prefix start limit (ordered_in_order all h) is) ∙ ap (λ c. page c from prefix limit) same

-- ---- what the cursors of the sources tell

pub pair_rows : {X : Type 0} (rows : X → Option (List Row)) (off : X → FileName → ℕ → Bool) (xs : List X) → map (λ (p : CursorPart). p.0) (map (λ x. (rows x, off x)) xs) ≡ map rows xs
pair_rows rows off [] = refl
pair_rows rows off (x ∷ xs) = ap (λ ls. rows x ∷ ls) (pair_rows rows off xs)

pub pair_off : {X : Type 0} (rows : X → Option (List Row)) (off : X → FileName → ℕ → Bool) (xs : List X) (file : FileName) (place : ℕ) → list_any (λ (p : CursorPart). p.1 file place) (map (λ x. (rows x, off x)) xs) ≡ list_any (λ x. off x file place) xs
pair_off rows off [] file place = refl
pair_off rows off (x ∷ xs) file place = ap (λ b. off x file place || b) (pair_off rows off xs file place)

table_parts_rows : (raw : Bytes) (tables : List TableState) → map (λ (p : CursorPart). p.0) (table_parts raw tables) ≡ map (option_map (rows_from raw)) (table_rows tables)
table_parts_rows raw [] = refl
table_parts_rows raw (t ∷ tables) = ap (λ ls. option_map (rows_from raw) t.rows ∷ ls) (table_parts_rows raw tables)

table_parts_off : (raw : Bytes) (tables : List TableState) (file : FileName) (place : ℕ) → list_any (λ (p : CursorPart). p.1 file place) (table_parts raw tables) ≡ tables_off tables file place
table_parts_off raw [] file place = refl
table_parts_off raw (t ∷ tables) file place = ap (λ b. table_off t file place || b) (table_parts_off raw tables file place)

pub parts_rows : (raw : Bytes) (memory : List Row) (frozen : Option (List Row)) (tables : List TableState)
    → map (λ (p : CursorPart). p.0) ((memory_part raw memory ∷ frozen_parts raw frozen) ++ table_parts raw tables) ≡ map (option_map (rows_from raw)) ((Some memory ∷ frozen_told frozen) ++ table_rows tables)
parts_rows raw memory None tables = ap (λ ls. Some (rows_from raw memory) ∷ ls) (table_parts_rows raw tables)
parts_rows raw memory (Some rows) tables = ap (λ ls. Some (rows_from raw memory) ∷ Some (rows_from raw rows) ∷ ls) (table_parts_rows raw tables)

pub parts_off : (raw : Bytes) (memory : List Row) (frozen : Option (List Row)) (tables : List TableState) (file : FileName) (place : ℕ)
    → list_any (λ (p : CursorPart). p.1 file place) ((memory_part raw memory ∷ frozen_parts raw frozen) ++ table_parts raw tables) ≡ tables_off tables file place
parts_off raw memory None tables file place = table_parts_off raw tables file place
parts_off raw memory (Some rows) tables file place = table_parts_off raw tables file place

pub sources_told : {X : Type 0} (rows : X → Option (List Row)) (off : X → FileName → ℕ → Bool) (xs : List X) (raw : Bytes) (memory : List Row) (frozen : Option (List Row)) (tables : List TableState)
    → map (λ x. (rows x, off x)) xs ≡ (memory_part raw memory ∷ frozen_parts raw frozen) ++ table_parts raw tables → map rows xs ≡ map (option_map (rows_from raw)) ((Some memory ∷ frozen_told frozen) ++ table_rows tables)
sources_told rows off xs raw memory frozen tables is = sym (pair_rows rows off xs) ∙ ap (map (λ (p : CursorPart). p.0)) is ∙ parts_rows raw memory frozen tables

pub sources_off : {X : Type 0} (rows : X → Option (List Row)) (off : X → FileName → ℕ → Bool) (xs : List X) (raw : Bytes) (memory : List Row) (frozen : Option (List Row)) (tables : List TableState)
    → map (λ x. (rows x, off x)) xs ≡ (memory_part raw memory ∷ frozen_parts raw frozen) ++ table_parts raw tables → (file : FileName) (place : ℕ) → list_any (λ x. off x file place) xs ≡ tables_off tables file place
sources_off rows off xs raw memory frozen tables is file place =
    sym (pair_off rows off xs file place) ∙ ap (list_any (λ (p : CursorPart). p.1 file place)) is ∙ parts_off raw memory frozen tables file place
