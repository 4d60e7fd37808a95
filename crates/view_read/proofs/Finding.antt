-- The newest row of several tables, one after the other.
use Rattle.std.proofs.Common.{◌≡◌, ℕ, zero, suc, ◌+◌, ◌<◌, ◌≤◌, List, [], ◌∷◌, ◌++◌, refl, sym, ap, subst, ◌∙◌, Bool, true, false, cond, length, take, map, get_or, append-nil, append_assoc, Option, Some, None, arith}
use Rattle.std.specs.Prelude.{IfSome, IsTrue, ◌||◌, option_map, option_and_then}
use Rattle.std.specs.List.{list_any}
use Rattle.std.proofs.lemmas.List.{map-append, take_more, take_all}
use Rattle.std.proofs.lemmas.Grind.{flat_map-append}
use Rattle.std.proofs.lemmas.List.Folds.{list_any_at, list_any-append}
use Rattle.kv_base.specs.Map.{Bytes, get}
use Rattle.kv_base.specs.declared.name.FileName.{FileName}
use Rattle.kv_base.specs.declared.row.Row.{Row}
use Rattle.row_model.specs.Rows.{at, seen_at, newer}
use Rattle.row_model.specs.RowMapLaws.{get_at}
use Rattle.merge_rows.specs.Merged.{is_untold, all_told_rows}
use Rattle.sst_file.specs.States.{TableState, table_off}
use Rattle.mem_table.specs.Search.{rows_from}
use Rattle.view_read.specs.SourceParts.{table_parts}
use Rattle.view_read.specs.Sources.{joined_rows, frozen_told, table_rows, all_tables, tables_off}
use Rattle.view_read.specs.Shows.{ShowsInAll}
use Rattle.view_read.proofs.Showing.{shows_one, shows_both}

rows_more : (tables : List TableState) (i : ℕ) (table : TableState) → i < length tables → table ≡ get_or tables i table → table_rows (take (i + 1) tables) ≡ table_rows (take i tables) ++ table.rows ∷ []
rows_more tables i table low is =
    ap table_rows (take_more tables i table low ∙ ap (λ (t : TableState). take i tables ++ t ∷ []) (sym is)) ∙ map-append (λ (t : TableState). t.rows) (take i tables) (table ∷ [])

-- one table more
pub tables_more : (tables : List TableState) (i : ℕ) (table : TableState) → i < length tables → table ≡ get_or tables i table → (s : ℕ) (raw : Bytes) (newest found : Option Row)
    → ShowsInAll (table_rows (take i tables)) s raw newest → IfSome table.rows (λ rows. found ≡ seen_at rows s raw) → ShowsInAll (table_rows (take (i + 1) tables)) s raw (newer newest found)
tables_more tables i table low is s raw newest found was here =
    subst (λ ls. ShowsInAll ls s raw (newer newest found)) (sym (rows_more tables i table low is)) (shows_both (table_rows (take i tables)) (table.rows ∷ []) s raw newest found was (shows_one table.rows s raw found here))

pub tables_all : (tables : List TableState) (i : ℕ) → length tables ≤ i → (s : ℕ) (raw : Bytes) (newest : Option Row) → ShowsInAll (table_rows (take i tables)) s raw newest → ShowsInAll (table_rows tables) s raw newest
tables_all tables i end s raw newest was = subst (λ ts. ShowsInAll (table_rows ts) s raw newest) (take_all i tables end) was

levels_are : (levels : List (List TableState)) (i : ℕ) (level : List TableState) → i < length levels → level ≡ get_or levels i level
    → table_rows (all_tables (take (i + 1) levels)) ≡ table_rows (all_tables (take i levels)) ++ table_rows level
levels_are levels i level low is =
    ap (λ ls. table_rows (all_tables ls)) (take_more levels i level low ∙ ap (λ (l : List TableState). take i levels ++ l ∷ []) (sym is))
    ∙ ap table_rows (flat_map-append (λ (l : List TableState). l) (take i levels) (level ∷ []) ∙ ap (λ (ts : List TableState). all_tables (take i levels) ++ ts) (append-nil level))
    ∙ map-append (λ (t : TableState). t.rows) (all_tables (take i levels)) level

-- one level more
pub levels_more : (levels : List (List TableState)) (i : ℕ) (level : List TableState) → i < length levels → level ≡ get_or levels i level → (s : ℕ) (raw : Bytes) (newest found : Option Row)
    → ShowsInAll (table_rows (all_tables (take i levels))) s raw newest → ShowsInAll (table_rows level) s raw found → ShowsInAll (table_rows (all_tables (take (i + 1) levels))) s raw (newer newest found)
levels_more levels i level low is s raw newest found was here =
    subst (λ ls. ShowsInAll ls s raw (newer newest found)) (sym (levels_are levels i level low is)) (shows_both (table_rows (all_tables (take i levels))) (table_rows level) s raw newest found was here)

pub levels_all : (levels : List (List TableState)) (i : ℕ) → length levels ≤ i → (s : ℕ) (raw : Bytes) (newest : Option Row) → ShowsInAll (table_rows (all_tables (take i levels))) s raw newest → ShowsInAll (table_rows (all_tables levels)) s raw newest
levels_all levels i end s raw newest was = subst (λ ls. ShowsInAll (table_rows (all_tables ls)) s raw newest) (take_all i levels end) was

-- an element that is mapped stands at its place
pub mapped_at : {X Y : Type 0} (f : X → Y) (xs : List X) (i : ℕ) (x : X) → i < length xs → x ≡ get_or xs i x → f x ≡ get_or (map f xs) i (f x)
mapped_at f [] i x low is = absurd (omega (arith, low))
mapped_at f (y ∷ xs) zero x low is = ap f is
mapped_at f (y ∷ xs) (suc i) x low is = mapped_at f xs i x (omega (arith, low)) is

-- ---- what is off its grammar

pub off_of_table : (tables : List TableState) (i : ℕ) (table : TableState) → i < length tables → table ≡ get_or tables i table → (file : FileName) (place : ℕ) → IsTrue (table_off table file place) → IsTrue (tables_off tables file place)
off_of_table tables i table low is file place t = list_any_at (λ (x : TableState). table_off x file place) tables i table low (ap (λ (x : TableState). table_off x file place) (sym is) ∙ t)

pub off_of_level : (levels : List (List TableState)) (i : ℕ) (level : List TableState) → i < length levels → level ≡ get_or levels i level
    → (file : FileName) (place : ℕ) → IsTrue (tables_off level file place) → IsTrue (tables_off (all_tables levels) file place)
off_of_level [] i level low is file place t = absurd (omega (arith, low))
off_of_level (l ∷ levels) zero level low is file place t =
    list_any-append (λ (x : TableState). table_off x file place) l (all_tables levels) ∙ ap (λ b. b || tables_off (all_tables levels) file place) (ap (λ ts. tables_off ts file place) (sym is) ∙ t)
off_of_level (l ∷ levels) (suc i) level low is file place t =
    list_any-append (λ (x : TableState). table_off x file place) l (all_tables levels) ∙ ap (λ b. tables_off l file place || b) (off_of_level levels i level (omega (arith, low)) is file place t) ∙ over (tables_off l file place)
  where
    over : (b : Bool) → (b || true) ≡ true
    over true = refl
    over false = refl

-- ---- what a view answers

-- the value of the row that shows is that of the map
pub value_of : (lists : List (Option (List Row))) (s : ℕ) (raw : Bytes) (seen : Option Row) → ShowsInAll lists s raw seen → IfSome (option_map (λ rows. at rows s) (joined_rows lists)) (λ c. option_and_then (λ (row : Row). row.value) seen ≡ get c raw)
value_of lists s raw seen was = by (list_any is_untold lists) was
  where
    by : (b : Bool) → IfSome (cond b None (Some (all_told_rows lists))) (λ rows. seen ≡ seen_at rows s raw)
        → IfSome (option_map (λ rows. at rows s) (cond b None (Some (all_told_rows lists)))) (λ c. option_and_then (λ (row : Row). row.value) seen ≡ get c raw)
    by true p = tt
    by false p = ap (option_and_then (λ (row : Row). row.value)) p ∙ sym (get_at (all_told_rows lists) s raw)

-- ---- in a level, and in memory

pub sliced_at : {X Y : Type 0} (f : X → List Y) (xs : List X) (i : ℕ) (x : X) (slice : List Y) → i < length xs → x ≡ get_or xs i x → slice ≡ f x → (i < length (map f xs)) × (slice ≡ get_or (map f xs) i slice)
sliced_at f [] i x slice low is same = absurd (omega (arith, low))
sliced_at f (y ∷ xs) zero x slice low is same = (omega arith, same ∙ ap f is)
sliced_at f (y ∷ xs) (suc i) x slice low is same = let rest = sliced_at f xs i x slice (omega (arith, low)) is same in (omega (arith, rest.0), rest.1)

pub both_show : (memory : List Row) (frozen : Option (List Row)) (held : List Row) (s : ℕ) (raw : Bytes) (newest found result : Option Row) → frozen ≡ Some held → newest ≡ seen_at memory s raw → found ≡ seen_at held s raw → result ≡ newer newest found
    → ShowsInAll (Some memory ∷ frozen_told frozen) s raw result
both_show memory frozen held s raw newest found result is a b r =
    subst (λ o. ShowsInAll (Some memory ∷ frozen_told o) s raw result) (sym is)
    (subst (λ o. ShowsInAll (Some memory ∷ Some held ∷ []) s raw o) (sym r) (shows_both (Some memory ∷ []) (Some held ∷ []) s raw newest found (shows_one (Some memory) s raw newest a) (shows_one (Some held) s raw found b)))

-- ---- cursors that are made

pub parts_pushed : {X P : Type 0} (f : X → P) (old new : List X) (x : X) (first parts : List P) (p : P) → map f old ≡ first ++ parts → new ≡ old ++ x ∷ [] → f x ≡ p → map f new ≡ first ++ (parts ++ p ∷ [])
parts_pushed f old new x first parts p was push is =
    ap (map f) push ∙ map-append f old (x ∷ []) ∙ (λ i. was i ++ is i ∷ []) ∙ append_assoc first parts (p ∷ [])

pub table_parts_more : (raw : Bytes) (tables : List TableState) (i : ℕ) (table : TableState) → i < length tables → table ≡ get_or tables i table
    → table_parts raw (take (i + 1) tables) ≡ table_parts raw (take i tables) ++ (option_map (rows_from raw) table.rows, table_off table) ∷ []
table_parts_more raw tables i table low is =
    ap (table_parts raw) (take_more tables i table low ∙ ap (λ (t : TableState). take i tables ++ t ∷ []) (sym is)) ∙ map-append (λ (t : TableState). (option_map (rows_from raw) t.rows, table_off t)) (take i tables) (table ∷ [])

pub level_parts_more : (raw : Bytes) (levels : List (List TableState)) (i : ℕ) (level : List TableState) → i < length levels → level ≡ get_or levels i level
    → table_parts raw (all_tables (take (i + 1) levels)) ≡ table_parts raw (all_tables (take i levels)) ++ table_parts raw level
level_parts_more raw levels i level low is =
    ap (λ ls. table_parts raw (all_tables ls)) (take_more levels i level low ∙ ap (λ (l : List TableState). take i levels ++ l ∷ []) (sym is))
    ∙ ap (table_parts raw) (flat_map-append (λ (l : List TableState). l) (take i levels) (level ∷ []) ∙ ap (λ (ts : List TableState). all_tables (take i levels) ++ ts) (append-nil level))
    ∙ map-append (λ (t : TableState). (option_map (rows_from raw) t.rows, table_off t)) (all_tables (take i levels)) level
