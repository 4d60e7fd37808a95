-- The rows that a store has in memory and in tables, and the map that they are at a sequence.
use Rattle.std.specs.Prelude.{ℕ, Bool, if◌then◌else◌, List, [], ◌∷◌, ◌++◌, map, Option, Some, None, option_map}
use Rattle.std.specs.List.{flat_map, list_any}
use Rattle.kv_base.specs.declared.name.FileName.{FileName}
use Rattle.kv_base.specs.declared.row.Row.{Row}
use Rattle.row_model.specs.Rows.{at}
use Rattle.lives_model.specs.Rows.{Rows}
use Rattle.merge_rows.specs.Merged.{is_untold, all_told_rows}
use Rattle.sst_file.specs.States.{TableState, table_off}

-- What contracts see of the sources of a store's rows.
pub record SourcesState : Type 0 where
  -- the rows of the memtable
  pub memory : List Row
  -- those of the frozen memtable, where there is one
  pub frozen : Option (List Row)
  -- the tables of each level
  pub levels : List (List TableState)

-- all rows, where each list tells its rows
abbrev pub joined_rows : List (Option (List Row)) → Option (List Row)
joined_rows lists = if list_any is_untold lists then None else Some (all_told_rows lists)

abbrev pub table_rows : List TableState → List (Option (List Row))
table_rows = map (λ table. table.rows)

abbrev pub frozen_told : Option (List Row) → List (Option (List Row))
frozen_told None = []
frozen_told (Some rows) = Some rows ∷ []

abbrev pub all_tables : List (List TableState) → List TableState
all_tables = flat_map (λ tables. tables)

-- what each source tells of its rows, the newest first
abbrev pub source_rows : SourcesState → List (Option (List Row))
source_rows s = (Some s.memory ∷ frozen_told s.frozen) ++ table_rows (all_tables s.levels)

-- the map that the rows of all sources are at a sequence, where they are told
abbrev pub map_of_sources : SourcesState → ℕ → Option Rows
map_of_sources s seq = option_map (λ rows. at rows seq) (joined_rows (source_rows s))

-- a place is off its grammar where one of the tables is off it there
abbrev pub tables_off : List TableState → FileName → ℕ → Bool
tables_off tables file place = list_any (λ table. table_off table file place) tables
