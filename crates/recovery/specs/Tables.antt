-- What the tables of a state are found to be in files: the rows of each, or the first damage.
use Rattle.std.specs.Prelude.{ℕ, nat_lt, nat_le, Bool, if◌then◌else◌, ◌&&◌, ◌||◌, ◌==◌, not, List, [], ◌∷◌, length, None, Some, Option, Result, Ok, Err}
use Rattle.std.specs.List.{find, list_any}
use Rattle.kv_base.specs.Map.{Bytes, same}
use Rattle.kv_base.specs.declared.name.FileName.{FileName}
use Rattle.kv_base.specs.declared.name.FileName.TheVariants.{Table}
use Rattle.kv_base.specs.declared.row.Row.{Row}
use Rattle.kv_base.specs.declared.table.TableDesc.{TableDesc}
use Rattle.row_model.specs.Rows.{are_upto}
use Rattle.sst_parts.specs.Index.{last_raw}
use Rattle.sst_grammar.specs.Judging.{judged_table, then_judged}
use Rattle.level_set.specs.declared.home.Home.{Home}
use Rattle.manifest_set.specs.Slots.{Damage}

-- ---- one table by itself

-- the raw key of the first of these rows
abbrev pub first_raw : List Row → Bytes
first_raw [] = []
first_raw (row ∷ rows) = row.raw

-- so many rows, from this least to this greatest raw key, are what the manifest records
abbrev pub is_recorded : TableDesc → List Row → Bool
is_recorded desc rows = (length rows == desc.rows) && same (first_raw rows) desc.least && same (last_raw [] rows) desc.greatest

abbrev pub if_recorded : TableDesc → List Row → Result (List Row) ℕ
if_recorded desc rows = if is_recorded desc rows then Ok rows else Err 0

-- The rows of a table file with these bytes, or the place where it is damaged: at 0 where it has another length than the
-- manifest records, then where it is off its grammar, and then at 0 where its rows are not those that are recorded.
unfoldable pub table_of : TableDesc → Bytes → Result (List Row) ℕ
table_of desc bytes = if length bytes == desc.bytes then then_judged (judged_table bytes) (if_recorded desc) else Err 0

-- ---- each of them

-- a table of the state, with its rows
pub record OpenedTable : Type 0 where
  pub home : Home
  pub rows : List Row

abbrev pub place_off : FileName → ℕ → Damage
place_off file place = record { file = file; place = place }

-- what was found before these, or its damage
abbrev pub and_tables : Home → Result (List Row) ℕ → Result (List OpenedTable) Damage → Result (List OpenedTable) Damage
and_tables home (Err place) behind = Err (place_off (Table home.desc.id) place)
and_tables home (Ok rows) (Err damage) = Err damage
and_tables home (Ok rows) (Ok tables) = Ok (record { home = home; rows = rows } ∷ tables)

-- the rows of each of these tables, or the first damage in their order
unfoldable pub tables_of : (FileName → Bytes) → List Home → Result (List OpenedTable) Damage
tables_of files [] = Ok []
tables_of files (home ∷ homes) = and_tables home (table_of home.desc (files (Table home.desc.id))) (tables_of files homes)

-- ---- all of them together

-- the other one is older: of a deeper level, or both are of level 0 and it is of an earlier run
abbrev pub is_older : Home → Home → Bool
is_older other home = nat_lt home.level other.level || ((home.level == 0) && (other.level == 0) && nat_lt other.desc.id.run home.desc.id.run)

-- the rows have one of this raw key with the same or a greater sequence
abbrev pub have_as_new : List Row → Row → Bool
have_as_new rows row = list_any (λ other. same other.raw row.raw && nat_le row.seq other.seq) rows

-- an older table has a row of the raw key of one of its rows with the same or a greater sequence
abbrev pub is_outdone_by : OpenedTable → OpenedTable → Bool
is_outdone_by table other = is_older other.home table.home && list_any (have_as_new other.rows) table.rows

-- one of its rows is above the last sequence, or one of these outdoes it
abbrev pub is_out_of_turn : ℕ → List OpenedTable → OpenedTable → Bool
is_out_of_turn last tables table = not (are_upto last table.rows) || list_any (is_outdone_by table) tables

abbrev pub none_out_of_turn : List OpenedTable → Option OpenedTable → Result (List OpenedTable) Damage
none_out_of_turn tables None = Ok tables
none_out_of_turn tables (Some table) = Err (place_off (Table table.home.desc.id) 0)

-- Tables that stand together, or the first that doesn't: no row is above the last sequence, and rows of one raw key have
-- greater sequences in newer tables.
unfoldable pub together : ℕ → List OpenedTable → Result (List OpenedTable) Damage
together last tables = none_out_of_turn tables (find (is_out_of_turn last tables) tables)
