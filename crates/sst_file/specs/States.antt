-- What an opened table stands for, and what a reader of it has ahead.
use Rattle.std.specs.Prelude.{◌≡◌, ℕ, Bool, ◌&&◌, not, List, [], ◌∷◌, length, Option, Some, None, IfSome, Ok, is_some}
use Rattle.std.specs.Result.{result_ok}
use Rattle.kv_base.specs.Map.{Bytes}
use Rattle.kv_base.specs.Name.{same_name}
use Rattle.kv_base.specs.declared.name.FileName.{FileName}
use Rattle.kv_base.specs.declared.name.FileName.TheVariants.{Table}
use Rattle.kv_base.specs.declared.name.TableId.{TableId}
use Rattle.kv_base.specs.declared.row.Row.{Row}
use Rattle.merge_rows.specs.Cursors.{AreInOrder}
use Rattle.sst_parts.specs.declared.index.Spot.{Spot}
use Rattle.sst_parts.specs.BlockLists.{joined_blocks}
use Rattle.sst_parts.specs.Index.{last_raw}
use Rattle.sst_parts.specs.Filter.{filter_bits}
use Rattle.sst_parts.specs.Tables.{raw_keys_of}
use Rattle.kv_base.specs.declared.table.TableDesc.{TableDesc}
use Rattle.sst_grammar.specs.Placing.{AreAt}
use Rattle.sst_grammar.specs.Judging.{judged_table}

-- the rows of a table file, where its bytes are told and on their grammar
abbrev pub rows_of_table : Option Bytes → Option (List Row)
rows_of_table None = None
rows_of_table (Some bytes) = result_ok (judged_table bytes)

-- a table whose bytes are told was read whole when it was opened, so no place of it is off its grammar; of others any
-- place may be
abbrev pub off_where_untold : TableId → Option Bytes → FileName → ℕ → Bool
off_where_untold id held file place = not (is_some held) && same_name file (Table id)

-- What contracts see of a table.
pub record TableState : Type 0 where
  -- what the manifest records of it
  pub desc : TableDesc
  -- its rows, where they are told
  pub rows : Option (List Row)

-- the places that are off their grammar
abbrev pub table_off : TableState → FileName → ℕ → Bool
table_off table file place = not (is_some table.rows) && same_name file (Table table.desc.id)

-- What contracts see of a cursor over a table.
pub record CursorState : Type 0 where
  -- the table
  pub table : TableState
  -- its rows that are still to come, where they are told
  pub rows : Option (List Row)
  -- more than the bytes that are still to be read
  pub left : ℕ

-- ---- a table's parts and its bytes

-- what is kept of a table in memory is that of its bytes
pub record AreTableParts (spots : List Spot) (bits : Bytes) (desc : TableDesc) (bytes : Bytes) : Type 0 where
  pub rows : List Row
  pub judged_is : judged_table bytes ≡ Ok rows
  pub order : AreInOrder rows
  pub blocks : List (List Row)
  pub whole : rows ≡ joined_blocks blocks
  pub placed : AreAt spots blocks bytes
  pub filter_is : bits ≡ filter_bits (raw_keys_of rows)
  pub count : desc.rows ≡ length rows
  pub size : desc.bytes ≡ length bytes
  pub least : (row : Row) × (rest : List Row) × (rows ≡ row ∷ rest) × (desc.least ≡ row.raw)
  pub greatest : desc.greatest ≡ last_raw [] rows

abbrev pub StandsForTable : List Spot → Bytes → TableDesc → Option Bytes → Type 0
StandsForTable spots bits desc held = IfSome held (AreTableParts spots bits desc)

-- the bytes are a table of rows, and these are told
pub record HasRows (bytes : Bytes) (rows : Option (List Row)) : Type 0 where
  pub are : List Row
  pub judged_is : judged_table bytes ≡ Ok are
  pub told : rows ≡ Some are
