-- A table that was written.
use Rattle.std.specs.Prelude.{◌≡◌, ℕ, true, IsTrue, List, [], length, Option, Some, None, IfSome}
use Rattle.kv_base.specs.Map.{Bytes}
use Rattle.kv_base.specs.declared.name.TableId.{TableId}
use Rattle.kv_base.specs.declared.row.Row.{Row}
use Rattle.kv_base.specs.declared.table.TableDesc.{TableDesc}
use Rattle.sst_parts.specs.declared.index.Spot.{Spot}
use Rattle.sst_parts.specs.declared.key_hash.KeyHash.{KeyHash}
use Rattle.sst_parts.specs.BlockBodies.{are_u64, is_chain}
use Rattle.sst_parts.specs.Index.{last_raw}
use Rattle.sst_parts.specs.Tables.{table_text, AreTableRows, IsTable}
use Rattle.sst_sums.specs.Summing.{AreSums, first_raw}
use Rattle.sst_file.specs.States.{TableState, rows_of_table}
use Rattle.sst_writer.specs.Cutting.{AreNext, next_table}
use Rattle.sst_writer.specs.Ending.{IsFinished}

-- what is known of these rows' table without its file
pub record IsDescOfRows (desc : TableDesc) (id : TableId) (rows : List Row) : Type 0 where
  pub id_is : desc.id ≡ id
  pub number : desc.rows ≡ length rows
  pub size : desc.bytes ≡ length (table_text rows)
  pub least : first_raw rows ≡ Some desc.least
  pub greatest : desc.greatest ≡ last_raw [] rows

-- the bytes are the table of these rows, and the rows are told
pub record IsTableOf (bytes : Bytes) (rows : Option (List Row)) : Type 0 where
  pub own : List Row
  pub told : rows ≡ Some own
  pub is : IsTable bytes own

-- a table of the first of these rows was written: those of the next table
pub record IsNextTable (id : TableId) (limit : Option ℕ) (rows : List Row) (table : TableState) : Type 0 where
  pub desc : IsDescOfRows table.desc id (next_table limit rows).0
  pub lawful : AreTableRows (next_table limit rows).0
  pub told : IfSome table.rows (λ own. own ≡ (next_table limit rows).0)

-- the others are left, where the rows are told
abbrev pub AreBehind : Option ℕ → Option (List Row) → Option (List Row) → Type 0
AreBehind limit None now = now ≡ None
AreBehind limit (Some rows) now = now ≡ Some (next_table limit rows).1

-- ---- a file that is sealed

-- the file is the table of these rows, where its bytes are told, and what is kept of it is theirs
pub record IsSealed (rows : List Row) (tail : Bytes) (spots : List Spot) (bits : Bytes) (size count : ℕ) (keys : List KeyHash) (least : Option Bytes) (last : Option Row) (held : Option Bytes) : Type 0 where
  pub finished : IsFinished rows tail spots bits size
  pub sums : AreSums count keys least last rows
  pub chain : is_chain None rows ≡ true
  pub sequences : IsTrue (are_u64 rows)
  pub file : IfSome held (λ c. c ≡ table_text rows)

-- and these are the rows of the next table
pub record IsNextSealed (limit : Option ℕ) (old now : Option (List Row)) (tail : Bytes) (spots : List Spot) (bits : Bytes) (size count : ℕ) (keys : List KeyHash) (least : Option Bytes) (last : Option Row) (held : Option Bytes) : Type 0 where
  pub rows : List Row
  pub sealed : IsSealed rows tail spots bits size count keys least last held
  pub taken : AreNext limit rows old now

-- the table has these rows, and tells them where its file's bytes are told
pub record IsTableFor (id : TableId) (rows : List Row) (held : Option Bytes) (table : TableState) : Type 0 where
  pub desc : IsDescOfRows table.desc id rows
  pub lawful : AreTableRows rows
  pub told : table.rows ≡ rows_of_table held
