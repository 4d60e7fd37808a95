-- What a table's file has while the table is written.
use Rattle.std.specs.Prelude.{◌≡◌, ℕ, List, ◌++◌, length, Option, IfSome}
use Rattle.kv_base.specs.Map.{Bytes}
use Rattle.kv_base.specs.declared.row.Row.{Row}
use Rattle.sst_parts.specs.Blocks.{filled, blocks_text}
use Rattle.sst_parts.specs.Tables.{table_head}

-- after bytes came in behind those that were there
abbrev pub Longer : Bytes → Bytes → Bytes → Type 0
Longer bytes old new = new ≡ old ++ bytes

-- and the file ends at this place
abbrev pub LongerUpTo : Bytes → ℕ → Bytes → Bytes → Type 0
LongerUpTo bytes end old new = (new ≡ old ++ bytes) × (end ≡ length new)

-- the file has so many bytes, and with what waits behind it head and closed blocks of these rows
pub record AreBlocksOf (rows : List Row) (written : ℕ) (waiting bytes : Bytes) : Type 0 where
  pub place : written ≡ length bytes
  pub whole : bytes ++ waiting ≡ table_head ++ blocks_text (filled rows).closed

-- where the file's bytes are told
abbrev pub HoldsBlocks : List Row → ℕ → Bytes → Option Bytes → Type 0
HoldsBlocks rows written waiting held = IfSome held (AreBlocksOf rows written waiting)
