-- What a table ends with.
use Rattle.std.specs.Prelude.{◌≡◌, ℕ, ◌+◌, List, ◌++◌, length}
use Rattle.kv_base.specs.Map.{Bytes}
use Rattle.kv_base.specs.Fields.{text}
use Rattle.kv_base.specs.declared.row.Row.{Row}
use Rattle.sst_parts.specs.declared.foot.Foot.{Foot}
use Rattle.sst_parts.specs.declared.index.Spot.{Spot}
use Rattle.sst_parts.specs.declared.key_hash.KeyHash.{KeyHash}
use Rattle.sst_parts.specs.Blocks.{filled, blocks, blocks_text}
use Rattle.sst_parts.specs.Filter.{filter_of, filter_bits}
use Rattle.sst_parts.specs.Index.{spots_from, index_text}
use Rattle.sst_parts.specs.Tables.{table_head, head_length, foot_text, table_foot, table_text, index_place, raw_keys_of, IsFoot}

-- all blocks of these rows are closed, and the last of them has these bytes, if it was not closed before
pub record IsAll (rows : List Row) (end : ℕ) (spots : List Spot) (bytes : Bytes) : Type 0 where
  pub place : end ≡ index_place rows
  pub index : spots ≡ spots_from head_length (blocks rows)
  pub bytes_are : blocks_text (blocks rows) ≡ blocks_text (filled rows).closed ++ bytes

-- the foot behind blocks up to an end, an index and a filter of these lengths
abbrev pub foot_behind : ℕ → ℕ → ℕ → ℕ → Foot
foot_behind end index filter rows = record { index = end; index_length = index; filter = end + index; filter_length = filter; rows = rows }

abbrev pub foot_for : ℕ → List Spot → Bytes → ℕ → Foot
foot_for end spots bits rows = foot_behind end (length (index_text spots)) (length (text bits)) rows

-- index, filter and foot behind blocks up to an end, and where the file ends with them
pub record IsEnding (end : ℕ) (spots : List Spot) (count : ℕ) (keys : List KeyHash) (bytes bits : Bytes) (size : ℕ) : Type 0 where
  pub bits_are : bits ≡ filter_of keys
  pub bytes_are : bytes ≡ index_text spots ++ (text bits ++ foot_text (foot_for end spots bits count))
  pub room : IsFoot (foot_for end spots bits count)
  pub size_is : size ≡ end + length bytes

-- behind the blocks that were closed before, the table of these rows has this tail; so many bytes it has in all
pub record IsFinished (rows : List Row) (tail : Bytes) (spots : List Spot) (bits : Bytes) (size : ℕ) : Type 0 where
  pub whole : table_head ++ (blocks_text (filled rows).closed ++ tail) ≡ table_text rows
  pub room : IsFoot (table_foot rows)
  pub index : spots ≡ spots_from head_length (blocks rows)
  pub filter : bits ≡ filter_bits (raw_keys_of rows)
  pub size_is : size ≡ length (table_text rows)
