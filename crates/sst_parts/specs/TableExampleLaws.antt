-- A table of one row, byte by byte.
use Rattle.std.specs.Prelude.{◌≡◌, [], ◌∷◌, ◌++◌, length, Some, refl}
use Rattle.kv_base.specs.Map.{Bytes}
use Rattle.kv_base.specs.Fields.{u32, u64, text}
use Rattle.kv_base.specs.Hash.{fnv1a}
use Rattle.kv_base.specs.declared.row.Row.{Row}
use Rattle.sst_parts.specs.RowTexts.{row_text}
use Rattle.sst_parts.specs.Blocks.{with_block_row, filled, blocks, block_text}
use Rattle.sst_parts.specs.Index.{spots_from, index_text}
use Rattle.sst_parts.specs.Filter.{hash_of, with_key, filter_of, filter_bits}
use Rattle.sst_parts.specs.Tables.{raw_keys_of, foot_text, table_text}

-- the string `1` under the key `a`, without a deadline, written first
pub row_of_a : Row
row_of_a = record { raw = 0x6D ∷ 0 ∷ 0x61 ∷ []; seq = 1; value = Some (0x81 ∷ 0 ∷ 0 ∷ 0 ∷ 0 ∷ 0 ∷ 0 ∷ 0 ∷ 0 ∷ 0x31 ∷ []) }

-- the head at 0
pub head : Bytes
head = 75 ∷ 86 ∷ 82 ∷ 84 ∷ 0 ∷ 0 ∷ 0 ∷ 1 ∷ []

-- a block of 34 bytes at 8
pub block : Bytes
block = 0 ∷ 0 ∷ 0 ∷ 30 ∷ 1 ∷ 0 ∷ 0 ∷ 0 ∷ 3 ∷ 109 ∷ 0 ∷ 97 ∷ 0 ∷ 0 ∷ 0 ∷ 0 ∷ 0 ∷ 0 ∷ 0 ∷ 1 ∷ 0 ∷ 0 ∷ 0 ∷ 10 ∷ 129 ∷ 0 ∷ 0 ∷ 0 ∷ 0 ∷ 0 ∷ 0 ∷ 0 ∷ 0 ∷ 49 ∷ []

-- the index of 23 bytes at 42
pub index : Bytes
index = 0 ∷ 0 ∷ 0 ∷ 1 ∷ 0 ∷ 0 ∷ 0 ∷ 0 ∷ 0 ∷ 0 ∷ 0 ∷ 8 ∷ 0 ∷ 0 ∷ 0 ∷ 34 ∷ 0 ∷ 0 ∷ 0 ∷ 3 ∷ 109 ∷ 0 ∷ 97 ∷ []

-- the filter of 12 bytes at 65, with the bits 6, 23, 33, 43, 50 and 60
pub filter : Bytes
filter = 0 ∷ 0 ∷ 0 ∷ 8 ∷ 64 ∷ 0 ∷ 128 ∷ 0 ∷ 2 ∷ 8 ∷ 4 ∷ 16 ∷ []

-- the foot at 77
pub foot : Bytes
foot = 0 ∷ 0 ∷ 0 ∷ 0 ∷ 0 ∷ 0 ∷ 0 ∷ 42 ∷ 0 ∷ 0 ∷ 0 ∷ 23 ∷ 0 ∷ 0 ∷ 0 ∷ 0 ∷ 0 ∷ 0 ∷ 0 ∷ 65 ∷ 0 ∷ 0 ∷ 0 ∷ 12 ∷ 0 ∷ 0 ∷ 0 ∷ 0 ∷ 0 ∷ 0 ∷ 0 ∷ 1 ∷ 75 ∷ 86 ∷ 82 ∷ 69 ∷ []

pub table_of_a : table_text (row_of_a ∷ []) ≡ head ++ (block ++ (index ++ (filter ++ foot)))
unfolding row_of_a head block index filter foot u32 u64 text fnv1a row_text with_block_row filled blocks block_text spots_from index_text hash_of with_key filter_of filter_bits raw_keys_of foot_text table_text
table_of_a = refl

pub length_of_a : length (table_text (row_of_a ∷ [])) ≡ 113
unfolding row_of_a head block index filter foot u32 u64 text fnv1a row_text with_block_row filled blocks block_text spots_from index_text hash_of with_key filter_of filter_bits raw_keys_of foot_text table_text
length_of_a = refl
