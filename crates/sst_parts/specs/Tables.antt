-- The bytes of a table file, by its rows.
use Rattle.std.specs.Prelude.{◌≡◌, ◌≢◌, ℕ, ◌+◌, ◌<◌, ◌^◌, nat_lt, nat_le, ◌==◌, ◌&&◌, Bool, List, [], ◌∷◌, ◌++◌, length, if◌then◌else◌, IsTrue, Option, Some, None, option_and_then}
use Rattle.std.specs.List.{list_all}
use Rattle.kv_base.specs.Map.{Bytes, same}
use Rattle.kv_base.specs.Fields.{u32, u64, text, read_u32, read_u64}
use Rattle.kv_base.specs.declared.row.Row.{Row}
use Rattle.row_model.specs.Rows.{are_row_texts}
use Rattle.row_model.specs.RowOrder.{is_ordered}
use Rattle.sst_parts.specs.declared.foot.Foot.{Foot}
use Rattle.sst_parts.specs.Blocks.{blocks, blocks_text}
use Rattle.sst_parts.specs.Index.{spots_from, index_text}
use Rattle.sst_parts.specs.Filter.{filter_bits}

-- `KVRT` and the format's number
abbrev pub table_head : Bytes
table_head = 75 ∷ 86 ∷ 82 ∷ 84 ∷ 0 ∷ 0 ∷ 0 ∷ 1 ∷ []

abbrev pub head_length : ℕ
head_length = 8

abbrev pub foot_length : ℕ
foot_length = 36

-- `KVRE`
abbrev pub foot_mark : Bytes
foot_mark = 75 ∷ 86 ∷ 82 ∷ 69 ∷ []

-- the place and the length of the index, those of the filter, and the number of rows; then `KVRE`
unfoldable pub foot_text : Foot → Bytes
foot_text foot = u64 foot.index ++ (u32 foot.index_length ++ (u64 foot.filter ++ (u32 foot.filter_length ++ (u64 foot.rows ++ foot_mark))))

-- ---- the foot back

abbrev pub with_rows : ℕ → ℕ → ℕ → ℕ → ℕ × Bytes → Option Foot
with_rows index index_length filter filter_length (rows, rest) =
    if same rest foot_mark then Some (record { index = index; index_length = index_length; filter = filter; filter_length = filter_length; rows = rows }) else None

abbrev pub with_filter_length : ℕ → ℕ → ℕ → ℕ × Bytes → Option Foot
with_filter_length index index_length filter (filter_length, rest) = option_and_then (with_rows index index_length filter filter_length) (read_u64 rest)

abbrev pub with_filter : ℕ → ℕ → ℕ × Bytes → Option Foot
with_filter index index_length (filter, rest) = option_and_then (with_filter_length index index_length filter) (read_u32 rest)

abbrev pub with_index_length : ℕ → ℕ × Bytes → Option Foot
with_index_length index (index_length, rest) = option_and_then (with_filter index index_length) (read_u64 rest)

abbrev pub with_index : ℕ × Bytes → Option Foot
with_index (index, rest) = option_and_then (with_index_length index) (read_u32 rest)

unfoldable pub read_foot : Bytes → Option Foot
read_foot bytes = option_and_then with_index (read_u64 bytes)

-- head, blocks, index, filter and foot follow one another, without gaps, in so many bytes
abbrev pub is_foot_of : ℕ → Foot → Bool
is_foot_of bytes foot = nat_le head_length foot.index && (foot.index + foot.index_length == foot.filter) && (foot.filter + foot.filter_length + foot_length == bytes)

-- ---- the raw keys, each once

abbrev pub keys_behind : Bytes → List Row → List Bytes
keys_behind last [] = []
keys_behind last (row ∷ rows) = if same last row.raw then keys_behind last rows else row.raw ∷ keys_behind row.raw rows

-- of rows in order
unfoldable pub raw_keys_of : List Row → List Bytes
raw_keys_of [] = []
raw_keys_of (row ∷ rows) = row.raw ∷ keys_behind row.raw rows

-- ---- the parts

abbrev pub table_index : List Row → Bytes
table_index rows = index_text (spots_from head_length (blocks rows))

abbrev pub table_filter : List Row → Bytes
table_filter rows = text (filter_bits (raw_keys_of rows))

abbrev pub index_place : List Row → ℕ
index_place rows = head_length + length (blocks_text (blocks rows))

abbrev pub filter_place : List Row → ℕ
filter_place rows = index_place rows + length (table_index rows)

abbrev pub table_foot : List Row → Foot
table_foot rows = record {
  index = index_place rows;
  index_length = length (table_index rows);
  filter = filter_place rows;
  filter_length = length (table_filter rows);
  rows = length rows;
}

-- head, data blocks, index, filter and foot
unfoldable pub table_text : List Row → Bytes
table_text rows = table_head ++ (blocks_text (blocks rows) ++ (table_index rows ++ (table_filter rows ++ foot_text (table_foot rows))))

-- the numbers have room in a foot
pub record IsFoot (foot : Foot) : Type 0 where
  pub index : foot.index < 2 ^ 64
  pub index_length : foot.index_length < 2 ^ 32
  pub filter : foot.filter < 2 ^ 64
  pub filter_length : foot.filter_length < 2 ^ 32
  pub rows : foot.rows < 2 ^ 64

-- rows that a table may have: at least one, in order, each raw key and each value on its grammar, each sequence of 64
-- bits, and no more of them than the numbers of its foot have room for
pub record AreTableRows (rows : List Row) : Type 0 where
  pub some : rows ≢ []
  pub order : IsTrue (is_ordered rows)
  pub grammar : IsTrue (are_row_texts rows)
  pub sequences : IsTrue (list_all (λ row. nat_lt row.seq (2 ^ 64)) rows)
  pub room : IsFoot (table_foot rows)

-- the bytes are the table of these rows
pub record IsTable (bytes : Bytes) (rows : List Row) : Type 0 where
  pub lawful : AreTableRows rows
  pub spelled : bytes ≡ table_text rows
