-- A row as a table file has it, and how rows are read back.
use Rattle.std.specs.Prelude.{ℕ, if◌then◌else◌, ◌==◌, List, [], ◌∷◌, ◌++◌, Option, Some, None, option_map, option_and_then}
use Rattle.kv_base.specs.Map.{Bytes}
use Rattle.kv_base.specs.Fields.{u64, text, read_u64, read_text}
use Rattle.kv_base.specs.declared.row.Row.{Row}

-- a put is 1, the text of its raw key, its sequence and the text of its value; a delete is 0, the text of its raw key and
-- its sequence
abbrev pub row_parts : Bytes → ℕ → Option Bytes → Bytes
row_parts raw seq (Some value) = 1 ∷ (text raw ++ (u64 seq ++ text value))
row_parts raw seq None = 0 ∷ (text raw ++ u64 seq)

unfoldable pub row_text : Row → Bytes
row_text row = row_parts row.raw row.seq row.value

-- rows one after the other
abbrev pub rows_text : List Row → Bytes
rows_text [] = []
rows_text (row ∷ rows) = row_text row ++ rows_text rows

-- ---- back

-- the row of a raw key and a sequence in front of some bytes, and what is behind it
abbrev pub row_value_behind : ℕ → Bytes → ℕ × Bytes → Option (Row × Bytes)
row_value_behind mark raw (seq, bytes) =
    if mark == 1 then option_map (λ value. (record { raw = raw; seq = seq; value = Some value.0 }, value.1)) (read_text bytes)
    else if mark == 0 then Some (record { raw = raw; seq = seq; value = None }, bytes)
    else None

abbrev pub row_seq_behind : ℕ → Bytes × Bytes → Option (Row × Bytes)
row_seq_behind mark (raw, bytes) = option_and_then (row_value_behind mark raw) (read_u64 bytes)

-- the row in front, and what is behind it
unfoldable pub read_row : Bytes → Option (Row × Bytes)
read_row [] = None
read_row (mark ∷ bytes) = option_and_then (row_seq_behind mark) (read_text bytes)
