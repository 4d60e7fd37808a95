-- What the bytes of a table file are found to be: the table's rows, or the first place at which the file is off its
-- grammar.
--
-- The parts are judged in this order: length, head, foot, index, filter, blocks. What only all rows together tell comes
-- last: their number, for which the foot answers, and the bits of their raw keys, for which the filter answers.
use Rattle.std.specs.Prelude.{ℕ, ◌-◌, ◌+◌, nat_le, ◌==◌, ◌&&◌, ◌||◌, not, Bool, true, false, if◌then◌else◌, List, [], ◌∷◌, ◌++◌, length, take, drop, Option, Some, None, option_and_then, Result, Ok, Err}
use Rattle.kv_base.specs.Map.{Bytes, same, kept}
use Rattle.kv_base.specs.MetaValues.{is_empty}
use Rattle.kv_base.specs.Fields.{read_text}
use Rattle.kv_base.specs.declared.row.Row.{Row}
use Rattle.sst_parts.specs.declared.index.Spot.{Spot}
use Rattle.sst_parts.specs.declared.foot.Foot.{Foot}
use Rattle.sst_parts.specs.Blocks.{is_full, read_block_body}
use Rattle.sst_parts.specs.BlockBodies.{last_row}
use Rattle.sst_parts.specs.Index.{last_raw, read_block_index}
use Rattle.sst_parts.specs.Filter.{filter_bits, read_filter}
use Rattle.sst_parts.specs.Tables.{table_head, head_length, foot_length, read_foot, is_foot_of, raw_keys_of}

-- ---- words

-- so many bytes from a place on
abbrev pub slice_at : ℕ → ℕ → Bytes → Bytes
slice_at place n bytes = take n (drop place bytes)

-- what was read, or the place of what was not
abbrev pub or_off : {X : Type 0} → ℕ → Option X → Result X ℕ
or_off place None = Err place
or_off place (Some x) = Ok x

abbrev pub then_judged : {X Y : Type 0} → Result X ℕ → (X → Result Y ℕ) → Result Y ℕ
then_judged (Err place) next = Err place
then_judged (Ok x) next = next x

abbrev pub has_none : {X : Type 0} → List X → Bool
has_none [] = true
has_none (x ∷ xs) = false

-- ---- head and foot

abbrev pub foot_place : Bytes → ℕ
foot_place bytes = length bytes - foot_length

unfoldable pub judged_foot : Bytes → Result Foot ℕ
judged_foot bytes =
    if nat_le (head_length + foot_length) (length bytes) && same (take head_length bytes) table_head
    then or_off (foot_place bytes) (kept (is_foot_of (length bytes)) (read_foot (drop (foot_place bytes) bytes)))
    else Err 0

-- ---- index and filter

unfoldable pub judged_index : Foot → Bytes → Result (List Spot) ℕ
judged_index foot bytes = or_off foot.index (read_block_index head_length foot.index (slice_at foot.index foot.index_length bytes))

unfoldable pub judged_filter : Foot → Bytes → Result Bytes ℕ
judged_filter foot bytes = or_off foot.filter (read_filter (slice_at foot.filter foot.filter_length bytes))

-- ---- blocks

-- rows that a block with this spot may have: some, the last of them of the spot's raw key; and but for the last block
-- they fill it
abbrev pub are_of_spot : Bool → Spot → List Row → Bool
are_of_spot is_last spot rows = not (has_none rows) && same (last_raw [] rows) spot.last && (is_last || is_full rows)

abbrev pub whole_body : Option Row → Bytes × Bytes → Option (List Row)
whole_body before (body, rest) = if is_empty rest then read_block_body before body else None

-- the rows of a block, the first of them behind this row
unfoldable pub read_block : Bool → Option Row → Spot → Bytes → Option (List Row)
read_block is_last before spot block = kept (are_of_spot is_last spot) (option_and_then (whole_body before) (read_text block))

abbrev pub rows_in_front : List Row → Result (List Row) ℕ → Result (List Row) ℕ
rows_in_front rows (Err place) = Err place
rows_in_front rows (Ok more) = Ok (rows ++ more)

unfoldable pub judged_blocks : Option Row → List Spot → Bytes → Result (List Row) ℕ
judged_blocks before [] bytes = Ok []
judged_blocks before (spot ∷ spots) bytes =
    then_judged (or_off spot.place (read_block (has_none spots) before spot (slice_at spot.place spot.bytes bytes)))
    (λ rows. rows_in_front rows (judged_blocks (last_row before rows) spots bytes))

-- ---- all of it

unfoldable pub judged_whole : Bytes → Foot → Bytes → List Row → Result (List Row) ℕ
judged_whole bytes foot bits rows =
    if not (length rows == foot.rows) then Err (foot_place bytes)
    else if same bits (filter_bits (raw_keys_of rows)) then Ok rows
    else Err foot.filter

abbrev pub after_filter : Bytes → Foot → List Spot → Bytes → Result (List Row) ℕ
after_filter bytes foot spots bits = then_judged (judged_blocks None spots bytes) (judged_whole bytes foot bits)

abbrev pub after_index : Bytes → Foot → List Spot → Result (List Row) ℕ
after_index bytes foot spots = then_judged (judged_filter foot bytes) (after_filter bytes foot spots)

abbrev pub after_foot : Bytes → Foot → Result (List Row) ℕ
after_foot bytes foot = then_judged (judged_index foot bytes) (after_index bytes foot)

unfoldable pub judged_table : Bytes → Result (List Row) ℕ
judged_table bytes = then_judged (judged_foot bytes) (after_foot bytes)
