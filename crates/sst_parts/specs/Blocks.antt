-- The data blocks of a table: which rows stand in which block, a block's bytes, and how they are read back.
use Rattle.std.specs.Prelude.{ℕ, zero, suc, ◌-◌, nat_lt, nat_le, Bool, true, if◌then◌else◌, ◌&&◌, List, [], ◌∷◌, ◌++◌, length, fold, Option, Some, None, option_map, option_and_then}
use Rattle.std.specs.Ordering.{is_lt}
use Rattle.kv_base.specs.Map.{Bytes}
use Rattle.kv_base.specs.Fields.{text}
use Rattle.kv_base.specs.declared.row.Row.{Row}
use Rattle.row_model.specs.Rows.{is_row_text}
use Rattle.row_model.specs.RowOrder.{row_cmp}
use Rattle.sst_parts.specs.RowTexts.{rows_text, read_row}

-- a block is closed after the row with which its body reaches so many bytes
abbrev pub block_size : ℕ
block_size = 4096

abbrev pub is_full : List Row → Bool
is_full rows = nat_le block_size (length (rows_text rows))

-- ---- rows in blocks

-- the blocks that are closed, and the rows in the one that is open
pub record Filled : Type 0 where
  pub closed : List (List Row)
  pub waiting : List Row

abbrev pub close_full : List (List Row) → List Row → Filled
close_full closed rows = if is_full rows then record { closed = closed ++ rows ∷ []; waiting = [] } else record { closed = closed; waiting = rows }

-- a row comes into the open block
unfoldable pub with_block_row : Filled → Row → Filled
with_block_row so_far row = close_full so_far.closed (so_far.waiting ++ row ∷ [])

abbrev pub nothing_filled : Filled
nothing_filled = record { closed = []; waiting = [] }

unfoldable pub filled : List Row → Filled
filled rows = fold with_block_row nothing_filled rows

-- the last block is closed at the last row
abbrev pub close_last : List (List Row) → List Row → List (List Row)
close_last closed [] = closed
close_last closed (row ∷ rows) = closed ++ (row ∷ rows) ∷ []

-- the rows of a table in blocks
unfoldable pub blocks : List Row → List (List Row)
blocks rows = close_last (filled rows).closed (filled rows).waiting

-- a block is the length of its body and its body, the rows
unfoldable pub block_text : List Row → Bytes
block_text rows = text (rows_text rows)

abbrev pub blocks_text : List (List Row) → Bytes
blocks_text [] = []
blocks_text (rows ∷ more) = block_text rows ++ blocks_text more

-- ---- back

-- the row may stand behind the one before it
abbrev pub is_row_behind : Option Row → Row → Bool
is_row_behind None row = true
is_row_behind (Some last) row = is_lt (row_cmp last row)

abbrev pub is_next_row : Option Row → Row → Bool
is_next_row last row = is_row_behind last row && is_row_text row

-- fewer than 4,096 bytes of a body of this length stand in front of these
abbrev pub has_room : ℕ → Bytes → Bool
has_room whole rest = nat_lt (whole - length rest) block_size

-- the row in front of the rest of a body, which may stand behind the one before it, and what is behind it
unfoldable pub read_next : ℕ → Option Row → Bytes → Option (Row × Bytes)
read_next whole last rest = option_and_then (λ front. if is_next_row last front.0 && has_room whole rest then Some front else None) (read_row rest)

abbrev pub then_rows : Row → Option (List Row) → Option (List Row)
then_rows row rows = option_map (λ more. row ∷ more) rows

-- rows up to the end of a body, no more than so many
unfoldable pub read_rows : ℕ → ℕ → Option Row → Bytes → Option (List Row)
read_rows whole most last [] = Some []
read_rows whole zero last (b ∷ rest) = None
read_rows whole (suc most) last (b ∷ rest) =
    option_and_then (λ front. then_rows front.0 (read_rows whole most (Some front.0) front.1)) (read_next whole last (b ∷ rest))

-- the rows of a body, the first of them behind this one
unfoldable pub read_block_body : Option Row → Bytes → Option (List Row)
read_block_body last body = read_rows (length body) (length body) last body
