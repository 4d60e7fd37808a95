-- Which rows of a table a cursor has still to give.
use Rattle.std.specs.Prelude.{◌≡◌, ℕ, zero, suc, ◌+◌, ◌*◌, ◌-◌, ◌^◌, ◌<◌, false, if◌then◌else◌, not, List, [], ◌∷◌, ◌++◌, length, drop, filter, Option, Some, None, option_map, option_and_then}
use Rattle.std.specs.List.{flat_map}
use Rattle.kv_base.specs.Map.{Bytes}
use Rattle.kv_base.specs.MetaValues.{is_empty}
use Rattle.kv_base.specs.Fields.{read_text}
use Rattle.kv_base.specs.RowRefs.{row_seen}
use Rattle.kv_base.specs.declared.row.Row.{Row}
use Rattle.kv_base.specs.declared.fault.StoreFault.{StoreFault}
use Rattle.kv_base.specs.declared.fault.StoreFault.TheVariants.{Failed, Damaged, NoMem}
use Rattle.kv_base.specs.declared.name.FileName.TheVariants.{Table}
use Rattle.kv_base.specs.declared.name.TableId.{TableId}
use Rattle.row_model.specs.RowOrder.{is_below}
use Rattle.merge_rows.specs.Cursors.{AreInOrder}
use Rattle.sst_parts.specs.declared.index.Spot.{Spot}
use Rattle.sst_parts.specs.RowTexts.{rows_text, read_row}
use Rattle.sst_parts.specs.Blocks.{block_text}
use Rattle.sst_parts.specs.BlockLists.{joined_blocks}
use Rattle.sst_parts.specs.Seeking.{AreReadable}
use Rattle.sst_grammar.specs.Judging.{slice_at}
use Rattle.sst_grammar.specs.Placing.{AreAt}
use Rattle.sst_file.specs.declared.block_rest.Reached.{Reached}
use Rattle.sst_file.specs.declared.block_rest.Reached.TheVariants as reached

-- the rows whose raw keys are not below this one
abbrev pub rows_from : Bytes → List Row → List Row
rows_from raw = filter (λ row. not (is_below raw row))

-- ---- the rows that are ahead

abbrev pub with_rows_behind : (Bytes → List Row) → Option (Row × Bytes) → List Row
with_rows_behind behind None = []
with_rows_behind behind (Some front) = front.0 ∷ behind front.1

-- the rows at the beginning of some bytes, one after the other, no more than so many
unfoldable pub spelled_upto : ℕ → Bytes → List Row
spelled_upto zero bytes = []
spelled_upto (suc most) bytes = with_rows_behind (spelled_upto most) (read_row bytes)

-- all of them
abbrev pub spelled_rows : Bytes → List Row
spelled_rows bytes = spelled_upto (length bytes) bytes

-- those of the block at a spot, behind the four bytes of its length
abbrev pub rows_of_block : Bytes → Spot → List Row
rows_of_block bytes spot = spelled_rows (drop 4 (slice_at spot.place spot.bytes bytes))

-- the rows in what is left of a block and in the blocks from the next on, from a raw key on
abbrev pub rows_unread : Bytes → Bytes → ℕ → List Spot → Option Bytes → Option (List Row)
rows_unread raw rest next spots held = option_map (λ bytes. rows_from raw (spelled_rows rest ++ flat_map (rows_of_block bytes) (drop next spots))) held

-- a block has fewer than 2 ^ 32 bytes
abbrev pub bytes_ahead : Bytes → ℕ → List Spot → ℕ
bytes_ahead rest next spots = (length spots - next) * 2 ^ 32 + length rest

-- what is left of a block, and the blocks at these spots, are those of rows in order
pub record AreAhead (rest : Bytes) (spots : List Spot) (bytes : Bytes) : Type 0 where
  pub rows : List Row
  pub spelled : rest ≡ rows_text rows
  pub readable : AreReadable rows
  pub blocks : List (List Row)
  pub placed : AreAt spots blocks bytes
  pub order : AreInOrder (rows ++ joined_blocks blocks)

-- nothing is left of a block
pub record AreBlocksAhead (rest : Bytes) (spots : List Spot) (bytes : Bytes) : Type 0 where
  pub none : rest ≡ []
  pub ahead : AreAhead rest spots bytes

-- what was read of the block at a spot is its rows
abbrev pub IsBodyAt : Spot → Bytes → Bytes → Type 0
IsBodyAt spot body bytes = (rows : List Row) → AreReadable rows → slice_at spot.place spot.bytes bytes ≡ block_text rows → body ≡ rows_text rows

-- ---- the next row of a block

-- the text that a block is
abbrev pub text_of_block : Bytes → Option Bytes
text_of_block block = option_and_then (λ front. if is_empty front.1 then Some front.0 else None) (read_text block)

-- of these rows the first that is not below the raw key, and the bytes of those behind it
pub record IsNextReached (raw : Bytes) (rows : List Row) (row : Row) (behind : Bytes) : Type 0 where
  pub passed : List Row
  pub more : List Row
  pub are : rows ≡ passed ++ row ∷ more
  pub below : rows_from raw passed ≡ []
  pub reaches : is_below raw row ≡ false
  pub spelled : behind ≡ rows_text more

-- the last bytes, and fewer than all
abbrev pub IsTail : Bytes → Bytes → Type 0
IsTail bytes tail = (length tail < length bytes) × (tail ≡ drop (length bytes - length tail) bytes)

abbrev pub IsTailBehind : Bytes → Reached → Type 0
IsTailBehind body (reached.Row front) = IsTail body front.behind.now
IsTailBehind body reached.Behind = Unit {0}
IsTailBehind body reached.Off = Unit {0}

-- it is reached, or all are below
abbrev pub IsReached : Bytes → List Row → Reached → Type 0
IsReached raw rows (reached.Row front) = IsNextReached raw rows (row_seen front.row) front.behind.now
IsReached raw rows reached.Behind = rows_from raw rows ≡ []
IsReached raw rows reached.Off = ⊥

-- it is taken; where there is none nothing is left
abbrev pub IsNextTaken : Bytes → List Row → Option Row → Bytes → Type 0
IsNextTaken raw rows None now = (rows_from raw rows ≡ []) × (now ≡ [])
IsNextTaken raw rows (Some row) now = IsNextReached raw rows row now

-- what is left of a block is not the rows of any
abbrev pub IsOffIn : TableId → Bytes → StoreFault → Type 0
IsOffIn id rest Failed = ⊥
IsOffIn id rest (Damaged file place) = (file ≡ Table id) × ((rows : List Row) → AreReadable rows → rest ≡ rows_text rows → ⊥)
IsOffIn id rest NoMem = Unit {0}
