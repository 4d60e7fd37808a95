-- Words of the search in a table's blocks.
use Rattle.std.specs.Prelude.{◌≡◌, ℕ, Bool, if◌then◌else◌, List, Option, Some, None, option_map, Ok}
use Rattle.std.specs.Ordering.{is_lt}
use Rattle.kv_base.specs.Map.{Bytes, byte_cmp, same}
use Rattle.kv_base.specs.declared.row.Row.{Row}
use Rattle.merge_rows.specs.Cursors.{AreInOrder}
use Rattle.sst_parts.specs.declared.index.Spot.{Spot}
use Rattle.sst_parts.specs.Blocks.{block_text}
use Rattle.sst_parts.specs.BlockLists.{joined_blocks}
use Rattle.sst_parts.specs.Seeking.{AreReadable, first_from}
use Rattle.sst_grammar.specs.Judging.{judged_table, slice_at}
use Rattle.sst_grammar.specs.Placing.{AreAt}

-- at the spot stands the block of some rows
abbrev pub HasBlock : Spot → Bytes → Type 0
HasBlock spot bytes = (rows : List Row) × AreReadable rows × (slice_at spot.place spot.bytes bytes ≡ block_text rows)

-- the first row from a place on is the answer, where it has the raw key
abbrev pub with_raw_key : Bytes → Row → Option Row
with_raw_key raw row = if same raw row.raw then Some row else None

-- the block's rows are below a raw key
abbrev pub ends_below : Bytes → Spot → Bool
ends_below raw spot = is_lt (byte_cmp spot.last raw)

-- behind the blocks that were searched: the row that is sought is the first one in these
pub record AreBlocksLeft (raw : Bytes) (s : ℕ) (spots : List Spot) (bytes : Bytes) : Type 0 where
  pub rows : List Row
  pub judged_is : judged_table bytes ≡ Ok rows
  pub order : AreInOrder rows
  pub blocks : List (List Row)
  pub placed : AreAt spots blocks bytes
  pub first : first_from raw s rows ≡ first_from raw s (joined_blocks blocks)

-- what was found in the next block
abbrev pub FoundIn : Bytes → ℕ → Spot → Option (Option Row) → Bytes → Type 0
FoundIn raw s spot found bytes = (rows : List Row) → AreReadable rows → slice_at spot.place spot.bytes bytes ≡ block_text rows → found ≡ option_map (with_raw_key raw) (first_from raw s rows)
