-- The blocks of a table as they are read, and what is summed up of their rows.
use Rattle.std.specs.Prelude.{◌≡◌, ℕ, Bool, List, ◌++◌, drop, Option, None, Result, Ok}
use Rattle.kv_base.specs.Map.{Bytes}
use Rattle.kv_base.specs.declared.row.Row.{Row}
use Rattle.sst_parts.specs.declared.index.Spot.{Spot}
use Rattle.sst_parts.specs.declared.key_hash.KeyHash.{KeyHash}
use Rattle.sst_parts.specs.BlockBodies.{last_row}
use Rattle.sst_grammar.specs.Judging.{slice_at, or_off, read_block, rows_in_front, judged_blocks}
use Rattle.sst_sums.specs.Summing.{AreSums}

-- one block, behind this row
abbrev pub judged_block : Bool → Option Row → Spot → Bytes → Result (List Row) ℕ
judged_block is_last before spot bytes = or_off spot.place (read_block is_last before spot (slice_at spot.place spot.bytes bytes))

-- its rows, and sums that have them too
pub record IsBlockRead (is_last : Bool) (spot : Spot) (count total : ℕ) (keys more : List KeyHash) (least first : Option Bytes) (last now : Option Row) (bytes : Bytes) : Type 0 where
  pub rows : List Row
  pub judged_is : judged_block is_last last spot bytes ≡ Ok rows
  pub sums : (done : List Row) → AreSums count keys least last done → AreSums total more first now (done ++ rows)

-- the blocks in front of a place are read, and those behind it decide
pub record AreRead (spots : List Spot) (at count : ℕ) (keys : List KeyHash) (least : Option Bytes) (last : Option Row) (bytes : Bytes) : Type 0 where
  pub done : List Row
  pub sums : AreSums count keys least last done
  pub judged_is : judged_blocks None spots bytes ≡ rows_in_front done (judged_blocks (last_row None done) (drop at spots) bytes)

-- all blocks
pub record AreAllRead (spots : List Spot) (count : ℕ) (keys : List KeyHash) (least : Option Bytes) (last : Option Row) (bytes : Bytes) : Type 0 where
  pub rows : List Row
  pub judged_is : judged_blocks None spots bytes ≡ Ok rows
  pub sums : AreSums count keys least last rows
