-- The blocks of a table are its rows, and each of them is closed where it is to be.
use Rattle.std.proofs.Common.{◌≡◌, ◌≢◌, ◌<◌, List, [], ◌∷◌, ◌++◌, true, length}
use Rattle.kv_base.specs.declared.row.Row.{Row}
use Rattle.sst_parts.specs.RowTexts.{rows_text}
use Rattle.sst_parts.specs.Blocks.{block_size, is_full, Filled}
use Rattle.sst_parts.specs.BlockBodies.{have_room}

-- rows of blocks, one block after the other
abbrev pub joined_blocks : List (List Row) → List Row
joined_blocks [] = []
joined_blocks (rows ∷ more) = rows ++ joined_blocks more

-- ---- a block

-- some rows, each of which begins where the body has room
pub record IsBlock (rows : List Row) : Type 0 where
  pub some : rows ≢ []
  pub room : have_room (length (rows_text rows)) rows ≡ true

-- and these fill it
pub record IsFullBlock (rows : List Row) : Type 0 where
  pub block : IsBlock rows
  pub full : is_full rows ≡ true

abbrev pub AreFull : List (List Row) → Type 0
AreFull [] = Unit {0}
AreFull (rows ∷ more) = IsFullBlock rows × AreFull more

-- rows that wait leave room, and one more makes a block
pub record AreWaiting (rows : List Row) : Type 0 where
  pub low : length (rows_text rows) < block_size
  pub room : have_room (length (rows_text rows)) rows ≡ true

-- ---- filling

-- rows are in closed blocks and in an open one
pub record AreIn (f : Filled) (rows : List Row) : Type 0 where
  pub full : AreFull f.closed
  pub waiting : AreWaiting f.waiting
  pub whole : rows ≡ joined_blocks f.closed ++ f.waiting

-- ---- the blocks

-- each is full but the last
abbrev pub AreBlocks : List (List Row) → Type 0
AreBlocks [] = Unit {0}
AreBlocks (rows ∷ []) = IsBlock rows
AreBlocks (rows ∷ next ∷ more) = IsFullBlock rows × AreBlocks (next ∷ more)
