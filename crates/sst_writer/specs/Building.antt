-- A table as it is built, row by row.
use Rattle.std.specs.Prelude.{◌≡◌, ℕ, ◌+◌, List, [], ◌∷◌, ◌++◌, true, IsTrue, length, Option, Some, None}
use Rattle.std.specs.declared.vec.Vec.{Vec}
use Rattle.kv_base.specs.Map.{Bytes}
use Rattle.kv_base.specs.Fields.{text}
use Rattle.kv_base.specs.declared.row.Row.{Row}
use Rattle.sst_parts.specs.declared.index.Spot.{Spot}
use Rattle.sst_parts.specs.declared.key_hash.KeyHash.{KeyHash}
use Rattle.sst_parts.specs.RowTexts.{rows_text}
use Rattle.sst_parts.specs.Blocks.{filled, blocks_text}
use Rattle.sst_parts.specs.BlockBodies.{are_u64, is_chain}
use Rattle.sst_parts.specs.Index.{spots_from}
use Rattle.sst_parts.specs.Tables.{head_length}
use Rattle.sst_sums.specs.Summing.{AreSums}

-- what is kept of these rows, of which each may stand behind the one before it
pub record IsBuilt (end : ℕ) (block : Bytes) (spots : List Spot) (count : ℕ) (keys : List KeyHash) (least : Option Bytes) (last : Option Row) (rows : List Row) : Type 0 where
  pub place : end ≡ head_length + length (blocks_text (filled rows).closed)
  pub waiting : block ≡ rows_text (filled rows).waiting
  pub index : spots ≡ spots_from head_length (filled rows).closed
  pub sums : AreSums count keys least last rows
  pub chain : is_chain None rows ≡ true
  pub sequences : IsTrue (are_u64 rows)

-- the bytes that came out
abbrev pub chunk : {A : Type 0} → Option (Vec ℕ A) → Bytes
chunk None = []
chunk (Some bytes) = bytes.items

-- with a row more, the closed blocks have these bytes more
pub record IsMore (rows : List Row) (row : Row) (bytes : Bytes) : Type 0 where
  pub is : blocks_text (filled (rows ++ row ∷ [])).closed ≡ blocks_text (filled rows).closed ++ bytes

-- a block was closed behind this raw key
pub record IsClosed (end : ℕ) (block : Bytes) (spots : List Spot) (raw : Bytes) (next : ℕ) (now : Bytes) (more : List Spot) (bytes : Bytes) : Type 0 where
  pub bytes_are : bytes ≡ text block
  pub next_is : next ≡ end + length bytes
  pub empty : now ≡ []
  pub spots_are : more ≡ spots ++ record { place = end; bytes = length bytes; last = raw } ∷ []

-- the sums of a table are those that it had
abbrev pub AreThose : (total count : ℕ) (more keys : List KeyHash) (first least : Option Bytes) (now last : Option Row) → Type 0
AreThose total count more keys first least now last = (total ≡ count) × (more ≡ keys) × (first ≡ least) × (now ≡ last)
