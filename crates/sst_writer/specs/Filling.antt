-- A table's file while the table's rows come in.
use Rattle.std.specs.Prelude.{ℕ, List, Option}
use Rattle.kv_base.specs.Map.{Bytes}
use Rattle.kv_base.specs.declared.row.Row.{Row}
use Rattle.sst_parts.specs.declared.index.Spot.{Spot}
use Rattle.sst_parts.specs.declared.key_hash.KeyHash.{KeyHash}
use Rattle.sst_writer.specs.Building.{IsBuilt}
use Rattle.sst_writer.specs.Cutting.{AreNext, AreTakenSoFar}
use Rattle.sst_writer.specs.Writing.{HoldsBlocks}

-- the rows of the next table came in, and their blocks are in the file or wait
pub record IsFilled (limit : Option ℕ) (old now : Option (List Row)) (held : Option Bytes) (written : ℕ) (waiting : Bytes) (end : ℕ) (block : Bytes) (spots : List Spot) (count : ℕ) (keys : List KeyHash) (least : Option Bytes) (last : Option Row) : Type 0 where
  pub done : List Row
  pub built : IsBuilt end block spots count keys least last done
  pub file : HoldsBlocks done written waiting held
  pub taken : AreNext limit done old now

-- some of them came in
pub record IsFilling (limit : Option ℕ) (old now : Option (List Row)) (held : Option Bytes) (written : ℕ) (waiting : Bytes) (end : ℕ) (block : Bytes) (spots : List Spot) (count : ℕ) (keys : List KeyHash) (least : Option Bytes) (last : Option Row) : Type 0 where
  pub done : List Row
  pub built : IsBuilt end block spots count keys least last done
  pub file : HoldsBlocks done written waiting held
  pub taken : AreTakenSoFar limit done old now
