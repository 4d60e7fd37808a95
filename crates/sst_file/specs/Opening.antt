-- Why a table is not opened, and what is summed up of its rows while it is read.
use Rattle.std.specs.Prelude.{◌≡◌, ◌≢◌, ◌⊎◌, ℕ, ◌-◌, true, false, List, Option, Some, IfSome, Result, Ok, Err}
use Rattle.kv_base.specs.Map.{Bytes, same}
use Rattle.kv_base.specs.declared.name.FileName.TheVariants.{Table}
use Rattle.kv_base.specs.declared.name.TableId.{TableId}
use Rattle.kv_base.specs.declared.fault.StoreFault.{StoreFault}
use Rattle.kv_base.specs.declared.fault.StoreFault.TheVariants.{Failed, Damaged, NoMem}
use Rattle.kv_outside.specs.Causes.{Rose}
use Rattle.kv_base.specs.declared.row.Row.{Row}
use Rattle.sst_parts.specs.declared.foot.Foot.{Foot}
use Rattle.sst_parts.specs.declared.index.Spot.{Spot}
use Rattle.sst_parts.specs.declared.key_hash.KeyHash.{KeyHash}
use Rattle.sst_parts.specs.Filter.{filter_of}
use Rattle.sst_grammar.specs.Judging.{judged_foot, judged_index, judged_filter}
use Rattle.kv_base.specs.declared.table.TableDesc.{TableDesc}

-- a call failed where the count rose; the table's file is damaged at the place that is found to be off its grammar, where
-- its bytes are told; and memory may run out at any time
abbrev pub IsBlame : {X : Type 0} → ℕ → ℕ → TableId → Option Bytes → (Bytes → Result X ℕ) → StoreFault → Type 0
IsBlame before now id held judge Failed = Rose before now
IsBlame before now id held judge (Damaged file place) = (file ≡ Table id) × IfSome held (λ bytes. judge bytes ≡ Err place)
IsBlame before now id held judge NoMem = Unit {0}

-- three parts that were opened
pub record ThreeParts (foot : Foot) (spots : List Spot) (bits bytes : Bytes) : Type 0 where
  pub foot_is : judged_foot bytes ≡ Ok foot
  pub index_is : judged_index foot bytes ≡ Ok spots
  pub filter_is : judged_filter foot bytes ≡ Ok bits

-- what all rows together tell: their number, and the bits of their raw keys
pub record DoAgree (foot : Foot) (bits : Bytes) (count : ℕ) (keys : List KeyHash) : Type 0 where
  pub number : count ≡ foot.rows
  pub filter : same bits (filter_of keys) ≡ true

-- the foot is to blame for another number, at its place in a file of so many bytes, and the filter for other bits
abbrev pub IsWholeBlame : TableId → ℕ → Foot → Bytes → ℕ → List KeyHash → StoreFault → Type 0
IsWholeBlame id bytes foot bits count keys Failed = ⊥
IsWholeBlame id bytes foot bits count keys (Damaged file place) =
    (file ≡ Table id) × (((count ≢ foot.rows) × (place ≡ bytes - 36)) ⊎ ((count ≡ foot.rows) × (same bits (filter_of keys) ≡ false) × (place ≡ foot.filter)))
IsWholeBlame id bytes foot bits count keys NoMem = Unit {0}

-- what the manifest records of a table, by what was summed up of its rows
pub record IsDescOf (desc : TableDesc) (id : TableId) (bytes count : ℕ) (least : Option Bytes) (last : Option Row) : Type 0 where
  pub id_is : desc.id ≡ id
  pub size : desc.bytes ≡ bytes
  pub number : desc.rows ≡ count
  pub first : least ≡ Some desc.least
  pub row : Row
  pub ended : last ≡ Some row
  pub greatest : desc.greatest ≡ row.raw
