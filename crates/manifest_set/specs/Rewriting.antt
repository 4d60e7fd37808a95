-- What happens to the slots while one is written anew.
use Rattle.std.specs.Prelude.{◌≡◌, ◌⊎◌, List, [], ◌∷◌}
use Rattle.kv_base.specs.Map.{Bytes}
use Rattle.kv_base.specs.declared.name.FileName.{FileName}
use Rattle.kv_outside.specs.Disk.{Disk, Touches}
use Rattle.gated_log.specs.Gated.{records}
use Rattle.manifest_set.specs.Slots.{IsSlot}

-- the records are these, or none, or the head alone
abbrev pub IsBeforeOrHead : List Bytes → Bytes → Bytes → Type 0
IsBeforeOrHead bodies head file = (records file ≡ bodies) ⊎ ((records file ≡ []) ⊎ (records file ≡ head ∷ []))

-- a run on one slot alone
pub record TouchesSlot (old new : Disk) : Type 0 where
  pub slot : FileName
  pub is_slot : IsSlot slot
  pub run : Touches slot old new (λ c. Unit {0})
