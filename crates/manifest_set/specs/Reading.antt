-- How the slots are read: what each answer says of their bytes.
use Rattle.std.specs.Prelude.{◌≡◌, ℕ, nat_lt, if◌then◌else◌, Result, Ok, Err}
use Rattle.std.specs.Option.{unwrap_or}
use Rattle.kv_base.specs.Map.{Bytes}
use Rattle.kv_base.specs.declared.name.FileName.{FileName}
use Rattle.kv_base.specs.declared.name.FileName.TheVariants.{SlotA, SlotB}
use Rattle.kv_base.specs.declared.fault.StoreFault.{StoreFault}
use Rattle.kv_base.specs.declared.fault.StoreFault.TheVariants.{Failed, Damaged, NoMem}
use Rattle.gated_log.specs.Gated.{records, EndsAt}
use Rattle.edit_codec.specs.States.{new_state}
use Rattle.manifest_set.specs.Slots.{slot_of, slots_of, epoch_of}
use Rattle.manifest_set.specs.Keeping.{AreFoundSlots}
use Rattle.manifest_set.specs.declared.read.ReadSlot.{ReadSlot}
use Rattle.manifest_set.specs.declared.slots.Slots.{Slots}

-- ---- one slot

pub record IsRead (taken : ℕ) (slot : ReadSlot) (bytes : Bytes) : Type 0 where
  pub says : slot_of taken bytes ≡ Ok slot.says
  pub ends : EndsAt slot.end (records bytes) bytes

pub record IsSlotDamage (name file : FileName) (taken place : ℕ) (bytes : Bytes) : Type 0 where
  pub file_is : file ≡ name
  pub place_is : slot_of taken bytes ≡ Err place

-- what each answer says of a slot of this name with these bytes
abbrev pub ReadsOne : FileName → ℕ → Bytes → Result ReadSlot StoreFault → Type 0
ReadsOne name taken bytes (Ok slot) = IsRead taken slot bytes
ReadsOne name taken bytes (Err (Damaged file place)) = IsSlotDamage name file taken place bytes
ReadsOne name taken bytes (Err Failed) = ⊥
ReadsOne name taken bytes (Err NoMem) = Unit {0}

-- ---- both slots

abbrev pub at_slot : FileName → ReadSlot → Slots
at_slot name slot = record { state = unwrap_or slot.says new_state; active = name; end = slot.end }

-- the slot of the later epoch
abbrev pub newer_slot : ReadSlot → ReadSlot → Slots
newer_slot first second = if nat_lt (epoch_of second.says) (epoch_of first.says) then at_slot SlotA first else at_slot SlotB second

abbrev pub ReadsBoth : Bytes → Bytes → Result Slots StoreFault → Type 0
ReadsBoth first second (Ok slots) = AreFoundSlots slots first second
ReadsBoth first second (Err (Damaged file place)) = slots_of first second ≡ Err (record { file = file; place = place })
ReadsBoth first second (Err Failed) = ⊥
ReadsBoth first second (Err NoMem) = Unit {0}
