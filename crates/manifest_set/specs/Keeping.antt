-- What a manifest keeps: on the disk, two slots that say a state, whatever a crash leaves of them.
use Rattle.std.specs.Prelude.{◌≡◌, ◌⊎◌, ◌+◌, Bool, true, false, if◌then◌else◌, nat_le, List, [], ◌∷◌, ◌++◌, Option, Some, Result, Ok, Err}
use Rattle.std.specs.Option.{unwrap_or}
use Rattle.kv_base.specs.Map.{Bytes}
use Rattle.kv_base.specs.declared.name.FileName.{FileName}
use Rattle.kv_base.specs.declared.name.FileName.TheVariants.{SlotA, SlotB}
use Rattle.kv_base.specs.declared.fault.StoreFault.{StoreFault}
use Rattle.kv_base.specs.declared.fault.StoreFault.TheVariants.{Failed, Damaged, NoMem}
use Rattle.kv_outside.specs.Disk.{Disk, CrashLeaves}
use Rattle.gated_log.specs.Gated.{records, EndsAt}
use Rattle.gated_log.specs.States.{LogState, Rests, Wavers}
use Rattle.edit_codec.specs.States.{new_state, with_epoch, last_epoch}
use Rattle.edit_codec.specs.declared.state.State.{State}
use Rattle.manifest_set.specs.Slots.{IsOutdone, said_by, slot_of, slots_of, manifest_state, other_slot, IsSlot}
use Rattle.manifest_set.specs.declared.slots.Slots.{Slots}

-- ---- what was read

-- the bytes of a slot
abbrev pub slot_bytes : FileName → Bytes → Bytes → Bytes
slot_bytes SlotA first second = first
slot_bytes _ first second = second

-- the other slot says nothing, or a state of an earlier epoch than this one
pub record SaysEarlierEpoch (slot : Option State) (bytes : Bytes) : Type 0 where
  pub other : Option State
  pub says : slot_of 0 bytes ≡ Ok other
  pub outdone : IsOutdone slot other

-- The slots with these bytes say this state, by the one that is active; its records end there.
pub record AreFoundSlots (slots : Slots) (first second : Bytes) : Type 0 where
  pub is_slot : IsSlot slots.active
  pub says : Option State
  pub own : slot_of 0 (slot_bytes slots.active first second) ≡ Ok says
  pub state : slots.state ≡ unwrap_or says new_state
  pub ends : EndsAt slots.end (records (slot_bytes slots.active first second)) (slot_bytes slots.active first second)
  pub behind : SaysEarlierEpoch says (slot_bytes (other_slot slots.active) first second)

-- Both slots were read and have P: they are what they read as, where the disk tells, and what a crash leaves.
pub record Has (disk : Disk) (P : Bytes → Bytes → Type 0) : Type 0 where
  pub first : Bytes
  pub second : Bytes
  pub first_told : (own : Bytes) → disk.reads SlotA ≡ Some own → first ≡ own
  pub second_told : (own : Bytes) → disk.reads SlotB ≡ Some own → second ≡ own
  pub first_left : CrashLeaves disk SlotA (λ c. c ≡ first)
  pub second_left : CrashLeaves disk SlotB (λ c. c ≡ second)
  pub are : P first second

-- what each answer says of the slots of this disk
abbrev pub ReadsSlots : Disk → Result Slots StoreFault → Type 0
ReadsSlots disk (Ok slots) = Has disk (AreFoundSlots slots)
ReadsSlots disk (Err (Damaged file place)) = Has disk (λ first second. slots_of first second ≡ Err (record { file = file; place = place }))
ReadsSlots disk (Err Failed) = Unit {0}
ReadsSlots disk (Err NoMem) = Unit {0}

-- the answer is no damage
abbrev pub NeverDamaged : {T : Type 0} → Result T StoreFault → Type 0
NeverDamaged (Ok x) = Unit {0}
NeverDamaged (Err (Damaged file place)) = ⊥
NeverDamaged (Err Failed) = Unit {0}
NeverDamaged (Err NoMem) = Unit {0}

-- ---- what is kept

-- the image of a slot says nothing, or a state of an earlier epoch
abbrev pub LeavesBehind : Disk → FileName → State → Type 0
LeavesBehind disk name state = CrashLeaves disk name (SaysEarlierEpoch (Some state))

-- The slots of the disk say this state: the log of one has the records that lead to it, and the other is behind.
pub record IsManifestKept (disk : Disk) (log : LogState) (state : State) : Type 0 where
  pub is_slot : IsSlot log.name
  pub bodies : List Bytes
  pub rests : Rests disk log bodies
  pub says : said_by 0 bodies ≡ Ok (Some state)
  pub behind : LeavesBehind disk (other_slot log.name) state

-- They say this state, or the one after an edit whose gate was tried.
pub record IsManifestTried (disk : Disk) (log : LogState) (before after : State) : Type 0 where
  pub is_slot : IsSlot log.name
  pub bodies : List Bytes
  pub body : Bytes
  pub wavers : Wavers disk log bodies body
  pub says : said_by 0 bodies ≡ Ok (Some before)
  pub then_says : said_by 0 (bodies ++ body ∷ []) ≡ Ok (Some after)
  pub epoch : after.epoch ≡ before.epoch
  pub behind : LeavesBehind disk (other_slot log.name) before

-- after an edit that failed: it does not count, but where its gate was tried it may
abbrev pub IsManifestLeft : Bool → Disk → LogState → State → State → Type 0
IsManifestLeft true disk log before after = IsManifestTried disk log before after
IsManifestLeft false disk log before after = IsManifestKept disk log before

-- the files say the state before, or the one after
abbrev pub SaysBeforeOrAfter : State → State → (FileName → Bytes) → Type 0
SaysBeforeOrAfter before after files = (manifest_state files ≡ Ok before) ⊎ (manifest_state files ≡ Ok after)

-- the state when it is written anew: in the next epoch, but for the last one
abbrev pub next_state : State → State
next_state state = if nat_le last_epoch state.epoch then state else with_epoch (state.epoch + 1) state
