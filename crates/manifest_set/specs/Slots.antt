-- What the two slots of a manifest say: the state of a store, or where the first damage is.
use Rattle.std.specs.Prelude.{◌≡◌, ◌⊎◌, ◌<◌, ℕ, ◌+◌, nat_lt, if◌then◌else◌, ◌==◌, List, [], ◌∷◌, length, Option, Some, None, option_and_then, Result, Ok, Err}
use Rattle.std.specs.Option.{option_map_or, unwrap_or}
use Rattle.kv_base.specs.Map.{Bytes}
use Rattle.kv_base.specs.declared.name.FileName.{FileName}
use Rattle.kv_base.specs.declared.name.FileName.TheVariants.{SlotA, SlotB}
use Rattle.gated_log.specs.Gated.{records}
use Rattle.edit_codec.specs.Records.{read_edit, read_state_head}
use Rattle.edit_codec.specs.States.{new_state, state_after}
use Rattle.edit_codec.specs.declared.state.State.{State}

-- ---- one slot

-- the state of a head with this body, where its epoch is not taken already
abbrev pub begun_state : ℕ → Bytes → Option State
begun_state taken body = option_and_then (λ state. if state.epoch == taken then None else Some state) (read_state_head body)

-- the state after the edit with this body
abbrev pub edited_state : State → Bytes → Option State
edited_state state body = option_and_then (state_after state) (read_edit body)

-- what a record says behind the last state: the first one is a head, each further one an edit
unfoldable pub said_behind : ℕ → Option State → Bytes → Option State
said_behind taken None body = begun_state taken body
said_behind taken (Some state) body = edited_state state body

-- What these bodies say behind the last state, where the first gate stands at this place; or the place of the gate of the
-- first that is damage. A gate and a length take five bytes.
unfoldable pub said_from : ℕ → ℕ → Option State → List Bytes → Result (Option State) ℕ
said_from taken place last [] = Ok last
said_from taken place last (body ∷ bodies) = option_map_or (λ now. said_from taken (place + 5 + length body) (Some now) bodies) (said_behind taken last body) (Err place)

-- what a slot with these bodies says: no state where it has no record
unfoldable pub said_by : ℕ → List Bytes → Result (Option State) ℕ
said_by taken bodies = said_from taken 0 None bodies

-- What a slot with these bytes says. An epoch that the other slot has is taken, so that a head with it is damage; there is
-- no epoch 0.
abbrev pub slot_of : ℕ → Bytes → Result (Option State) ℕ
slot_of taken bytes = said_by taken (records bytes)

-- ---- both slots

abbrev pub epoch_of : Option State → ℕ
epoch_of None = 0
epoch_of (Some state) = state.epoch

-- the one of the later epoch
abbrev pub later_state : Option State → Option State → Option State
later_state slot other = if nat_lt (epoch_of slot) (epoch_of other) then other else slot

-- the other slot says nothing, or a state of an earlier epoch
abbrev pub IsOutdone : Option State → Option State → Type 0
IsOutdone slot other = (other ≡ None) ⊎ (epoch_of other < epoch_of slot)

-- a file, and a place in it that is off its grammar
pub record Damage : Type 0 where
  pub file : FileName
  pub place : ℕ

abbrev pub by_both : Option State → Result (Option State) ℕ → Result State Damage
by_both slot (Ok other) = Ok (unwrap_or (later_state slot other) new_state)
by_both slot (Err place) = Err (record { file = SlotB; place = place })

abbrev pub by_first : Result (Option State) ℕ → Bytes → Result State Damage
by_first (Ok slot) other = by_both slot (slot_of (epoch_of slot) other)
by_first (Err place) other = Err (record { file = SlotA; place = place })

-- The state that slots with these bytes say: that of the later epoch, or that of a new store where neither has a head. Or
-- the first damage: of the first slot, and then of the second.
unfoldable pub slots_of : Bytes → Bytes → Result State Damage
slots_of first second = by_first (slot_of 0 first) second

-- the state that these files say
abbrev pub manifest_state : (FileName → Bytes) → Result State Damage
manifest_state files = slots_of (files SlotA) (files SlotB)

-- ---- names

-- the other slot
abbrev pub other_slot : FileName → FileName
other_slot SlotA = SlotB
other_slot _ = SlotA

abbrev pub IsSlot : FileName → Type 0
IsSlot SlotA = Unit {0}
IsSlot SlotB = Unit {0}
IsSlot _ = ⊥
