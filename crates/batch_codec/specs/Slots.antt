-- The entries of a batch as code keeps them.
use Rattle.std.specs.Prelude.{List, [], ◌∷◌, map, Option, Some, None, if◌then◌else◌}
use Rattle.std.specs.declared.cmp.Ordering.{Ordering}
use Rattle.kv_base.specs.Map.{Bytes, byte_cmp, same, from_list}
use Rattle.batch_codec.specs.declared.slot.Slot.{Slot}
use Rattle.batch_codec.specs.declared.slot.Slot.TheVariants.{Put, Del}
use Rattle.batch_codec.specs.declared.slot.Entry.{Entry}
use Rattle.batch_codec.specs.Batches as batches

abbrev pub slot_value : Slot → Option Bytes
slot_value (Put value) = Some value
slot_value Del = None

abbrev pub slot_entry : Entry → batches.BatchEntry
slot_entry entry = (entry.raw, slot_value entry.slot)

abbrev pub slot_entries : List Entry → List batches.BatchEntry
slot_entries = map slot_entry

abbrev pub batch_of : List Entry → batches.Batch
batch_of entries = from_list (slot_entries entries)

-- by raw key
abbrev pub raw_cmp : Entry → Entry → Ordering
raw_cmp entry other = byte_cmp entry.raw other.raw

-- of an entry and those behind it, the last of neighbours with one raw key
abbrev pub lasts_from : Entry → List Entry → List Entry
lasts_from kept [] = kept ∷ []
lasts_from kept (entry ∷ rest) = if same entry.raw kept.raw then lasts_from entry rest else kept ∷ lasts_from entry rest

abbrev pub lasts : List Entry → List Entry
lasts [] = []
lasts (entry ∷ rest) = lasts_from entry rest
