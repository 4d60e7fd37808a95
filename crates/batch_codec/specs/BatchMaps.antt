-- The map that the entries of a batch are, and what the calls of a batch make of it.
use Rattle.std.proofs.Common.{◌≡◌, ℕ, ◌<◌, ◌≤◌, List, length}
use Rattle.std.specs.Prelude.{Option, T, IsTrue}
use Rattle.std.specs.List.{HoldsAt}
use Rattle.std.specs.List.Sorted.{IsPartitionPoint}
use Rattle.std.specs.declared.cmp.Ordering.TheVariants.{Less, Equal, Greater}
use Rattle.std.specs.FinMap.Entries.{is_sorted}
use Rattle.kv_base.specs.Map.{Bytes, byte_cmp, insert}
use Rattle.batch_codec.specs.declared.slot.Entry.{Entry}
use Rattle.batch_codec.specs.Batches.{are_rows}
use Rattle.batch_codec.specs.Slots.{slot_entries, batch_of}

-- the raw key stands at this place
abbrev pub IsThere : List Entry → Bytes → ℕ → Type 0
IsThere xs raw at = (at < length xs) × HoldsAt (λ e. byte_cmp e.raw raw ≡ Equal) xs at

-- the raw key stands nowhere, and this is its place in the order
abbrev pub IsBetween : List Entry → Bytes → ℕ → Type 0
IsBetween xs raw at = (at ≤ length xs) × IsPartitionPoint (λ e. byte_cmp e.raw raw ≡ Less) (λ e. byte_cmp e.raw raw ≡ Greater) xs at

abbrev pub AreSortedEntries : List Entry → Type 0
AreSortedEntries xs = T (is_sorted byte_cmp (slot_entries xs)) × IsTrue (are_rows (slot_entries xs))

pub record Sets (old new : List Entry) (raw : Bytes) (value : Option Bytes) : Type 0 where
  pub kept : AreSortedEntries new
  pub is : batch_of new ≡ insert (batch_of old) raw value
