use Rattle.std.proofs.Common.{◌≡◌, ◌+◌, length, drop}
use Rattle.batch_codec.specs.Bodies.{entries_text}
use Rattle.batch_codec.specs.Slots.{slot_entries}
use Rattle.batch_codec.proofs.batch.Batch.body_len.Given as goal

-- the bytes that are counted, with those of the entries to come
abbrev pub invariant-loop-entry : goal.invariant-loop-entry
invariant-loop-entry l = l.total + length (entries_text (slot_entries (drop l.entry-index l.entry-items))) ≡ 20 + length (entries_text (slot_entries l.entry-items))
