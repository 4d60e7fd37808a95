use Rattle.std.proofs.Common.{◌≡◌, ◌++◌, drop}
use Rattle.batch_codec.specs.Bodies.{entries_text}
use Rattle.batch_codec.specs.Slots.{slot_entries}
use Rattle.batch_codec.proofs.body.write_entries.Given as goal

abbrev pub invariant-loop-entry : goal.invariant-loop-entry
invariant-loop-entry l = l.body ++ entries_text (slot_entries (drop l.entry-index l.entries)) ≡ l.initial.body ++ entries_text (slot_entries l.entries)
