use Rattle.std.proofs.Common.{◌≡◌, ◌-◌}
use Rattle.edit_codec.specs.Codecs.{read_onto, read_many}
use Rattle.edit_codec.specs.Records.{read_id}
use Rattle.edit_codec.proofs.front.take_ids.Given as goal

-- what is still to be read, behind what was read, is the whole
abbrev pub invariant-loop-at : goal.invariant-loop-at
invariant-loop-at l = read_onto l.ids.items (read_many read_id (l.count - l._at) l.rest) ≡ read_onto l.initial.ids.items (read_many read_id l.count l.bytes)
