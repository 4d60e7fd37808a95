use Rattle.std.proofs.Common.{◌≡◌, ◌-◌}
use Rattle.edit_codec.specs.Codecs.{read_onto, read_many}
use Rattle.edit_codec.specs.Records.{read_home}
use Rattle.edit_codec.proofs.front.take_homes.Given as goal

-- what is still to be read, behind what was read, is the whole
abbrev pub invariant-loop-at : goal.invariant-loop-at
invariant-loop-at l = read_onto l.homes.items (read_many read_home (l.count - l._at) l.rest) ≡ read_onto l.initial.homes.items (read_many read_home l.count l.bytes)
