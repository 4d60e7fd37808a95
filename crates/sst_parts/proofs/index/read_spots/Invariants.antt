use Rattle.std.proofs.Common.{◌≡◌, ◌-◌}
use Rattle.sst_parts.specs.Index.{read_spots}
use Rattle.sst_parts.specs.IndexLaws.{spots_onto}
use Rattle.sst_parts.proofs.index.read_spots.Given as goal

-- what is still to be read, behind what was read, is the whole
abbrev pub invariant-loop-block : goal.invariant-loop-block
invariant-loop-block l = spots_onto l.spots.items (read_spots (l.count - l._block) l.at l.end l.rest) ≡ read_spots l.count l.place l.end l.bytes
