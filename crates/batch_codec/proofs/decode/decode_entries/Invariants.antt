use Rattle.std.proofs.Common.{◌≡◌, ◌-◌, None, option_map}
use Rattle.kv_base.specs.Map.{empty}
use Rattle.batch_codec.proofs.Reading.{onto}
use Rattle.batch_codec.proofs.decode.decode_entries.Given as goal

-- what is still to be read, onto what was read, is the whole
abbrev pub invariant-loop-at : goal.invariant-loop-at
invariant-loop-at l = onto l.batch (l.count - l._at) (option_map (λ raw. raw.now) l.last) l.rest ≡ onto empty l.count None l.bytes
