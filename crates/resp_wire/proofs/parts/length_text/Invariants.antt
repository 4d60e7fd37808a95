use Rattle.std.proofs.Common.{◌≡◌, ◌≤◌, length, unwrap_or}
use Rattle.resp_wire.specs.Grammar.{length_from, length_text}
use Rattle.resp_wire.proofs.parts.length_text.Given as goal

abbrev pub invariant-loop-rest : goal.invariant-loop-rest
invariant-loop-rest l = record {
  same : length_from l.limit l.left l.number l.rest ≡ length_text l.limit l.bytes;
  within : unwrap_or l.number 0 ≤ 1048576;
}

abbrev pub decreases-loop-rest : goal.decreases-loop-rest
decreases-loop-rest l = length l.rest
