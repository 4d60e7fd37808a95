use Rattle.std.proofs.Common.{◌≡◌}
use Rattle.resp_wire.specs.Held.{HasHeader}
use Rattle.resp_wire.proofs.pending.read_words.Given as goal

abbrev pub invariant-loop-pending : goal.invariant-loop-pending
invariant-loop-pending l = record {
  begun : HasHeader l.buf l.pending;
  start : l.pending.start ≡ l.fn.pending.start;
}

abbrev pub decreases-loop-pending : goal.decreases-loop-pending
decreases-loop-pending l = l.pending.missing
