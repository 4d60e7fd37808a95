use Rattle.std.proofs.Common.{◌≤◌, [], drop, length, ◌-◌}
use Rattle.resp_wire.specs.Reading.{ReadsRequest}
use Rattle.resp_wire.specs.Held.{IsIdle}
use Rattle.resp_wire.proofs.pending.begin.Given as goal

abbrev pub invariant-loop : goal.invariant-loop
invariant-loop l = record {
  idle : IsIdle l.buf l.pending;
  forward : l.fn.pending.start ≤ l.pending.start;
  skipped : ReadsRequest (drop l.fn.pending.start l.buf) [] (drop l.pending.start l.buf);
}

abbrev pub decreases-loop : goal.decreases-loop
decreases-loop l = length l.buf - l.pending.start
