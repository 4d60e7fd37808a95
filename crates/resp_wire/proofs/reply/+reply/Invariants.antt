use Rattle.std.proofs.Common.{◌≤◌}
use Rattle.std.specs.Io.KnownBytes.{Appends}
use Rattle.resp_wire.proofs.ReplyPieces.{array_until}
use Rattle.resp_wire.proofs.reply.+reply.Given as goal

abbrev pub invariant-write_array-loop-part : goal.invariant-write_array-loop-part
invariant-write_array-loop-part g l = record {
  sent : Appends (g.K.Sink.held l.fn.sink) (g.K.Sink.held l.sink) (array_until l.parts l.part-index);
  later : g.K.Sink.faults l.fn.sink ≤ g.K.Sink.faults l.sink;
}
