use Rattle.std.proofs.Common.{take, ◌≤◌}
use Rattle.std.specs.List.{flat_map}
use Rattle.std.specs.Io.KnownBytes.{Appends}
use Rattle.kv_outside.proofs.writing.write_pieces.Given as goal

abbrev pub invariant-loop-piece : goal.invariant-loop-piece
invariant-loop-piece g l = record {
  sent : Appends (g.K.Sink.held l.fn.sink) (g.K.Sink.held l.sink) (flat_map (λ piece. piece.now) (take l.piece-index l.pieces));
  later : g.K.Sink.faults l.fn.sink ≤ g.K.Sink.faults l.sink;
}
