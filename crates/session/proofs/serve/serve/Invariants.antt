use Rattle.std.proofs.Common.{◌≡◌, ◌≤◌, length}
use Rattle.session.specs.Serving.{Serving}
use Rattle.session.proofs.serve.serve.Given as goal

abbrev pub invariant-loop-words : goal.invariant-loop-words
invariant-loop-words g l = record {
  serving : Serving g.D.Desk.told l.fn.desk l.desk (g.K.Sink.held l.fn.sink) (g.K.Sink.held l.sink) l.fn.output.bytes l.output.bytes l.fn.reader l.reader;
  later : g.K.Sink.faults l.fn.sink ≤ g.K.Sink.faults l.sink;
  loans : g.D.Desk.loans l.desk ≡ g.D.Desk.loans l.fn.desk;
}

abbrev pub decreases-loop-words : goal.decreases-loop-words
decreases-loop-words g l = length l.reader
