use Rattle.std.proofs.Common.{◌≡◌, ◌≤◌, ◌-◌, ◌^◌}
use Rattle.session.proofs.Run.{InRun}
use Rattle.session.proofs.session.serve_session.Given as goal

abbrev pub invariant-loop-taken : goal.invariant-loop-taken
invariant-loop-taken g l = record {
  run : InRun g.D.Desk.told l.fn.desk l.desk (g.S.Source.left l.fn.source) (g.S.Source.left l.source) (g.K.Sink.held l.fn.sink) (g.K.Sink.held l.sink) l.output.bytes l.reader l.taken;
  ended : g.S.Source.ended l.source ≡ g.S.Source.ended l.fn.source;
  source : g.S.Source.faults l.fn.source ≤ g.S.Source.faults l.source;
  sink : g.K.Sink.faults l.fn.sink ≤ g.K.Sink.faults l.sink;
  loans : g.D.Desk.loans l.desk ≡ g.D.Desk.loans l.fn.desk;
}

abbrev pub decreases-loop-taken : goal.decreases-loop-taken
decreases-loop-taken g l = 2 ^ 40 - l.taken
