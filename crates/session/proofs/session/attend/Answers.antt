use Rattle.std.proofs.Common.{◌∙◌, sym}
use Rattle.std.proofs.lemmas.Result.{err_from_is_err_and}
use Rattle.session.proofs.Run.{attend_broken, attend_flushed, attend_stuck}
use Rattle.session.proofs.session.attend.Goals as goal

pub returns-then-has_no_sink-clause-served : goal.returns-then-has_no_sink-clause-served
returns-then-has_no_sink-clause-served g c =
    attend_broken g.D.Desk.told c.args.desk.now c.serve-served.new.desk (g.K.Sink.held c.args.sink.now) (g.K.Sink.held c.serve-served.new.sink)
    c.args.output.now.bytes c.serve-served.new.output.bytes (g.K.Sink.faults c.args.sink.now) (g.K.Sink.faults c.serve-served.new.sink) c.args.reader.now c.serve-served.new.reader c.serve-served.result (sym c.has_no_sink.ensures ∙ c.if-has_no_sink.true) c.serve-served.ensures.served

pub returns-in_err-flush-clause-served : goal.returns-in_err-flush-clause-served
returns-in_err-flush-clause-served g c =
    let p = err_from_is_err_and c.from_residual.result c.from_residual.ensures.1 in
    rw (p.1, p.2) (attend_stuck g.D.Desk.told c.args.desk.now c.serve-served.new.desk (g.K.Sink.held c.args.sink.now) (g.K.Sink.held c.serve-served.new.sink) (g.K.Sink.held c.flush.new.sink)
    c.args.output.now.bytes c.serve-served.new.output.bytes (g.K.Sink.faults c.args.sink.now) (g.K.Sink.faults c.serve-served.new.sink) (g.K.Sink.faults c.flush.new.sink) c.args.reader.now c.serve-served.new.reader c.serve-served.result (sym c.has_no_sink.ensures ∙ c.if-has_no_sink.false)
    c.serve-served.ensures.served c.in_err-flush.ensures.written.front c.serve-served.ensures.later c.in_err-flush.ensures.written.failed)

pub returns-clause-served : goal.returns-clause-served
returns-clause-served g c =
    attend_flushed g.D.Desk.told c.args.desk.now c.serve-served.new.desk (g.K.Sink.held c.args.sink.now) (g.K.Sink.held c.serve-served.new.sink) (g.K.Sink.held c.flush.new.sink)
    c.args.output.now.bytes c.serve-served.new.output.bytes (g.K.Sink.faults c.args.sink.now) (g.K.Sink.faults c.serve-served.new.sink) (g.K.Sink.faults c.flush.new.sink) c.args.reader.now c.serve-served.new.reader c.serve-served.result (sym c.has_no_sink.ensures ∙ c.if-has_no_sink.false)
    c.serve-served.ensures.served c.in_ok-flush.ensures.written.all
