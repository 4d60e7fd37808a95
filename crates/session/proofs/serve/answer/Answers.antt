use Rattle.std.proofs.Common.{sym, ◌∙◌}
use Rattle.std.proofs.lemmas.Result.{err_from_is_err_and}
use Rattle.session.proofs.Serving.{answers_quit, answers_on, answers_broken}
use Rattle.session.proofs.serve.answer.Goals as goal

pub returns-in_err-send-clause-said : goal.returns-in_err-send-clause-said
returns-in_err-send-clause-said g c =
    let p = err_from_is_err_and c.from_residual.result c.from_residual.ensures.1 in
    rw (p.1, p.2) (answers_broken g.D.Desk.told c.args.desk.now c.take_turn-said.new.desk (g.K.Sink.held c.args.sink.now) (g.K.Sink.held c.send.new.sink) c.args.output.now.bytes c.send.new.output.bytes
    (g.K.Sink.faults c.args.sink.now) (g.K.Sink.faults c.send.new.sink) c.args.words c.take_turn-said.result c.take_turn-said.ensures.turn c.in_err-send.ensures.sent.front c.in_err-send.ensures.sent.failed)

pub returns-then-is_quit-clause-said : goal.returns-then-is_quit-clause-said
returns-then-is_quit-clause-said g c =
    answers_quit g.D.Desk.told c.args.desk.now c.take_turn-said.new.desk (g.K.Sink.held c.args.sink.now) (g.K.Sink.held c.send.new.sink) c.args.output.now.bytes c.send.new.output.bytes
    (g.K.Sink.faults c.args.sink.now) (g.K.Sink.faults c.send.new.sink) c.args.words c.take_turn-said.result c.take_turn-said.ensures.turn (sym c.is_quit.ensures ∙ c.if-is_quit.true) c.in_ok-send.ensures.sent.all

pub returns-clause-said : goal.returns-clause-said
returns-clause-said g c =
    answers_on g.D.Desk.told c.args.desk.now c.take_turn-said.new.desk (g.K.Sink.held c.args.sink.now) (g.K.Sink.held c.send.new.sink) c.args.output.now.bytes c.send.new.output.bytes
    (g.K.Sink.faults c.args.sink.now) (g.K.Sink.faults c.send.new.sink) c.args.words c.take_turn-said.result _ c.take_turn-said.ensures.turn (sym c.is_quit.ensures ∙ c.if-is_quit.false) c.in_ok-send.ensures.sent.all
