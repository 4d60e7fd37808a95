use Rattle.std.proofs.Common.{arith, refl, ◌∙◌}
use Rattle.std.proofs.lemmas.Result.{err_from_is_err_and}
use Rattle.session.proofs.Serving.{serving_none, serving_more, serves_all, reader_stops, answer_stops}
use Rattle.session.proofs.serve.serve.Goals as goal

pub loop-words-init : goal.loop-words-init
loop-words-init g c = record {
  serving = serving_none g.D.Desk.told c.args.desk.now (g.K.Sink.held c.args.sink.now) c.args.output.now.bytes c.args.reader.now;
  later = omega arith;
  loans = refl;
}

pub returns-in_err-words-clause-served : goal.returns-in_err-words-clause-served
returns-in_err-words-clause-served g c =
    let p = err_from_is_err_and c.from_residual.result c.from_residual.ensures.1 in
    rw (p.1, p.2) (reader_stops g.D.Desk.told c.args.desk.now c.loop-words.desk (g.K.Sink.held c.args.sink.now) (g.K.Sink.held c.loop-words.sink)
    c.args.output.now.bytes c.loop-words.output.bytes c.args.reader.now c.loop-words.reader c.next_words.new.reader (g.K.Sink.faults c.args.sink.now) (g.K.Sink.faults c.loop-words.sink) c.in_err-words.field-0.0 c.loop-words.invariant.serving c.in_err-words.ensures)

pub loop-words-preserved : goal.loop-words-preserved
loop-words-preserved g c =
    let got = rw c.in-Some.is at c.in_ok-words.ensures in
    record {
      serving = serving_more g.D.Desk.told c.args.desk.now c.loop-words.desk c.answer.new.desk (g.K.Sink.held c.args.sink.now) (g.K.Sink.held c.loop-words.sink) (g.K.Sink.held c.answer.new.sink)
          c.args.output.now.bytes c.loop-words.output.bytes c.answer.new.output.bytes c.args.reader.now c.loop-words.reader c.next_words.new.reader c.in-Some.words _ _ _ c.loop-words.invariant.serving got.0 got.2.some c.in_ok-answer.ensures.said;
      later = omega (arith, c.in_ok-answer.ensures.later, c.loop-words.invariant.later);
      loans = c.in_ok-answer.ensures.loans ∙ c.loop-words.invariant.loans;
    }

pub returns-in_err-answer-clause-served : goal.returns-in_err-answer-clause-served
returns-in_err-answer-clause-served g c =
    let p = err_from_is_err_and c.from_residual-in_err-answer.result c.from_residual-in_err-answer.ensures.1 in
    let got = rw c.in-Some.is at c.in_ok-words.ensures in
    rw (p.1, p.2) (answer_stops g.D.Desk.told c.args.desk.now c.loop-words.desk c.answer.new.desk (g.K.Sink.held c.args.sink.now) (g.K.Sink.held c.loop-words.sink) (g.K.Sink.held c.answer.new.sink)
    c.args.output.now.bytes c.loop-words.output.bytes c.answer.new.output.bytes c.args.reader.now c.loop-words.reader c.next_words.new.reader c.in-Some.words
    (g.K.Sink.faults c.args.sink.now) (g.K.Sink.faults c.loop-words.sink) (g.K.Sink.faults c.answer.new.sink) c.in_err-answer.field-0.0 c.loop-words.invariant.serving got.0 got.2.some c.loop-words.invariant.later c.in_err-answer.ensures.said)

pub returns-clause-served : goal.returns-clause-served
returns-clause-served g c =
    let none = rw c.in_default.is at c.in_ok-words.ensures in
    serves_all g.D.Desk.told c.args.desk.now c.loop-words.desk (g.K.Sink.held c.args.sink.now) (g.K.Sink.held c.loop-words.sink)
    c.args.output.now.bytes c.loop-words.output.bytes c.args.reader.now c.loop-words.reader c.next_words.new.reader (g.K.Sink.faults c.args.sink.now) (g.K.Sink.faults c.loop-words.sink) _ c.loop-words.invariant.serving none.0 none.1
