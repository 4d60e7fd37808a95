use Rattle.std.proofs.Common.{◌∙◌, ℕ, take, ap}
use Rattle.std.proofs.lemmas.Result.{err_from_is_err_and}
use Rattle.session.proofs.Waiting.{taken_back, sends_waiting, sends_straight, sends_stuck}
use Rattle.session.proofs.send.send.Goals as goal

pub returns-in-Ok-clause-sent : goal.returns-in-Ok-clause-sent
returns-in-Ok-clause-sent g c = sends_waiting (g.K.Sink.held c.args.sink.now) (g.K.Sink.held c.pass_on.new.sink) _ _ _ _ _ _ _ c.in-Ok.ensures.all c.pass_on.ensures.sent

pub returns-in_err-flush-in-Err-clause-sent : goal.returns-in_err-flush-in-Err-clause-sent
returns-in_err-flush-in-Err-clause-sent g c =
    let p = err_from_is_err_and c.from_residual.result c.from_residual.ensures.1 in
    let here = c.truncate.ensures.bytes ∙ ap (λ (n : ℕ). take n c.write_answer.new.sink.bytes) c.len-before.ensures ∙ taken_back _ _ _ c.in-Err.ensures.front in
    rw p.1 (sends_stuck (g.K.Sink.held c.args.sink.now) (g.K.Sink.held c.flush.new.sink) _ _ _ _ _ _ _ here c.in_err-flush-in-Err.ensures.written)

pub returns-in_ok-flush-in-Err-clause-sent : goal.returns-in_ok-flush-in-Err-clause-sent
returns-in_ok-flush-in-Err-clause-sent g c =
    let here = c.truncate.ensures.bytes ∙ ap (λ (n : ℕ). take n c.write_answer.new.sink.bytes) c.len-before.ensures ∙ taken_back _ _ _ c.in-Err.ensures.front in
    sends_straight (g.K.Sink.held c.args.sink.now) (g.K.Sink.held c.flush.new.sink) (g.K.Sink.held c.write_answer-in-Err.new.sink) _ _ _ _ _ _ _ _ here c.in_ok-flush-in-Err.ensures.written c.flush.ensures.empty c.write_answer-in-Err.ensures
