use Rattle.session.proofs.Waiting.{sends_flushed}
use Rattle.session.proofs.send.pass_on.Goals as goal

pub returns-clause-sent : goal.returns-clause-sent
returns-clause-sent g c = sends_flushed (g.K.Sink.held c.args.sink.now) (g.K.Sink.held c.flush.new.sink) _ _ _ _ _ c.flush.ensures.written c.flush.ensures.empty
