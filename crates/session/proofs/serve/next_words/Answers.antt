use Rattle.session.proofs.WithinLimits.{next_within}
use Rattle.session.proofs.serve.next_words.Goals as goal

pub returns-in-Ok : goal.returns-in-Ok
returns-in-Ok c = next_within c.args.reader.now c.next.new.self c.in-Ok.words c.in-Ok.ensures.some c.in-Ok.ensures.none
