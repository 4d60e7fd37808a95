use Rattle.redis_model.specs.LimitsLaws.{IsWithin-due}
use Rattle.session.proofs.turn.ask.Goals as goal

pub call-requires-clause-within : goal.call-requires-clause-within
call-requires-clause-within g c = rw c.fall_due.ensures (IsWithin-due c.args.command c.now-now.result c.requires.within)
