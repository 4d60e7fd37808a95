use Rattle.std.proofs.Common.{inl}
use Rattle.kv_server.proofs.run.finish.Goals as goal

pub returns-in-Ok-clause-kept_or_more : goal.returns-in-Ok-clause-kept_or_more
returns-in-Ok-clause-kept_or_more g c = λ failed kept. inl (c.in-Ok.ensures.kept failed kept)
