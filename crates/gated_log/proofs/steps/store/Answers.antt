use Rattle.gated_log.proofs.Calls.{write_and_sync}
use Rattle.gated_log.proofs.steps.store.Goals as goal

pub returns-clause-tried : goal.returns-clause-tried
returns-clause-tried g c = write_and_sync _ _ _ _ _ _ _ _ _ c.write_at.ensures.torn c.write_at.ensures.agrees c.write_at.ensures.disk c.sync.ensures.disk c.sync.ensures.bytes
