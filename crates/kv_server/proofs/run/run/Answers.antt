use Rattle.kv_server.proofs.Running.{served_run}
use Rattle.kv_server.proofs.run.run.Goals as goal

pub returns : goal.returns
returns g c =
    let served = c.serve-outcome.ensures in
    let ended = c.finish.ensures in
    served_run c.finish.result _ _ _ _ _ _ _ _ c.serve-outcome.result
    c.in-Ok.ensures.opened c.open.ensures.later served.later ended.later served.session served.caused ended.ends ended.kept ended.kept_or_more
