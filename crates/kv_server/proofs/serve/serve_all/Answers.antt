use Rattle.std.proofs.Common.{inr}
use Rattle.kv_server.proofs.ServingAll.{ended_run, failed_run}
use Rattle.kv_server.proofs.serve.serve_all.Goals as goal

pub returns-in-Ok-accepted : goal.returns-in-Ok-accepted
returns-in-Ok-accepted g c =
    let end = c.finish-closed.ensures in
    inr (ended_run _ _ _ _ _ _ _ _ _ c.in-Ok.ensures.opened c.open.ensures.later (record { ends = end.ends; later = end.later; kept_all = end.kept; kept_or_more = end.kept_or_more }) _ c.in-Ok-accepted.ensures.attended)

pub returns : goal.returns
returns g c =
    let end = c.finish-closed.ensures in
    inr (failed_run _ _ _ _ _ _ _ _ _ c.in-Ok.ensures.opened c.open.ensures.later (record { ends = end.ends; later = end.later; kept_all = end.kept; kept_or_more = end.kept_or_more }) _ c.in-Err-accepted.ensures.attended)
