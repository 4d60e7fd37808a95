use Rattle.std.proofs.Common.{rules, ap}
use Rattle.kv_server.proofs.Serving.{served_by, count_later}
use Rattle.kv_server.proofs.run.serve.Goals as goal

pub returns-clause-session : goal.returns-clause-session
returns-clause-session g c = λ before kept.
    served_by (λ d. record { kept = g.P.Store.kept d.kept.now; disk = g.F.Files.disk d.files.now; faults = g.F.Files.faults d.files.now; readings = g.C.Clock.readings d.clock.now; last = d.last; fault = d.fault; sequence = d.sequence; body = d.body })
    c.serve_session.result c.new-desk.result c.serve_session.new.desk _ _ _ _
    (ap g.P.Store.kept c.new-desk.ensures.kept) (ap g.F.Files.disk c.new-desk.ensures.files) (ap g.F.Files.faults c.new-desk.ensures.files) (ap g.C.Clock.readings c.new-desk.ensures.clock)
    (search rules) (search rules) (search rules) (search rules)
    c.new-desk.ensures.sequence c.new-desk.ensures.limit
    c.serve_session.ensures.session before kept

pub returns-clause-later : goal.returns-clause-later
returns-clause-later g c =
    count_later (λ d. record { kept = g.P.Store.kept d.kept.now; disk = g.F.Files.disk d.files.now; faults = g.F.Files.faults d.files.now; readings = g.C.Clock.readings d.clock.now; last = d.last; fault = d.fault; sequence = d.sequence; body = d.body })
    c.serve_session.result c.new-desk.result c.serve_session.new.desk _ _ _ _ _ _ _ _
    (ap g.F.Files.faults c.new-desk.ensures.files) (search rules) c.serve_session.ensures.session
