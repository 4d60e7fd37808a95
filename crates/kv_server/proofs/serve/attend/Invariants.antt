use Rattle.std.proofs.Common.{◌≤◌}
use Rattle.kv_server.specs.Connections.{server_outside}
use Rattle.kv_server.specs.Attending.{Attending}
use Rattle.kv_server.proofs.serve.attend.Given as goal

abbrev pub invariant-loop : goal.invariant-loop
invariant-loop g l =
    (goal.iterator-loop g).can_next l.iterator' × (goal.iterator-loop g).is_finite l.iterator'
    × Attending (g.P.Store.kept l.fn.kept) (g.P.Store.kept l.kept)
    (server_outside (g.F.Files.disk l.fn.files) (g.F.Files.faults l.fn.files) (g.C.Clock.readings l.fn.clock) (g.A.Acceptor.to_come l.fn.acceptor) (g.A.Acceptor.faults l.fn.acceptor))
    (server_outside (g.F.Files.disk l.files) (g.F.Files.faults l.files) (g.C.Clock.readings l.clock) (g.A.Acceptor.to_come l.acceptor) (g.A.Acceptor.faults l.acceptor))
    (g.A.Acceptor.to_come l.acceptor)
    × (g.A.Acceptor.faults l.fn.acceptor ≤ g.A.Acceptor.faults l.acceptor)
