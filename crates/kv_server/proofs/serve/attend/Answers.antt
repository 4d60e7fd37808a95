use Rattle.std.proofs.Common.{subst, arith}
use Rattle.std.specs.Prelude.{Ok}
use Rattle.kv_outside.specs.declared.failed.Failed.{Failed}
use Rattle.kv_doors.specs.Accepting.{Accepts}
use Rattle.kv_server.specs.Outside.{streams}
use Rattle.kv_server.proofs.Attending.{none_attended, one_more_attended}
use Rattle.kv_server.proofs.serve.attend.Goals as goal

pub loop-init : goal.loop-init
loop-init g c = (tt, tt, none_attended _ _ c.requires.kept, omega arith)

pub loop-preserved : goal.loop-preserved
loop-preserved g c =
    let was = c.loop.invariant in
    let came = Accepts {E = Failed} g.A.In.Source.left (g.A.Acceptor.to_come c.loop.acceptor) (g.A.Acceptor.to_come c.accept.new.self) in (
      tt,
      tt,
      one_more_attended _ _ _ _ _ _ _ _
          (streams (g.A.In.Source.left c.in-Some-2.source) _ _ _ _)
          (streams (g.A.In.Source.left c.serve.new.source) _ _ _ _)
          c.serve.result was.2 (subst (λ r. came (Ok r)) c.in-Some-2.is c.in_ok-accept.ensures.links) c.serve.ensures.session c.serve.ensures.caused c.serve.ensures.later,
      omega (arith, was.3, c.accept.ensures.cause.later),
    )
