use Rattle.gated_log.specs.Gated.{HasShutGate, HasNoShutGate}
use Rattle.gated_log.proofs.Keeping.{gate_there, gate_not_there}
use Rattle.gated_log.proofs.Resetting.{on_ok_then, shut_first_tells, shut_first, first_run, closed_first_tells, closed_first}
use Rattle.gated_log.proofs.steps.close_first.Goals as goal

pub returns-then-branch-clause-rests : goal.returns-then-branch-clause-rests
returns-then-branch-clause-rests g c = λ agrees durable.
    shut_first _ _ _ _ c.is_shut.ensures.disk (gate_there _ (HasShutGate 0) (HasNoShutGate 0) _ c.if-branch.true c.in_ok-is_shut.ensures.gate) agrees durable

pub returns-clause-any_moment : goal.returns-clause-any_moment
returns-clause-any_moment g c = λ bodies durable leaves.
    first_run _ _ _ _ c.is_shut.ensures.disk _ _ c.store.ensures.tried (gate_not_there _ (HasShutGate 0) (HasNoShutGate 0) _ c.if-branch.false c.in_ok-is_shut.ensures.gate) bodies durable leaves

pub returns-clause-rests : goal.returns-clause-rests
returns-clause-rests g c = on_ok_then c.store.result c.store.ensures.stored (λ stored agrees durable.
    closed_first _ _ _ _ c.is_shut.ensures.disk _ _ c.store.ensures.tried stored agrees)

pub returns-then-branch-clause-told : goal.returns-then-branch-clause-told
returns-then-branch-clause-told g c =
    shut_first_tells _ (gate_there _ (HasShutGate 0) (HasNoShutGate 0) _ c.if-branch.true c.in_ok-is_shut.ensures.gate)

pub returns-clause-told : goal.returns-clause-told
returns-clause-told g c = on_ok_then c.store.result c.store.ensures.stored (λ stored.
    closed_first_tells _ _ _ _ c.is_shut.ensures.disk _ _ c.store.ensures.tried stored)
