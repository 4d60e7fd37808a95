use Rattle.gated_log.specs.Gated.{HasShutGate, HasNoShutGate}
use Rattle.gated_log.proofs.Keeping.{gate_there, gate_not_there, gate_closed, shut_tells, shut_rests, end_torn, end_tells, end_rests}
use Rattle.gated_log.proofs.steps.close_end.Goals as goal

pub returns-then-branch-clause-told : goal.returns-then-branch-clause-told
returns-then-branch-clause-told g c = λ bodies ends.
    let place = c.min-place.result in
    shut_tells c.args.end _ place _ bodies c.in_ok-length.ensures.bytes c.min-place.ensures
    (gate_there _ (HasShutGate place) (HasNoShutGate place) _ c.if-branch.true c.in_ok-is_shut.ensures.gate) ends

pub returns-then-branch-clause-rests : goal.returns-then-branch-clause-rests
returns-then-branch-clause-rests g c = λ bodies agrees durable leaves.
    let place = c.min-place.result in
    shut_rests c.args.end _ place _ bodies c.in_ok-length.ensures.bytes c.min-place.ensures _ _ _ _ c.length.ensures.disk c.is_shut.ensures.disk
    (gate_there _ (HasShutGate place) (HasNoShutGate place) _ c.if-branch.true c.in_ok-is_shut.ensures.gate) agrees durable leaves

pub returns-in_err-store-clause-any_moment : goal.returns-in_err-store-clause-any_moment
returns-in_err-store-clause-any_moment g c = λ bodies durable leaves.
    let place = c.min-place.result in
    end_torn c.args.end _ place _ bodies c.in_ok-length.ensures.bytes c.min-place.ensures _ _ _ _ c.length.ensures.disk c.is_shut.ensures.disk _ _ c.store.ensures.tried
    (gate_not_there _ (HasShutGate place) (HasNoShutGate place) _ c.if-branch.false c.in_ok-is_shut.ensures.gate) durable leaves

pub returns-clause-any_moment : goal.returns-clause-any_moment
returns-clause-any_moment g c = λ bodies durable leaves.
    let place = c.min-place.result in
    end_torn c.args.end _ place _ bodies c.in_ok-length.ensures.bytes c.min-place.ensures _ _ _ _ c.length.ensures.disk c.is_shut.ensures.disk _ _ c.store.ensures.tried
    (gate_not_there _ (HasShutGate place) (HasNoShutGate place) _ c.if-branch.false c.in_ok-is_shut.ensures.gate) durable leaves

pub returns-clause-told : goal.returns-clause-told
returns-clause-told g c = λ bodies ends.
    let place = c.min-place.result in
    end_tells c.args.end _ place _ bodies c.in_ok-length.ensures.bytes c.min-place.ensures _ c.in_ok-store.ensures.stored.written ends

pub returns-clause-rests : goal.returns-clause-rests
returns-clause-rests g c = λ bodies agrees durable leaves.
    let place = c.min-place.result in
    end_rests c.args.end _ place _ bodies c.in_ok-length.ensures.bytes c.min-place.ensures _ _ _ _ c.length.ensures.disk c.is_shut.ensures.disk _ _ c.store.ensures.tried
    c.in_ok-store.ensures.stored agrees durable leaves

pub returns-clause-shut : goal.returns-clause-shut
returns-clause-shut g c = gate_closed c.args.end _ c.min-place.result _ _ c.in_ok-length.ensures.bytes c.min-place.ensures c.in_ok-store.ensures.stored.written
