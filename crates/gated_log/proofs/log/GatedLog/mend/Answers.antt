use Rattle.gated_log.proofs.Bytes.{closed_again}
use Rattle.gated_log.proofs.Calls.{on_err}
use Rattle.gated_log.proofs.Keeping.{left_wavers, left_tried, left_idle, mend_run, gate_tells, gate_wavers, gate_told, gate_shown, at_gate}
use Rattle.gated_log.proofs.log.GatedLog.mend.Goals as goal

pub returns-in_err-store-clause-not_mended : goal.returns-in_err-store-clause-not_mended
returns-in_err-store-clause-not_mended g c = on_err c.from_residual.result (λ bodies body left.
    gate_wavers _ _ _ _ _ _ _ bodies body c.store.ensures.tried (left_wavers _ _ _ bodies body c.self.view_is c.if-self.true left) _ c.store.ensures.name)

pub returns-in_err-store-clause-told_left : goal.returns-in_err-store-clause-told_left
returns-in_err-store-clause-told_left g c = on_err c.from_residual.result (λ bodies body left.
    gate_tells _ _ _ _ _ _ _ bodies body c.store.ensures.tried (left_tried _ _ bodies body c.self.view_is c.if-self.true left))

pub returns-in_err-store-clause-any_moment : goal.returns-in_err-store-clause-any_moment
returns-in_err-store-clause-any_moment g c = λ bodies body left.
    mend_run _ _ _ _ _ bodies body c.self.view_is c.store.ensures.tried (left_wavers _ _ _ bodies body c.self.view_is c.if-self.true left)

pub returns-in_ok-store-clause-mended : goal.returns-in_ok-store-clause-mended
returns-in_ok-store-clause-mended g c = λ bodies body left.
    gate_shown _ _ _ _ _ _ _ bodies body c.store.ensures.tried _ (at_gate _ _ c.self.invariant.in_range) c.in_ok-store.ensures.stored
    (closed_again _ bodies body) _ c.store.ensures.name (left_wavers _ _ _ bodies body c.self.view_is c.if-self.true left)

pub returns-in_ok-store-clause-told : goal.returns-in_ok-store-clause-told
returns-in_ok-store-clause-told g c = λ bodies body left.
    gate_told _ _ _ _ _ _ _ bodies body c.store.ensures.tried _ (at_gate _ _ c.self.invariant.in_range) c.in_ok-store.ensures.stored
    (closed_again _ bodies body) (left_tried _ _ bodies body c.self.view_is c.if-self.true left)

pub returns-in_ok-store-clause-any_moment : goal.returns-in_ok-store-clause-any_moment
returns-in_ok-store-clause-any_moment g c = λ bodies body left.
    mend_run _ _ _ _ _ bodies body c.self.view_is c.store.ensures.tried (left_wavers _ _ _ bodies body c.self.view_is c.if-self.true left)

pub returns-else-self-clause-any_moment : goal.returns-else-self-clause-any_moment
returns-else-self-clause-any_moment g c = λ bodies body left. left_idle _ _ _ bodies body left
