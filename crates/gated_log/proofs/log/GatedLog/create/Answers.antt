use Rattle.gated_log.proofs.Keeping.{small_run, make_run, make_tells, make_shows}
use Rattle.gated_log.proofs.log.GatedLog.create.Goals as goal

pub returns-in_err-log-clause-any_moment : goal.returns-in_err-log-clause-any_moment
returns-in_err-log-clause-any_moment g c = λ small. small_run _ _ _ (c.open_empty.ensures.any_moment small)

pub returns-in_err-store-clause-any_moment : goal.returns-in_err-store-clause-any_moment
returns-in_err-store-clause-any_moment g c = λ small.
    make_run _ _ _ _ _ _ _ c.in_ok-log.ensures.name c.store.ensures.tried (c.open_empty.ensures.any_moment small)

pub returns-clause-made : goal.returns-clause-made
returns-clause-made g c =
    make_shows _ _ _ _ _ _ _ c.in_ok-log.ensures.name c.store.ensures.name c.in_ok-log.ensures.agrees c.in_ok-log.ensures.empty c.store.ensures.tried c.in_ok-store.ensures.stored

pub returns-clause-told : goal.returns-clause-told
returns-clause-told g c = make_tells _ _ c.in_ok-log.ensures.empty c.in_ok-store.ensures.stored.written

pub returns-clause-any_moment : goal.returns-clause-any_moment
returns-clause-any_moment g c = λ small.
    make_run _ _ _ _ _ _ _ c.in_ok-log.ensures.name c.store.ensures.tried (c.open_empty.ensures.any_moment small)
