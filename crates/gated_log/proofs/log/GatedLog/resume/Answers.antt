use Rattle.std.proofs.Common.{sym}
use Rattle.gated_log.specs.Gated.{EndsAt}
use Rattle.kv_outside.specs.ToldLaws.{told_is}
use Rattle.gated_log.proofs.Keeping.{resume_run, resume_rests, agrees_named, durable_named}
use Rattle.gated_log.proofs.log.GatedLog.resume.Goals as goal

pub returns-in_err-end-clause-any_moment : goal.returns-in_err-end-clause-any_moment
returns-in_err-end-clause-any_moment g c = λ bodies leaves.
    resume_run c.args.end _ _ _ _ _ _ bodies c.in_ok-log.ensures.name c.open_synced.ensures.disk c.in_ok-log.ensures.durable (c.close_end.ensures.any_moment bodies) leaves

pub returns-clause-any_moment : goal.returns-clause-any_moment
returns-clause-any_moment g c = λ bodies leaves.
    resume_run c.args.end _ _ _ _ _ _ bodies c.in_ok-log.ensures.name c.open_synced.ensures.disk c.in_ok-log.ensures.durable (c.close_end.ensures.any_moment bodies) leaves

pub returns-clause-agrees : goal.returns-clause-agrees
returns-clause-agrees g c =
    let same = c.in_ok-log.ensures.name in
    agrees_named _ _ c.args.name _ (sym same) (c.in_ok-end.ensures.agrees (agrees_named _ _ _ _ same c.in_ok-log.ensures.agrees))

pub returns-clause-durable : goal.returns-clause-durable
returns-clause-durable g c =
    let same = c.in_ok-log.ensures.name in
    durable_named _ _ c.args.name _ (sym same)
    (c.in_ok-end.ensures.durable (agrees_named _ _ _ _ same c.in_ok-log.ensures.agrees) (durable_named _ _ _ _ same c.in_ok-log.ensures.durable))

pub returns-clause-told : goal.returns-clause-told
returns-clause-told g c = λ bodies bytes is ends.
    c.in_ok-end.ensures.told bodies (told_is (EndsAt c.args.end bodies) _ bytes (c.in_ok-log.ensures.opened.told bytes is) ends)

pub returns-clause-rests : goal.returns-clause-rests
returns-clause-rests g c = λ bodies leaves.
    resume_rests c.args.end _ _ _ _ _ _ _ _ _ bodies c.in_ok-log.ensures.name c.close_end.ensures.name c.open_synced.ensures.disk c.in_ok-log.ensures.agrees c.in_ok-log.ensures.durable (c.in_ok-end.ensures.rests bodies) leaves
