use Rattle.core_keeps.specs.TriedLaws.{opened_keeps_all, run_keeps_all}
use Rattle.core_keeps.proofs.laws.acknowledged_batches_are_kept.Goals as goal

pub returns-clause-opened : goal.returns-clause-opened
returns-clause-opened c = opened_keeps_all

pub returns-clause-kept : goal.returns-clause-kept
returns-clause-kept c = run_keeps_all
