use Rattle.turn_hall.specs.PlacesLaws.{same_calls, same_jobs}
use Rattle.turn_hall.proofs.laws.own_entries_are_calls_and_jobs.Goals as goal

pub returns-clause-calls : goal.returns-clause-calls
returns-clause-calls c = same_calls

pub returns-clause-jobs : goal.returns-clause-jobs
returns-clause-jobs c = same_jobs
