use Rattle.lives_model.specs.JoinedBatchLaws.{after-joined}
use Rattle.lives_model.specs.JoinedLaws.{joined_of, nothing_joined}
use Rattle.lives_model.proofs.laws.batches_are_joined.Goals as goal

pub returns-clause-after : goal.returns-clause-after
returns-clause-after c = after-joined

pub returns-clause-grouped : goal.returns-clause-grouped
returns-clause-grouped c = joined_of

pub returns-clause-nothing : goal.returns-clause-nothing
returns-clause-nothing c = nothing_joined
