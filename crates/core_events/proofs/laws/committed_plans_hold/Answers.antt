use Rattle.core_events.specs.CommittingLaws.{commit_stands}
use Rattle.core_events.proofs.laws.committed_plans_hold.Goals as goal

pub returns : goal.returns
returns c = commit_stands
