use Rattle.core_events.specs.CommittingLaws.{rerun_stands}
use Rattle.core_events.proofs.laws.lapsed_plans_hold_anew.Goals as goal

pub returns : goal.returns
returns c = rerun_stands
