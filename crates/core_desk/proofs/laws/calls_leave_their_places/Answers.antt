use Rattle.core_filter.specs.RunLaws.{run_whole}
use Rattle.core_desk.specs.DeskCallLaws.{calls_leave_places}
use Rattle.core_desk.proofs.laws.calls_leave_their_places.Goals as goal

pub returns-clause-stands : goal.returns-clause-stands
returns-clause-stands c = run_whole

pub returns-clause-history : goal.returns-clause-history
returns-clause-history c = calls_leave_places
