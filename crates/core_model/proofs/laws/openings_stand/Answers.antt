use Rattle.core_model.specs.OpenedLaws.{opened_core_stands, new_core_is_opened}
use Rattle.core_model.proofs.laws.openings_stand.Goals as goal

pub returns-clause-any : goal.returns-clause-any
returns-clause-any c = opened_core_stands

pub returns-clause-new : goal.returns-clause-new
returns-clause-new c = new_core_is_opened
