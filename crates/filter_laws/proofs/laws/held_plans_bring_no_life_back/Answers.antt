use Rattle.filter_laws.specs.DeadLifeLaws.{current_stays_dead, held_stays_dead}
use Rattle.filter_laws.proofs.laws.held_plans_bring_no_life_back.Goals as goal

pub returns-clause-current : goal.returns-clause-current
returns-clause-current c = current_stays_dead

pub returns-clause-held : goal.returns-clause-held
returns-clause-held c = held_stays_dead
