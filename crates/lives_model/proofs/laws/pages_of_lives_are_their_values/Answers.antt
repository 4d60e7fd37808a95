use Rattle.lives_model.specs.LifePageLaws.{life_whole, page_from, page_whole, stands_rows}
use Rattle.lives_model.proofs.laws.pages_of_lives_are_their_values.Goals as goal

pub returns-clause-all : goal.returns-clause-all
returns-clause-all c = life_whole

pub returns-clause-first : goal.returns-clause-first
returns-clause-first c = page_whole

pub returns-clause-from : goal.returns-clause-from
returns-clause-from c = page_from

pub returns-clause-held : goal.returns-clause-held
returns-clause-held c = stands_rows
