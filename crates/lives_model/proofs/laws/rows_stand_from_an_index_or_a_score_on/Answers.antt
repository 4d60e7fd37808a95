use Rattle.lives_model.specs.LifeRangeLaws.{items_from, scores_from}
use Rattle.lives_model.proofs.laws.rows_stand_from_an_index_or_a_score_on.Goals as goal

pub returns-clause-items : goal.returns-clause-items
returns-clause-items c = items_from

pub returns-clause-members : goal.returns-clause-members
returns-clause-members c = scores_from
