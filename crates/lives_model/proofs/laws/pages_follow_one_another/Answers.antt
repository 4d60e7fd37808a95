use Rattle.lives_model.specs.PageLaws.{short_page, page_then}
use Rattle.lives_model.proofs.laws.pages_follow_one_another.Goals as goal

pub returns-clause-short : goal.returns-clause-short
returns-clause-short c = short_page

pub returns-clause-next : goal.returns-clause-next
returns-clause-next c = page_then
