use Rattle.filter_laws.specs.NextNewerLaws.{first_has_no_newer, next_newer_is_before}
use Rattle.filter_laws.proofs.laws.the_next_newer_row_is_the_one_before.Goals as goal

pub returns-clause-first : goal.returns-clause-first
returns-clause-first c = first_has_no_newer

pub returns-clause-others : goal.returns-clause-others
returns-clause-others c = next_newer_is_before
