use Rattle.filter_laws.specs.KeptLaws.{kept_row, kept_on_grammar, kept_in_order, kept_upto, kept_older, kept_newer, kept_apart_from}
use Rattle.filter_laws.proofs.laws.kept_rows_are_input_rows.Goals as goal

pub returns-clause-from : goal.returns-clause-from
returns-clause-from c = kept_row

pub returns-clause-grammar : goal.returns-clause-grammar
returns-clause-grammar c = kept_on_grammar

pub returns-clause-in_order : goal.returns-clause-in_order
returns-clause-in_order c = kept_in_order

pub returns-clause-upto : goal.returns-clause-upto
returns-clause-upto c = kept_upto

pub returns-clause-older : goal.returns-clause-older
returns-clause-older c = kept_older

pub returns-clause-newer : goal.returns-clause-newer
returns-clause-newer c = kept_newer

pub returns-clause-apart : goal.returns-clause-apart
returns-clause-apart c = kept_apart_from
