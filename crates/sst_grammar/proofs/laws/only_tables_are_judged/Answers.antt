use Rattle.sst_grammar.specs.OnlyTableLaws.{only_tables}
use Rattle.sst_grammar.proofs.laws.only_tables_are_judged.Goals as goal

pub returns : goal.returns
returns c = only_tables
