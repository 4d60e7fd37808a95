use Rattle.plan_laws.specs.EveryMap.{rows_for_means}
use Rattle.plan_laws.specs.RowsOnGrammar.{rows_for_on_grammar}
use Rattle.plan_laws.specs.ReadyRows.{rows_for_ready}
use Rattle.plan_laws.proofs.laws.every_map_has_rows.Goals as goal

pub returns-clause-means : goal.returns-clause-means
returns-clause-means c = rows_for_means

pub returns-clause-on_grammar : goal.returns-clause-on_grammar
returns-clause-on_grammar c = rows_for_on_grammar

pub returns-clause-ready : goal.returns-clause-ready
returns-clause-ready c = rows_for_ready
