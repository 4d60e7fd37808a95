use Rattle.life_changes.proofs.Steps.{entry_fits}
use Rattle.life_changes.proofs.change.take_entry.Goals as goal

pub take_row-requires-clause-grammar : goal.take_row-requires-clause-grammar
take_row-requires-clause-grammar g c = entry_fits c.args.wanted.now.entries c.args.at _ c.requires.grammar c.in-Some.ensures
