use Rattle.filter_laws.specs.KeptLaws.{placed_in_order}
use Rattle.filter_laws.proofs.laws.rows_in_order_are_placed.Goals as goal

pub returns : goal.returns
returns c = placed_in_order
