use Rattle.std.proofs.Common.{sym, ◌∙◌}
use Rattle.multi_plans.proofs.Joins.{joined_to_none}
use Rattle.multi_plans.proofs.joining.join.Goals as goal

pub returns-then-is_empty : goal.returns-then-is_empty
returns-then-is_empty c = joined_to_none c.args.batch c.args.later (sym c.is_empty.ensures ∙ c.if-is_empty.true)
