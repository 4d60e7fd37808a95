use Rattle.set_operations.proofs.Loops.{rows_found}
use Rattle.set_operations.proofs.sets.member_rows.Goals as goal

pub returns-clause-rows : goal.returns-clause-rows
returns-clause-rows g c = rows_found (g.V.RawView.told c.args.view.now).rows c.args.key.now c.args.life c.in-Some.life c.in_ok-rows.rows c.in-Some.is c.in_ok-rows.ensures.rows
