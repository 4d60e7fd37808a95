use Rattle.std.proofs.Common.{rules}
use Rattle.kv_server.proofs.ToldDesk.{desk_called}
use Rattle.kv_server.proofs.desk.LogDeskDesk.call.Goals as goal

pub returns-clause-call : goal.returns-clause-call
returns-clause-call g c =
    let answered = c.execute-answer.ensures in
    desk_called _ _ c.args.now c.args.command c.execute-answer.result
    answered.ok answered.sequence answered.fits answered.room answered.body answered.sized answered.unchanged answered.fault answered.later answered.kept
    c.last_sequence-self.ensures.sequence c.planned-self.ensures c.fault_in-self.ensures (search rules) (search rules)
