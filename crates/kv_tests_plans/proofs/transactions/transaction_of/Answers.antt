use Rattle.std.proofs.Common.{arith}
use Rattle.kv_tests_plans.proofs.BegunLaws.{begun_due}
use Rattle.kv_tests_plans.proofs.transactions.transaction_of.Goals as goal

pub loop-words-preserved : goal.loop-words-preserved
loop-words-preserved c =
    let counted = c.len.ensures in
    let low = c.loop-words.invariant.light in
    begun_due c.loop-words.commands c.push.new.self c.loop-words.weight 5 c.in-Some-command_in.asked c.due-command.result c.weight-more.result
    c.loop-words.invariant c.in-Some-command_in.ensures c.due-command.ensures c.weight-more.ensures (omega arith) (omega arith) c.in_ok-push.ensures.ok
