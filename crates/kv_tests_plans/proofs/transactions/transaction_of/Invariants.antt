use Rattle.kv_tests_plans.specs.Begun.{IsBegunTransaction}
use Rattle.kv_tests_plans.proofs.transactions.transaction_of.Given as goal

abbrev pub invariant-loop-words : goal.invariant-loop-words
invariant-loop-words l = IsBegunTransaction l.commands l.weight
