use Rattle.std.proofs.Common.{sym, ◌∙◌, length-drop, arith}
use Rattle.cmd_words.proofs.FlagSteps.{flag_more, flag_none, flag_last}
use Rattle.cmd_words.proofs.add.read_flags.Goals as goal

pub loop-count-preserved : goal.loop-count-preserved
loop-count-preserved c = record {
  within = omega arith;
  rest = sym (flag_more _ _ _ _ _ _ c.loop-count-test.true c.index-words-count.is c.with_flag.ensures c.in-Some.is) ∙ c.loop-count.invariant.rest;
}

pub returns-after-loop-count-clause-flags : goal.returns-after-loop-count-clause-flags
returns-after-loop-count-clause-flags c = sym c.loop-count.invariant.rest ∙ flag_last _ _ (omega (arith, length-drop c.loop-count.count c.args.words.now))

pub returns-in_default-clause-flags : goal.returns-in_default-clause-flags
returns-in_default-clause-flags c = sym c.loop-count.invariant.rest ∙ flag_none _ _ _ _ _ c.loop-count-test.true c.index-words-count.is c.with_flag.ensures c.in_default.is
