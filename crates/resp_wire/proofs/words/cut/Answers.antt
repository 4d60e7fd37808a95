use Rattle.std.proofs.Common.{◌∙◌}
use Rattle.resp_wire.proofs.Cutting.{none_before, none_after, some_before, some_after}
use Rattle.resp_wire.proofs.words.cut.Goals as goal

pub returns-in-Some-clause-part : goal.returns-in-Some-clause-part
returns-in-Some-clause-part c = c.split_at.ensures.front ∙ some_before c.args.text.now c.in-Some.place c.in-Some.ensures.0 c.in-Some.ensures.1

pub returns-in-Some-clause-behind : goal.returns-in-Some-clause-behind
returns-in-Some-clause-behind c = c.split_at-in-Some.ensures.back ∙ some_after c.args.text.now c.in-Some.place c.in-Some.ensures.0 c.in-Some.ensures.1

pub returns-in-None-clause-part : goal.returns-in-None-clause-part
returns-in-None-clause-part c = none_before c.args.text.now c.in-None.ensures

pub returns-in-None-clause-behind : goal.returns-in-None-clause-behind
returns-in-None-clause-behind c = none_after c.args.text.now c.in-None.ensures
