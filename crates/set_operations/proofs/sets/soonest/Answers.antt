use Rattle.std.proofs.Common.{◌∙◌, ap, sym}
use Rattle.lives_model.specs.Plans.{sooner}
use Rattle.set_operations.proofs.Loops.{soonest_more}
use Rattle.set_operations.proofs.sets.soonest.Goals as goal

pub loop-found-preserved : goal.loop-found-preserved
loop-found-preserved c = c.sooner-soonest.ensures ∙ ap (sooner c.args.moment _) c.loop-found.invariant ∙ sym (soonest_more c.args.moment c.args.lives.now c.loop-found.found-index _ c.loop-found-test.true)
