use Rattle.multi_plans.specs.GrowingLaws.{growing_at, growing_whole}
use Rattle.multi_exec.proofs.transaction.plan_all.Goals as goal

pub loop-place-preserved : goal.loop-place-preserved
loop-place-preserved g c =
    growing_at _ _ _ _ _ c.loop-place.place c.version-version.result _ c.command-item.result c.loop-place.growing c.in_ok-growing.growing c.in_ok-plan.plan
    c.loop-place-test.true c.command-item.is c.version-version.ensures.version c.loop-place.invariant c.in_ok-plan.ensures.reads c.in_ok-plan.ensures.plan
    (record { batch = c.in_ok-growing.ensures.batch; replies = c.in_ok-growing.ensures.replies; until = c.in_ok-growing.ensures.until })

pub returns-clause-plan : goal.returns-clause-plan
returns-clause-plan g c =
    growing_whole _ _ _ _ c.loop-place.place c.as_slice-command-items.result.now c.args.commands.now c.loop-place.growing c.whole.result
    c.requires.asked c.as_slice-command-items.ensures c.loop-place-test.false c.loop-place.invariant
    (record { batch = c.whole.ensures.batch; reply = c.whole.ensures.reply; until = c.whole.ensures.until })
