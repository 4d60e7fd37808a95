use Rattle.std.proofs.Common.{◌∙◌}
use Rattle.life_changes.proofs.Wishes.{wanted_none, puts_next, puts_done, puts_few}
use Rattle.life_changes.proofs.wanted.wanted_puts.Goals as goal

pub loop-at-init : goal.loop-at-init
loop-at-init c = wanted_none c.args.key.now c.args.version c.new-rows.result c.new-rows.ensures

pub loop-at-preserved : goal.loop-at-preserved
loop-at-preserved c =
    puts_next c.args.key.now c.args.version c.args.fields.now c.args.values.now c.loop-at.at c.index-fields-at.result c.index-values-at.result c.bytes-in-loop-at.result.now c.bytes.result.now
    c.loop-at.rows c.put_wish.new.rows c.loop-at-test.true c.requires.pairs (c.bytes-in-loop-at.ensures ∙ c.index-fields-at.is) (c.bytes.ensures ∙ c.index-values-at.is) c.loop-at.invariant c.in_ok-put_wish.ensures

pub returns-clause-wanted : goal.returns-clause-wanted
returns-clause-wanted c =
    puts_done c.args.key.now c.args.version c.args.fields.now c.args.values.now c.loop-at.at c.loop-at.rows c.in_ok-batch.batch
    c.loop-at.auto.at-end c.loop-at-test.false c.requires.pairs c.loop-at.invariant c.in_ok-batch.ensures

pub returns-clause-few : goal.returns-clause-few
returns-clause-few c = puts_few c.args.key.now c.args.version c.args.fields.now c.args.values.now c.in_ok-batch.batch c.requires.pairs (returns-clause-wanted c)
