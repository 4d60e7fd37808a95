use Rattle.std.proofs.Common.{◌∙◌}
use Rattle.std.specs.Prelude.{option_map}
use Rattle.life_changes.proofs.Wishes.{wanted_none, wishes_next, wishes_done, wishes_few}
use Rattle.life_changes.proofs.wanted.wanted_each.Goals as goal

pub loop-subkey-init : goal.loop-subkey-init
loop-subkey-init c = wanted_none c.args.key.now c.args.version c.new-rows.result c.new-rows.ensures

pub loop-subkey-preserved : goal.loop-subkey-preserved
loop-subkey-preserved c =
    wishes_next (λ x. (x, option_map (λ value. value.now) c.args.row)) c.args.key.now c.args.version c.args.subkeys.now c.loop-subkey.subkey-index c.subkey-item.result c.bytes.result.now
    c.loop-subkey.rows c.put_wish.new.rows c.loop-subkey-test.true (c.bytes.ensures ∙ c.subkey-item.is) c.loop-subkey.invariant c.in_ok-put_wish.ensures

pub returns-clause-wanted : goal.returns-clause-wanted
returns-clause-wanted c =
    wishes_done (λ x. (x, option_map (λ value. value.now) c.args.row)) c.args.key.now c.args.version c.args.subkeys.now c.loop-subkey.subkey-index c.loop-subkey.rows c.in_ok-batch.batch
    c.loop-subkey.auto.subkey-index-end c.loop-subkey-test.false c.loop-subkey.invariant c.in_ok-batch.ensures

pub returns-clause-few : goal.returns-clause-few
returns-clause-few c = wishes_few (λ x. (x, option_map (λ value. value.now) c.args.row)) c.args.key.now c.args.version c.args.subkeys.now c.in_ok-batch.batch (returns-clause-wanted c)
