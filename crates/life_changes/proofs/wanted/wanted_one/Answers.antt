use Rattle.std.proofs.Common.{arith, ap, ◌∷◌, []}
use Rattle.std.specs.Prelude.{option_map}
use Rattle.kv_base.specs.Map.{size}
use Rattle.life_changes.proofs.Wishes.{wanted_first, wanted_few}
use Rattle.life_changes.proofs.wanted.wanted_one.Goals as goal

pub returns-clause-wanted : goal.returns-clause-wanted
returns-clause-wanted c = wanted_first c.args.key.now c.args.version _ c.new-rows.result c.put_wish.new.rows c.in_ok-batch.batch c.new-rows.ensures c.in_ok-put_wish.ensures c.in_ok-batch.ensures

pub returns-clause-few : goal.returns-clause-few
returns-clause-few c =
    let same = ap size (returns-clause-wanted c) in
    let few = wanted_few c.args.key.now c.args.version ((c.args.subkey.now, option_map (λ value. value.now) c.args.row) ∷ []) in
    omega (arith, same, few)
