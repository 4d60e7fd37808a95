use Rattle.std.proofs.Common.{◌≡◌, [], ◌∷◌, map, rules}
use Rattle.std.specs.Arc.{arc_value}
use Rattle.kv_tests_views.proofs.Distinct.{layers_apart}
use Rattle.kv_tests_views.proofs.layers.layered.Goals as goal

pub new-requires-2 : goal.new-requires-2
new-requires-2 c =
    let one : map (λ level. level.items) (arc_value c.in_ok-levels.levels).items ≡ (c.args.table ∷ []) ∷ [] = search rules in
    record {
      distinct = layers_apart c.args.memory c.args.frozen c.args.table _ c.args.high c.args.low one c.len-rows.ensures.order c.len-more.ensures.order c.requires.memory c.requires.frozen c.requires.frozen_upto c.requires.table
          c.requires.order;
    }
