use Rattle.std.proofs.Common.{Bool, rules, of_calls}
use Rattle.std.proofs.lemmas.Fn.{always_returns_same}
use Rattle.level_set.specs.declared.home.Home.{Home}
use Rattle.level_set.specs.Choices.{end_behind_beginning}
use Rattle.level_set.specs.ChoiceLaws.{ends_once, point_counts}
use Rattle.level_set.proofs.overlap.reached.Goals as goal

pub returns-clause-count : goal.returns-clause-count
returns-clause-count c =
    let test : Home → Bool = end_behind_beginning c.args.chosen.now in
    let facts = c.partition_point.ensures in
    point_counts test c.args.homes.now c.partition_point.result facts.bound
    (facts.partitioned test (always_returns_same _ _ _ (λ a r f called. search (rules, of_calls))) (ends_once c.args.chosen.now c.args.homes.now c.requires))
