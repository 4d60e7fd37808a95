use Rattle.std.proofs.Common.{Bool, rules, of_calls, not}
use Rattle.std.proofs.lemmas.Fn.{always_returns_same}
use Rattle.level_set.specs.declared.home.Home.{Home}
use Rattle.level_set.specs.Choices.{begin_before_end}
use Rattle.level_set.specs.ChoiceLaws.{begins_once, point_counts}
use Rattle.level_set.proofs.overlap.passed.Goals as goal

pub returns-clause-count : goal.returns-clause-count
returns-clause-count c =
    let test : Home → Bool = λ (t : Home). not (begin_before_end c.args.chosen.now t) in
    let facts = c.partition_point.ensures in
    point_counts test c.args.homes.now c.partition_point.result facts.bound
    (facts.partitioned test (always_returns_same _ _ _ (λ a r f called. search (rules, of_calls))) (begins_once c.args.chosen.now c.args.homes.now c.requires))
