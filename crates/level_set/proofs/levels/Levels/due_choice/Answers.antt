use Rattle.std.proofs.Common.{List, length, ap, subst, arith}
use Rattle.level_set.specs.declared.home.Home.{Home}
use Rattle.level_set.specs.Choices.{IsOldestAt}
use Rattle.level_set.specs.ChoiceLaws.{due_some, oldest_taken}
use Rattle.level_set.proofs.levels.Levels.due_choice.Goals as goal

pub oldest-at-requires : goal.oldest-at-requires
oldest-at-requires c =
    let some = due_some c.args.level c.args.self.now (omega arith) c.requires.due in
    omega (arith, some, ap (λ (l : List Home). length l) c.level.ensures.own)

pub returns : goal.returns
returns c =
    oldest_taken c.args.self.now c.args.level c.oldest-at.result c.choice.result (omega arith) c.choice.ensures.choice c.choice.ensures.from c.choice.ensures.to
    (subst (λ (l : List Home). IsOldestAt l c.oldest-at.result) c.level.ensures.own c.oldest-at.ensures)
