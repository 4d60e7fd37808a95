use Rattle.std.proofs.Common.{◌+◌, ◌∙◌, ap, arith}
use Rattle.level_set.specs.Choices.{rise}
use Rattle.level_set.specs.ChoiceLaws.{level_rises}
use Rattle.level_set.proofs.levels.Levels.choice.Goals as goal

pub overlap-next-requires : goal.overlap-next-requires
overlap-next-requires c = ap rise c.level-2.ensures.own ∙ level_rises (c.args.level + 1) c.args.self.now (omega arith) c.level-2.ensures.order
