use Rattle.std.proofs.Common.{◌-◌, length, ◌∙◌, ap, arith}
use Rattle.level_set.specs.Choices.{rise}
use Rattle.level_set.specs.ChoiceLaws.{overlapped_stand_together, rise_behind}
use Rattle.level_set.proofs.overlap.overlap.Goals as goal

pub reached-requires : goal.reached-requires
reached-requires c = ap rise c.split_at.ensures.back ∙ rise_behind c.passed-from.result c.args.next.now c.requires

pub returns-clause-places : goal.returns-clause-places
returns-clause-places c =
    (overlapped_stand_together c.args.chosen.now c.args.next.now c.split_at.result.1.now c.passed-from.result c.reached.result (length c.args.next.now - (length c.split_at.result.1.now - c.reached.result)) c.requires c.passed-from.ensures.count c.split_at.ensures.back c.reached.ensures.count
    (omega (arith, c.reached.ensures.within, c.passed-from.ensures.within, c.split_at.ensures.back_len))).places

pub returns-clause-overlapped : goal.returns-clause-overlapped
returns-clause-overlapped c =
    (overlapped_stand_together c.args.chosen.now c.args.next.now c.split_at.result.1.now c.passed-from.result c.reached.result (length c.args.next.now - (length c.split_at.result.1.now - c.reached.result)) c.requires c.passed-from.ensures.count c.split_at.ensures.back c.reached.ensures.count
    (omega (arith, c.reached.ensures.within, c.passed-from.ensures.within, c.split_at.ensures.back_len))).overlapped
