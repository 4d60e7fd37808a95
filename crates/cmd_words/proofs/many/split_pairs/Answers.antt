use Rattle.std.proofs.Common.{◌<◌, length, arith}
use Rattle.cmd_words.proofs.Pairs.{pair_behind, moved}
use Rattle.cmd_words.proofs.many.split_pairs.Goals as goal

pub loop-second_ones-preserved : goal.loop-second_ones-preserved
loop-second_ones-preserved c =
    let more : c.args.left_out < length c.loop-second_ones.words = omega (arith, c.len-in-loop-second_ones.ensures) in
    let pair = pair_behind c.args.left_out c.loop-second_ones.words c.take_last.new.words c.take_last-in-loop-second_ones.new.words c.take_last-in-loop-second_ones.result c.take_last.result more c.loop-second_ones.invariant.whole c.take_last.ensures c.take_last-in-loop-second_ones.ensures in
    record {
      within = pair.within;
      whole = pair.whole;
      firsts_ = rw c.in_ok-push-2.ensures.items (moved _ _ c.loop-second_ones.first_ones.items _ _ c.loop-second_ones.invariant.firsts_ pair.first_one);
      seconds_ = rw c.in_ok-push.ensures.items (moved _ _ c.loop-second_ones.second_ones.items _ _ c.loop-second_ones.invariant.seconds_ pair.second_one);
    }
