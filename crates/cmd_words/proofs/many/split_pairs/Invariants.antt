use Rattle.std.proofs.Common.{◌≡◌, ◌++◌, ◌≤◌, ◌-◌, ◌%◌, drop, reverse, length}
use Rattle.cmd_words.specs.Reading.{firsts, seconds}
use Rattle.cmd_words.proofs.many.split_pairs.Given as goal

abbrev pub invariant-loop-second_ones : goal.invariant-loop-second_ones
invariant-loop-second_ones l = record {
  within : l.left_out ≤ length l.words;
  whole : (length l.words - l.left_out) % 2 ≡ 0;
  firsts_ : firsts (drop l.left_out l.words) ++ reverse l.first_ones.items ≡ firsts (drop l.left_out l.fn.words);
  seconds_ : seconds (drop l.left_out l.words) ++ reverse l.second_ones.items ≡ seconds (drop l.left_out l.fn.words);
}

abbrev pub decreases-loop-second_ones : goal.decreases-loop-second_ones
decreases-loop-second_ones l = length l.words
