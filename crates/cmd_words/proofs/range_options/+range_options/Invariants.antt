use Rattle.std.proofs.Common.{length}
use Rattle.cmd_words.proofs.range_options.+range_options.Given as goal

abbrev pub decreases-range_options : goal.decreases-range_options
decreases-range_options l = length l.words.now
