use Rattle.std.proofs.Common.{length}
use Rattle.cmd_words.proofs.set_options.+set_options.Given as goal

abbrev pub decreases-set_options : goal.decreases-set_options
decreases-set_options l = length l.words.now
