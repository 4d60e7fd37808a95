use Rattle.std.proofs.Common.{◌≡◌, ◌++◌, length}
use Rattle.resp_wire.specs.Grammar.{line_words}
use Rattle.resp_wire.proofs.Cutting.{words_in}
use Rattle.resp_wire.proofs.words.line_words.Given as goal

abbrev pub invariant-loop-rest : goal.invariant-loop-rest
invariant-loop-rest l = l.words ++ words_in l.rest ≡ line_words l.line

abbrev pub decreases-loop-rest : goal.decreases-loop-rest
decreases-loop-rest l = length l.rest
