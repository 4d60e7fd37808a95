use Rattle.std.proofs.Common.{◌≡◌, length}
use Rattle.std.specs.List.{list_any}
use Rattle.cmd_words.specs.Places.{is_long}
use Rattle.cmd_words.specs.Reading.{seconds}
use Rattle.cmd_words.proofs.add.is_member_long.Given as goal

abbrev pub invariant-loop-rest : goal.invariant-loop-rest
invariant-loop-rest l = list_any is_long (seconds l.rest) ≡ list_any is_long (seconds l.fn.pairs)

abbrev pub decreases-loop-rest : goal.decreases-loop-rest
decreases-loop-rest l = length l.rest
