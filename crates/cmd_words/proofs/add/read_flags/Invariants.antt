use Rattle.std.proofs.Common.{◌≡◌, ◌≤◌, ◌-◌, drop, length}
use Rattle.cmd_words.specs.Add.{flags, no_flags}
use Rattle.cmd_words.proofs.add.read_flags.Given as goal

abbrev pub invariant-loop-count : goal.invariant-loop-count
invariant-loop-count l = record {
  within : l.count ≤ length l.words;
  rest : flags l.so_far (drop l.count l.words) ≡ flags no_flags l.words;
}

abbrev pub decreases-loop-count : goal.decreases-loop-count
decreases-loop-count l = length l.words - l.count
