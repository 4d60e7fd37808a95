use Rattle.std.proofs.Common.{◌≡◌, ◌++◌, false, reverse, length}
use Rattle.std.specs.List.{list_any}
use Rattle.cmd_words.specs.Places.{is_long}
use Rattle.cmd_words.proofs.many.keys_of.Given as goal

abbrev pub invariant-loop-word : goal.invariant-loop-word
invariant-loop-word l = record {
  whole : l.words ++ reverse l.keys.items ≡ l.fn.words;
  short : list_any is_long (reverse l.keys.items) ≡ false;
}

abbrev pub decreases-loop-word : goal.decreases-loop-word
decreases-loop-word l = length l.words
