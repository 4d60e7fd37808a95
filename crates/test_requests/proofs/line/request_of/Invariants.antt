use Rattle.std.proofs.Common.{◌≡◌, ◌≤◌, take}
use Rattle.std.specs.Prelude.{All}
use Rattle.redis_model.specs.Limits.{IsShort, max_weight}
use Rattle.cmd_words.specs.Words.{weight_of}
use Rattle.test_requests.proofs.line.request_of.Given as goal

abbrev pub invariant-loop-word : goal.invariant-loop-word
invariant-loop-word l = record {
  short : All IsShort (take l.word-index l.word-items);
  sum : l.weight ≡ weight_of (take l.word-index l.word-items);
  light : l.weight ≤ max_weight;
}
