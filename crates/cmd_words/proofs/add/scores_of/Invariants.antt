use Rattle.std.proofs.Common.{◌≡◌, ◌++◌, map, drop}
use Rattle.std.specs.List.{list_any}
use Rattle.std.specs.Prelude.{is_none}
use Rattle.kv_base.specs.Score.{read_score}
use Rattle.cmd_words.specs.Places.{S, said}
use Rattle.cmd_words.proofs.add.scores_of.Given as goal

abbrev pub invariant-loop-word : goal.invariant-loop-word
invariant-loop-word l = record {
  read : l.scores.items ++ map (said S) (drop l.word-index l.words) ≡ map (said S) l.fn.words;
  bad : list_any (λ w. is_none (read_score w)) (drop l.word-index l.words) ≡ list_any (λ w. is_none (read_score w)) l.fn.words;
}
