use Rattle.std.proofs.Common.{map, string_bytes, sym, ◌∙◌}
use Rattle.std.proofs.lemmas.List.Folds.{list_all-map}
use Rattle.std.proofs.lemmas.Result.{IfOk-weaker}
use Rattle.kv_conf.specs.Parsed.{is_offered}
use Rattle.kv_conf.proofs.Line.{line, line_unoffered}
use Rattle.kv_conf.proofs.words.read_words.Goals as goal

pub returns-then-not-are_offered-clause-usage : goal.returns-then-not-are_offered-clause-usage
returns-then-not-are_offered-clause-usage c =
    λ _. line_unoffered (map (λ w. string_bytes w) c.args.words.now) (list_all-map is_offered (λ w. string_bytes w) c.args.words.now ∙ sym c.are_offered.ensures ∙ c.if-not-are_offered.true)

pub returns-clause-read : goal.returns-clause-read
returns-clause-read c =
    let offered = list_all-map is_offered (λ w. string_bytes w) c.args.words.now ∙ sym c.are_offered.ensures ∙ c.if-not-are_offered.false in
    IfOk-weaker c.read_offered.result _ _ (λ told e. line (map (λ w. string_bytes w) c.args.words.now) offered ∙ e) c.read_offered.ensures.read

pub returns-clause-usage : goal.returns-clause-usage
returns-clause-usage c =
    let offered = list_all-map is_offered (λ w. string_bytes w) c.args.words.now ∙ sym c.are_offered.ensures ∙ c.if-not-are_offered.false in
    λ is. line (map (λ w. string_bytes w) c.args.words.now) offered ∙ c.read_offered.ensures.usage is
