use Rattle.std.proofs.Common.{Some, arith, ap, sym, ◌∙◌}
use Rattle.std.proofs.lemmas.Int.{ints}
use Rattle.kv_base.proofs.ScoreTexts.{score_minus, score_plus}
use Rattle.kv_base.proofs.score.read_score.Goals as goal

pub returns-in_err-read_magnitude-in-45 : goal.returns-in_err-read_magnitude-in-45
returns-in_err-read_magnitude-in-45 c =
    c.from_residual-in_err-read_magnitude-in-45.ensures ∙ sym (score_minus c.args.text.now _ _ _ (omega arith) c.in_ok-first.ensures.cases.0 (omega arith) (sym c.in_err-read_magnitude-in-45.ensures.value))

pub returns-in_err-read_magnitude-in-43 : goal.returns-in_err-read_magnitude-in-43
returns-in_err-read_magnitude-in-43 c =
    c.from_residual-in_err-read_magnitude-in-43.ensures ∙ sym (score_plus c.args.text.now _ _ _ (omega arith) c.in_ok-first.ensures.cases.0 (omega arith) (sym c.in_err-read_magnitude-in-43.ensures.value))

pub returns-in_ok-read_magnitude-in-45 : goal.returns-in_ok-read_magnitude-in-45
returns-in_ok-read_magnitude-in-45 c =
    let n = c.in_ok-read_magnitude-in-45 in
    ap Some (omega (arith, ints, n.ensures.small)) ∙ sym (score_minus c.args.text.now _ _ _ (omega arith) c.in_ok-first.ensures.cases.0 (omega arith) (sym n.ensures.value))

pub returns-in_ok-read_magnitude-in-43 : goal.returns-in_ok-read_magnitude-in-43
returns-in_ok-read_magnitude-in-43 c =
    let n = c.in_ok-read_magnitude-in-43 in
    ap Some (omega (arith, ints, n.ensures.small)) ∙ sym (score_plus c.args.text.now _ _ _ (omega arith) c.in_ok-first.ensures.cases.0 (omega arith) (sym n.ensures.value))
