use Rattle.std.proofs.Common.{arith, sym, ◌∙◌}
use Rattle.kv_base.proofs.IntegerTexts.{int_empty, int_negative, int_negative_none, int_positive, int_positive_none}
use Rattle.kv_base.proofs.integer.read_int.Goals as goal

pub returns-in_err-first : goal.returns-in_err-first
returns-in_err-first c = c.from_residual.ensures ∙ sym (int_empty c.args.text.now c.in_err-first.ensures.cases)

pub returns-in_err-plain_value : goal.returns-in_err-plain_value
returns-in_err-plain_value c =
    c.from_residual-in_err-plain_value.ensures ∙ sym (int_negative_none c.args.text.now _ _ c.in_ok-first.ensures.cases.0 (omega arith) c.in_err-plain_value.ensures)

pub returns-in_ok-plain_value : goal.returns-in_ok-plain_value
returns-in_ok-plain_value c =
    let n = c.in_ok-plain_value in
    sym (int_negative c.args.text.now _ _ n.field-0 _ c.in_ok-first.ensures.cases.0 (omega arith) n.ensures.0.0 n.ensures.1 c.negative.ensures)

pub returns-in_err-plain_value-2 : goal.returns-in_err-plain_value-2
returns-in_err-plain_value-2 c =
    c.from_residual-in_err-plain_value-2.ensures ∙ sym (int_positive_none c.args.text.now _ _ c.in_ok-first.ensures.cases.0 (omega arith) c.in_err-plain_value-2.ensures)

pub returns-in_ok-plain_value-2 : goal.returns-in_ok-plain_value-2
returns-in_ok-plain_value-2 c =
    let n = c.in_ok-plain_value-2 in
    sym (int_positive c.args.text.now _ _ n.field-0 _ c.in_ok-first.ensures.cases.0 (omega arith) n.ensures.0.0 n.ensures.1 c.positive.ensures)
