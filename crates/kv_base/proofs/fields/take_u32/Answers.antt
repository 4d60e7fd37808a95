use Rattle.std.proofs.Common.{sym, arith}
use Rattle.kv_base.specs.FieldLaws.{too_short_for_u32, u32_of_bytes}
use Rattle.kv_base.proofs.fields.take_u32.Goals as goal

pub returns-in_err-front : goal.returns-in_err-front
returns-in_err-front c = rw c.from_residual.ensures (sym (too_short_for_u32 c.args.bytes.now (omega (arith, c.in_err-front.ensures.cases))))

pub returns : goal.returns
returns c =
    let parts = c.in_ok-front.ensures.cases in
    rw parts.1 (sym (u32_of_bytes c.args.bytes.now c.in_ok-front.front.now _ (omega (arith, parts)) (λ i. omega (arith, c.type_inv.bytes i)) parts.0 c.from_be_bytes.ensures))
