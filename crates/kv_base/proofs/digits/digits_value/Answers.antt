use Rattle.std.proofs.Common.{arith}
use Rattle.kv_base.proofs.DigitLists.{whole_is}
use Rattle.kv_base.proofs.digits.digits_value.Goals as goal

pub returns : goal.returns
returns c =
    let whole = whole_is c.args.digits.now c.loop-byte.value c.loop-byte.byte-index (omega arith) c.loop-byte.invariant.value in
    (omega (arith, whole), whole)
