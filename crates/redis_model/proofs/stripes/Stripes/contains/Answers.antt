use Rattle.std.proofs.Common.{arith}
use Rattle.redis_model.proofs.StripeBits.{no_bit_above}
use Rattle.redis_model.proofs.stripes.Stripes.contains.Goals as goal

pub returns-else-stripe-lt-STRIPES : goal.returns-else-stripe-lt-STRIPES
returns-else-stripe-lt-STRIPES c = no_bit_above c.args.self.now.bits c.args.stripe (omega arith) c.if-stripe-lt-STRIPES.false
