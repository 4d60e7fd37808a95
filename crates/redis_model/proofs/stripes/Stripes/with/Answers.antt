use Rattle.redis_model.proofs.StripeBits.{one_bit_more}
use Rattle.redis_model.proofs.stripes.Stripes.with.Goals as goal

pub returns : goal.returns
returns c = λ b. one_bit_more c.args.self.bits c.args.stripe b c.requires
