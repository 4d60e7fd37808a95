use Rattle.redis_model.proofs.StripeBits.{all_ones}
use Rattle.redis_model.proofs.stripes.Stripes.all.Goals as goal

pub returns : goal.returns
returns c = all_ones
