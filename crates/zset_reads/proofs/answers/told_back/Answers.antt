use Rattle.zset_reads.proofs.Members.{all_told}
use Rattle.zset_reads.proofs.answers.told_back.Goals as goal

pub returns : goal.returns
returns c = all_told c.args.scores c.loop-rank.ranks c.args.ranks c.loop-rank.parts c.in_default.ensures.0 c.loop-rank.invariant
