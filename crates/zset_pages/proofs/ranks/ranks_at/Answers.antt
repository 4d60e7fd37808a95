use Rattle.std.proofs.Common.{map}
use Rattle.zset_pages.specs.Ranks.{scored_of}
use Rattle.zset_pages.proofs.Parts.{all_at}
use Rattle.zset_pages.proofs.ranks.ranks_at.Goals as goal

pub returns-clause-ranks : goal.returns-clause-ranks
returns-clause-ranks g c = all_at (g.V.RawView.told c.args.view.now).rows c.args.key.now c.args.life c.args.start c.args.count (map scored_of c.in_ok-ranks.ranks) c.in_ok-ranks.ensures.ranks
