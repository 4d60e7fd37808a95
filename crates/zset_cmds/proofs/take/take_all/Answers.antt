use Rattle.std.proofs.Common.{refl}
use Rattle.zset_cmds.specs.TakenLaws.{takes_all}
use Rattle.zset_cmds.proofs.take.take_all.Goals as goal

pub returns-clause-plan : goal.returns-clause-plan
returns-clause-plan g c =
    takes_all (g.V.RawView.told c.args.view.now).rows (g.V.RawView.told c.args.view.now).rows c.args.key.now c.args.found c.args.taking _ c.in_ok-plan.plan refl c.requires.bounds
    c.in_ok-ranks.ensures.ranks c.in_ok-plan.ensures
