use Rattle.std.proofs.Common.{ap}
use Rattle.kv_base.specs.RowRefs.{meta_seen}
use Rattle.plan_base.specs.LifeLaws.{life_within}
use Rattle.plan_base.proofs.life.life_of.Goals as goal

pub returns-then-is_code-clause-version : goal.returns-then-is_code-clause-version
returns-then-is_code-clause-version c = (life_within (meta_seen c.args.meta) _ _ _ _ (ap meta_seen c.in-Life.is) c.requires.within).0

pub returns-then-is_code-clause-size : goal.returns-then-is_code-clause-size
returns-then-is_code-clause-size c = (life_within (meta_seen c.args.meta) _ _ _ _ (ap meta_seen c.in-Life.is) c.requires.within).1
