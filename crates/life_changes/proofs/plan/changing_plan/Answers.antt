use Rattle.std.proofs.Common.{arith}
use Rattle.life_changes.proofs.Values.{life_fits}
use Rattle.life_changes.proofs.plan.changing_plan.Goals as goal

pub with_meta-requires : goal.with_meta-requires
with_meta-requires c =
    life_fits c.args.found.kind c.args.found.old c.args.found.fresh c.args.found.life c.expire_number.result c.life_version.result c.size_after-size.result
    c.expire_number.ensures c.life_version.ensures c.requires.deadline c.requires.fresh c.requires.version (omega (arith, c.if-size-eq0.false)) (omega (arith, c.if-size-gt-MAX_SIZE.false))
