use Rattle.std.proofs.Common.{arith}
use Rattle.sst_writer.specs.Building.{chunk}
use Rattle.sst_writer.specs.EndingLaws.{none_waits, some_wait}
use Rattle.sst_sums.specs.OkLaws.{ok_then}
use Rattle.sst_writer.proofs.ending.close_last.Goals as goal

pub returns-then-len-eq0-clause-all : goal.returns-then-len-eq0-clause-all
returns-then-len-eq0-clause-all c = λ rows built.
    let t = c.args.table in
    none_waits t.end t.block t.spots.items t.sums.rows t.sums.keys.items t.sums.least t.sums.last rows built (omega (arith, c.len.ensures, c.if-len-eq0.true))

pub returns-clause-all : goal.returns-clause-all
returns-clause-all c =
    let t = c.args.table in
    ok_then c.close.result _ _ _ c.close.ensures.closed c.close.ensures.sums (λ added closed those rows built.
    some_wait t.end t.block t.spots.items t.sums.rows t.sums.keys.items t.sums.least t.sums.last rows built c.in-Some.row c.in_ok-last.last added.builder.end added.builder.block added.builder.spots.items (chunk added.full)
    (omega (arith, c.len.ensures, c.if-len-eq0.false)) c.in-Some.is c.in_ok-last.ensures closed)
