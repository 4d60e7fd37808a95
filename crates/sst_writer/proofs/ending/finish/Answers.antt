use Rattle.sst_writer.specs.Building.{chunk}
use Rattle.sst_writer.specs.BuildingLaws.{those_sums}
use Rattle.sst_writer.specs.EndingLaws.{finished}
use Rattle.sst_writer.proofs.ending.finish.Goals as goal

pub returns-clause-finished : goal.returns-clause-finished
returns-clause-finished c = λ rows built.
    let t = c.args.table in
    let b = c.in_ok-builder.field-0.builder in
    let e = c.in_ok-bytes.field-0 in
    finished rows b.end b.spots.items (chunk c.in_ok-builder.field-0.full) b.sums.rows b.sums.keys.items b.sums.least b.sums.last e.bytes.items e.bits c.in_ok-tail.tail.items e.size
    (c.in_ok-builder.ensures.all rows built)
    (those_sums b.sums.rows t.sums.rows b.sums.keys.items t.sums.keys.items b.sums.least t.sums.least b.sums.last t.sums.last rows c.in_ok-builder.ensures.sums built.sums)
    c.in_ok-bytes.ensures c.in_ok-tail.ensures
