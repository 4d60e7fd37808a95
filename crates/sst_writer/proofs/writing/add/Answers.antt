use Rattle.std.proofs.Common.{◌++◌, [], ◌∷◌}
use Rattle.kv_base.specs.RowRefs.{row_seen}
use Rattle.sst_writer.specs.Building.{chunk}
use Rattle.sst_writer.specs.WritingLaws.{waits, is_written}
use Rattle.sst_writer.proofs.writing.add.Goals as goal

pub returns-then-len-lt-TOGETHER-clause-file : goal.returns-then-len-lt-TOGETHER-clause-file
returns-then-len-lt-TOGETHER-clause-file g c = λ rows built was.
    let d = c.args.draft in
    waits rows (row_seen c.args.row) (chunk c.in_ok-builder.field-0.full) d.waiting.items c.in_ok-waiting.waiting.items d.written (g.F.Files.bytes_of c.args.log.now)
    (c.in_ok-builder.ensures.more rows built) c.in_ok-waiting.ensures was

pub returns-clause-file : goal.returns-clause-file
returns-clause-file g c = λ rows built was.
    let d = c.args.draft in
    let row = row_seen c.args.row in
    let held = g.F.Files.bytes_of c.args.log.now in
    is_written (rows ++ row ∷ []) c.in_ok-waiting.waiting.items c.flush.new.waiting.items d.written c.in_ok-written.written held (g.F.Files.bytes_of c.flush.new.log)
    c.in_ok-written.ensures.waiting c.in_ok-written.ensures.file
    (waits rows row (chunk c.in_ok-builder.field-0.full) d.waiting.items c.in_ok-waiting.waiting.items d.written held (c.in_ok-builder.ensures.more rows built) c.in_ok-waiting.ensures was)
