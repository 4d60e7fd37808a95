use Rattle.merge_rows.specs.Cursors.{with_held}
use Rattle.sst_writer.specs.TakingLaws.{next_left}
use Rattle.sst_writer.specs.WritingLaws.{on_err}
use Rattle.sst_writer.proofs.tables.write_file.Goals as goal

pub returns-clause-rest : goal.returns-clause-rest
returns-clause-rest g c =
    let f = c.in_ok-draft.ensures.filled in
    on_err c.end.result _ (next_left c.args.limit f.done (with_held c.args.rows.now.held (g.C.Upcoming.rows c.args.rows.now.cursor)) (with_held c.fill.new.rows.held (g.C.Upcoming.rows c.fill.new.rows.cursor)) f.taken)
