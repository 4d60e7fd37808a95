use Rattle.std.proofs.lemmas.Result.{IfOk-weaker}
use Rattle.lives_model.specs.LiveRowLists.{pairs}
use Rattle.view_read.specs.Sources.{source_rows}
use Rattle.view_read.proofs.Filtering.{from_there, page_there}
use Rattle.view_read.proofs.view.ViewRawView.range.Goals as goal

pub read_page-requires : goal.read_page-requires
read_page-requires g c =
    from_there (source_rows c.args.self.now.sources.now) c.args.from.now c.args.prefix.now c.greater.result.now _ c.rows_from.ensures.distinct c.greater.ensures c.in_ok-rows.ensures.rows

pub returns-clause-value : goal.returns-clause-value
returns-clause-value g c =
    let view = c.args.self.now in
    IfOk-weaker c.read_page.result _ _
    (λ found shown. page_there (source_rows view.sources.now) view.seq c.args.from.now c.args.prefix.now c.greater.result.now c.args.limit _ (pairs found) c.rows_from.ensures.distinct c.greater.ensures c.in_ok-rows.ensures.rows shown)
    c.read_page.ensures.value
