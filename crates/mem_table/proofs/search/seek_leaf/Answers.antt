use Rattle.std.proofs.Common.{ap, sym, ◌∙◌}
use Rattle.std.specs.Arc.{arc_value}
use Rattle.row_model.specs.RowOrder.{is_ordered}
use Rattle.mem_table.specs.Search.{rows_at}
use Rattle.mem_table.specs.SearchLaws.{from_place}
use Rattle.mem_table.specs.Shared.{rows_of}
use Rattle.mem_table.specs.Tree.{leaf_rows}
use Rattle.mem_table.proofs.Places.{map-drop}
use Rattle.mem_table.proofs.Seeking.{found_in, found_nowhere, part_ordered}
use Rattle.mem_table.proofs.Spread.{empty_of}
use Rattle.mem_table.proofs.search.seek_leaf.Goals as goal

pub place-requires : goal.place-requires
place-requires c =
    ap is_ordered (c.rows-rows.ensures.all ∙ c.deref.ensures)
    ∙ part_ordered c.args.raw.now c.args.seq c.args.leaves.now c.in-Some.others.now c.in-Some.leaf.now c.leaf_at.result (sym c.split_at.ensures.back ∙ c.in-Some.ensures.cases.0) c.requires

pub returns-in-Some : goal.returns-in-Some
returns-in-Some c =
    let raw = c.args.raw.now in
    let seq = c.args.seq in
    let here =
    ap rows_of c.split_at-in-Some.ensures.back ∙ map-drop arc_value c.rows-rows.result.now c.place.result ∙ from_place raw seq (rows_of c.rows-rows.result.now) c.place.result c.place.ensures.split
    ∙ ap (rows_at raw seq) (c.rows-rows.ensures.all ∙ c.deref.ensures) in
    found_in raw seq c.args.leaves.now c.in-Some.others.now c.in-Some.leaf.now c.leaf_at.result (rows_of c.split_at-in-Some.result.1.now) (sym c.split_at.ensures.back ∙ c.in-Some.ensures.cases.0)
    c.leaf_at.ensures.front c.leaf_at.ensures.behind here

pub returns-in-None : goal.returns-in-None
returns-in-None c =
    let none = empty_of c.split_at.result.1.now c.in-None.ensures.cases in
    ap leaf_rows none ∙ found_nowhere c.args.raw.now c.args.seq c.args.leaves.now c.leaf_at.result (sym c.split_at.ensures.back ∙ none) c.leaf_at.ensures.front
