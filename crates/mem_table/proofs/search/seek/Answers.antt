use Rattle.std.proofs.Common.{◌++◌, ap, sym, ◌∙◌, append_assoc}
use Rattle.row_model.specs.RowOrder.{is_ordered}
use Rattle.mem_table.specs.Search.{rows_at}
use Rattle.mem_table.specs.Shared.{rows_of}
use Rattle.mem_table.specs.Tree.{leaf_rows}
use Rattle.mem_table.proofs.Seeking.{found_in, found_nowhere, part_ordered}
use Rattle.mem_table.proofs.Spread.{empty_of}
use Rattle.mem_table.proofs.search.seek.Goals as goal

pub seek_leaf-requires : goal.seek_leaf-requires
seek_leaf-requires c =
    ap is_ordered (c.leaves.ensures.all ∙ c.deref.ensures)
    ∙ part_ordered c.args.raw.now c.args.seq c.args.branches.now c.in-Some.others.now c.in-Some.branch.now c.branch_at.result (sym c.split_at.ensures.back ∙ c.in-Some.ensures.cases.0) c.requires

pub returns-in-Some : goal.returns-in-Some
returns-in-Some c =
    let raw = c.args.raw.now in
    let seq = c.args.seq in
    let rows = rows_of c.seek_leaf.result.0.now in
    let leaves = leaf_rows c.seek_leaf.result.1.now in
    c.of.ensures ∙ sym (append_assoc rows leaves (leaf_rows c.in-Some.others.now))
    ∙ found_in raw seq c.args.branches.now c.in-Some.others.now c.in-Some.branch.now c.branch_at.result (rows ++ leaves) (sym c.split_at.ensures.back ∙ c.in-Some.ensures.cases.0)
    c.branch_at.ensures.front c.branch_at.ensures.behind (c.seek_leaf.ensures ∙ ap (rows_at raw seq) (c.leaves.ensures.all ∙ c.deref.ensures))

pub returns-in-None : goal.returns-in-None
returns-in-None c =
    let none = empty_of c.split_at.result.1.now c.in-None.ensures.cases in
    c.of-in-None.ensures ∙ ap leaf_rows none
    ∙ found_nowhere c.args.raw.now c.args.seq c.args.branches.now c.branch_at.result (sym c.split_at.ensures.back ∙ none) c.branch_at.ensures.front
