use Rattle.std.proofs.Common.{length, take, ap, ◌∙◌, arith}
use Rattle.std.proofs.lemmas.List.{length-map, drop_all}
use Rattle.std.specs.Arc.{arc_value}
use Rattle.mem_table.specs.Shared.{rows_of}
use Rattle.mem_table.specs.Tree.{lead, are_behind, leaf_rows}
use Rattle.mem_table.proofs.Parts.{split, begins, behind_none, none}
use Rattle.mem_table.proofs.Spread.{lead_none}
use Rattle.mem_table.proofs.branch.until.Goals as goal

pub returns-in-Some-clause-front : goal.returns-in-Some-clause-front
returns-in-Some-clause-front c =
    (split c.args.rows.now (leaf_rows c.args.leaves.now) c.first-first.result.now _ c.bytes.result.now c.place.result
    (begins c.args.leaves.now c.in-Some.field-0-1.now c.in-Some.leaf.now c.first-first.result.now c.deref.result.now _ c.in-Some.ensures.cases.0 c.deref.ensures c.first-first.ensures)
    c.bytes.ensures c.requires.leaves c.place.ensures.bound c.place.ensures.split).0

pub returns-in-Some-clause-behind : goal.returns-in-Some-clause-behind
returns-in-Some-clause-behind c =
    (split c.args.rows.now (leaf_rows c.args.leaves.now) c.first-first.result.now _ c.bytes.result.now c.place.result
    (begins c.args.leaves.now c.in-Some.field-0-1.now c.in-Some.leaf.now c.first-first.result.now c.deref.result.now _ c.in-Some.ensures.cases.0 c.deref.ensures c.first-first.ensures)
    c.bytes.ensures c.requires.leaves c.place.ensures.bound c.place.ensures.split).1

pub returns-in-None-clause-front : goal.returns-in-None-clause-front
returns-in-None-clause-front c =
    let rows = take (length c.args.rows.now) (rows_of c.args.rows.now) in
    ap (lead rows) (none c.args.leaves.now c.in-None.ensures.cases) ∙ lead_none rows

pub returns-in-None-clause-behind : goal.returns-in-None-clause-behind
returns-in-None-clause-behind c =
    let long = length-map c.args.rows.now arc_value in
    (λ i. are_behind (none c.args.leaves.now c.in-None.ensures.cases i) (drop_all (length c.args.rows.now) (rows_of c.args.rows.now) (omega (arith, long)) i))

pub returns-then-is_empty-clause-behind : goal.returns-then-is_empty-clause-behind
returns-then-is_empty-clause-behind c = behind_none (leaf_rows c.args.leaves.now) c.args.rows.now c.if-is_empty.ensures
