use Rattle.mem_table.specs.Shared.{rows_of}
use Rattle.mem_table.specs.Tree.{leaf_rows}
use Rattle.mem_table.proofs.Parts.{here, goes_on, rest_ordered, ends, begun}
use Rattle.mem_table.proofs.branch.leaves_with.Goals as goal

pub loop-leaf-init : goal.loop-leaf-init
loop-leaf-init c = begun c.in_ok-leaves.leaves.items c.args.old.now (rows_of c.args.new.now) c.in_ok-leaves.ensures.items c.requires.some c.requires.old c.requires.new c.requires.apart

pub until-requires-clause-rows : goal.until-requires-clause-rows
until-requires-clause-rows c = c.loop-leaf.invariant.0.more_ordered

pub until-requires-clause-leaves : goal.until-requires-clause-leaves
until-requires-clause-leaves c = rest_ordered c.loop-leaf.old.now c.in-Some.others.now c.in-Some.leaf.now _ _ _ c.loop-leaf.invariant.0 c.in-Some.ensures.cases.0

pub put_leaf-requires-clause-old : goal.put_leaf-requires-clause-old
put_leaf-requires-clause-old c =
    (here c.loop-leaf.old.now c.in-Some.others.now c.in-Some.leaf.now c.loop-leaf.new.now c.split_at.result.0.now c.split_at.result.1.now c.until.result _ _
    c.loop-leaf.invariant.0 c.in-Some.ensures.cases.0 c.split_at.ensures.front c.split_at.ensures.back).old

pub put_leaf-requires-clause-new : goal.put_leaf-requires-clause-new
put_leaf-requires-clause-new c =
    (here c.loop-leaf.old.now c.in-Some.others.now c.in-Some.leaf.now c.loop-leaf.new.now c.split_at.result.0.now c.split_at.result.1.now c.until.result _ _
    c.loop-leaf.invariant.0 c.in-Some.ensures.cases.0 c.split_at.ensures.front c.split_at.ensures.back).new

pub put_leaf-requires-clause-apart : goal.put_leaf-requires-clause-apart
put_leaf-requires-clause-apart c =
    (here c.loop-leaf.old.now c.in-Some.others.now c.in-Some.leaf.now c.loop-leaf.new.now c.split_at.result.0.now c.split_at.result.1.now c.until.result _ _
    c.loop-leaf.invariant.0 c.in-Some.ensures.cases.0 c.split_at.ensures.front c.split_at.ensures.back).apart

pub loop-leaf-preserved : goal.loop-leaf-preserved
loop-leaf-preserved c =
    goes_on c.loop-leaf.old.now c.in-Some.others.now c.in-Some.leaf.now c.loop-leaf.new.now c.split_at.result.0.now c.split_at.result.1.now c.until.result _ _
    c.loop-leaf.invariant.0 c.in-Some.ensures.cases.0 c.split_at.ensures.front c.split_at.ensures.back
    (leaf_rows c.put_leaf.new.leaves.items) c.in_ok-put_leaf.ensures c.until.ensures.front c.until.ensures.behind

pub returns : goal.returns
returns c = ends c.loop-leaf.old.now (leaf_rows c.loop-leaf.leaves.items) (rows_of c.loop-leaf.new.now) _ c.loop-leaf.invariant.0 c.loop-leaf.invariant.1 c.in_default.ensures.cases
