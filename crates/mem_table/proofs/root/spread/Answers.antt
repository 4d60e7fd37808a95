use Rattle.mem_table.specs.Shared.{rows_of}
use Rattle.mem_table.specs.Tree.{leaf_rows}
use Rattle.mem_table.proofs.Clones.{cloned}
use Rattle.mem_table.proofs.Parts.{here, goes_on, rest_ordered, ends, begun_behind}
use Rattle.mem_table.proofs.root.spread.Goals as goal

pub loop-branch-init : goal.loop-branch-init
loop-branch-init c =
    begun_behind c.extend_with_clones.new.self.items c.args.old.now c.split_at-parts.result.1.now c.split_at-parts.result.0.now (rows_of c.args.new.now) c.in_front.result
    (cloned _ c.extend_with_clones.new.self.items c.split_at-parts.result.0.now c.in_ok-branches.ensures.items c.in_ok-extend_with_clones.ensures.items) c.split_at-parts.ensures.front c.split_at-parts.ensures.back c.in_front.ensures.bound
    c.requires.old c.requires.new c.requires.apart c.in_front.ensures.front

pub until-requires-clause-rows : goal.until-requires-clause-rows
until-requires-clause-rows c = c.loop-branch.invariant.0.more_ordered

pub until-requires-clause-branches : goal.until-requires-clause-branches
until-requires-clause-branches c = rest_ordered c.loop-branch.old.now c.in-Some.others.now c.in-Some.branch.now _ _ _ c.loop-branch.invariant.0 c.in-Some.ensures.cases.0

pub put_branch-requires-clause-old : goal.put_branch-requires-clause-old
put_branch-requires-clause-old c =
    (here c.loop-branch.old.now c.in-Some.others.now c.in-Some.branch.now c.loop-branch.new.now c.split_at.result.0.now c.split_at.result.1.now c.until.result _ _
    c.loop-branch.invariant.0 c.in-Some.ensures.cases.0 c.split_at.ensures.front c.split_at.ensures.back).old

pub put_branch-requires-clause-new : goal.put_branch-requires-clause-new
put_branch-requires-clause-new c =
    (here c.loop-branch.old.now c.in-Some.others.now c.in-Some.branch.now c.loop-branch.new.now c.split_at.result.0.now c.split_at.result.1.now c.until.result _ _
    c.loop-branch.invariant.0 c.in-Some.ensures.cases.0 c.split_at.ensures.front c.split_at.ensures.back).new

pub put_branch-requires-clause-apart : goal.put_branch-requires-clause-apart
put_branch-requires-clause-apart c =
    (here c.loop-branch.old.now c.in-Some.others.now c.in-Some.branch.now c.loop-branch.new.now c.split_at.result.0.now c.split_at.result.1.now c.until.result _ _
    c.loop-branch.invariant.0 c.in-Some.ensures.cases.0 c.split_at.ensures.front c.split_at.ensures.back).apart

pub loop-branch-preserved : goal.loop-branch-preserved
loop-branch-preserved c =
    goes_on c.loop-branch.old.now c.in-Some.others.now c.in-Some.branch.now c.loop-branch.new.now c.split_at.result.0.now c.split_at.result.1.now c.until.result _ _
    c.loop-branch.invariant.0 c.in-Some.ensures.cases.0 c.split_at.ensures.front c.split_at.ensures.back
    (leaf_rows c.put_branch.new.branches.items) c.in_ok-put_branch.ensures c.until.ensures.front c.until.ensures.behind

pub returns : goal.returns
returns c = ends c.loop-branch.old.now (leaf_rows c.loop-branch.branches.items) (rows_of c.loop-branch.new.now) _ c.loop-branch.invariant.0 c.loop-branch.invariant.1 c.in_default.ensures.cases
