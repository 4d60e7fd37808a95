use Rattle.std.proofs.Common.{◌∙◌}
use Rattle.mem_table.specs.Tree.{leaf_rows}
use Rattle.mem_table.proofs.Clones.{rejoined}
use Rattle.mem_table.proofs.Parts.{cut_off}
use Rattle.mem_table.proofs.branch.cut_leaves.Goals as goal

pub loop-leaves-preserved : goal.loop-leaves-preserved
loop-leaves-preserved c =
    let leaves = c.loop-leaves.leaves.items in
    let behind = c.in_ok-last.last.items in (
      cut_off c.loop-leaves.branches.items c.push.new.self.items c.in_ok-new.field-0 (leaf_rows leaves) (leaf_rows c.split_off.new.self.items) (leaf_rows behind) _ c.loop-leaves.invariant.0
          (rejoined leaves c.split_off.new.self.items behind _ c.in_ok-last.ensures.items c.in_ok-last.ensures.tail) (c.in_ok-new.ensures.ok ∙ c.in_ok-of.ensures) c.in_ok-push.ensures.items,
      c.loop-leaves.invariant.1,
      c.loop-leaves.invariant.2,
    )
