use Rattle.std.proofs.Common.{◌-◌, ◌++◌, [], ◌∷◌, length, take, sym, ap, ◌∙◌, arith}
use Rattle.std.specs.Arc.{arc_value}
use Rattle.mem_table.proofs.Parts.{last_of_parts}
use Rattle.mem_table.proofs.branch.Branch.of.Goals as goal

pub invariant_of-result : goal.invariant_of-result
invariant_of-result c =
    let front = take (length c.deref.result.now - 1) c.deref.result.now in (
      c.requires.some,
      c.requires.limit,
      last_of_parts c.args.leaves.items c.index.result.now (c.len.result - 1) front (arc_value c.in_ok-last.last) c.requires.some (omega (arith, c.len.ensures, c.args.leaves.ok.0)) c.index.ensures
          (sym c.deref.ensures ∙ c.last_pointer.ensures ∙ ap (λ row. front ++ row ∷ []) (sym c.in_ok-last.ensures)),
    )
