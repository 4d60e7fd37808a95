use Rattle.std.proofs.Common.{◌≡◌, [], None, map, sym, ap, subst, ◌∙◌}
use Rattle.std.specs.Arc.{arc_value}
use Rattle.merge_rows.specs.Merged.{AreDistinct, all_told_rows}
use Rattle.view_read.specs.Sources.{SourcesState, source_rows}
use Rattle.view_read.proofs.Spreading.{distinct_alone}
use Rattle.view_read.proofs.sources.Sources.in_memory.Goals as goal

pub invariant_of-result : goal.invariant_of-result
invariant_of-result g c =
    let none : (arc_value c.in_ok-levels.levels).items ≡ [] = ap (λ v. v.items) c.in_ok-levels.ensures.ok ∙ c.new.ensures.items in
    subst (λ (s : SourcesState). AreDistinct (all_told_rows (source_rows s)))
    (λ i. record { memory = c.args.memory; frozen = None; levels = map (λ level. level.items) (sym none i) }) (distinct_alone c.args.memory c.len-count.ensures.order)
