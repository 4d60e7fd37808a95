use Rattle.std.proofs.Common.{◌≡◌, map, sym, subst, rules}
use Rattle.std.specs.Arc.{arc_value}
use Rattle.merge_rows.specs.Merged.{AreDistinct, all_told_rows}
use Rattle.view_read.specs.Sources.{SourcesState, source_rows}
use Rattle.view_read.proofs.sources.Sources.share.Goals as goal

pub invariant_of-result : goal.invariant_of-result
invariant_of-result g c =
    let levels : map (λ level. level.items) (arc_value c.self.inside.levels).items ≡ map (λ level. level.items) (arc_value c.in_ok-levels.levels).items = search rules in
    subst (λ (s : SourcesState). AreDistinct (all_told_rows (source_rows s)))
    (λ i. record { memory = sym c.in_ok-memory.ensures i; frozen = sym c.in_ok-frozen.ensures i; levels = levels i }) c.self.invariant
