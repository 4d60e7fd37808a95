use Rattle.std.proofs.Common.{◌≡◌, Some, ◌∷◌, ◌++◌, map, sym, subst, rules}
use Rattle.std.specs.Arc.{arc_value}
use Rattle.view_read.specs.Shows.{ShowsInAll}
use Rattle.view_read.proofs.Showing.{shows_both}
use Rattle.view_read.specs.Sources.{source_rows, frozen_told, table_rows, all_tables}
use Rattle.view_read.proofs.sources.Sources.find.Goals as goal

pub returns-clause-row : goal.returns-clause-row
returns-clause-row g c =
    let memory = c.self.inside.memory in
    let frozen = c.self.inside.frozen in
    let levels = map (λ level. level.items) (arc_value c.self.inside.levels).items in
    let same : c.as_slice.result.now ≡ (arc_value c.self.inside.levels).items = search rules in
    subst (λ s. ShowsInAll (source_rows s) c.args.seq c.args.raw.now c.newer.result) c.self.view_is
    (subst (ShowsInAll ((Some memory ∷ frozen_told frozen) ++ table_rows (all_tables levels)) c.args.seq c.args.raw.now) (sym c.newer.ensures)
    (shows_both (Some memory ∷ frozen_told frozen) (table_rows (all_tables levels)) c.args.seq c.args.raw.now c.in_ok-newest.newest c.in_ok-found.found c.in_ok-newest.ensures
    (subst (λ ls. ShowsInAll (table_rows (all_tables (map (λ level. level.items) ls))) c.args.seq c.args.raw.now c.in_ok-found.found) same c.in_ok-found.ensures.row)))
