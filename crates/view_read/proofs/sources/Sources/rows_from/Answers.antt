use Rattle.std.proofs.Common.{◌≡◌, map, option_map, sym, ap, subst, ◌∙◌, rules}
use Rattle.std.specs.Arc.{arc_value}
use Rattle.mem_table.specs.Search.{rows_from}
use Rattle.merge_rows.specs.Merged.{AreDistinct, all_told_rows, merged_rows}
use Rattle.view_read.specs.AnyCursors.{any_rows, any_off}
use Rattle.view_read.specs.Sources.{SourcesState, source_rows, all_tables, tables_off}
use Rattle.view_read.proofs.Filtering.{distinct_from, sources_told, sources_off}
use Rattle.view_read.proofs.sources.Sources.rows_from.Goals as goal

pub returns-in_err-cursors-clause-distinct : goal.returns-in_err-cursors-clause-distinct
returns-in_err-cursors-clause-distinct g c = subst (λ (s : SourcesState). AreDistinct (all_told_rows (source_rows s))) c.self.view_is c.self.invariant

pub new-requires : goal.new-requires
new-requires g c =
    let raw = c.args.raw.now in
    let slice : c.as_slice.result.now ≡ (arc_value c.self.inside.levels).items = search rules in
    let tables = all_tables (map (λ level. level.items) c.as_slice.result.now) in
    let is : (λ (s : SourcesState). s) (record { memory = c.self.inside.memory; frozen = c.self.inside.frozen; levels = map (λ level. level.items) c.as_slice.result.now }) ≡ c.args.self.now =
    (λ i. record { memory = c.self.inside.memory; frozen = c.self.inside.frozen; levels = map (λ level. level.items) (slice i) }) ∙ c.self.view_is in
    let told = sources_told any_rows any_off c.in_ok-cursors.cursors.items raw c.self.inside.memory c.self.inside.frozen tables c.in_ok-cursors.ensures ∙ ap (λ (s : SourcesState). map (option_map (rows_from raw)) (source_rows s)) is in
    record { distinct = subst AreDistinct (sym (ap all_told_rows told)) (distinct_from raw (source_rows c.args.self.now) (subst (λ (s : SourcesState). AreDistinct (all_told_rows (source_rows s))) c.self.view_is c.self.invariant)) }

pub returns-in_err-new-clause-distinct : goal.returns-in_err-new-clause-distinct
returns-in_err-new-clause-distinct g c = subst (λ (s : SourcesState). AreDistinct (all_told_rows (source_rows s))) c.self.view_is c.self.invariant

pub returns-clause-rows : goal.returns-clause-rows
returns-clause-rows g c =
    let raw = c.args.raw.now in
    let slice : c.as_slice.result.now ≡ (arc_value c.self.inside.levels).items = search rules in
    let tables = all_tables (map (λ level. level.items) c.as_slice.result.now) in
    let is : (λ (s : SourcesState). s) (record { memory = c.self.inside.memory; frozen = c.self.inside.frozen; levels = map (λ level. level.items) c.as_slice.result.now }) ≡ c.args.self.now =
    (λ i. record { memory = c.self.inside.memory; frozen = c.self.inside.frozen; levels = map (λ level. level.items) (slice i) }) ∙ c.self.view_is in
    let told = sources_told any_rows any_off c.in_ok-cursors.cursors.items raw c.self.inside.memory c.self.inside.frozen tables c.in_ok-cursors.ensures ∙ ap (λ (s : SourcesState). map (option_map (rows_from raw)) (source_rows s)) is in
    c.in_ok-new.ensures.rows ∙ ap merged_rows told

pub returns-clause-off : goal.returns-clause-off
returns-clause-off g c =
    let raw = c.args.raw.now in
    let slice : c.as_slice.result.now ≡ (arc_value c.self.inside.levels).items = search rules in
    let tables = all_tables (map (λ level. level.items) c.as_slice.result.now) in
    let is : (λ (s : SourcesState). s) (record { memory = c.self.inside.memory; frozen = c.self.inside.frozen; levels = map (λ level. level.items) c.as_slice.result.now }) ≡ c.args.self.now =
    (λ i. record { memory = c.self.inside.memory; frozen = c.self.inside.frozen; levels = map (λ level. level.items) (slice i) }) ∙ c.self.view_is in
    c.in_ok-new.ensures.off
    ∙ (λ i file place. sources_off any_rows any_off c.in_ok-cursors.cursors.items raw c.self.inside.memory c.self.inside.frozen tables c.in_ok-cursors.ensures file place i)
    ∙ ap (λ (s : SourcesState). tables_off (all_tables s.levels)) is

pub returns-clause-distinct : goal.returns-clause-distinct
returns-clause-distinct g c = subst (λ (s : SourcesState). AreDistinct (all_told_rows (source_rows s))) c.self.view_is c.self.invariant
