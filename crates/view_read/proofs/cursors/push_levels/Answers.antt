use Rattle.std.proofs.Common.{◌++◌, List, take, map, sym, ap, ◌∙◌, append_assoc, arith}
use Rattle.merge_rows.specs.Parts.{CursorPart}
use Rattle.view_read.specs.AnyCursors.{any_part}
use Rattle.view_read.specs.SourceParts.{table_parts}
use Rattle.view_read.specs.Sources.{all_tables}
use Rattle.view_read.proofs.Finding.{sliced_at, level_parts_more}
use Rattle.view_read.proofs.cursors.push_levels.Goals as goal

pub loop-level-preserved : goal.loop-level-preserved
loop-level-preserved g c =
    let raw = c.args.raw.now in
    let levels = map (λ level. level.items) c.args.levels.now in
    let at = c.loop-level.level-index in
    let slice = c.as_slice.result.now in
    let here = sliced_at (λ level. level.items) c.args.levels.now at c.level-item.result slice (omega arith) c.level-item.is c.as_slice.ensures.value in
    let first = map any_part c.args.cursors.now.items in
    c.in_ok-push_tables.ensures
    ∙ ap (λ (ps : List CursorPart). ps ++ table_parts raw slice) c.loop-level.invariant
    ∙ append_assoc first (table_parts raw (all_tables (take at levels))) (table_parts raw slice)
    ∙ ap (λ (ps : List CursorPart). first ++ ps) (sym (level_parts_more raw levels at slice here.0 here.1))
