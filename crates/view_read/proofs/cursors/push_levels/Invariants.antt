use Rattle.std.proofs.Common.{◌≡◌, ◌++◌, take, map}
use Rattle.view_read.specs.AnyCursors.{any_part}
use Rattle.view_read.specs.SourceParts.{table_parts}
use Rattle.view_read.specs.Sources.{all_tables}
use Rattle.view_read.proofs.cursors.push_levels.Given as goal

abbrev pub invariant-loop-level : goal.invariant-loop-level
invariant-loop-level g l = map any_part l.cursors.items ≡ map any_part l.fn.cursors.items ++ table_parts l.raw (all_tables (take l.level-index (map (λ level. level.items) l.levels)))
