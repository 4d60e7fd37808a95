-- What the cursors of a merge tell: of each its rows, with the row that was read of it, and its places off their grammar.
use Rattle.std.specs.Prelude.{ℕ, ◌+◌, Bool, List, ◌++◌, map, Option}
use Rattle.std.specs.List.{list_any, sum_by}
use Rattle.kv_base.specs.declared.name.FileName.{FileName}
use Rattle.kv_base.specs.declared.row.Row.{Row}
use Rattle.merge_rows.specs.Cursors.{with_held, held_count}

abbrev pub CursorPart : Type 0
CursorPart = Option (List Row) × (FileName → ℕ → Bool)

abbrev pub part_lists : List CursorPart → List (Option (List Row))
part_lists = map (λ part. part.0)

-- a place is off its grammar for one of them
abbrev pub is_off : List CursorPart → FileName → ℕ → Bool
is_off all file place = list_any (λ part. part.1 file place) all

-- those of which no row was read yet, and those with their next row
abbrev pub cursor_parts : {X H : Type 0} → (X → Option (List Row)) → (X → FileName → ℕ → Bool) → List X → List H → (H → Option Row) → (H → X) → List CursorPart
cursor_parts rows off waiting ready row_of cursor_of = map (λ x. (rows x, off x)) waiting ++ map (λ h. (with_held (row_of h) (rows (cursor_of h)), off (cursor_of h))) ready

abbrev pub count_left : {X H : Type 0} → (X → ℕ) → List X → List H → (H → Option Row) → (H → X) → ℕ
count_left left waiting ready row_of cursor_of = sum_by left waiting + sum_by (λ h. left (cursor_of h) + held_count (row_of h)) ready
