-- Which rows a search passes.
use Rattle.std.specs.Prelude.{ℕ, Bool, not, List, Option, Some, None, filter}
use Rattle.kv_base.specs.Map.{Bytes}
use Rattle.kv_base.specs.declared.row.Row.{Row}
use Rattle.row_model.specs.RowOrder.{is_before, is_below}

-- the row stands in front of the place of a raw key at a sequence; with no sequence, of every row of the raw key
abbrev pub is_short : Bytes → Option ℕ → Row → Bool
is_short raw None row = is_below raw row
is_short raw (Some seq) row = is_before raw seq row

-- the rows from that place on
abbrev pub rows_at : Bytes → Option ℕ → List Row → List Row
rows_at raw seq = filter (λ row. not (is_short raw seq row))

-- the rows whose raw keys are not below this one
abbrev pub rows_from : Bytes → List Row → List Row
rows_from raw = filter (λ row. not (is_below raw row))
