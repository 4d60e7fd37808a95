-- Records of batches, one after the other.
use Rattle.std.specs.Prelude.{ℕ, nat_lt, Bool, true, ◌&&◌, List, [], ◌∷◌, ◌++◌}
use Rattle.kv_base.specs.Map.{Bytes, Map}
use Rattle.batch_codec.specs.Batches.{after}
use Rattle.batch_codec.specs.declared.record.Record.{Record}
use Rattle.kv_base.specs.declared.row.Row.{Row}
use Rattle.row_model.specs.Rows.{batch_rows}
use Rattle.row_model.specs.RowOrder.{merged}

-- each record's sequence is above that of the one before it, and the first one's above this
abbrev pub rise_above : ℕ → List Record → Bool
rise_above sequence [] = true
rise_above sequence (r ∷ rs) = nat_lt sequence r.seq && rise_above r.seq rs

-- each record's sequence is above that of the one before it
abbrev pub do_rise : List Record → Bool
do_rise [] = true
do_rise (r ∷ rs) = rise_above r.seq rs

-- the sequence of the last record, and this one where there is none
abbrev pub last_from : ℕ → List Record → ℕ
last_from sequence [] = sequence
last_from sequence (r ∷ rs) = last_from r.seq rs

-- the map that the batches make of this one, one after the other
abbrev pub rows_after : Map Bytes → List Record → Map Bytes
rows_after before [] = before
rows_after before (r ∷ rs) = rows_after (after before r.batch) rs

-- the rows of all batches, each under its record's sequence
abbrev pub record_rows : List Record → List Row
record_rows [] = []
record_rows (r ∷ rs) = batch_rows r.seq r.batch ++ record_rows rs

-- rows in order, and the rows of each batch at their places among them
unfoldable pub replayed : List Row → List Record → List Row
replayed rows [] = rows
replayed rows (r ∷ rs) = replayed (merged rows (batch_rows r.seq r.batch)) rs
