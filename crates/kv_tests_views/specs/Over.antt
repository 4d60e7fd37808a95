-- Rows that lie above others.
use Rattle.std.specs.Prelude.{ℕ, nat_lt, Bool, List, IsTrue}
use Rattle.std.specs.List.{list_all}
use Rattle.kv_base.specs.declared.row.Row.{Row}
use Rattle.row_model.specs.Rows.{are_upto}
use Rattle.merge_rows.specs.Merged.{AreDistinct}

-- every sequence is above this one
abbrev pub are_over : ℕ → List Row → Bool
are_over last = list_all (λ row. nat_lt last row.seq)

-- no two of the rows have both raw key and sequence equal, and no sequence is above this one
abbrev pub AreDistinctUpto : ℕ → List Row → Type 0
AreDistinctUpto last rows = AreDistinct rows × IsTrue (are_upto last rows)
