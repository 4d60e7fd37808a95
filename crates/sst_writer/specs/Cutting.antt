-- Where the tables of a run of rows are cut.
use Rattle.std.specs.Prelude.{◌≡◌, ℕ, nat_le, Bool, true, false, not, if◌then◌else◌, ◌&&◌, List, [], ◌∷◌, ◌++◌, length, Option, Some, None}
use Rattle.kv_base.specs.Map.{same}
use Rattle.kv_base.specs.declared.row.Row.{Row}
use Rattle.sst_parts.specs.RowTexts.{rows_text}
use Rattle.sst_parts.specs.Index.{last_raw}

-- the table of these rows ends before this row: it has as many bytes in its bodies as the limit, and the row is of
-- another raw key. A table of no rows ends before none
abbrev pub ends_before : Option ℕ → List Row → Row → Bool
ends_before None done row = false
ends_before (Some limit) [] row = false
ends_before (Some limit) (first ∷ done) row = nat_le limit (length (rows_text (first ∷ done))) && not (same (last_raw [] (first ∷ done)) row.raw)

-- the rows of the next table behind those that it has, and the rows that it leaves
unfoldable pub cut_from : Option ℕ → List Row → List Row → List Row × List Row
cut_from limit done [] = (done, [])
cut_from limit done (row ∷ rows) = if ends_before limit done row then (done, row ∷ rows) else cut_from limit (done ++ row ∷ []) rows

abbrev pub next_table : Option ℕ → List Row → List Row × List Row
next_table limit rows = cut_from limit [] rows

-- the table ends with the rows, or before the next one
abbrev pub ends_at : Option ℕ → List Row → Option Row → Bool
ends_at limit done None = true
ends_at limit done (Some row) = ends_before limit done row

-- the next row of a table that has some, and what is left behind it; none where the table ends
abbrev pub TakesNext : Option ℕ → List Row → Option (List Row) → Option Row → Option (List Row) → Type 0
TakesNext limit done None row now = now ≡ None
TakesNext limit done (Some rows) None now = (now ≡ Some rows) × (cut_from limit done rows ≡ (done, rows))
TakesNext limit done (Some rows) (Some row) now = (rest : List Row) × (rows ≡ row ∷ rest) × (now ≡ Some rest) × (ends_before limit done row ≡ false)

-- the rows that a table has so far were taken from the front, and the rest decides where it ends
abbrev pub AreTakenSoFar : Option ℕ → List Row → Option (List Row) → Option (List Row) → Type 0
AreTakenSoFar limit done None now = now ≡ None
AreTakenSoFar limit done (Some rows) now = (rest : List Row) × (now ≡ Some rest) × (rows ≡ done ++ rest) × (next_table limit rows ≡ cut_from limit done rest)

-- they are those of the next table, and the others are left
abbrev pub AreNext : Option ℕ → List Row → Option (List Row) → Option (List Row) → Type 0
AreNext limit done None now = now ≡ None
AreNext limit done (Some rows) now = (done ≡ (next_table limit rows).0) × (now ≡ Some (next_table limit rows).1)

-- some rows were taken from the front
abbrev pub AreLeftOver : Option (List Row) → Option (List Row) → Type 0
AreLeftOver None now = now ≡ None
AreLeftOver (Some rows) now = (taken : List Row) × (rest : List Row) × (rows ≡ taken ++ rest) × (now ≡ Some rest)
