-- The row that is sought in a block, or in a table.
use Rattle.std.specs.Prelude.{◌≡◌, ℕ, ◌<◌, ◌^◌, if◌then◌else◌, List, [], ◌∷◌, length, Option, Some, None}
use Rattle.kv_base.specs.Map.{Bytes}
use Rattle.kv_base.specs.declared.row.Row.{Row}
use Rattle.kv_base.specs.RowRefs.{row_seen}
use Rattle.row_model.specs.RowOrder.{is_before}
use Rattle.sst_parts.specs.RowTexts.{row_text}
use Rattle.sst_parts.specs.declared.seeking.Sought.{Sought}
use Rattle.sst_parts.specs.declared.seeking.Sought.TheVariants as sought

-- the first row that does not stand in front of the place of a raw key at a sequence
unfoldable pub first_from : Bytes → ℕ → List Row → Option Row
first_from raw s [] = None
first_from raw s (row ∷ rows) = if is_before raw s row then first_from raw s rows else Some row

-- rows whose lengths and sequences have room in their bytes
abbrev pub AreReadable : List Row → Type 0
AreReadable [] = Unit {0}
AreReadable (row ∷ rows) = (length (row_text row) < 2 ^ 32) × (row.seq < 2 ^ 64) × AreReadable rows

abbrev pub IsSought : Option Row → Sought → Type 0
IsSought first (sought.Row row) = first ≡ Some (row_seen row)
IsSought first sought.Behind = first ≡ None
IsSought first sought.Off = ⊥
