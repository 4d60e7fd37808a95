-- The order in which rows are kept: raw keys ascend, and sequences fall within one.
use Rattle.std.specs.Prelude.{ℕ, Bool, true, if◌then◌else◌, ◌&&◌, List, [], ◌∷◌}
use Rattle.std.specs.List.{list_all}
use Rattle.std.specs.declared.cmp.Ordering.{Ordering}
use Rattle.std.specs.Ordering.{nat_cmp, ordering_then, is_lt, is_le}
use Rattle.kv_base.specs.Map.{Bytes, byte_cmp}
use Rattle.kv_base.specs.declared.row.Row.{Row}

-- by raw key, and then the greater sequence first
abbrev pub row_cmp : Row → Row → Ordering
row_cmp row other = ordering_then (byte_cmp row.raw other.raw) (nat_cmp other.seq row.seq)

-- the row stands in front of the place of a raw key at a sequence
abbrev pub is_before : Bytes → ℕ → Row → Bool
is_before raw s row = is_lt (ordering_then (byte_cmp row.raw raw) (nat_cmp s row.seq))

-- the row's raw key is below this one
abbrev pub is_below : Bytes → Row → Bool
is_below raw row = is_lt (byte_cmp row.raw raw)

-- the row stands in front of each of these
abbrev pub leads : Row → List Row → Bool
leads row = list_all (λ other. is_lt (row_cmp row other))

-- each row stands in front of those behind it
unfoldable pub is_ordered : List Row → Bool
is_ordered [] = true
is_ordered (row ∷ rows) = leads row rows && is_ordered rows

-- a row among others, at its place in the order
unfoldable pub placed : Row → List Row → List Row
placed row [] = row ∷ []
placed row (other ∷ rows) = if is_le (row_cmp row other) then row ∷ other ∷ rows else other ∷ placed row rows

-- rows and more rows, each of these at its place in the order
unfoldable pub merged : List Row → List Row → List Row
merged rows [] = rows
merged rows (row ∷ more) = placed row (merged rows more)
