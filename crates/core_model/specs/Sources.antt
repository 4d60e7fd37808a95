-- Where a core keeps its rows: a memtable, a frozen one that waits to be written, and tables in five levels.
use Rattle.std.specs.Prelude.{◌≡◌, ℕ, List, [], ◌∷◌, ◌++◌, map, Option, Some, None}
use Rattle.std.specs.List.{Contains}
use Rattle.std.specs.declared.cmp.Ordering.TheVariants.{Less}
use Rattle.kv_base.specs.Map.{byte_cmp}
use Rattle.kv_base.specs.declared.row.Row.{Row}
use Rattle.row_model.specs.RowOrder.{merged}
use Rattle.filter_laws.specs.Replaced.{AreNewer}

-- a table, by the job that wrote it and the part of that job's rows, and the rows of its file
pub record Table : Type 0 where
  pub run : ℕ
  pub part : ℕ
  pub rows : List Row

-- the rows of a core
pub record Sources : Type 0 where
  pub memory : List Row
  pub frozen : Option (List Row)
  -- five of them: level 0 stands newest first, the others by ascending raw keys
  pub levels : List (List Table)

-- ---- all rows

-- the rows of lists, one behind the other
abbrev pub all_rows : List (List Row) → List Row
all_rows [] = []
all_rows (rows ∷ more) = rows ++ all_rows more

-- the frozen rows, if there are any
abbrev pub waiting : Option (List Row) → List (List Row)
waiting None = []
waiting (Some rows) = rows ∷ []

-- the rows of each table
abbrev pub in_tables : List Table → List (List Row)
in_tables tables = map (λ t. t.rows) tables

-- and of each level's tables
abbrev pub in_levels : List (List Table) → List (List Row)
in_levels [] = []
in_levels (tables ∷ deeper) = in_tables tables ++ in_levels deeper

-- the rows of each source, the newest source first
abbrev pub newest_first : Sources → List (List Row)
newest_first s = s.memory ∷ (waiting s.frozen ++ in_levels s.levels)

-- all rows
unfoldable pub rows_in : Sources → List Row
rows_in s = all_rows (newest_first s)

-- the rows of tables in one order: raw keys ascend, and sequences fall within one
unfoldable pub together : List Table → List Row
together [] = []
together (t ∷ ts) = merged (together ts) t.rows

-- ---- order

-- a newer source has the greater sequences
abbrev pub AreNewestFirst : List (List Row) → Type 0
AreNewestFirst [] = Unit {0}
AreNewestFirst (rows ∷ more) = AreNewer rows (all_rows more) × AreNewestFirst more

-- the raw keys of the first list are below those of the second
abbrev pub AreBelow : List Row → List Row → Type 0
AreBelow rows others = (row other : Row) → Contains rows row → Contains others other → byte_cmp row.raw other.raw ≡ Less

-- each table stands in front of those whose raw keys are greater, so no two ranges meet
abbrev pub AreAscending : List (List Row) → Type 0
AreAscending [] = Unit {0}
AreAscending (rows ∷ more) = AreBelow rows (all_rows more) × AreAscending more

-- the tables of each level do
abbrev pub EachAscending : List (List Table) → Type 0
EachAscending [] = Unit {0}
EachAscending (tables ∷ deeper) = AreAscending (in_tables tables) × EachAscending deeper

-- all levels but the first
abbrev pub AreLevelled : List (List Table) → Type 0
AreLevelled [] = Unit {0}
AreLevelled (top ∷ deeper) = EachAscending deeper

-- ---- places

-- there is a row of this raw key and sequence
pub record HasRowAt (rows : List Row) (row : Row) : Type 0 where
  pub old : Row
  pub there : Contains rows old
  pub raw : old.raw ≡ row.raw
  pub seq : old.seq ≡ row.seq
