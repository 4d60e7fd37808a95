-- Rows, and what they show at a sequence: of each raw key the row with the greatest sequence not above it.
use Rattle.std.specs.Prelude.{◌≡◌, ℕ, ◌<◌, ◌≤◌, nat_lt, nat_le, Bool, true, if◌then◌else◌, ◌&&◌, List, [], ◌∷◌, map, Option, Some, None}
use Rattle.std.specs.List.{list_all, Contains}
use Rattle.kv_base.specs.Map.{Bytes, same, Map, empty, get, insert, choose}
use Rattle.batch_codec.specs.Batches.{BatchEntry, Batch, is_row}
use Rattle.kv_base.specs.declared.row.Row.{Row}

-- raw key and value are on the grammar
abbrev pub is_row_text : Row → Bool
is_row_text row = is_row (row.raw, row.value)

abbrev pub are_row_texts : List Row → Bool
are_row_texts = list_all is_row_text

-- no sequence is above this one
abbrev pub are_upto : ℕ → List Row → Bool
are_upto last = list_all (λ row. nat_le row.seq last)

-- every sequence is below this one
abbrev pub are_below : ℕ → List Row → Bool
are_below seq = list_all (λ row. nat_lt row.seq seq)

-- ---- what shows

-- the row, where it is one of this raw key and not above s
abbrev pub shown_at : ℕ → Bytes → Row → Option Row
shown_at s raw row = if same raw row.raw && nat_le row.seq s then Some row else None

-- the row of greater sequence, of two that may be there; the first where they tie
abbrev pub newer : Option Row → Option Row → Option Row
newer None other = other
newer (Some row) None = Some row
newer (Some row) (Some other) = if nat_lt row.seq other.seq then Some other else Some row

-- the row of a raw key with the greatest sequence not above s
unfoldable pub seen_at : List Row → ℕ → Bytes → Option Row
seen_at [] s raw = None
seen_at (row ∷ rows) s raw = newer (shown_at s raw row) (seen_at rows s raw)

-- the rule for it: it is one of the rows, and none of its raw key that is not above s has a greater sequence; it is
-- absent where each row of the raw key is above s
abbrev pub IsNewestAt : List Row → ℕ → Bytes → Option Row → Type 0
IsNewestAt rows s raw (Some seen) =
    Contains rows seen × (seen.raw ≡ raw) × (seen.seq ≤ s) × ((row : Row) → Contains rows row → row.raw ≡ raw → row.seq ≤ s → row.seq ≤ seen.seq)
IsNewestAt rows s raw None = (row : Row) → Contains rows row → row.raw ≡ raw → s < row.seq

-- ---- the map at a sequence

abbrev pub is_newer : Row → Option Row → Bool
is_newer row None = true
is_newer row (Some other) = nat_le other.seq row.seq

-- each raw key with its row of greatest sequence not above s
unfoldable pub newest : List Row → ℕ → Map Row
newest [] s = empty
newest (row ∷ rows) s = if nat_le row.seq s && is_newer row (get (newest rows s) row.raw) then insert (newest rows s) row.raw row else newest rows s

-- the value of each raw key at s: that of its row of greatest sequence not above s, and nothing where that row is a
-- delete or there is none
unfoldable pub at : List Row → ℕ → Map Bytes
at rows s = choose (λ row. row.value) (newest rows s)

-- ---- the rows of a batch

abbrev pub entry_row : ℕ → BatchEntry → Row
entry_row seq entry = record { raw = entry.0; seq = seq; value = entry.1 }

-- what a batch writes under a sequence
unfoldable pub batch_rows : ℕ → Batch → List Row
batch_rows seq batch = map (entry_row seq) batch.entries

-- ---- rows that answer alike

-- no two rows have both raw key and sequence equal
abbrev pub AreApart : List Row → Type 0
AreApart rows = (row other : Row) → Contains rows row → Contains rows other → row.raw ≡ other.raw → row.seq ≡ other.seq → row ≡ other

-- what is in one list is in the other
abbrev pub HaveSameRows : List Row → List Row → Type 0
HaveSameRows rows others = ((row : Row) → Contains rows row → Contains others row) × ((row : Row) → Contains others row → Contains rows row)
