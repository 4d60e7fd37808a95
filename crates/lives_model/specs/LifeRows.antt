-- The rows of a value in the order of their raw keys.
use Rattle.std.specs.Prelude.{◌≡◌, ℕ, ◌+◌, ◌<◌, ◌^◌, not, List, [], ◌∷◌, ◌++◌, length, map, filter, ℤ}
use Rattle.std.specs.Ordering.{is_lt}
use Rattle.kv_base.specs.Map.{Bytes, byte_cmp, get}
use Rattle.kv_base.specs.Fields.{u64}
use Rattle.kv_base.specs.RawKeys.{score_number}
use Rattle.redis_model.specs.Value.{Value, Hash, ListOf, SetOf, ZSet}
use Rattle.redis_model.specs.SortedSets.{ranked}
use Rattle.lives_model.specs.Rows.{Rows, Side, Elements, Scores, row_key}
use Rattle.lives_model.specs.Means.{LifeAt, HasWholeScores, row_of, score_text}

-- what a row is of: its subkey, and its value
abbrev pub RowAt : Type 0
RowAt = Bytes × Bytes

-- the items of a list, each under its index
abbrev pub by_index : ℕ → List Bytes → List RowAt
by_index head [] = []
by_index head (v ∷ l) = (u64 head, v) ∷ by_index (head + 1) l

-- a member of a sorted set stands by its score, and by its bytes among those of the same score
abbrev pub rank_key : Bytes × ℤ → Bytes
rank_key e = u64 (score_number e.1) ++ e.0

-- The rows that a value has on a side: fields and members by their bytes, items by index, members of a sorted set by rank.
abbrev pub value_rows : Value → ℕ → Side → List RowAt
value_rows (Hash h) head Elements = h.entries
value_rows (ListOf l) head Elements = by_index head l
value_rows (SetOf s) head Elements = map (λ e. (e.0, [])) s.entries
value_rows (ZSet z) head Elements = map (λ e. (e.0, score_text e.1)) z.entries
value_rows (ZSet z) head Scores = map (λ e. (rank_key e, [])) (ranked z)
value_rows _ head side = []

-- those from a subkey on
abbrev pub rows_from_subkey : Bytes → List RowAt → List RowAt
rows_from_subkey x rows = filter (λ row. not (is_lt (byte_cmp row.0 x))) rows

-- and as they stand in a life
abbrev pub in_life : Side → Bytes → ℕ → List RowAt → List (Bytes × Bytes)
in_life side k version rows = map (λ row. (row_key side k version row.0, row.1)) rows

-- the indices of a list end within 64 bits
abbrev pub HasIndices : Value → ℕ → Type 0
HasIndices (ListOf l) head = head + length l < 2 ^ 64
HasIndices _ head = Unit {0}

-- a life of a key has just the rows of this value
pub record HasRowsOf (c : Rows) (k : Bytes) (life : LifeAt) (v : Value) : Type 0 where
  pub scores : HasWholeScores v
  pub indices : HasIndices v life.head
  pub rows : (side : Side) (subkey : Bytes) → get c (row_key side k life.version subkey) ≡ row_of v life.head side subkey
