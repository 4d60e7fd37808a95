-- A source in memory.
use Rattle.std.specs.Prelude.{ℕ, min, max, Bool, List, [], ◌∷◌}
use Rattle.kv_fakes.specs.Tally.{Tally}

-- What a source in memory is seen as: the bytes that are left, the sizes of the next pieces, whether the end was
-- answered, and its calls.
pub record SourceParts : Type 0 where
  pub left : List ℕ
  pub pieces : List ℕ
  pub ended : Bool
  pub calls : Tally

-- How many bytes a read hands out, of those left, into a buffer with this room: the next size, where 0 counts as 1,
-- but no more than the room and what is left. Behind the sizes these alone count.
abbrev pub piece_size : List ℕ → ℕ → ℕ → ℕ
piece_size [] room left = min room left
piece_size (size ∷ sizes) room left = min (max size 1) (min room left)

-- the sizes behind the next one
abbrev pub later_sizes : List ℕ → List ℕ
later_sizes [] = []
later_sizes (size ∷ sizes) = sizes
