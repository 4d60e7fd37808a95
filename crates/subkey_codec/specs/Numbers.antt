-- The numbers in raw keys and values of elements: places in a list, and scores.
use Rattle.std.specs.Prelude.{ℕ, Bool, if◌then◌else◌, ◌==◌, ◌||◌, Option, Some, None, option_map, option_and_then, ℤ}
use Rattle.kv_base.specs.Map.{Bytes}
use Rattle.kv_base.specs.Fields.{read_u64}
use Rattle.kv_base.specs.MetaValues.{is_empty}
use Rattle.kv_base.specs.RawKeys.{element_space, score_space, score_from}

-- is this the space of elements, or that of scores
abbrev pub is_life_space : ℕ → Bool
is_life_space space = space == element_space || space == score_space

-- a number with nothing behind it
abbrev pub number_alone : ℕ × Bytes → Option ℕ
number_alone front = if is_empty front.1 then Some front.0 else None

-- the place in a list that these bytes are: a number of eight bytes
unfoldable pub read_index : Bytes → Option ℕ
read_index bytes = option_and_then number_alone (read_u64 bytes)

-- the score whose eight bytes these are
unfoldable pub read_score_bytes : Bytes → Option ℤ
read_score_bytes bytes = option_map score_from (read_index bytes)
