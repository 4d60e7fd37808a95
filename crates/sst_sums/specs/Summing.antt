-- What is summed up of a table's rows while its blocks are read.
use Rattle.std.specs.Prelude.{◌≡◌, ℕ, Bool, true, not, List, [], ◌∷◌, map, length, Option, Some, None, option_map}
use Rattle.kv_base.specs.Map.{Bytes, same}
use Rattle.kv_base.specs.declared.row.Row.{Row}
use Rattle.sst_parts.specs.declared.key_hash.KeyHash.{KeyHash}
use Rattle.sst_parts.specs.BlockBodies.{last_row}
use Rattle.sst_parts.specs.Filter.{hash_of}
use Rattle.sst_parts.specs.Tables.{raw_keys_of, keys_behind}

-- a row without its value
abbrev pub bare_row : Row → Row
bare_row row = record { raw = row.raw; seq = row.seq; value = None }

-- the raw key is another one than the one before it
abbrev pub is_new : Option Bytes → Bytes → Bool
is_new None raw = true
is_new (Some last) raw = not (same last raw)

-- the raw keys of rows that are new behind this one
abbrev pub new_keys : Option Bytes → List Row → List Bytes
new_keys None rows = raw_keys_of rows
new_keys (Some last) rows = keys_behind last rows

abbrev pub first_raw : List Row → Option Bytes
first_raw [] = None
first_raw (row ∷ rows) = Some row.raw

-- the first of what there was, and what comes
abbrev pub or_first : Option Bytes → Option Bytes → Option Bytes
or_first None other = other
or_first (Some raw) other = Some raw

-- the last of what there was, and rows that come
abbrev pub or_last : Option Row → List Row → Option Row
or_last last [] = last
or_last last (row ∷ rows) = or_last (Some (bare_row row)) rows

-- the number of some rows, the hashes of their raw keys, the raw key of the first, and the last without its value
pub record AreSums (count : ℕ) (keys : List KeyHash) (least : Option Bytes) (last : Option Row) (rows : List Row) : Type 0 where
  pub number : count ≡ length rows
  pub hashes : keys ≡ map hash_of (raw_keys_of rows)
  pub first : least ≡ first_raw rows
  pub last_is : last ≡ option_map bare_row (last_row None rows)
