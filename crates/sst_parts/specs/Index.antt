-- The index of a table: where each of its blocks stands, and the raw key of the block's last row.
use Rattle.std.specs.Prelude.{ℕ, zero, suc, ◌+◌, ◌==◌, if◌then◌else◌, ◌&&◌, List, [], ◌∷◌, ◌++◌, length, Option, Some, None, option_map, option_and_then}
use Rattle.kv_base.specs.Map.{Bytes}
use Rattle.kv_base.specs.MetaValues.{is_empty}
use Rattle.kv_base.specs.Fields.{u32, u64, text, read_u32, read_u64, read_text}
use Rattle.kv_base.specs.declared.row.Row.{Row}
use Rattle.sst_parts.specs.declared.index.Spot.{Spot}
use Rattle.sst_parts.specs.Blocks.{block_text}

-- the raw key of the last of these rows, and this one where there is none
abbrev pub last_raw : Bytes → List Row → Bytes
last_raw raw [] = raw
last_raw raw (row ∷ rows) = last_raw row.raw rows

-- blocks that follow one another from a place on
unfoldable pub spots_from : ℕ → List (List Row) → List Spot
spots_from place [] = []
spots_from place (rows ∷ more) =
    record { place = place; bytes = length (block_text rows); last = last_raw [] rows } ∷ spots_from (place + length (block_text rows)) more

abbrev pub spot_text : Spot → Bytes
spot_text spot = u64 spot.place ++ (u32 spot.bytes ++ text spot.last)

abbrev pub spot_texts : List Spot → Bytes
spot_texts [] = []
spot_texts (spot ∷ spots) = spot_text spot ++ spot_texts spots

-- the number of the blocks, and each of them
unfoldable pub index_text : List Spot → Bytes
index_text spots = u32 (length spots) ++ spot_texts spots

-- ---- back

abbrev pub spot_behind : ℕ → ℕ × Bytes → Option (Spot × Bytes)
spot_behind place (bytes, rest) = option_map (λ last. (record { place = place; bytes = bytes; last = last.0 }, last.1)) (read_text rest)

-- the spot in front, and what is behind it
unfoldable pub read_spot : Bytes → Option (Spot × Bytes)
read_spot bytes = option_and_then (λ place. option_and_then (spot_behind place.0) (read_u32 place.1)) (read_u64 bytes)

abbrev pub then_spots : Spot → Option (List Spot) → Option (List Spot)
then_spots spot spots = option_map (λ more. spot ∷ more) spots

-- so many spots, the first of them at this place, each behind the one before it, and the last one up to the end; behind
-- them nothing stands
unfoldable pub read_spots : ℕ → ℕ → ℕ → Bytes → Option (List Spot)
read_spots zero place end bytes = if (place == end) && is_empty bytes then Some [] else None
read_spots (suc n) place end bytes =
    option_and_then (λ front. if front.0.place == place then then_spots front.0 (read_spots n (place + front.0.bytes) end front.1) else None) (read_spot bytes)

abbrev pub spots_behind : ℕ → ℕ → ℕ × Bytes → Option (List Spot)
spots_behind place end (n, bytes) = if n == 0 then None else read_spots n place end bytes

-- the spots of an index, of at least one block, from this place up to this end
unfoldable pub read_block_index : ℕ → ℕ → Bytes → Option (List Spot)
read_block_index place end bytes = option_and_then (spots_behind place end) (read_u32 bytes)
