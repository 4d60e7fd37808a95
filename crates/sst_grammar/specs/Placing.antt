-- Where the blocks of a table stand in its bytes.
use Rattle.std.specs.Prelude.{◌≡◌, ◌≢◌, List, [], ◌∷◌}
use Rattle.kv_base.specs.Map.{Bytes}
use Rattle.kv_base.specs.declared.row.Row.{Row}
use Rattle.sst_parts.specs.declared.index.Spot.{Spot}
use Rattle.sst_parts.specs.Blocks.{block_text}
use Rattle.sst_parts.specs.Index.{last_raw}
use Rattle.sst_parts.specs.Seeking.{AreReadable}
use Rattle.sst_grammar.specs.Judging.{slice_at}

-- at each spot stands the block of these rows, the last of them of the spot's raw key
abbrev pub AreAt : List Spot → List (List Row) → Bytes → Type 0
AreAt [] [] bytes = Unit {0}
AreAt [] (rows ∷ more) bytes = ⊥
AreAt (spot ∷ spots) [] bytes = ⊥
AreAt (spot ∷ spots) (rows ∷ more) bytes =
    (slice_at spot.place spot.bytes bytes ≡ block_text rows) × (last_raw [] rows ≡ spot.last) × (rows ≢ []) × AreReadable rows × AreAt spots more bytes
