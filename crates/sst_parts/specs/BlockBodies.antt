-- The body of a block is read back as it was written, and nothing else is read.
use Rattle.std.proofs.Common.{◌≡◌, ℕ, ◌^◌, List, [], ◌∷◌, Bool, true, Option, Some}
use Rattle.std.specs.Prelude.{◌&&◌, nat_lt}
use Rattle.std.specs.List.{list_all}
use Rattle.kv_base.specs.Map.{Bytes}
use Rattle.kv_base.specs.declared.row.Row.{Row}
use Rattle.sst_parts.specs.RowTexts.{rows_text}
use Rattle.sst_parts.specs.Blocks.{is_next_row, has_room}
use Rattle.sst_parts.specs.Seeking.{AreReadable}

-- ---- rows on their grammar have room

-- sequences of 64 bits
abbrev pub are_u64 : List Row → Bool
are_u64 = list_all (λ row. nat_lt row.seq (2 ^ 64))

-- ---- rows of which each may stand behind the one before it

abbrev pub is_chain : Option Row → List Row → Bool
is_chain last [] = true
is_chain last (row ∷ rows) = is_next_row last row && is_chain (Some row) rows

-- each begins where the body has room
abbrev pub have_room : ℕ → List Row → Bool
have_room whole [] = true
have_room whole (row ∷ rows) = has_room whole (rows_text (row ∷ rows)) && have_room whole rows

-- ---- nothing else is read

pub record AreRowsIn (whole : ℕ) (last : Option Row) (rest : Bytes) (rows : List Row) : Type 0 where
  pub spelled : rest ≡ rows_text rows
  pub readable : AreReadable rows
  pub chain : is_chain last rows ≡ true
  pub room : have_room whole rows ≡ true

-- ---- chains in two parts

abbrev pub last_row : Option Row → List Row → Option Row
last_row last [] = last
last_row last (row ∷ rows) = last_row (Some row) rows
