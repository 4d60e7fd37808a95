-- What is kept of a table tells how many bytes its bodies have, and its last raw key.
use Rattle.std.proofs.Common.{suc, ◌≡◌, ℕ, ◌+◌, ◌-◌, ◌*◌, ◌≤◌, List, [], ◌∷◌, false, refl, sym, ap, ◌∙◌, length, Option, Some, None, option_map, length-append, arith}
use Rattle.std.specs.Prelude.{nat_le, not, ◌&&◌}
use Rattle.std.proofs.lemmas.Bool.Decides.{nat_tests}
use Rattle.kv_base.specs.Map.{Bytes, same}
use Rattle.kv_base.specs.FieldLaws.{length-text}
use Rattle.kv_base.specs.declared.row.Row.{Row}
use Rattle.sst_parts.specs.declared.index.Spot.{Spot}
use Rattle.sst_parts.specs.declared.key_hash.KeyHash.{KeyHash}
use Rattle.sst_parts.specs.RowTexts.{rows_text}
use Rattle.sst_parts.specs.Blocks.{filled, block_text, blocks_text}
use Rattle.sst_parts.specs.BlockBodies.{last_row}
use Rattle.sst_parts.specs.BlockLists.{joined_blocks}
use Rattle.sst_parts.specs.BlockListLaws.{in_filled, rows_text-append}
use Rattle.sst_parts.specs.Index.{spots_from}
use Rattle.sst_parts.specs.Tables.{head_length}
use Rattle.sst_writer.specs.Building.{IsBuilt}
use Rattle.sst_writer.specs.Cutting.{ends_before}
use Rattle.sst_writer.specs.EndingLaws.{raw_of_last}
use Rattle.sst_sums.specs.Summing.{bare_row}

spots_count : (place : ℕ) (bs : List (List Row)) → length (spots_from place bs) ≡ length bs
unfolding spots_from
spots_count place [] = refl
spots_count place (b ∷ bs) = ap suc (spots_count (place + length (block_text b)) bs)

bodies_sum : (bs : List (List Row)) → length (rows_text (joined_blocks bs)) + 4 * length bs ≡ length (blocks_text bs)
unfolding block_text
bodies_sum [] = refl
bodies_sum (b ∷ bs) =
    let whole = ap (λ (x : Bytes). length x) (rows_text-append b (joined_blocks bs)) ∙ length-append (rows_text b) (rows_text (joined_blocks bs)) in
    let here = length-append (block_text b) (blocks_text bs) in
    let four = length-text (rows_text b) in
    let more = bodies_sum bs in
    omega (arith, whole, here, four, more)

pub bodies_are : (end : ℕ) (block : Bytes) (spots : List Spot) (count : ℕ) (keys : List KeyHash) (least : Option Bytes) (last : Option Row) (rows : List Row) → IsBuilt end block spots count keys least last rows
    → length (rows_text rows) + (4 * length spots + 8) ≡ end + length block
bodies_are end block spots count keys least last rows built =
    let closed = (filled rows).closed in
    let waiting = (filled rows).waiting in
    let whole = ap (λ (rs : List Row). length (rows_text rs)) (in_filled rows).whole ∙ ap (λ (b : Bytes). length b) (rows_text-append (joined_blocks closed) waiting) ∙ length-append (rows_text (joined_blocks closed)) (rows_text waiting) in
    let sum = bodies_sum closed in
    let front = ap (λ (b : Bytes). length b) built.waiting in
    let number = ap (λ (s : List Spot). length s) built.index ∙ spots_count head_length closed in
    omega (arith, whole, sum, front, number, built.place)

-- the heads of the blocks stand before the end
pub heads_within : (end : ℕ) (block : Bytes) (spots : List Spot) (count : ℕ) (keys : List KeyHash) (least : Option Bytes) (last : Option Row) (rows : List Row) → IsBuilt end block spots count keys least last rows
    → 4 * length spots + 8 ≤ end
heads_within end block spots count keys least last rows built =
    let sum = bodies_sum (filled rows).closed in
    let number = ap (λ (s : List Spot). length s) built.index ∙ spots_count head_length (filled rows).closed in
    omega (arith, sum, number, built.place)

pub limit_reached : (limit bodies others end block : ℕ) → bodies + others ≡ end + block → others ≤ end → nat_le (limit - (end - others)) block ≡ nat_le limit bodies
limit_reached limit bodies others end block is within = grind (arith, nat_tests)

-- ---- the last raw key

pub no_last : (limit : ℕ) (rows : List Row) (row : Row) → None ≡ option_map bare_row (last_row None rows) → ends_before (Some limit) rows row ≡ false
no_last limit [] row is = refl
no_last limit (r ∷ rows) row is = absurd (never r rows is)
  where
    never : (s : Row) (more : List Row) → None ≡ option_map bare_row (last_row (Some s) more) → ⊥
    never s [] is = absurd (cc)
    never s (t ∷ more) is = never t more is

pub some_last : (limit : ℕ) (rows : List Row) (last row : Row) → Some last ≡ option_map bare_row (last_row None rows) → ends_before (Some limit) rows row ≡ (nat_le limit (length (rows_text rows)) && not (same last.raw row.raw))
some_last limit [] last row is = absurd (cc)
some_last limit (r ∷ rows) last row is = ap (λ (b : Bytes). nat_le limit (length (rows_text (r ∷ rows))) && not (same b row.raw)) (sym (raw_of_last None (r ∷ rows) last (λ e. absurd (cc)) is))
