-- A table of which all rows came in ends as the format gives it.
use Rattle.std.proofs.Common.{◌≡◌, ◌≢◌, ℕ, ◌+◌, ◌<◌, List, [], ◌∷◌, ◌++◌, refl, sym, ap, subst, ◌∙◌, length, Option, Some, None, option_map, append_assoc, append-nil, length-append, arith}
use Rattle.kv_base.specs.Map.{Bytes}
use Rattle.kv_base.specs.Fields.{text}
use Rattle.kv_base.specs.declared.row.Row.{Row}
use Rattle.sst_parts.specs.declared.index.Spot.{Spot}
use Rattle.sst_parts.specs.declared.key_hash.KeyHash.{KeyHash}
use Rattle.sst_parts.specs.RowTexts.{row_parts, row_text, rows_text}
use Rattle.sst_parts.specs.Blocks.{filled, blocks, close_last, block_text, blocks_text}
use Rattle.sst_parts.specs.BlockBodies.{last_row}
use Rattle.sst_parts.specs.BlockLists.{joined_blocks}
use Rattle.sst_parts.specs.BlockListLaws.{in_filled}
use Rattle.sst_parts.specs.Filter.{filter_of, filter_bits}
use Rattle.sst_parts.specs.Index.{last_raw, spots_from, index_text}
use Rattle.sst_parts.specs.Tables.{table_head, head_length, foot_text, table_foot, table_text, table_index, table_filter, raw_keys_of, IsFoot}
use Rattle.sst_writer.specs.Building.{IsBuilt, IsClosed}
use Rattle.sst_writer.specs.BuildingLaws.{blocks_text-push, spots_from-push}
use Rattle.sst_writer.specs.Ending.{IsAll, IsEnding, IsFinished, foot_for}
use Rattle.sst_sums.specs.SumLaws.{last_row-append}
use Rattle.sst_sums.specs.Summing.{AreSums, bare_row}

-- ---- the last block

no_parts : (raw : Bytes) (seq : ℕ) (value : Option Bytes) (more : Bytes) → length (row_parts raw seq value ++ more) ≡ 0 → ⊥
no_parts raw seq None more is = absurd (cc)
no_parts raw seq (Some value) more is = absurd (cc)

none_waiting : (rows : List Row) → length (rows_text rows) ≡ 0 → rows ≡ []
unfolding row_text
none_waiting [] is = refl
none_waiting (row ∷ rows) is = absurd (no_parts row.raw row.seq row.value (rows_text rows) is)

close_some : (closed : List (List Row)) (waiting : List Row) → waiting ≢ [] → close_last closed waiting ≡ closed ++ waiting ∷ []
close_some closed [] some = absurd (some refl)
close_some closed (row ∷ rows) some = refl

abbrev raw_or : Option Row → Bytes
raw_or None = []
raw_or (Some row) = row.raw

raw_behind : (r : Row) (rows : List Row) (row : Row) → Some row ≡ option_map bare_row (last_row (Some r) rows) → row.raw ≡ last_raw r.raw rows
raw_behind r [] row is = ap raw_or is
raw_behind r (s ∷ rows) row is = raw_behind s rows row is

pub raw_of_last : (before : Option Row) (rows : List Row) (row : Row) → rows ≢ [] → Some row ≡ option_map bare_row (last_row before rows) → row.raw ≡ last_raw [] rows
raw_of_last before [] row some is = absurd (some refl)
raw_of_last before (r ∷ rows) row some is = raw_behind r rows row is

module _ (end : ℕ) (block : Bytes) (spots : List Spot) (count : ℕ) (keys : List KeyHash) (least : Option Bytes) (last : Option Row) (rows : List Row) (built : IsBuilt end block spots count keys least last rows) where
  pub none_waits : length block ≡ 0 → IsAll rows end spots []
  unfolding blocks
  none_waits is =
      let none = none_waiting (filled rows).waiting (ap (λ (b : Bytes). length b) (sym built.waiting) ∙ is) in
      let same : blocks rows ≡ (filled rows).closed = ap (λ (w : List Row). close_last (filled rows).closed w) none in
      record {
        place = built.place ∙ ap (λ (bs : List (List Row)). head_length + length (blocks_text bs)) (sym same);
        index = built.index ∙ ap (λ (bs : List (List Row)). spots_from head_length bs) (sym same);
        bytes_are = ap blocks_text same ∙ sym (append-nil (blocks_text (filled rows).closed));
      }

  pub some_wait : (row : Row) (raw : Bytes) (next : ℕ) (now : Bytes) (more : List Spot) (bytes : Bytes) → 0 < length block → last ≡ Some row → raw ≡ row.raw → IsClosed end block spots raw next now more bytes → IsAll rows next more bytes
  unfolding blocks block_text
  some_wait row raw next now more bytes high has raw_is closed =
      let waiting = (filled rows).waiting in
      let before = (filled rows).closed in
      let some : waiting ≢ [] = λ none. let e : length block ≡ 0 = ap (λ (b : Bytes). length b) (built.waiting ∙ ap rows_text none) in omega (arith, e, high) in
      let same : blocks rows ≡ before ++ waiting ∷ [] = close_some before waiting some in
      let bytes_is : bytes ≡ block_text waiting = closed.bytes_are ∙ ap text built.waiting in
      let is = sym has ∙ built.sums.last_is ∙ ap (λ (rs : List Row). option_map bare_row (last_row None rs)) (in_filled rows).whole ∙ ap (option_map bare_row) (last_row-append None (joined_blocks before) waiting) in
      let key = raw_is ∙ raw_of_last (last_row None (joined_blocks before)) waiting row some is in
      let parts = ap (λ (b : Bytes). length b) (blocks_text-push before waiting) ∙ length-append (blocks_text before) (block_text waiting) in
      let long = ap (λ (b : Bytes). length b) bytes_is in
      let moved = ap (λ (bs : List (List Row)). length (blocks_text bs)) same in
      record {
        place = omega (arith, closed.next_is, built.place, parts, long, moved);
        index =
            closed.spots_are
            ∙ (λ i. built.index i ++ record { place = built.place i; bytes = long i; last = key i } ∷ [])
            ∙ sym (spots_from-push head_length before waiting)
            ∙ ap (λ (bs : List (List Row)). spots_from head_length bs) (sym same);
        bytes_are = ap blocks_text same ∙ blocks_text-push before waiting ∙ ap (λ (b : Bytes). blocks_text before ++ b) (sym bytes_is);
      }

-- ---- index, filter and foot

pub finished : (rows : List Row) (end : ℕ) (spots : List Spot) (chunk : Bytes) (count : ℕ) (keys : List KeyHash) (least : Option Bytes) (last : Option Row) (bytes bits tail : Bytes) (size : ℕ)
    → IsAll rows end spots chunk → AreSums count keys least last rows → IsEnding end spots count keys bytes bits size → tail ≡ chunk ++ bytes → IsFinished rows tail spots bits size
unfolding filter_bits table_text
finished rows end spots chunk count keys least last bytes bits tail size all sums ending tail_is =
    let C = blocks_text (filled rows).closed in
    let B = blocks_text (blocks rows) in
    let R = table_index rows ++ (table_filter rows ++ foot_text (table_foot rows)) in
    let bits_is : bits ≡ filter_bits (raw_keys_of rows) = ending.bits_are ∙ ap filter_of sums.hashes in
    let foot_is : foot_for end spots bits count ≡ table_foot rows = λ i. foot_for (all.place i) (all.index i) (bits_is i) (sums.number i) in
    let bytes_is : bytes ≡ R = ending.bytes_are ∙ (λ i. index_text (all.index i) ++ (text (bits_is i) ++ foot_text (foot_is i))) in
    let joined : C ++ tail ≡ B ++ R = ap (λ (b : Bytes). C ++ b) tail_is ∙ sym (append_assoc C chunk bytes) ∙ (λ i. sym all.bytes_are i ++ bytes_is i) in
    let long = ap (λ (b : Bytes). length b) bytes_is in
    let a = length-append table_head (B ++ R) in
    let b = length-append B R in
    record {
      whole = ap (λ (b : Bytes). table_head ++ b) joined;
      room = subst IsFoot foot_is ending.room;
      index = all.index;
      filter = bits_is;
      size_is = omega (arith, ending.size_is, all.place, long, a, b);
    }
