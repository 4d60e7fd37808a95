-- Rows that are summed up, one block after the other.
use Rattle.std.proofs.Common.{◌≡◌, ℕ, zero, suc, ◌+◌, ◌-◌, ◌<◌, List, [], ◌∷◌, ◌++◌, refl, sym, ap, ◌∙◌, Bool, true, false, cond, length, map, Option, Some, None, option_map, option_and_then, length-append, arith}
use Rattle.std.specs.List.{slice_get}
use Rattle.std.proofs.lemmas.List.{map-append}
use Rattle.kv_base.specs.Map.{Bytes, same, same_is, kept}
use Rattle.kv_base.specs.MetaValues.{is_empty}
use Rattle.kv_base.specs.Fields.{read_text}
use Rattle.kv_base.specs.declared.row.Row.{Row}
use Rattle.kv_base.specs.declared.row.RowRef.{RowRef}
use Rattle.kv_base.specs.RowRefs.{row_seen}
use Rattle.sst_parts.specs.declared.key_hash.KeyHash.{KeyHash}
use Rattle.sst_parts.specs.declared.index.Spot.{Spot}
use Rattle.sst_parts.specs.Blocks.{read_next, read_rows, read_block_body}
use Rattle.sst_parts.specs.BlockBodies.{last_row}
use Rattle.sst_parts.specs.Filter.{hash_of}
use Rattle.sst_parts.specs.Index.{last_raw}
use Rattle.sst_parts.specs.Tables.{raw_keys_of, keys_behind}
use Rattle.sst_grammar.specs.Judging.{slice_at, or_off, then_judged, has_none, are_of_spot, whole_body, read_block, rows_in_front, judged_blocks}
use Rattle.sst_sums.specs.Summing.{bare_row, new_keys, first_raw, or_first, or_last, AreSums}

-- ---- raw keys of rows in two parts

keys_behind-append : (last : Bytes) (done rows : List Row) → keys_behind last (done ++ rows) ≡ keys_behind last done ++ keys_behind (last_raw last done) rows
keys_behind-append last [] rows = refl
keys_behind-append last (r ∷ done) rows = by_test (keys_behind-append last done rows) (keys_behind-append r.raw done rows) (same last r.raw) refl
  where
    by_test : keys_behind last (done ++ rows) ≡ keys_behind last done ++ keys_behind (last_raw last done) rows → keys_behind r.raw (done ++ rows) ≡ keys_behind r.raw done ++ keys_behind (last_raw r.raw done) rows
        → (b : Bool) → same last r.raw ≡ b
        → cond b (keys_behind last (done ++ rows)) (r.raw ∷ keys_behind r.raw (done ++ rows)) ≡ cond b (keys_behind last done) (r.raw ∷ keys_behind r.raw done) ++ keys_behind (last_raw r.raw done) rows
    by_test on from true t = on ∙ ap (λ (k : Bytes). keys_behind last done ++ keys_behind (last_raw k done) rows) (same_is last r.raw t)
    by_test on from false t = ap (λ (ks : List Bytes). r.raw ∷ ks) from

last_raw_is : (row : Row) (rows : List Row) → option_map (λ (r : Row). r.raw) (last_row (Some row) rows) ≡ Some (last_raw row.raw rows)
last_raw_is row [] = refl
last_raw_is row (r ∷ rows) = last_raw_is r rows

pub keys_of-append : (done rows : List Row) → raw_keys_of (done ++ rows) ≡ raw_keys_of done ++ new_keys (option_map (λ (r : Row). r.raw) (last_row None done)) rows
unfolding raw_keys_of
keys_of-append [] rows = refl
keys_of-append (r ∷ done) rows =
    ap (λ (ks : List Bytes). r.raw ∷ ks) (keys_behind-append r.raw done rows)
    ∙ ap (λ (o : Option Bytes). (r.raw ∷ keys_behind r.raw done) ++ new_keys o rows) (sym (last_raw_is r done))

-- ---- sums

bare_raw : (o : Option Row) → option_map (λ (r : Row). r.raw) (option_map bare_row o) ≡ option_map (λ (r : Row). r.raw) o
bare_raw None = refl
bare_raw (Some row) = refl

pub last_row-append : (before : Option Row) (done rows : List Row) → last_row before (done ++ rows) ≡ last_row (last_row before done) rows
last_row-append before [] rows = refl
last_row-append before (r ∷ done) rows = last_row-append (Some r) done rows

bare_last : (before : Option Row) (rows : List Row) → option_map bare_row (last_row before rows) ≡ or_last (option_map bare_row before) rows
bare_last before [] = refl
bare_last before (r ∷ rows) = bare_last (Some r) rows ∙ or_last_some (option_map bare_row before) r rows
  where
    or_last_some : (o : Option Row) (x : Row) (xs : List Row) → or_last (Some (bare_row x)) xs ≡ or_last o (x ∷ xs)
    or_last_some o x xs = refl

first_raw-append : (done rows : List Row) → first_raw (done ++ rows) ≡ or_first (first_raw done) (first_raw rows)
first_raw-append [] rows = refl
first_raw-append (r ∷ done) rows = refl

pub sums_begin : AreSums 0 [] None None []
unfolding raw_keys_of
sums_begin = record { number = refl; hashes = refl; first = refl; last_is = refl }

pub sums_then : (count total : ℕ) (keys more : List KeyHash) (least first : Option Bytes) (last now : Option Row) (done rows : List Row) → AreSums count keys least last done → total ≡ count + length rows
    → more ≡ keys ++ map hash_of (new_keys (option_map (λ (r : Row). r.raw) last) rows) → first ≡ or_first least (first_raw rows) → now ≡ or_last last rows → AreSums total more first now (done ++ rows)
sums_then count total keys more least first last now done rows sums counted hashed led ended =
    let lengths = length-append done rows in
    record {
      number = omega (arith, counted, sums.number, lengths);
      hashes =
          hashed ∙ (λ i. sums.hashes i ++ map hash_of (new_keys ((ap (option_map (λ (r : Row). r.raw)) sums.last_is ∙ bare_raw (last_row None done)) i) rows))
          ∙ sym (map-append hash_of (raw_keys_of done) (new_keys (option_map (λ (r : Row). r.raw) (last_row None done)) rows))
          ∙ ap (map hash_of) (sym (keys_of-append done rows));
      first = led ∙ ap (λ o. or_first o (first_raw rows)) sums.first ∙ sym (first_raw-append done rows);
      last_is = ended ∙ ap (λ o. or_last o rows) sums.last_is ∙ sym (bare_last (last_row None done) rows) ∙ ap (option_map bare_row) (sym (last_row-append None done rows));
    }

-- ---- the row before a block counts by its raw key and its sequence alone

bare_body : (row : Row) (body : Bytes) → read_block_body (Some (bare_row row)) body ≡ read_block_body (Some row) body
unfolding read_block_body read_rows read_next
bare_body row [] = refl
bare_body row (b ∷ rest) = refl

bare_front : (before : Option Row) (front : Bytes × Bytes) → whole_body (option_map bare_row before) front ≡ whole_body before front
bare_front None front = refl
bare_front (Some row) front = ap (λ o. cond (is_empty front.1) o None) (bare_body row front.0)

pub bare_block : (is_last : Bool) (before : Option Row) (spot : Spot) (block : Bytes) → read_block is_last (option_map bare_row before) spot block ≡ read_block is_last before spot block
unfolding read_block
bare_block is_last before spot block = by_front (read_text block)
  where
    by_front : (o : Option (Bytes × Bytes)) → kept (are_of_spot is_last spot) (option_and_then (whole_body (option_map bare_row before)) o) ≡ kept (are_of_spot is_last spot) (option_and_then (whole_body before) o)
    by_front None = refl
    by_front (Some front) = ap (kept (are_of_spot is_last spot)) (bare_front before front)

-- ---- block by block

pub blocks_next : (before : Option Row) (spot : Spot) (spots : List Spot) (bytes slice : Bytes) (r : Option (List Row)) → slice ≡ slice_at spot.place spot.bytes bytes → r ≡ read_block (has_none spots) (option_map bare_row before) spot slice
    → judged_blocks before (spot ∷ spots) bytes ≡ then_judged (or_off spot.place r) (λ rows. rows_in_front rows (judged_blocks (last_row before rows) spots bytes))
unfolding judged_blocks
blocks_next before spot spots bytes slice r is read =
    ap (λ o. then_judged (or_off spot.place o) (λ rows. rows_in_front rows (judged_blocks (last_row before rows) spots bytes)))
    (sym (read ∙ bare_block (has_none spots) before spot slice ∙ ap (read_block (has_none spots) before spot) is))

-- ---- the first row and the last

pub first_is : (rows : List RowRef) (x : RowRef) → slice_get rows 0 ≡ Some x → first_raw (map row_seen rows) ≡ Some x.raw.now
first_is [] x h = absurd (cc)
first_is (r ∷ rows) x h = let e : r ≡ x = cc in ap (λ (y : RowRef). Some y.raw.now) e

pub first_not : (rows : List RowRef) → slice_get rows 0 ≡ None → first_raw (map row_seen rows) ≡ None
first_not [] h = refl
first_not (r ∷ rows) h = absurd (cc)

last_at : (last : Option Row) (rows : List RowRef) (k : ℕ) (x : RowRef) → length rows ≡ suc k → slice_get rows k ≡ Some x → or_last last (map row_seen rows) ≡ Some (bare_row (row_seen x))
last_at last [] k x long h = absurd (omega arith)
last_at last (r ∷ []) zero x long h = let e : r ≡ x = cc in ap (λ (y : RowRef). Some (bare_row (row_seen y))) e
last_at last (r ∷ q ∷ rows) zero x long h = absurd (omega arith)
last_at last (r ∷ rows) (suc k) x long h = last_at (Some (bare_row (row_seen r))) rows k x (omega arith) h

pub or_last_is : (last : Option Row) (rows : List RowRef) (x : RowRef) → slice_get rows (length rows - 1) ≡ Some x → or_last last (map row_seen rows) ≡ Some (bare_row (row_seen x))
or_last_is last [] x h = absurd (cc)
or_last_is last (r ∷ rows) x h =
    let k : length (r ∷ rows) - 1 ≡ length rows = omega arith in
    last_at last (r ∷ rows) (length rows) x refl (ap (slice_get (r ∷ rows)) (sym k) ∙ h)

there : (rows : List RowRef) (k : ℕ) → k < length rows → slice_get rows k ≡ None → ⊥
there [] k low h = omega arith
there (r ∷ rows) zero low h = absurd (cc)
there (r ∷ rows) (suc k) low h = there rows k (omega arith) h

pub or_last_not : (last : Option Row) (rows : List RowRef) → slice_get rows (length rows - 1) ≡ None → or_last last (map row_seen rows) ≡ last
or_last_not last [] h = refl
or_last_not last (r ∷ rows) h = absurd (there (r ∷ rows) (length (r ∷ rows) - 1) (omega arith) h)
