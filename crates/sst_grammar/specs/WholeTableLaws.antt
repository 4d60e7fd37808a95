-- The bytes of a table for some rows are found to be on their grammar, and to have these rows.
use Rattle.std.proofs.Common.{◌≡◌, ◌≢◌, ℕ, suc, ◌+◌, ◌-◌, ◌/◌, ◌<◌, ◌≤◌, ◌^◌, List, [], ◌∷◌, ◌++◌, refl, sym, ap, subst, ◌∙◌, Bool, true, false, cond, length, take, drop, map, Option, Some, None, option_and_then, Ok, Err, append_assoc, append-nil, length-append, arith}
use Rattle.std.specs.Prelude.{◌==◌, ◌&&◌, ◌||◌, not, nat_le, nat_lt, IsTrue}
use Rattle.std.proofs.lemmas.List.{take_at, drop_at}
use Rattle.std.proofs.lemmas.Bool.Decides.{nat_tests}
use Rattle.kv_base.specs.Map.{Bytes, same, same_itself, kept}
use Rattle.kv_base.specs.Fields.{u32, u64, text, read_text}
use Rattle.kv_base.specs.FieldLaws.{u32_is_read, u64_is_read, text_is_read, length-u32, length-u64, length-text}
use Rattle.kv_base.specs.InversionLaws.{both_first, both_second}
use Rattle.kv_base.specs.declared.row.Row.{Row}
use Rattle.row_model.specs.Rows.{is_row_text, are_row_texts}
use Rattle.sst_parts.specs.declared.index.Spot.{Spot}
use Rattle.sst_parts.specs.declared.foot.Foot.{Foot}
use Rattle.sst_parts.specs.RowTexts.{row_text, rows_text}
use Rattle.sst_parts.specs.RowTextLaws.{length-row}
use Rattle.sst_parts.specs.Blocks.{is_full, has_room, block_size, blocks, block_text, blocks_text}
use Rattle.sst_parts.specs.BlockBodyLaws.{short_row, block_body_is_read, chain_front, chain_back, ordered_chain, readable_rows}
use Rattle.sst_parts.specs.BlockBodies.{is_chain, have_room, last_row}
use Rattle.sst_parts.specs.BlockLists.{joined_blocks, IsBlock, AreBlocks}
use Rattle.sst_parts.specs.BlockListLaws.{blocks_are, blocks_whole}
use Rattle.sst_parts.specs.Index.{last_raw, spots_from, spot_text, spot_texts, index_text, read_spots, spots_behind, read_block_index, then_spots}
use Rattle.sst_parts.specs.IndexLaws.{IsSpot, spot_is_read, at_place}
use Rattle.sst_parts.specs.Filter.{bit_count, hash_of, filter_bits, read_filter, whole_filter}
use Rattle.sst_parts.specs.FilterLaws.{length-filter_of}
use Rattle.sst_parts.specs.Seeking.{AreReadable}
use Rattle.sst_parts.specs.Tables.{table_head, head_length, foot_length, foot_mark, foot_text, with_index, with_index_length, with_filter, with_filter_length, with_rows, read_foot, is_foot_of, raw_keys_of, table_index, table_filter, table_foot, index_place, table_text, IsFoot, AreTableRows}
use Rattle.sst_grammar.specs.Judging.{slice_at, or_off, then_judged, has_none, are_of_spot, whole_body, read_block, rows_in_front, judged_blocks, foot_place, judged_foot, judged_index, judged_filter, judged_whole, after_filter, after_index, after_foot, judged_table}

both : (a b : Bool) → a ≡ true → b ≡ true → (a && b) ≡ true
both a b e f = rw (e, f) refl

-- ---- the foot

pub length-foot : (foot : Foot) → length (foot_text foot) ≡ 36
unfolding foot_text
length-foot foot =
    let a = length-append (u64 foot.index) (u32 foot.index_length ++ (u64 foot.filter ++ (u32 foot.filter_length ++ (u64 foot.rows ++ foot_mark)))) in
    let b = length-append (u32 foot.index_length) (u64 foot.filter ++ (u32 foot.filter_length ++ (u64 foot.rows ++ foot_mark))) in
    let c = length-append (u64 foot.filter) (u32 foot.filter_length ++ (u64 foot.rows ++ foot_mark)) in
    let d = length-append (u32 foot.filter_length) (u64 foot.rows ++ foot_mark) in
    let e = length-append (u64 foot.rows) foot_mark in
    let i = length-u64 foot.index in
    let j = length-u32 foot.index_length in
    let k = length-u64 foot.filter in
    let l = length-u32 foot.filter_length in
    let m = length-u64 foot.rows in
    omega (arith, a, b, c, d, e, i, j, k, l, m)

pub foot_is_read : (foot : Foot) → IsFoot foot → read_foot (foot_text foot) ≡ Some foot
unfolding read_foot foot_text
foot_is_read foot is =
    let e = u64 foot.rows ++ foot_mark in
    let d = u32 foot.filter_length ++ e in
    let c = u64 foot.filter ++ d in
    let b = u32 foot.index_length ++ c in
    ap (λ o. option_and_then with_index o) (u64_is_read foot.index is.index b)
    ∙ ap (λ o. option_and_then (with_index_length foot.index) o) (u32_is_read foot.index_length is.index_length c)
    ∙ ap (λ o. option_and_then (with_filter foot.index foot.index_length) o) (u64_is_read foot.filter is.filter d)
    ∙ ap (λ o. option_and_then (with_filter_length foot.index foot.index_length foot.filter) o) (u32_is_read foot.filter_length is.filter_length e)
    ∙ ap (λ o. option_and_then (with_rows foot.index foot.index_length foot.filter foot.filter_length) o) (u64_is_read foot.rows is.rows foot_mark)

-- ---- blocks are short

room_of_last : (whole : ℕ) (row : Row) (rows : List Row) → have_room whole (row ∷ rows) ≡ true → are_row_texts (row ∷ rows) ≡ true → whole < 2 ^ 22
room_of_last whole row [] room texts =
    let low = both_first (has_room whole (rows_text (row ∷ []))) true room in
    let short = short_row row (both_first (is_row_text row) true texts) in
    let one = ap (λ (b : Bytes). length b) (append-nil (row_text row)) in
    within whole (length (rows_text (row ∷ []))) (length (row_text row)) low one short
  where
    within : (w n m : ℕ) → nat_lt (w - n) block_size ≡ true → n ≡ m → m < 2 ^ 21 → w < 2 ^ 22
    within w n m h e k = let low : w - n < block_size = grind (arith, nat_tests) in omega (arith, low, e, k)
room_of_last whole row (r ∷ rows) room texts =
    room_of_last whole r rows (both_second (has_room whole (rows_text (row ∷ r ∷ rows))) (have_room whole (r ∷ rows)) room) (both_second (is_row_text row) (are_row_texts (r ∷ rows)) texts)

pub short_block : (rows : List Row) → IsBlock rows → IsTrue (are_row_texts rows) → length (rows_text rows) < 2 ^ 22
short_block [] block texts = omega arith
short_block (row ∷ rows) block texts = room_of_last (length (rows_text (row ∷ rows))) row rows block.room texts

raw_of : (row : Row) → is_row_text row ≡ true → length row.raw < 2 ^ 32
raw_of row h = let short = short_row row h in let long = length-row row in omega (arith, short, long)

short_last : (raw : Bytes) (rows : List Row) → length raw < 2 ^ 32 → are_row_texts rows ≡ true → length (last_raw raw rows) < 2 ^ 32
short_last raw [] low texts = low
short_last raw (row ∷ rows) low texts = short_last row.raw rows (raw_of row (both_first (is_row_text row) (are_row_texts rows) texts)) (both_second (is_row_text row) (are_row_texts rows) texts)

texts_front : (rows more : List Row) → are_row_texts (rows ++ more) ≡ true → are_row_texts rows ≡ true
texts_front [] more h = refl
texts_front (row ∷ rows) more h = both (is_row_text row) (are_row_texts rows) (both_first (is_row_text row) (are_row_texts (rows ++ more)) h) (texts_front rows more (both_second (is_row_text row) (are_row_texts (rows ++ more)) h))

texts_back : (rows more : List Row) → are_row_texts (rows ++ more) ≡ true → are_row_texts more ≡ true
texts_back [] more h = h
texts_back (row ∷ rows) more h = texts_back rows more (both_second (is_row_text row) (are_row_texts (rows ++ more)) h)

-- ---- the index

abbrev pub AreSpots : List Spot → Type 0
AreSpots [] = Unit {0}
AreSpots (spot ∷ spots) = IsSpot spot × AreSpots spots

spots_are_read : (place end : ℕ) (bs : List (List Row)) → AreSpots (spots_from place bs) → end ≡ place + length (blocks_text bs) → read_spots (length (spots_from place bs)) place end (spot_texts (spots_from place bs)) ≡ Some (spots_from place bs)
unfolding spots_from read_spots
spots_are_read place end [] are is =
    let here : (place == end) ≡ true = grind (arith, nat_tests) in
    ap (λ b. cond (b && true) (Some []) None) here
spots_are_read place end (rows ∷ more) are is =
    let long = length (block_text rows) in
    let spot : Spot = record { place = place; bytes = long; last = last_raw [] rows } in
    let rest = spots_from (place + long) more in
    let here : (place == place) ≡ true = grind (arith, nat_tests) in
    let parts = length-append (block_text rows) (blocks_text more) in
    ap (λ o. option_and_then (at_place (length rest) place end) o) (spot_is_read spot (spot_texts rest) are.0)
    ∙ ap (λ b. cond b (then_spots spot (read_spots (length rest) (place + long) end (spot_texts rest))) None) here
    ∙ ap (then_spots spot) (spots_are_read (place + long) end more are.1 (omega (arith, is, parts)))

not_zero : (place : ℕ) (bs : List (List Row)) → bs ≢ [] → (length (spots_from place bs) == 0) ≡ false
unfolding spots_from
not_zero place [] some = absurd (some refl)
not_zero place (rows ∷ more) some = later (length (spots_from (place + length (block_text rows)) more))
  where
    later : (k : ℕ) → (suc k == 0) ≡ false
    later k = grind (arith, nat_tests)

pub table_index_is_read : (place end : ℕ) (bs : List (List Row)) → bs ≢ [] → AreSpots (spots_from place bs) → length (spots_from place bs) < 2 ^ 32 → end ≡ place + length (blocks_text bs)
    → read_block_index place end (index_text (spots_from place bs)) ≡ Some (spots_from place bs)
unfolding read_block_index index_text
table_index_is_read place end bs some are few is =
    let n = length (spots_from place bs) in
    ap (λ o. option_and_then (spots_behind place end) o) (u32_is_read n few (spot_texts (spots_from place bs)))
    ∙ ap (λ b. cond b None (read_spots n place end (spot_texts (spots_from place bs)))) (not_zero place bs some)
    ∙ spots_are_read place end bs are is

pub first_block : (rows : List Row) (more : List (List Row)) → AreBlocks (rows ∷ more) → IsBlock rows
first_block rows [] h = h
first_block rows (next ∷ more) h = h.0.block

pub others : (rows : List Row) (more : List (List Row)) → AreBlocks (rows ∷ more) → AreBlocks more
others rows [] h = tt
others rows (next ∷ more) h = h.1

pub spots_are : (place : ℕ) (bs : List (List Row)) → AreBlocks bs → IsTrue (are_row_texts (joined_blocks bs)) → place + length (blocks_text bs) < 2 ^ 64 → AreSpots (spots_from place bs)
unfolding spots_from block_text
spots_are place [] h texts low = tt
spots_are place (rows ∷ more) h texts low =
    let parts = length-append (text (rows_text rows)) (blocks_text more) in
    let own = texts_front rows (joined_blocks more) texts in
    let short = short_block rows (first_block rows more h) own in
    let framed = length-text (rows_text rows) in (
      record { place = omega (arith, low); bytes_fit = omega (arith, short, framed); last = short_last [] rows (omega arith) own },
      spots_are (place + length (text (rows_text rows))) more (others rows more h) (texts_back rows (joined_blocks more) texts) (omega (arith, low, parts)),
    )

-- ---- the filter

enough_bits : (keys : List Bytes) → nat_le 8 (length (filter_bits keys)) ≡ true
unfolding filter_bits
enough_bits keys = let long = length-filter_of (map hash_of keys) in let least : 8 ≤ bit_count (length (map hash_of keys)) / 8 = omega arith in grind (arith, nat_tests)

pub filter_is_read : (keys : List Bytes) → length (filter_bits keys) < 2 ^ 32 → read_filter (text (filter_bits keys)) ≡ Some (filter_bits keys)
unfolding read_filter
filter_is_read keys short =
    let bits = filter_bits keys in
    ap (λ (b : Bytes). option_and_then whole_filter (read_text b)) (sym (append-nil (text bits)))
    ∙ ap (λ o. option_and_then whole_filter o) (text_is_read bits short [])
    ∙ ap (λ b. cond b (Some bits) None) (enough_bits keys)

-- ---- the blocks

slice_there : (front block tail bytes : Bytes) (place n : ℕ) → bytes ≡ front ++ (block ++ tail) → length front ≡ place → length block ≡ n → slice_at place n bytes ≡ block
slice_there front block tail bytes place n is at long =
    ap (λ (b : Bytes). take n (drop place b)) is ∙ ap (λ (b : Bytes). take n b) (drop_at front (block ++ tail) place at) ∙ take_at block tail n long

some_rows : (rows : List Row) → rows ≢ [] → not (has_none rows) ≡ true
some_rows [] some = absurd (some refl)
some_rows (row ∷ rows) some = refl

block_is_read : (is_last : Bool) (before : Option Row) (spot : Spot) (rows : List Row) → IsBlock rows → (is_last || is_full rows) ≡ true → last_raw [] rows ≡ spot.last → AreReadable rows → is_chain before rows ≡ true
    → length (rows_text rows) < 2 ^ 32 → read_block is_last before spot (block_text rows) ≡ Some rows
unfolding read_block block_text
block_is_read is_last before spot rows block full last readable chain short =
    let body = rows_text rows in
    let test : are_of_spot is_last spot rows ≡ true =
    both (not (has_none rows) && same (last_raw [] rows) spot.last) (is_last || is_full rows)
    (both (not (has_none rows)) (same (last_raw [] rows) spot.last) (some_rows rows block.some) (ap (same (last_raw [] rows)) (sym last) ∙ same_itself (last_raw [] rows))) full in
    ap (λ (b : Bytes). kept (are_of_spot is_last spot) (option_and_then (whole_body before) (read_text b))) (sym (append-nil (text body)))
    ∙ ap (λ o. kept (are_of_spot is_last spot) (option_and_then (whole_body before) o)) (text_is_read body short [])
    ∙ ap (λ o. kept (are_of_spot is_last spot) o) (block_body_is_read before rows readable chain block.room)
    ∙ ap (λ b. cond b (Some rows) None) test

readable_front : (rows more : List Row) → AreReadable (rows ++ more) → AreReadable rows
readable_front [] more h = tt
readable_front (row ∷ rows) more h = (h.0, h.1, readable_front rows more h.2)

readable_back : (rows more : List Row) → AreReadable (rows ++ more) → AreReadable more
readable_back [] more h = h
readable_back (row ∷ rows) more h = readable_back rows more h.2

full_unless_last : (place : ℕ) (rows : List Row) (more : List (List Row)) → AreBlocks (rows ∷ more) → (has_none (spots_from place more) || is_full rows) ≡ true
unfolding spots_from
full_unless_last place rows [] h = refl
full_unless_last place rows (next ∷ more) h = h.0.full

pub blocks_are_read : (before : Option Row) (place : ℕ) (front tail bytes : Bytes) (bs : List (List Row)) → bytes ≡ front ++ (blocks_text bs ++ tail) → length front ≡ place → AreBlocks bs → AreReadable (joined_blocks bs)
    → IsTrue (are_row_texts (joined_blocks bs)) → is_chain before (joined_blocks bs) ≡ true → judged_blocks before (spots_from place bs) bytes ≡ Ok (joined_blocks bs)
unfolding judged_blocks spots_from
blocks_are_read before place front tail bytes [] is at h readable texts chain = refl
blocks_are_read before place front tail bytes (rows ∷ more) is at h readable texts chain =
    let block = block_text rows in
    let long = length block in
    let spots = spots_from (place + long) more in
    let spot : Spot = record { place = place; bytes = long; last = last_raw [] rows } in
    let moved : bytes ≡ front ++ (block ++ (blocks_text more ++ tail)) = is ∙ ap (λ (b : Bytes). front ++ b) (append_assoc block (blocks_text more) tail) in
    let behind : bytes ≡ (front ++ block) ++ (blocks_text more ++ tail) = moved ∙ sym (append_assoc front block (blocks_text more ++ tail)) in
    let own = texts_front rows (joined_blocks more) texts in
    let short = short_block rows (first_block rows more h) own in
    ap (λ (b : Bytes). then_judged (or_off place (read_block (has_none spots) before spot b)) (λ part. rows_in_front part (judged_blocks (last_row before part) spots bytes))) (slice_there front block (blocks_text more ++ tail) bytes place long moved at refl)
    ∙ ap (λ o. then_judged (or_off place o) (λ part. rows_in_front part (judged_blocks (last_row before part) spots bytes)))
    (block_is_read (has_none spots) before spot rows (first_block rows more h) (full_unless_last (place + long) rows more h) refl (readable_front rows (joined_blocks more) readable) (chain_front before rows (joined_blocks more) chain) (omega (arith, short)))
    ∙ ap (rows_in_front rows)
    (blocks_are_read (last_row before rows) (place + long) (front ++ block) tail bytes more behind (let parts = length-append front block in omega (arith, parts, at)) (others rows more h) (readable_back rows (joined_blocks more) readable) (texts_back rows (joined_blocks more) texts) (chain_back before rows (joined_blocks more) chain))

-- ---- all parts

module _ (B I T : Bytes) (foot : Foot) (bytes : Bytes) (is : bytes ≡ table_head ++ (B ++ (I ++ (T ++ foot_text foot)))) (good : IsFoot foot)
    (index : foot.index ≡ head_length + length B) (index_length : foot.index_length ≡ length I) (filter : foot.filter ≡ foot.index + length I) (filter_length : foot.filter_length ≡ length T) where
  whole_length : length bytes ≡ head_length + length B + length I + length T + foot_length
  whole_length =
      let w = ap (λ (b : Bytes). length b) is in
      let a = length-append table_head (B ++ (I ++ (T ++ foot_text foot))) in
      let b = length-append B (I ++ (T ++ foot_text foot)) in
      let c = length-append I (T ++ foot_text foot) in
      let d = length-append T (foot_text foot) in
      let f = length-foot foot in
      omega (arith, w, a, b, c, d, f)

  in_front_of_foot : bytes ≡ (table_head ++ (B ++ (I ++ T))) ++ foot_text foot
  in_front_of_foot =
      is ∙ ap (λ (b : Bytes). table_head ++ (B ++ b)) (sym (append_assoc I T (foot_text foot)))
      ∙ ap (λ (b : Bytes). table_head ++ b) (sym (append_assoc B (I ++ T) (foot_text foot)))
      ∙ sym (append_assoc table_head (B ++ (I ++ T)) (foot_text foot))

  foot_behind : drop (foot_place bytes) bytes ≡ foot_text foot
  foot_behind =
      let a = length-append table_head (B ++ (I ++ T)) in
      let b = length-append B (I ++ T) in
      let c = length-append I T in
      let w = whole_length in
      ap (λ (l : Bytes). drop (foot_place bytes) l) in_front_of_foot ∙ drop_at (table_head ++ (B ++ (I ++ T))) (foot_text foot) (foot_place bytes) (omega (arith, a, b, c, w))

  foot_fits : is_foot_of (length bytes) foot ≡ true
  foot_fits = fits foot.index foot.index_length foot.filter foot.filter_length (length bytes) (omega (arith, index)) (omega (arith, filter, index_length)) (let w = whole_length in omega (arith, w, index, filter, filter_length))
    where
      fits : (i il f fl n : ℕ) → head_length ≤ i → i + il ≡ f → f + fl + foot_length ≡ n → (nat_le head_length i && (i + il == f) && (f + fl + foot_length == n)) ≡ true
      fits i il f fl n a b c = both (nat_le head_length i && (i + il == f)) (f + fl + foot_length == n) (both (nat_le head_length i) (i + il == f) (grind (arith, nat_tests)) (grind (arith, nat_tests))) (grind (arith, nat_tests))

  head_there : (nat_le (head_length + foot_length) (length bytes) && same (take head_length bytes) table_head) ≡ true
  head_there =
      both (nat_le (head_length + foot_length) (length bytes)) (same (take head_length bytes) table_head)
      (enough (length bytes) (let w = whole_length in omega (arith, w)))
      (ap (λ (b : Bytes). same b table_head) (ap (λ (b : Bytes). take head_length b) is ∙ take_at table_head (B ++ (I ++ (T ++ foot_text foot))) head_length refl) ∙ same_itself table_head)
    where
      enough : (n : ℕ) → head_length + foot_length ≤ n → nat_le (head_length + foot_length) n ≡ true
      enough n h = grind (arith, nat_tests)

  foot_judged : judged_foot bytes ≡ Ok foot
  unfolding judged_foot
  foot_judged =
      ap (λ b. cond b (or_off (foot_place bytes) (kept (is_foot_of (length bytes)) (read_foot (drop (foot_place bytes) bytes)))) (Err 0)) head_there
      ∙ ap (λ (b : Bytes). or_off (foot_place bytes) (kept (is_foot_of (length bytes)) (read_foot b))) foot_behind
      ∙ ap (λ o. or_off (foot_place bytes) (kept (is_foot_of (length bytes)) o)) (foot_is_read foot good)
      ∙ ap (λ b. or_off (foot_place bytes) (cond b (Some foot) None)) foot_fits

  index_there : slice_at foot.index foot.index_length bytes ≡ I
  index_there =
      slice_there (table_head ++ B) I (T ++ foot_text foot) bytes foot.index foot.index_length (is ∙ sym (append_assoc table_head B (I ++ (T ++ foot_text foot))))
      (let a = length-append table_head B in omega (arith, a, index)) (sym index_length)

  filter_there : slice_at foot.filter foot.filter_length bytes ≡ T
  filter_there =
      slice_there (table_head ++ (B ++ I)) T (foot_text foot) bytes foot.filter foot.filter_length
      (is ∙ ap (λ (b : Bytes). table_head ++ b) (sym (append_assoc B I (T ++ foot_text foot))) ∙ sym (append_assoc table_head (B ++ I) (T ++ foot_text foot)))
      (let a = length-append table_head (B ++ I) in let b = length-append B I in omega (arith, a, b, index, filter)) (sym filter_length)

  pub parts_judged : (spots : List Spot) (bits : Bytes) (rows : List Row) → read_block_index head_length foot.index I ≡ Some spots → read_filter T ≡ Some bits → judged_blocks None spots bytes ≡ Ok rows
      → length rows ≡ foot.rows → bits ≡ filter_bits (raw_keys_of rows) → judged_table bytes ≡ Ok rows
  unfolding judged_table judged_index judged_filter judged_whole
  parts_judged spots bits rows i f b count set =
      ap (λ r. then_judged r (after_foot bytes)) foot_judged
      ∙ ap (λ (l : Bytes). then_judged (or_off foot.index (read_block_index head_length foot.index l)) (after_index bytes foot)) index_there
      ∙ ap (λ o. then_judged (or_off foot.index o) (after_index bytes foot)) i
      ∙ ap (λ (l : Bytes). then_judged (or_off foot.filter (read_filter l)) (after_filter bytes foot spots)) filter_there
      ∙ ap (λ o. then_judged (or_off foot.filter o) (after_filter bytes foot spots)) f
      ∙ ap (λ r. then_judged r (judged_whole bytes foot bits)) b
      ∙ ap (λ t. cond (not t) (Err (foot_place bytes)) (cond (same bits (filter_bits (raw_keys_of rows))) (Ok rows) (Err foot.filter))) (counted (length rows) foot.rows count)
      ∙ ap (λ t. cond t (Ok rows) (Err foot.filter)) (ap (same bits) (sym set) ∙ same_itself bits)
    where
      counted : (n m : ℕ) → n ≡ m → (n == m) ≡ true
      counted n m e = grind (arith, nat_tests)

-- ---- a table

spots_few : (place : ℕ) (bs : List (List Row)) → length (spots_from place bs) ≤ length (spot_texts (spots_from place bs))
unfolding spots_from
spots_few place [] = omega arith
spots_few place (rows ∷ more) =
    let rest = spots_few (place + length (block_text rows)) more in
    let spot : Spot = record { place = place; bytes = length (block_text rows); last = last_raw [] rows } in
    let parts = length-append (spot_text spot) (spot_texts (spots_from (place + length (block_text rows)) more)) in
    let some = length-append (u64 place) (u32 (length (block_text rows)) ++ text (last_raw [] rows)) in
    let eight = length-u64 place in
    omega (arith, rest, parts, some, eight)

blocks_some : (rows : List Row) → rows ≢ [] → blocks rows ≢ []
blocks_some rows some e = some (sym (blocks_whole rows) ∙ ap joined_blocks e)

-- what a table is written as is judged to be a table of its rows
pub table_is_judged : (rows : List Row) → AreTableRows rows → judged_table (table_text rows) ≡ Ok rows
unfolding table_text index_text
table_is_judged rows are =
    let bs = blocks rows in
    let B = blocks_text bs in
    let spots = spots_from head_length bs in
    let I = table_index rows in
    let T = table_filter rows in
    let foot = table_foot rows in
    let u = length-append (u32 (length spots)) (spot_texts spots) in
    let four = length-u32 (length spots) in
    let few = spots_few head_length bs in
    let t = length-text (filter_bits (raw_keys_of rows)) in
    let texts = subst (λ (rs : List Row). are_row_texts rs ≡ true) (sym (blocks_whole rows)) are.grammar in
    parts_judged B I T foot (table_text rows) refl are.room refl refl refl refl spots (filter_bits (raw_keys_of rows)) rows
    (table_index_is_read head_length (index_place rows) bs (blocks_some rows are.some) (spots_are head_length bs (blocks_are rows) texts are.room.index) (omega (arith, are.room.index_length, u, four, few)) refl)
    (filter_is_read (raw_keys_of rows) (omega (arith, are.room.filter_length, t)))
    (blocks_are_read None head_length table_head (I ++ (T ++ foot_text foot)) (table_text rows) bs refl refl (blocks_are rows)
    (subst AreReadable (sym (blocks_whole rows)) (readable_rows rows are.grammar are.sequences)) texts
    (subst (λ (rs : List Row). is_chain None rs ≡ true) (sym (blocks_whole rows)) (ordered_chain rows are.order are.grammar))
    ∙ ap (λ (rs : List Row). Ok rs) (blocks_whole rows))
    refl refl
