-- Only the bytes of a table are found to be on their grammar: they are, byte for byte, what the format gives for the
-- rows.
use Rattle.std.proofs.Common.{◌≡◌, ◌≢◌, ℕ, zero, suc, ◌+◌, ◌-◌, ◌<◌, ◌≤◌, ◌^◌, min, List, [], ◌∷◌, ◌++◌, refl, sym, ap, subst, ◌∙◌, Bool, true, false, cond, length, take, drop, Option, Some, None, option_map, Result, Ok, Err, append_assoc, append-nil, length-append, length-take, length-drop, take-append-drop, arith}
use Rattle.std.specs.Prelude.{◌==◌, ◌&&◌, not, nat_le, nat_lt}
use Rattle.std.specs.List.{list_all}
use Rattle.std.proofs.lemmas.List.{drop-drop}
use Rattle.std.proofs.lemmas.Bool.Decides.{nat_tests}
use Rattle.kv_base.specs.Map.{Bytes, same, same_is, kept}
use Rattle.kv_base.specs.MetaValues.{is_empty}
use Rattle.kv_base.specs.Fields.{u32, u64, text, read_u32, read_u64, read_text}
use Rattle.kv_base.specs.FieldLaws.{only_u32_is_read, only_u64_is_read, only_text_is_read}
use Rattle.kv_base.specs.InversionLaws.{same_some, and_then_is, map_is, if_is, kept_is, both_first, both_second, number_is}
use Rattle.kv_base.specs.declared.row.Row.{Row}
use Rattle.sst_parts.specs.declared.index.Spot.{Spot}
use Rattle.sst_parts.specs.declared.foot.Foot.{Foot}
use Rattle.sst_parts.specs.Blocks.{blocks, block_text, blocks_text}
use Rattle.sst_parts.specs.BlockBodyLaws.{chain_ordered, chain_texts}
use Rattle.sst_parts.specs.BlockLists.{joined_blocks}
use Rattle.sst_parts.specs.Index.{last_raw, spots_from, spot_text, spot_texts, index_text, read_spot, read_spots, spots_behind, read_block_index}
use Rattle.sst_parts.specs.IndexLaws.{only_spot_is_read, at_place}
use Rattle.sst_parts.specs.Filter.{filter_bits, read_filter, is_filter, whole_filter}
use Rattle.sst_parts.specs.Seeking.{AreReadable}
use Rattle.sst_parts.specs.Tables.{table_head, head_length, foot_length, foot_mark, foot_text, with_index, with_index_length, with_filter, with_filter_length, with_rows, read_foot, is_foot_of, raw_keys_of, table_index, table_filter, table_foot, table_text, IsFoot, IsTable}
use Rattle.sst_grammar.specs.Judging.{slice_at, or_off, foot_place, judged_foot, judged_index, judged_filter, judged_blocks, judged_whole, after_filter, after_index, after_foot, judged_table}
use Rattle.sst_grammar.specs.Placing.{AreAt}
use Rattle.sst_grammar.specs.JudgedPartLaws.{then_is, or_off_is, same_ok, blocks_at}
use Rattle.sst_grammar.specs.OneBlockingLaws.{blocks_again}

empty_is : (bytes : Bytes) → is_empty bytes ≡ true → bytes ≡ []
empty_is [] e = refl
empty_is (b ∷ bytes) e = absurd (cc)

-- ---- the foot

pub record IsFootIn (bytes : Bytes) (foot : Foot) : Type 0 where
  pub spelled : bytes ≡ foot_text foot
  pub good : IsFoot foot

pub only_foot_is_read : (bytes : Bytes) (foot : Foot) → read_foot bytes ≡ Some foot → IsFootIn bytes foot
unfolding read_foot foot_text
only_foot_is_read bytes foot h =
    let a = and_then_is with_index (read_u64 bytes) foot h in
    let b = and_then_is (with_index_length a.0.0) (read_u32 a.0.1) foot a.2 in
    let c = and_then_is (with_filter a.0.0 b.0.0) (read_u64 b.0.1) foot b.2 in
    let d = and_then_is (with_filter_length a.0.0 b.0.0 c.0.0) (read_u32 c.0.1) foot c.2 in
    let e = and_then_is (with_rows a.0.0 b.0.0 c.0.0 d.0.0) (read_u64 d.0.1) foot d.2 in
    let found : Foot = record { index = a.0.0; index_length = b.0.0; filter = c.0.0; filter_length = d.0.0; rows = e.0.0 } in
    let m = if_is (same e.0.1 foot_mark) (Some found) foot e.2 in
    let p = only_u64_is_read bytes a.0.0 a.0.1 a.1 in
    let q = only_u32_is_read a.0.1 b.0.0 b.0.1 b.1 in
    let r = only_u64_is_read b.0.1 c.0.0 c.0.1 c.1 in
    let s = only_u32_is_read c.0.1 d.0.0 d.0.1 d.1 in
    let t = only_u64_is_read d.0.1 e.0.0 e.0.1 e.1 in
    let mark : e.0.1 ≡ foot_mark = same_is e.0.1 foot_mark m.0 in
    let last : d.0.1 ≡ u64 e.0.0 ++ foot_mark = t.0 ∙ ap (λ (l : Bytes). u64 e.0.0 ++ l) mark in
    let fourth : c.0.1 ≡ u32 d.0.0 ++ (u64 e.0.0 ++ foot_mark) = s.0 ∙ ap (λ (l : Bytes). u32 d.0.0 ++ l) last in
    let third : b.0.1 ≡ u64 c.0.0 ++ (u32 d.0.0 ++ (u64 e.0.0 ++ foot_mark)) = r.0 ∙ ap (λ (l : Bytes). u64 c.0.0 ++ l) fourth in
    let second : a.0.1 ≡ u32 b.0.0 ++ (u64 c.0.0 ++ (u32 d.0.0 ++ (u64 e.0.0 ++ foot_mark))) = q.0 ∙ ap (λ (l : Bytes). u32 b.0.0 ++ l) third in
    subst (IsFootIn bytes) (same_some found foot m.1) (record {
      spelled = p.0 ∙ ap (λ (l : Bytes). u64 a.0.0 ++ l) second;
      good = record { index = p.1; index_length = q.1; filter = r.1; filter_length = s.1; rows = t.1 };
    })

-- ---- the index

abbrev pub AreRun : ℕ → ℕ → List Spot → Type 0
AreRun place end [] = place ≡ end
AreRun place end (spot ∷ spots) = (spot.place ≡ place) × AreRun (place + spot.bytes) end spots

pub record AreSpotsIn (n place end : ℕ) (bytes : Bytes) (spots : List Spot) : Type 0 where
  pub spelled : bytes ≡ spot_texts spots
  pub count : length spots ≡ n
  pub run : AreRun place end spots

pub only_spots_are_read : (n place end : ℕ) (bytes : Bytes) (spots : List Spot) → read_spots n place end bytes ≡ Some spots → AreSpotsIn n place end bytes spots
unfolding read_spots
only_spots_are_read zero place end bytes spots h =
    let test = if_is ((place == end) && is_empty bytes) (Some []) spots h in
    subst (AreSpotsIn zero place end bytes) (same_some [] spots test.1)
    (record { spelled = empty_is bytes (both_second (place == end) (is_empty bytes) test.0); count = refl; run = number_is place end (both_first (place == end) (is_empty bytes) test.0) })
only_spots_are_read (suc n) place end bytes spots h =
    let front = and_then_is (at_place n place end) (read_spot bytes) spots h in
    let spot = front.0.0 in
    let test = if_is (spot.place == place) (option_map (λ (more : List Spot). spot ∷ more) (read_spots n (place + spot.bytes) end front.0.1)) spots front.2 in
    let more = map_is (λ (l : List Spot). spot ∷ l) (read_spots n (place + spot.bytes) end front.0.1) spots test.1 in
    let it = only_spots_are_read n (place + spot.bytes) end front.0.1 more.0 more.1 in
    let is = only_spot_is_read bytes front.0 front.1 in
    subst (AreSpotsIn (suc n) place end bytes) more.2 (record {
      spelled = is.spelled ∙ ap (λ (l : Bytes). spot_text spot ++ l) it.spelled;
      count = ap suc it.count;
      run = (number_is spot.place place test.0, it.run);
    })

pub record IsIndexIn (place end : ℕ) (bytes : Bytes) (spots : List Spot) : Type 0 where
  pub spelled : bytes ≡ index_text spots
  pub some : 0 < length spots
  pub run : AreRun place end spots

pub only_table_index_is_read : (place end : ℕ) (bytes : Bytes) (spots : List Spot) → read_block_index place end bytes ≡ Some spots → IsIndexIn place end bytes spots
unfolding read_block_index index_text
only_table_index_is_read place end bytes spots h =
    let front = and_then_is (spots_behind place end) (read_u32 bytes) spots h in
    let n = front.0.0 in
    let number = only_u32_is_read bytes n front.0.1 front.1 in
    let there = not_zero (n == 0) (read_spots n place end front.0.1) spots front.2 in
    let it = only_spots_are_read n place end front.0.1 spots there.1 in
    record {
      spelled = number.0 ∙ (λ i. u32 (sym it.count i) ++ it.spelled i);
      some = above n (length spots) there.0 it.count;
      run = it.run;
    }
  where
    not_zero : (b : Bool) (o : Option (List Spot)) (y : List Spot) → cond b None o ≡ Some y → (b ≡ false) × (o ≡ Some y)
    not_zero true o y h = absurd (cc)
    not_zero false o y h = (refl, h)

    above : (n m : ℕ) → (n == 0) ≡ false → m ≡ n → 0 < m
    above n m h e = grind (arith, nat_tests)

-- ---- the filter

pub only_filter_is_read : (bytes bits : Bytes) → read_filter bytes ≡ Some bits → bytes ≡ text bits
unfolding read_filter
only_filter_is_read bytes bits h =
    let front = and_then_is whole_filter (read_text bytes) bits h in
    let test = if_is (is_filter front.0) (Some front.0.0) bits front.2 in
    let same_bits = same_some front.0.0 bits test.1 in
    let none = empty_is front.0.1 (both_first (is_empty front.0.1) (nat_le 8 (length front.0.0)) test.0) in
    (only_text_is_read bytes front.0.0 front.0.1 front.1).0 ∙ (λ i. text (same_bits i) ++ none i) ∙ append-nil (text bits)

-- ---- parts that follow one another

slice_then : (place n : ℕ) (bytes : Bytes) → drop place bytes ≡ slice_at place n bytes ++ drop (place + n) bytes
slice_then place n bytes = sym (take-append-drop n (drop place bytes)) ∙ ap (λ (l : Bytes). take n (drop place bytes) ++ l) (drop-drop n place bytes)

-- blocks that follow one another stand where they are counted to
pub record IsRunOf (place end : ℕ) (spots : List Spot) (bs : List (List Row)) (bytes : Bytes) : Type 0 where
  pub spots_are : spots ≡ spots_from place bs
  pub spelled : drop place bytes ≡ blocks_text bs ++ drop end bytes

run_end : (place end : ℕ) (spots : List Spot) → AreRun place end spots → place ≤ end
run_end place end [] run = omega arith
run_end place end (spot ∷ spots) run = let rest = run_end (place + spot.bytes) end spots run.1 in omega (arith, rest)

pub run_of : (place end : ℕ) (spots : List Spot) (bs : List (List Row)) (bytes : Bytes) → AreRun place end spots → AreAt spots bs bytes → end ≤ length bytes → IsRunOf place end spots bs bytes
unfolding spots_from
run_of place end [] [] bytes run placed within = record { spots_are = refl; spelled = ap (λ (k : ℕ). drop k bytes) run }
run_of place end [] (rows ∷ more) bytes run placed within = absurd placed
run_of place end (spot ∷ spots) [] bytes run placed within = absurd placed
run_of place end (spot ∷ spots) (rows ∷ more) bytes run placed within =
    let behind = run_end (place + spot.bytes) end spots run.1 in
    let here : slice_at place spot.bytes bytes ≡ block_text rows = subst (λ (k : ℕ). slice_at k spot.bytes bytes ≡ block_text rows) run.0 placed.0 in
    let taken = length-take {A = ℕ} spot.bytes (drop place bytes) in
    let dropped = length-drop {A = ℕ} place bytes in
    let long : length (block_text rows) ≡ spot.bytes = sized (length (block_text rows)) spot.bytes place (length bytes) (sym (ap (λ (b : Bytes). length b) here) ∙ taken ∙ ap (min spot.bytes) dropped) (omega (arith, behind, within)) in
    let rest = run_of (place + spot.bytes) end spots more bytes run.1 placed.4 within in
    record {
      spots_are = (λ i. record { place = run.0 i; bytes = sym long i; last = sym placed.1 i } ∷ rest.spots_are i) ∙ ap (λ (k : ℕ). record { place = place; bytes = length (block_text rows); last = last_raw [] rows } ∷ spots_from (place + k) more) (sym long);
      spelled = slice_then place spot.bytes bytes ∙ (λ i. here i ++ rest.spelled i) ∙ sym (append_assoc (block_text rows) (blocks_text more) (drop end bytes));
    }
  where
    sized : (n b p l : ℕ) → n ≡ min b (l - p) → p + b ≤ l → n ≡ b
    sized n b p l e h = omega (arith, e, h)

-- ---- what a foot that was found tells

pub record AreFootFacts (bytes : Bytes) (foot : Foot) : Type 0 where
  pub long : head_length + foot_length ≤ length bytes
  pub head : take head_length bytes ≡ table_head
  pub spelled : drop (foot_place bytes) bytes ≡ foot_text foot
  pub good : IsFoot foot
  pub low : head_length ≤ foot.index
  pub filter : foot.index + foot.index_length ≡ foot.filter
  pub end : foot.filter + foot.filter_length ≡ foot_place bytes

at_least : (n m : ℕ) → nat_le n m ≡ true → n ≤ m
at_least n m h = grind (arith, nat_tests)

if_ok : {X : Type 0} (b : Bool) (r : Result X ℕ) (y : X) → cond b r (Err 0) ≡ Ok y → (b ≡ true) × (r ≡ Ok y)
if_ok true r y h = (refl, h)
if_ok false r y h = absurd (cc)

pub foot_facts : (bytes : Bytes) (foot : Foot) → judged_foot bytes ≡ Ok foot → AreFootFacts bytes foot
unfolding judged_foot
foot_facts bytes foot h =
    let place = foot_place bytes in
    let test = if_ok (nat_le (head_length + foot_length) (length bytes) && same (take head_length bytes) table_head) (or_off place (kept (is_foot_of (length bytes)) (read_foot (drop place bytes)))) foot h in
    let long = at_least (head_length + foot_length) (length bytes) (both_first (nat_le (head_length + foot_length) (length bytes)) (same (take head_length bytes) table_head) test.0) in
    let passed = kept_is (is_foot_of (length bytes)) (read_foot (drop place bytes)) foot (or_off_is place (kept (is_foot_of (length bytes)) (read_foot (drop place bytes))) foot test.1) in
    let it = only_foot_is_read (drop place bytes) foot passed.0 in
    let two = both_first (nat_le head_length foot.index && (foot.index + foot.index_length == foot.filter)) (foot.filter + foot.filter_length + foot_length == length bytes) passed.1 in
    let last = number_is (foot.filter + foot.filter_length + foot_length) (length bytes) (both_second (nat_le head_length foot.index && (foot.index + foot.index_length == foot.filter)) (foot.filter + foot.filter_length + foot_length == length bytes) passed.1) in
    record {
      long = long;
      head = same_is (take head_length bytes) table_head (both_second (nat_le (head_length + foot_length) (length bytes)) (same (take head_length bytes) table_head) test.0);
      spelled = it.spelled;
      good = it.good;
      low = at_least head_length foot.index (both_first (nat_le head_length foot.index) (foot.index + foot.index_length == foot.filter) two);
      filter = number_is (foot.index + foot.index_length) foot.filter (both_second (nat_le head_length foot.index) (foot.index + foot.index_length == foot.filter) two);
      end = omega (arith, last);
    }

-- ---- what all rows together tell

pub record AreWholeFacts (foot : Foot) (bits : Bytes) (rows : List Row) : Type 0 where
  pub count : length rows ≡ foot.rows
  pub filter : bits ≡ filter_bits (raw_keys_of rows)

pub whole_facts : (bytes : Bytes) (foot : Foot) (bits : Bytes) (found rows : List Row) → judged_whole bytes foot bits found ≡ Ok rows → (found ≡ rows) × AreWholeFacts foot bits found
unfolding judged_whole
whole_facts bytes foot bits found rows h = by_count (length found == foot.rows) refl (same bits (filter_bits (raw_keys_of found))) refl h
  where
    by_count : (c : Bool) → (length found == foot.rows) ≡ c → (f : Bool) → same bits (filter_bits (raw_keys_of found)) ≡ f
        → ◌≡◌ {A = Result (List Row) ℕ} (cond (not c) (Err (foot_place bytes)) (cond f (Ok found) (Err foot.filter))) (Ok rows) → (found ≡ rows) × AreWholeFacts foot bits found
    by_count true c_is true f_is e = (same_ok {Y = ℕ} found rows e, record { count = number_is (length found) foot.rows c_is; filter = same_is bits (filter_bits (raw_keys_of found)) f_is })
    by_count true c_is false f_is e = absurd (cc)
    by_count false c_is f f_is e = absurd (cc)

-- ---- a table

seqs_low : (rows : List Row) → AreReadable rows → list_all (λ row. nat_lt row.seq (2 ^ 64)) rows ≡ true
seqs_low [] h = refl
seqs_low (row ∷ rows) h = both (nat_lt row.seq (2 ^ 64)) (list_all (λ r. nat_lt r.seq (2 ^ 64)) rows) (low row.seq h.1) (seqs_low rows h.2)
  where
    both : (a b : Bool) → a ≡ true → b ≡ true → (a && b) ≡ true
    both a b e f = rw (e, f) refl

    low : (n : ℕ) → n < 2 ^ 64 → nat_lt n (2 ^ 64) ≡ true
    low n h = grind (arith, nat_tests)

readable_joined : (rows more : List Row) → AreReadable rows → AreReadable more → AreReadable (rows ++ more)
readable_joined [] more h k = k
readable_joined (row ∷ rows) more h k = (h.0, h.1, readable_joined rows more h.2 k)

readable_all : (spots : List Spot) (bs : List (List Row)) (bytes : Bytes) → AreAt spots bs bytes → AreReadable (joined_blocks bs)
readable_all [] [] bytes placed = tt
readable_all [] (rows ∷ more) bytes placed = absurd placed
readable_all (spot ∷ spots) [] bytes placed = absurd placed
readable_all (spot ∷ spots) (rows ∷ more) bytes placed = readable_joined rows (joined_blocks more) placed.3 (readable_all spots more bytes placed.4)

rows_some : (spots : List Spot) (bs : List (List Row)) (bytes : Bytes) → AreAt spots bs bytes → 0 < length spots → joined_blocks bs ≢ []
rows_some [] bs bytes placed some e = omega (arith, some)
rows_some (spot ∷ spots) [] bytes placed some e = placed
rows_some (spot ∷ spots) (rows ∷ more) bytes placed some e = placed.2 (front rows (joined_blocks more) e)
  where
    front : (xs ys : List Row) → xs ++ ys ≡ [] → xs ≡ []
    front [] ys h = refl
    front (x ∷ xs) ys h = absurd (cc)

-- what is found in a table's file
pub record AreFound (bytes : Bytes) (rows : List Row) : Type 0 where
  pub foot : Foot
  pub spots : List Spot
  pub bits : Bytes
  pub foot_is : judged_foot bytes ≡ Ok foot
  pub index_is : judged_index foot bytes ≡ Ok spots
  pub filter_is : judged_filter foot bytes ≡ Ok bits
  pub blocks_are : judged_blocks None spots bytes ≡ Ok rows
  pub whole : AreWholeFacts foot bits rows

pub table_found_in : (bytes : Bytes) (rows : List Row) → judged_table bytes ≡ Ok rows → AreFound bytes rows
unfolding judged_table
table_found_in bytes rows h =
    let f = then_is (judged_foot bytes) (after_foot bytes) rows h in
    let i = then_is (judged_index f.0 bytes) (after_index bytes f.0) rows f.2 in
    let t = then_is (judged_filter f.0 bytes) (after_filter bytes f.0 i.0) rows i.2 in
    let b = then_is (judged_blocks None i.0 bytes) (judged_whole bytes f.0 t.0) rows t.2 in
    let w = whole_facts bytes f.0 t.0 b.0 rows b.2 in
    record {
      foot = f.0;
      spots = i.0;
      bits = t.0;
      foot_is = f.1;
      index_is = i.1;
      filter_is = t.1;
      blocks_are = b.1 ∙ ap (λ (rs : List Row). Ok rs) w.0;
      whole = subst (AreWholeFacts f.0 t.0) w.0 w.1;
    }

sized_slice : (place n : ℕ) (bytes part : Bytes) → slice_at place n bytes ≡ part → place + n ≤ length bytes → length part ≡ n
sized_slice place n bytes part is within =
    let taken = length-take {A = ℕ} n (drop place bytes) in
    let dropped = length-drop {A = ℕ} place bytes in
    let whole = ap (λ (b : Bytes). length b) (sym is) ∙ taken ∙ ap (min n) dropped in
    omega (arith, whole, within)

pub only_tables : (bytes : Bytes) (rows : List Row) → judged_table bytes ≡ Ok rows → IsTable bytes rows
unfolding judged_index judged_filter table_text
only_tables bytes rows h =
    let found = table_found_in bytes rows h in
    let foot = found.foot in
    let spots = found.spots in
    let bits = found.bits in
    let facts = foot_facts bytes foot found.foot_is in
    let at = blocks_at None spots bytes rows found.blocks_are in
    let bs = at.blocks in
    let index = only_table_index_is_read head_length foot.index (slice_at foot.index foot.index_length bytes) spots (or_off_is foot.index (read_block_index head_length foot.index (slice_at foot.index foot.index_length bytes)) spots found.index_is) in
    let filter = only_filter_is_read (slice_at foot.filter foot.filter_length bytes) bits (or_off_is foot.filter (read_filter (slice_at foot.filter foot.filter_length bytes)) bits found.filter_is) in
    let run = run_of head_length foot.index spots bs bytes index.run at.placed (omega (arith, facts.filter, facts.end)) in
    let blocks_is : blocks rows ≡ bs = ap blocks at.whole ∙ blocks_again bs at.full in
    let bits_is : text bits ≡ table_filter rows = ap text found.whole.filter in
    let spots_is : index_text spots ≡ table_index rows = ap index_text (run.spots_are ∙ ap (spots_from head_length) (sym blocks_is)) in
    let index_long = sized_slice foot.index foot.index_length bytes (table_index rows) (index.spelled ∙ spots_is) (omega (arith, facts.filter, facts.end)) in
    let filter_long = sized_slice foot.filter foot.filter_length bytes (table_filter rows) (filter ∙ bits_is) (omega (arith, facts.end)) in
    let B = blocks_text (blocks rows) in
    let rest : drop foot.filter bytes ≡ table_filter rows ++ foot_text foot =
    slice_then foot.filter foot.filter_length bytes ∙ (λ i. (filter ∙ bits_is) i ++ drop (facts.end i) bytes) ∙ ap (λ (b : Bytes). table_filter rows ++ b) facts.spelled in
    let mid : drop foot.index bytes ≡ table_index rows ++ (table_filter rows ++ foot_text foot) =
    slice_then foot.index foot.index_length bytes ∙ (λ i. (index.spelled ∙ spots_is) i ++ drop (facts.filter i) bytes) ∙ ap (λ (b : Bytes). table_index rows ++ b) rest in
    let front : drop head_length bytes ≡ B ++ (table_index rows ++ (table_filter rows ++ foot_text foot)) =
    run.spelled ∙ (λ i. blocks_text (sym blocks_is i) ++ mid i) in
    let whole : bytes ≡ table_head ++ (B ++ (table_index rows ++ (table_filter rows ++ foot_text foot))) =
    sym (take-append-drop head_length bytes) ∙ (λ i. facts.head i ++ front i) in
    let total = ap (λ (b : Bytes). length b) run.spelled ∙ length-append (blocks_text bs) (drop foot.index bytes) in
    let d8 = length-drop {A = ℕ} head_length bytes in
    let di = length-drop {A = ℕ} foot.index bytes in
    let same_blocks = ap (λ (l : List (List Row)). length (blocks_text l)) blocks_is in
    let place : foot.index ≡ head_length + length B = omega (arith, total, d8, di, same_blocks, facts.low, facts.filter, facts.end, facts.long) in
    let foot_is : foot ≡ table_foot rows = λ i. record {
      index = place i;
      index_length = sym index_long i;
      filter = (sym facts.filter ∙ (λ j. place j + sym index_long j)) i;
      filter_length = sym filter_long i;
      rows = sym found.whole.count i;
    } in
    record {
      lawful = record {
        some = subst (λ (rs : List Row). rs ≢ []) (sym at.whole) (rows_some spots bs bytes at.placed index.some);
        order = chain_ordered None rows at.chain;
        grammar = chain_texts None rows at.chain;
        sequences = seqs_low rows (subst AreReadable (sym at.whole) (readable_all spots bs bytes at.placed));
        room = subst IsFoot foot_is facts.good;
      };
      spelled = whole ∙ ap (λ (f : Foot). table_head ++ (B ++ (table_index rows ++ (table_filter rows ++ foot_text f)))) foot_is;
    }
