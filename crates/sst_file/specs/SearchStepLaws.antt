-- The steps of a search through the blocks of a table.
use Rattle.std.proofs.Common.{◌≡◌, ℕ, zero, suc, ◌<◌, ◌^◌, List, [], ◌∷◌, ◌++◌, refl, sym, ap, subst, ◌∙◌, Bool, true, length, drop, get_or, Option, Some, None, IfSome, option_map, option_and_then, Result, Ok, append-nil, arith}
use Rattle.std.specs.Prelude.{◌&&◌}
use Rattle.std.specs.Result.{result_ok}
use Rattle.std.specs.Ordering.{is_lt}
use Rattle.kv_base.specs.Map.{Bytes}
use Rattle.kv_base.specs.Fields.{text, read_text}
use Rattle.kv_base.specs.FieldLaws.{text_is_read, length-text}
use Rattle.kv_base.specs.InversionLaws.{same_some, both_first, both_second}
use Rattle.kv_base.specs.declared.row.Row.{Row}
use Rattle.row_model.specs.Rows.{seen_at}
use Rattle.row_model.specs.RowOrder.{row_cmp, leads, is_ordered}
use Rattle.sst_parts.specs.declared.index.Spot.{Spot}
use Rattle.sst_parts.specs.RowTexts.{rows_text}
use Rattle.sst_parts.specs.Blocks.{block_text}
use Rattle.sst_parts.specs.BlockLists.{joined_blocks}
use Rattle.sst_parts.specs.Seeking.{first_from}
use Rattle.kv_base.specs.declared.table.TableDesc.{TableDesc}
use Rattle.sst_grammar.specs.Judging.{judged_table}
use Rattle.sst_grammar.specs.Placing.{AreAt}
use Rattle.sst_file.specs.States.{AreTableParts, rows_of_table}
use Rattle.sst_file.specs.Searching.{HasBlock, AreBlocksLeft, FoundIn, with_raw_key, ends_below}
use Rattle.sst_file.specs.SearchLaws.{first_or, seen_first, first_joined, block_in_front}

-- ---- a block as it is read

pub body_read : (rows : List Row) (block body rest : Bytes) → block ≡ block_text rows → length block < 2 ^ 32 → read_text block ≡ Some (body, rest) → body ≡ rows_text rows
unfolding block_text
body_read rows block body rest is short h =
    let all = rows_text rows in
    let long = ap (λ (b : Bytes). length b) is in
    let parts = length-text all in
    let read : read_text (text all) ≡ Some (all, []) = ap read_text (sym (append-nil (text all))) ∙ text_is_read all (omega (arith, long, parts, short)) [] in
    let same : (body, rest) ≡ (all, []) = same_some (body, rest) (all, []) (sym h ∙ ap read_text is ∙ read) in
    ap (λ (f : Bytes × Bytes). f.0) same

pub body_there : (rows : List Row) (block : Bytes) → block ≡ block_text rows → length block < 2 ^ 32 → read_text block ≡ None → ⊥
unfolding block_text
body_there rows block is short h =
    let all = rows_text rows in
    let long = ap (λ (b : Bytes). length b) is in
    let parts = length-text all in
    let read : ◌≡◌ {A = Option (Bytes × Bytes)} None (Some (all, [])) = sym h ∙ ap read_text is ∙ ap read_text (sym (append-nil (text all))) ∙ text_is_read all (omega (arith, long, parts, short)) [] in
    absurd (cc)

-- ---- what is left of the blocks

-- the next spot has a block
pub has_block : (raw : Bytes) (s : ℕ) (spot : Spot) (spots : List Spot) (bytes : Bytes) → AreBlocksLeft raw s (spot ∷ spots) bytes → HasBlock spot bytes
has_block raw s spot spots bytes left = by_blocks left.blocks left.placed
  where
    by_blocks : (bs : List (List Row)) → AreAt (spot ∷ spots) bs bytes → HasBlock spot bytes
    by_blocks [] h = absurd h
    by_blocks (rows ∷ more) h = (rows, h.3, h.0)

none_mapped : (raw : Bytes) (o : Option Row) → None ≡ option_map (with_raw_key raw) o → o ≡ None
none_mapped raw None h = refl
none_mapped raw (Some row) h = absurd (cc)

pub none_found : (raw : Bytes) (s : ℕ) (spot : Spot) (spots : List Spot) (bytes : Bytes) → AreBlocksLeft raw s (spot ∷ spots) bytes → FoundIn raw s spot None bytes → AreBlocksLeft raw s spots bytes
none_found raw s spot spots bytes left found = by_blocks left.blocks left.placed left.first
  where
    by_blocks : (bs : List (List Row)) → AreAt (spot ∷ spots) bs bytes → first_from raw s left.rows ≡ first_from raw s (joined_blocks bs) → AreBlocksLeft raw s spots bytes
    by_blocks [] h first = absurd h
    by_blocks (rows ∷ more) h first =
        let none = none_mapped raw (first_from raw s rows) (found rows h.3 h.0) in
        record {
          rows = left.rows;
          judged_is = left.judged_is;
          order = left.order;
          blocks = more;
          placed = h.4;
          first = first ∙ first_joined raw s rows (joined_blocks more) ∙ ap (λ o. first_or o (first_from raw s (joined_blocks more))) none;
        }

some_mapped : (raw : Bytes) (o : Option Row) (row : Option Row) (other : Option Row) → Some row ≡ option_map (with_raw_key raw) o → row ≡ option_and_then (with_raw_key raw) (first_or o other)
some_mapped raw None row other h = absurd (cc)
some_mapped raw (Some r) row other h = same_some row (with_raw_key raw r) h

-- the rows are those that the table tells
told_rows : (bytes : Bytes) (rows : List Row) (P : List Row → Type 0) → judged_table bytes ≡ Ok rows → P rows → IfSome (rows_of_table (Some bytes)) P
told_rows bytes rows P is p = subst (λ (r : Result (List Row) ℕ). IfSome (result_ok r) P) (sym is) p

pub some_found : (raw : Bytes) (s : ℕ) (spot : Spot) (spots : List Spot) (bytes : Bytes) (row : Option Row) → AreBlocksLeft raw s (spot ∷ spots) bytes → FoundIn raw s spot (Some row) bytes
    → IfSome (rows_of_table (Some bytes)) (λ rows. row ≡ seen_at rows s raw)
some_found raw s spot spots bytes row left found = told_rows bytes left.rows (λ rows. row ≡ seen_at rows s raw) left.judged_is (by_blocks left.blocks left.placed left.first)
  where
    by_blocks : (bs : List (List Row)) → AreAt (spot ∷ spots) bs bytes → first_from raw s left.rows ≡ first_from raw s (joined_blocks bs) → row ≡ seen_at left.rows s raw
    by_blocks [] h first = absurd h
    by_blocks (rows ∷ more) h first =
        some_mapped raw (first_from raw s rows) row (first_from raw s (joined_blocks more)) (found rows h.3 h.0)
        ∙ ap (option_and_then (with_raw_key raw)) (sym (first_joined raw s rows (joined_blocks more)) ∙ sym first)
        ∙ sym (seen_first left.rows raw s left.order.0)

pub nothing_found : (raw : Bytes) (s : ℕ) (bytes : Bytes) → AreBlocksLeft raw s [] bytes → IfSome (rows_of_table (Some bytes)) (λ rows. None ≡ seen_at rows s raw)
unfolding first_from
nothing_found raw s bytes left = told_rows bytes left.rows (λ rows. None ≡ seen_at rows s raw) left.judged_is (by_blocks left.blocks left.placed left.first)
  where
    by_blocks : (bs : List (List Row)) → AreAt [] bs bytes → first_from raw s left.rows ≡ first_from raw s (joined_blocks bs) → None ≡ seen_at left.rows s raw
    by_blocks [] h first = sym (seen_first left.rows raw s left.order.0 ∙ ap (option_and_then (with_raw_key raw)) first)
    by_blocks (rows ∷ more) h first = absurd h

-- ---- where a search begins

pub ordered_front : (rows more : List Row) → is_ordered (rows ++ more) ≡ true → is_ordered rows ≡ true
unfolding is_ordered
ordered_front [] more h = refl
ordered_front (row ∷ rows) more h =
    both (leads row rows) (is_ordered rows) (leads_front rows (both_first (leads row (rows ++ more)) (is_ordered (rows ++ more)) h)) (ordered_front rows more (both_second (leads row (rows ++ more)) (is_ordered (rows ++ more)) h))
  where
    both : (a b : Bool) → a ≡ true → b ≡ true → (a && b) ≡ true
    both a b e f = rw (e, f) refl

    leads_front : (rs : List Row) → leads row (rs ++ more) ≡ true → leads row rs ≡ true
    leads_front [] h = refl
    leads_front (r ∷ rs) h = both (is_lt (row_cmp row r)) (leads row rs) (both_first (is_lt (row_cmp row r)) (leads row (rs ++ more)) h) (leads_front rs (both_second (is_lt (row_cmp row r)) (leads row (rs ++ more)) h))

pub ordered_back : (rows more : List Row) → is_ordered (rows ++ more) ≡ true → is_ordered more ≡ true
unfolding is_ordered
ordered_back [] more h = h
ordered_back (row ∷ rows) more h = ordered_back rows more (both_second (leads row (rows ++ more)) (is_ordered (rows ++ more)) h)

-- blocks in front of which all rows stand are passed over
passed : (raw : Bytes) (s n : ℕ) (spots : List Spot) (blocks : List (List Row)) (bytes : Bytes) → AreAt spots blocks bytes → is_ordered (joined_blocks blocks) ≡ true
    → ((i : ℕ) (d : Spot) → i < n → i < length spots → ends_below raw (get_or spots i d) ≡ true)
    → (bs : List (List Row)) × AreAt (drop n spots) bs bytes × (first_from raw s (joined_blocks blocks) ≡ first_from raw s (joined_blocks bs))
passed raw s zero spots blocks bytes placed order below = (blocks, placed, refl)
passed raw s (suc n) [] [] bytes placed order below = ([], tt, refl)
passed raw s (suc n) [] (rows ∷ more) bytes placed order below = absurd placed
passed raw s (suc n) (spot ∷ spots) [] bytes placed order below = absurd placed
passed raw s (suc n) (spot ∷ spots) (rows ∷ more) bytes placed order below =
    let behind = passed raw s n spots more bytes placed.4 (ordered_back rows (joined_blocks more) order) (λ i d low in_range. below (suc i) d (omega arith) (omega arith)) in
    let none = block_in_front rows spot.last raw s (ordered_front rows (joined_blocks more) order) placed.1 (below 0 spot (omega arith) (omega arith)) in
    (behind.0, behind.1, first_joined raw s rows (joined_blocks more) ∙ ap (λ o. first_or o (first_from raw s (joined_blocks more))) none ∙ behind.2)

pub search_begins : (raw : Bytes) (s n : ℕ) (spots : List Spot) (bits : Bytes) (desc : TableDesc) (bytes : Bytes) → AreTableParts spots bits desc bytes
    → ((i : ℕ) (d : Spot) → i < n → i < length spots → ends_below raw (get_or spots i d) ≡ true) → AreBlocksLeft raw s (drop n spots) bytes
search_begins raw s n spots bits desc bytes parts below =
    let it = passed raw s n spots parts.blocks bytes parts.placed (subst (λ (rs : List Row). is_ordered rs ≡ true) parts.whole parts.order.0) below in
    record {
      rows = parts.rows;
      judged_is = parts.judged_is;
      order = parts.order;
      blocks = it.0;
      placed = it.1;
      first = ap (first_from raw s) parts.whole ∙ it.2;
    }
