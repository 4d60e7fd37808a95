-- What a walk over the rows of a table comes to.
use Rattle.std.proofs.Common.{◌≡◌, ℕ, zero, suc, ◌<◌, ◌≤◌, List, [], ◌∷◌, ◌++◌, refl, sym, ap, subst, ◌∙◌, Bool, true, false, cond, length, drop, get_or, append_assoc, length-append, arith}
use Rattle.std.specs.Prelude.{◌&&◌, not, IsTrue}
use Rattle.std.specs.List.{flat_map, list_all}
use Rattle.std.specs.declared.cmp.Ordering.TheVariants.{Less}
use Rattle.std.specs.Ordering.{is_lt}
use Rattle.std.proofs.lemmas.List.{drop_at}
use Rattle.std.proofs.lemmas.List.Elements.{filter-append}
use Rattle.kv_base.specs.Map.{Bytes, byte_cmp}
use Rattle.kv_base.specs.Fields.{text}
use Rattle.kv_base.specs.FieldLaws.{length-u32}
use Rattle.kv_base.specs.InversionLaws.{both_first, both_second}
use Rattle.kv_base.specs.TestLaws.{less_is}
use Rattle.kv_base.specs.declared.row.Row.{Row}
use Rattle.row_model.specs.Rows.{is_row_text, are_row_texts}
use Rattle.row_model.specs.RowOrder.{row_cmp, leads, is_ordered, is_below}
use Rattle.merge_rows.specs.Cursors.{AreInOrder}
use Rattle.sst_parts.specs.declared.index.Spot.{Spot}
use Rattle.sst_parts.specs.RowTexts.{row_text, rows_text, read_row}
use Rattle.sst_parts.specs.RowTextLaws.{row_text_is_read, length-row}
use Rattle.sst_parts.specs.Blocks.{block_text}
use Rattle.sst_parts.specs.BlockLists.{joined_blocks}
use Rattle.sst_parts.specs.Index.{last_raw}
use Rattle.sst_parts.specs.Seeking.{AreReadable}
use Rattle.sst_grammar.specs.Judging.{slice_at}
use Rattle.sst_grammar.specs.Placing.{AreAt}
use Rattle.sst_file.specs.Searching.{ends_below}
use Rattle.sst_file.specs.SearchLaws.{last_of, last_raw_is, below_last}
use Rattle.sst_file.specs.SearchStepLaws.{ordered_front, ordered_back}
use Rattle.sst_file.specs.Walking.{rows_from, with_rows_behind, spelled_upto, spelled_rows, rows_of_block, AreAhead, IsNextReached}

-- ---- rows and their bytes

no_more_rows : (rows : List Row) → length rows ≤ length (rows_text rows)
no_more_rows [] = omega arith
no_more_rows (row ∷ rows) = omega (arith, length-append (row_text row) (rows_text rows), length-row row, no_more_rows rows)

spelled_all : (most : ℕ) (rows : List Row) → length rows ≤ most → AreReadable rows → spelled_upto most (rows_text rows) ≡ rows
unfolding spelled_upto read_row
spelled_all zero [] room readable = refl
spelled_all zero (row ∷ rows) room readable = absurd (omega (arith, room))
spelled_all (suc most) [] room readable = refl
spelled_all (suc most) (row ∷ rows) room readable =
    ap (with_rows_behind (spelled_upto most)) (row_text_is_read row (rows_text rows) readable.0 readable.1) ∙ ap (λ (rs : List Row). row ∷ rs) (spelled_all most rows (omega (arith, room)) readable.2)

pub rows_are_spelled : (rows : List Row) (bytes : Bytes) → AreReadable rows → bytes ≡ rows_text rows → spelled_rows bytes ≡ rows
rows_are_spelled rows bytes readable is = ap spelled_rows is ∙ spelled_all (length (rows_text rows)) rows (no_more_rows rows) readable

behind_length : (t : Bytes) → drop 4 (text t) ≡ t
unfolding text
behind_length t = drop_at _ t 4 (length-u32 (length t))

block_spelled : (bytes : Bytes) (spot : Spot) (rows : List Row) → AreReadable rows → slice_at spot.place spot.bytes bytes ≡ block_text rows → rows_of_block bytes spot ≡ rows
unfolding block_text
block_spelled bytes spot rows readable is =
    rows_are_spelled rows (drop 4 (slice_at spot.place spot.bytes bytes)) readable (ap (λ (b : Bytes). drop 4 b) is ∙ behind_length (rows_text rows))

blocks_spelled : (spots : List Spot) (blocks : List (List Row)) (bytes : Bytes) → AreAt spots blocks bytes → flat_map (rows_of_block bytes) spots ≡ joined_blocks blocks
blocks_spelled [] [] bytes placed = refl
blocks_spelled [] (rows ∷ more) bytes placed = absurd placed
blocks_spelled (spot ∷ spots) [] bytes placed = absurd placed
blocks_spelled (spot ∷ spots) (rows ∷ more) bytes placed =
    ap (λ (rs : List Row). rs ++ flat_map (rows_of_block bytes) spots) (block_spelled bytes spot rows placed.3 placed.0) ∙ ap (λ (rs : List Row). rows ++ rs) (blocks_spelled spots more bytes placed.4)

-- what is ahead, by its rows
pub ahead_is : (rest : Bytes) (spots : List Spot) (bytes : Bytes) (ahead : AreAhead rest spots bytes) → spelled_rows rest ++ flat_map (rows_of_block bytes) spots ≡ ahead.rows ++ joined_blocks ahead.blocks
ahead_is rest spots bytes ahead = λ i. rows_are_spelled ahead.rows rest ahead.readable ahead.spelled i ++ blocks_spelled spots ahead.blocks bytes ahead.placed i

-- ---- the rows behind some

pub texts_back : (front more : List Row) → IsTrue (are_row_texts (front ++ more)) → IsTrue (are_row_texts more)
texts_back [] more h = h
texts_back (row ∷ rows) more h = texts_back rows more (both_second (is_row_text row) (are_row_texts (rows ++ more)) h)

pub order_back : (front more : List Row) → AreInOrder (front ++ more) → AreInOrder more
order_back front more h = (ordered_back front more h.0, texts_back front more h.1)

pub readable_back : (front more : List Row) → AreReadable (front ++ more) → AreReadable more
readable_back [] more h = h
readable_back (row ∷ rows) more h = readable_back rows more h.2

-- ---- the next row

pub next_leads : (raw : Bytes) (rows behind : List Row) (row : Row) (now : Bytes) (next : IsNextReached raw rows row now) → rows_from raw (rows ++ behind) ≡ row ∷ rows_from raw (next.more ++ behind)
next_leads raw rows behind row now next =
    ap (λ (rs : List Row). rows_from raw (rs ++ behind)) next.are
    ∙ ap (rows_from raw) (append_assoc next.passed (row ∷ next.more) behind)
    ∙ filter-append (λ r. not (is_below raw r)) next.passed (row ∷ (next.more ++ behind))
    ∙ ap (λ (rs : List Row). rs ++ rows_from raw (row ∷ (next.more ++ behind))) next.below
    ∙ ap (λ b. cond (not b) (row ∷ rows_from raw (next.more ++ behind)) (rows_from raw (next.more ++ behind))) next.reaches

unfoldable pub next_ahead : (raw rest : Bytes) (spots : List Spot) (bytes : Bytes) (row : Row) (now : Bytes) (ahead : AreAhead rest spots bytes) → IsNextReached raw ahead.rows row now → AreAhead now spots bytes
next_ahead raw rest spots bytes row now ahead next =
    let behind = next.more ++ joined_blocks ahead.blocks in
    record {
      rows = next.more;
      spelled = next.spelled;
      readable = (readable_back next.passed (row ∷ next.more) (subst AreReadable next.are ahead.readable)).2;
      blocks = ahead.blocks;
      placed = ahead.placed;
      order = order_back (row ∷ []) behind (order_back next.passed (row ∷ behind)
          (subst AreInOrder (ap (λ (rs : List Row). rs ++ joined_blocks ahead.blocks) next.are ∙ append_assoc next.passed (row ∷ next.more) (joined_blocks ahead.blocks)) ahead.order));
    }

-- ---- the rows from a raw key on are in order too

one_from : (p : Row → Bool) (raw : Bytes) (row : Row) (rows : List Row) (b : Bool) → (p row && list_all p (rows_from raw rows)) ≡ true → list_all p (cond b (row ∷ rows_from raw rows) (rows_from raw rows)) ≡ true
one_from p raw row rows true h = h
one_from p raw row rows false h = both_second (p row) (list_all p (rows_from raw rows)) h

all_from : (p : Row → Bool) (raw : Bytes) (rows : List Row) → list_all p rows ≡ true → list_all p (rows_from raw rows) ≡ true
all_from p raw [] h = refl
all_from p raw (row ∷ rows) h = one_from p raw row rows (not (is_below raw row)) (both (p row) (list_all p (rows_from raw rows)) (both_first (p row) (list_all p rows) h) (all_from p raw rows (both_second (p row) (list_all p rows) h)))
  where
    both : (a b : Bool) → a ≡ true → b ≡ true → (a && b) ≡ true
    both a b e f = rw (e, f) refl

ordered_from : (raw : Bytes) (rows : List Row) → is_ordered rows ≡ true → is_ordered (rows_from raw rows) ≡ true
unfolding is_ordered
ordered_from raw [] h = refl
ordered_from raw (row ∷ rows) h =
    one (not (is_below raw row)) (ordered_from raw rows (both_second (leads row rows) (is_ordered rows) h)) (all_from (λ other. is_lt (row_cmp row other)) raw rows (both_first (leads row rows) (is_ordered rows) h))
  where
    one : (b : Bool) → is_ordered (rows_from raw rows) ≡ true → leads row (rows_from raw rows) ≡ true → is_ordered (cond b (row ∷ rows_from raw rows) (rows_from raw rows)) ≡ true
    one true order lead = rw (lead, order) refl
    one false order lead = order

pub in_order_from : (raw : Bytes) (rows : List Row) → AreInOrder rows → AreInOrder (rows_from raw rows)
in_order_from raw rows h = (ordered_from raw rows h.0, all_from is_row_text raw rows h.1)

-- ---- where a walk begins

all_below : (row : Row) (rows : List Row) (raw : Bytes) → is_ordered (row ∷ rows) ≡ true → byte_cmp (last_of row rows).raw raw ≡ Less → rows_from raw (row ∷ rows) ≡ []
unfolding is_ordered last_of
all_below row [] raw order low = ap (λ b. cond (not b) (row ∷ []) []) (ap is_lt low)
all_below row (r ∷ rows) raw order low =
    ap (λ b. cond (not b) (row ∷ rows_from raw (r ∷ rows)) (rows_from raw (r ∷ rows))) (ap is_lt (below_last row (r ∷ rows) raw order low))
    ∙ all_below r rows raw (both_second (leads row (r ∷ rows)) (is_ordered (r ∷ rows)) order) low

block_below : (rows : List Row) (last raw : Bytes) → is_ordered rows ≡ true → last_raw [] rows ≡ last → is_lt (byte_cmp last raw) ≡ true → rows_from raw rows ≡ []
block_below [] last raw order is low = refl
block_below (row ∷ rows) last raw order is low =
    all_below row rows raw order (ap (λ (k : Bytes). byte_cmp k raw) (sym (last_raw_is [] row rows) ∙ is) ∙ less_is (byte_cmp last raw) low)

-- blocks in front are passed over, since all their rows are below the raw key
pub record ArePassed (raw : Bytes) (rows : List Row) (spots : List Spot) (bytes : Bytes) : Type 0 where
  pub blocks : List (List Row)
  pub placed : AreAt spots blocks bytes
  pub front : List Row
  pub are : rows ≡ front ++ joined_blocks blocks
  pub below : rows_from raw front ≡ []

pub blocks_passed : (raw : Bytes) (n : ℕ) (spots : List Spot) (blocks : List (List Row)) (bytes : Bytes) → AreAt spots blocks bytes → is_ordered (joined_blocks blocks) ≡ true
    → ((i : ℕ) (d : Spot) → i < n → i < length spots → ends_below raw (get_or spots i d) ≡ true) → ArePassed raw (joined_blocks blocks) (drop n spots) bytes
blocks_passed raw zero spots blocks bytes placed order below = record { blocks = blocks; placed = placed; front = []; are = refl; below = refl }
blocks_passed raw (suc n) [] [] bytes placed order below = record { blocks = []; placed = tt; front = []; are = refl; below = refl }
blocks_passed raw (suc n) [] (rows ∷ more) bytes placed order below = absurd placed
blocks_passed raw (suc n) (spot ∷ spots) [] bytes placed order below = absurd placed
blocks_passed raw (suc n) (spot ∷ spots) (rows ∷ more) bytes placed order below =
    let behind = blocks_passed raw n spots more bytes placed.4 (ordered_back rows (joined_blocks more) order) (λ i d low in_range. below (suc i) d (omega arith) (omega arith)) in
    let none = block_below rows spot.last raw (ordered_front rows (joined_blocks more) order) placed.1 (below 0 spot (omega arith) (omega arith)) in
    record {
      blocks = behind.blocks;
      placed = behind.placed;
      front = rows ++ behind.front;
      are = ap (λ (rs : List Row). rows ++ rs) behind.are ∙ sym (append_assoc rows behind.front (joined_blocks behind.blocks));
      below = filter-append (λ r. not (is_below raw r)) rows behind.front ∙ (λ i. none i ++ behind.below i);
    }

pub passed_are_below : (raw : Bytes) (rows : List Row) (spots : List Spot) (bytes : Bytes) (passed : ArePassed raw rows spots bytes) → rows_from raw rows ≡ rows_from raw (joined_blocks passed.blocks)
passed_are_below raw rows spots bytes passed =
    ap (rows_from raw) passed.are
    ∙ filter-append (λ r. not (is_below raw r)) passed.front (joined_blocks passed.blocks)
    ∙ ap (λ (rs : List Row). rs ++ rows_from raw (joined_blocks passed.blocks)) passed.below

unfoldable pub passed_ahead : (raw : Bytes) (rows : List Row) (spots : List Spot) (bytes : Bytes) → AreInOrder rows → ArePassed raw rows spots bytes → AreAhead [] spots bytes
passed_ahead raw rows spots bytes order passed = record {
  rows = [];
  spelled = refl;
  readable = tt;
  blocks = passed.blocks;
  placed = passed.placed;
  order = order_back passed.front (joined_blocks passed.blocks) (subst AreInOrder passed.are order);
}
