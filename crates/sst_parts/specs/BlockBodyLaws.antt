-- Laws on what stands in `BlockBodies.antt`.
use Rattle.std.proofs.Common.{◌≡◌, ℕ, zero, suc, ◌<◌, ◌^◌, List, [], ◌∷◌, ◌++◌, refl, ap, subst, ◌∙◌, Bool, true, false, cond, length, Option, Some, None, option_and_then, length-append, arith}
use Rattle.std.specs.Prelude.{◌==◌, ◌&&◌, nat_lt, IsTrue}
use Rattle.std.specs.declared.cmp.Ordering.TheVariants.{Less}
use Rattle.std.specs.Ordering.{is_lt}
use Rattle.std.proofs.lemmas.Bool.Decides.{nat_tests}
use Rattle.kv_base.specs.Map.{Bytes}
use Rattle.kv_base.specs.Fields.{u64, text}
use Rattle.kv_base.specs.FieldLaws.{length-u64, length-text}
use Rattle.kv_base.specs.InversionLaws.{same_some, and_then_is, map_is, both_first, both_second}
use Rattle.kv_base.specs.RowLaws.{raw_is_short, value_is_short, value_has_raw}
use Rattle.kv_base.specs.declared.row.Row.{Row}
use Rattle.row_model.specs.Rows.{is_row_text, are_row_texts}
use Rattle.row_model.specs.RowOrder.{row_cmp, leads, is_ordered}
use Rattle.row_model.specs.RowOrderLaws.{row_total}
use Rattle.kv_base.specs.TestLaws.{less_is}
use Rattle.sst_parts.specs.RowTexts.{row_parts, row_text, rows_text}
use Rattle.sst_parts.specs.RowTextLaws.{row_text_is_read, only_row_text_is_read, length-row}
use Rattle.sst_parts.specs.Blocks.{is_row_behind, is_next_row, has_room, read_next, then_rows, read_rows, read_block_body}
use Rattle.sst_parts.specs.BlockLaws.{next_is_row, behind_next, rows_left, left_next}
use Rattle.sst_parts.specs.Seeking.{AreReadable}
use Rattle.sst_parts.specs.BlockBodies.{are_u64, is_chain, have_room, AreRowsIn, last_row}

both : (a b : Bool) → a ≡ true → b ≡ true → (a && b) ≡ true
both a b e f = rw (e, f) refl

-- ---- rows on their grammar have room

short_parts : (raw : Bytes) (seq : ℕ) (value : Option Bytes) → is_row_text (record { raw = raw; seq = seq; value = value }) ≡ true → length (row_parts raw seq value) < 2 ^ 21
short_parts raw seq (Some value) h =
    let a = length-append (text raw) (u64 seq ++ text value) in
    let b = length-append (u64 seq) (text value) in
    let r = length-text raw in
    let s = length-u64 seq in
    let v = length-text value in
    let raw_low = raw_is_short raw (value_has_raw raw value h) in
    let value_low = value_is_short raw value h in
    omega (arith, a, b, r, s, v, raw_low, value_low)
short_parts raw seq None h =
    let a = length-append (text raw) (u64 seq) in
    let r = length-text raw in
    let s = length-u64 seq in
    let raw_low = raw_is_short raw h in
    omega (arith, a, r, s, raw_low)

pub short_row : (row : Row) → IsTrue (is_row_text row) → length (row_text row) < 2 ^ 21
unfolding row_text
short_row row h = short_parts row.raw row.seq row.value h

low_seq : (row : Row) → nat_lt row.seq (2 ^ 64) ≡ true → row.seq < 2 ^ 64
low_seq row h = grind (arith, nat_tests)

pub readable_rows : (rows : List Row) → IsTrue (are_row_texts rows) → IsTrue (are_u64 rows) → AreReadable rows
readable_rows [] h k = tt
readable_rows (row ∷ rows) h k =
    let short = short_row row (both_first (is_row_text row) (are_row_texts rows) h) in (
      omega (arith, short),
      low_seq row (both_first (nat_lt row.seq (2 ^ 64)) (are_u64 rows) k),
      readable_rows rows (both_second (is_row_text row) (are_row_texts rows) h) (both_second (nat_lt row.seq (2 ^ 64)) (are_u64 rows) k),
    )

-- ---- rows of which each may stand behind the one before it

next_row : (whole : ℕ) (last : Option Row) (row : Row) (rest : Bytes) → length (row_text row) < 2 ^ 32 → row.seq < 2 ^ 64 → is_next_row last row ≡ true → has_room whole (row_text row ++ rest) ≡ true
    → read_next whole last (row_text row ++ rest) ≡ Some (row, rest)
unfolding read_next
next_row whole last row rest short low next room =
    ap (λ o. option_and_then (λ f. cond (is_next_row last f.0 && has_room whole (row_text row ++ rest)) (Some f) None) o) (row_text_is_read row rest short low)
    ∙ ap (λ b. cond b (Some (row, rest)) None) (both (is_next_row last row) (has_room whole (row_text row ++ rest)) next room)

not_empty : (row : Row) (rest : Bytes) → (length (row_text row ++ rest) == 0) ≡ false
not_empty row rest =
    let parts = length-append (row_text row) rest in
    let some = length-row row in
    grind (arith, nat_tests)

pub rows_are_read : (whole : ℕ) (last : Option Row) (rows : List Row) → AreReadable rows → is_chain last rows ≡ true → have_room whole rows ≡ true → rows_left whole last (rows_text rows) ≡ Some rows
unfolding read_rows
rows_are_read whole last [] readable chain room = refl
rows_are_read whole last (row ∷ rows) readable chain room =
    let rest = rows_text rows in
    let next = next_row whole last row rest readable.0 readable.1 (both_first (is_next_row last row) (is_chain (Some row) rows) chain) (both_first (has_room whole (row_text row ++ rest)) (have_room whole rows) room) in
    left_next whole last (row_text row ++ rest) (row, rest) next (not_empty row rest)
    ∙ ap (then_rows row) (rows_are_read whole (Some row) rows readable.2 (both_second (is_next_row last row) (is_chain (Some row) rows) chain) (both_second (has_room whole (row_text row ++ rest)) (have_room whole rows) room))

pub block_body_is_read : (last : Option Row) (rows : List Row) → AreReadable rows → is_chain last rows ≡ true → have_room (length (rows_text rows)) rows ≡ true → read_block_body last (rows_text rows) ≡ Some rows
unfolding read_block_body
block_body_is_read last rows readable chain room = rows_are_read (length (rows_text rows)) last rows readable chain room

-- ---- nothing else is read

only_rows : (whole most : ℕ) (last : Option Row) (rest : Bytes) (rows : List Row) → read_rows whole most last rest ≡ Some rows → AreRowsIn whole last rest rows
unfolding read_rows
only_rows whole most last [] rows h = subst (λ (rs : List Row). AreRowsIn whole last [] rs) (same_some [] rows h) (record { spelled = refl; readable = tt; chain = refl; room = refl })
only_rows whole zero last (b ∷ rest) rows h = absurd (cc)
only_rows whole (suc most) last (b ∷ rest) rows h =
    let front = and_then_is (behind_next whole most) (read_next whole last (b ∷ rest)) rows h in
    let row = front.0.0 in
    let more = map_is (λ (rs : List Row). row ∷ rs) (read_rows whole most (Some row) front.0.1) rows front.2 in
    let it = next_is_row whole last (b ∷ rest) front.0 front.1 in
    let is = only_row_text_is_read (b ∷ rest) front.0 it.0 in
    let others = only_rows whole most (Some row) front.0.1 more.0 more.1 in
    let spelled : b ∷ rest ≡ rows_text (row ∷ more.0) = is.spelled ∙ ap (λ (l : Bytes). row_text row ++ l) others.spelled in
    let short = short_row row (both_second (is_row_behind last row) (is_row_text row) it.1) in
    subst (λ (rs : List Row). AreRowsIn whole last (b ∷ rest) rs) more.2 (record {
      spelled = spelled;
      readable = (omega (arith, short), is.low, others.readable);
      chain = both (is_next_row last row) (is_chain (Some row) more.0) it.1 others.chain;
      room = both (has_room whole (rows_text (row ∷ more.0))) (have_room whole more.0) (subst (λ (l : Bytes). has_room whole l ≡ true) spelled it.2) others.room;
    })

pub only_block_body_is_read : (last : Option Row) (body : Bytes) (rows : List Row) → read_block_body last body ≡ Some rows → AreRowsIn (length body) last body rows
unfolding read_block_body
only_block_body_is_read last body rows h = only_rows (length body) (length body) last body rows h

-- ---- a chain and rows in order

pub leads_on : (row other : Row) (rows : List Row) → row_cmp row other ≡ Less → leads other rows ≡ true → leads row rows ≡ true
leads_on row other [] e h = refl
leads_on row other (r ∷ rows) e h =
    both (is_lt (row_cmp row r)) (leads row rows)
    (ap is_lt (row_total.trans row other r e (less_is (row_cmp other r) (both_first (is_lt (row_cmp other r)) (leads other rows) h))))
    (leads_on row other rows e (both_second (is_lt (row_cmp other r)) (leads other rows) h))

chain_leads : (row : Row) (rows : List Row) → is_chain (Some row) rows ≡ true → leads row rows ≡ true
chain_leads row [] h = refl
chain_leads row (other ∷ rows) h =
    let next = both_first (is_next_row (Some row) other) (is_chain (Some other) rows) h in
    let order = both_first (is_row_behind (Some row) other) (is_row_text other) next in
    both (is_lt (row_cmp row other)) (leads row rows) order
    (leads_on row other rows (less_is (row_cmp row other) order) (chain_leads other rows (both_second (is_next_row (Some row) other) (is_chain (Some other) rows) h)))

pub chain_ordered : (last : Option Row) (rows : List Row) → is_chain last rows ≡ true → IsTrue (is_ordered rows)
unfolding is_ordered
chain_ordered last [] h = refl
chain_ordered last (row ∷ rows) h =
    let behind = both_second (is_next_row last row) (is_chain (Some row) rows) h in
    both (leads row rows) (is_ordered rows) (chain_leads row rows behind) (chain_ordered (Some row) rows behind)

pub chain_texts : (last : Option Row) (rows : List Row) → is_chain last rows ≡ true → IsTrue (are_row_texts rows)
chain_texts last [] h = refl
chain_texts last (row ∷ rows) h =
    both (is_row_text row) (are_row_texts rows) (both_second (is_row_behind last row) (is_row_text row) (both_first (is_next_row last row) (is_chain (Some row) rows) h))
    (chain_texts (Some row) rows (both_second (is_next_row last row) (is_chain (Some row) rows) h))

ordered_behind : (last : Row) (rows : List Row) → leads last rows ≡ true → is_ordered rows ≡ true → are_row_texts rows ≡ true → is_chain (Some last) rows ≡ true
unfolding is_ordered
ordered_behind last [] lead order texts = refl
ordered_behind last (row ∷ rows) lead order texts =
    both (is_next_row (Some last) row) (is_chain (Some row) rows)
    (both (is_row_behind (Some last) row) (is_row_text row) (both_first (is_lt (row_cmp last row)) (leads last rows) lead) (both_first (is_row_text row) (are_row_texts rows) texts))
    (ordered_behind row rows (both_first (leads row rows) (is_ordered rows) order) (both_second (leads row rows) (is_ordered rows) order) (both_second (is_row_text row) (are_row_texts rows) texts))

pub ordered_chain : (rows : List Row) → IsTrue (is_ordered rows) → IsTrue (are_row_texts rows) → is_chain None rows ≡ true
unfolding is_ordered
ordered_chain [] order texts = refl
ordered_chain (row ∷ rows) order texts =
    both (is_next_row None row) (is_chain (Some row) rows) (both_first (is_row_text row) (are_row_texts rows) texts)
    (ordered_behind row rows (both_first (leads row rows) (is_ordered rows) order) (both_second (leads row rows) (is_ordered rows) order) (both_second (is_row_text row) (are_row_texts rows) texts))

-- ---- chains in two parts

pub chain_front : (last : Option Row) (rows more : List Row) → is_chain last (rows ++ more) ≡ true → is_chain last rows ≡ true
chain_front last [] more h = refl
chain_front last (row ∷ rows) more h =
    both (is_next_row last row) (is_chain (Some row) rows) (both_first (is_next_row last row) (is_chain (Some row) (rows ++ more)) h) (chain_front (Some row) rows more (both_second (is_next_row last row) (is_chain (Some row) (rows ++ more)) h))

pub chain_back : (last : Option Row) (rows more : List Row) → is_chain last (rows ++ more) ≡ true → is_chain (last_row last rows) more ≡ true
chain_back last [] more h = h
chain_back last (row ∷ rows) more h = chain_back (Some row) rows more (both_second (is_next_row last row) (is_chain (Some row) (rows ++ more)) h)

pub chain_joined : (last : Option Row) (rows more : List Row) → is_chain last rows ≡ true → is_chain (last_row last rows) more ≡ true → is_chain last (rows ++ more) ≡ true
chain_joined last [] more h k = k
chain_joined last (row ∷ rows) more h k =
    both (is_next_row last row) (is_chain (Some row) (rows ++ more)) (both_first (is_next_row last row) (is_chain (Some row) rows) h) (chain_joined (Some row) rows more (both_second (is_next_row last row) (is_chain (Some row) rows) h) k)
