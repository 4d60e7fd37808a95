-- Laws on what stands in `BlockLists.antt`.
use Rattle.std.proofs.Common.{◌≡◌, ◌≢◌, ℕ, ◌-◌, ◌<◌, List, [], ◌∷◌, ◌++◌, refl, sym, ap, subst, ◌∙◌, Bool, true, false, cond, length, append_assoc, append-nil, length-append, arith}
use Rattle.std.specs.Prelude.{◌&&◌, nat_lt, fold}
use Rattle.std.proofs.lemmas.Bool.Decides.{nat_tests}
use Rattle.kv_base.specs.Map.{Bytes}
use Rattle.kv_base.specs.declared.row.Row.{Row}
use Rattle.sst_parts.specs.RowTexts.{row_text, rows_text}
use Rattle.sst_parts.specs.Blocks.{block_size, is_full, has_room, Filled, with_block_row, nothing_filled, filled, close_last, blocks}
use Rattle.sst_parts.specs.BlockBodies.{have_room}
use Rattle.sst_parts.specs.BlockLists.{joined_blocks, IsBlock, IsFullBlock, AreFull, AreWaiting, AreIn, AreBlocks}

both : (a b : Bool) → a ≡ true → b ≡ true → (a && b) ≡ true
both a b e f = rw (e, f) refl

pub joined_blocks-append : (blocks more : List (List Row)) → joined_blocks (blocks ++ more) ≡ joined_blocks blocks ++ joined_blocks more
joined_blocks-append [] more = refl
joined_blocks-append (rows ∷ blocks) more = ap (λ (l : List Row). rows ++ l) (joined_blocks-append blocks more) ∙ sym (append_assoc rows (joined_blocks blocks) (joined_blocks more))

pub rows_text-append : (rows more : List Row) → rows_text (rows ++ more) ≡ rows_text rows ++ rows_text more
rows_text-append [] more = refl
rows_text-append (row ∷ rows) more = ap (λ (l : Bytes). row_text row ++ l) (rows_text-append rows more) ∙ sym (append_assoc (row_text row) (rows_text rows) (rows_text more))

-- ---- where each row of a block begins

-- rows in front leave room for one more, as they and those in front of them together do
rooms : (done rest : List Row) (row : Row) (whole : ℕ) → length (rows_text (done ++ rest)) < block_size → whole ≡ length (rows_text (done ++ (rest ++ row ∷ []))) → have_room whole (rest ++ row ∷ []) ≡ true
rooms done [] row whole low is =
    let split = ap (λ (b : Bytes). length b) (rows_text-append done (row ∷ [])) ∙ length-append (rows_text done) (rows_text (row ∷ [])) in
    let front = ap (λ (rs : List Row). length (rows_text rs)) (append-nil done) in
    both (has_room whole (rows_text (row ∷ []))) true (within whole (length (rows_text (row ∷ []))) (omega (arith, is, split, low, front))) refl
  where
    within : (w n : ℕ) → w - n < block_size → nat_lt (w - n) block_size ≡ true
    within w n h = grind (arith, nat_tests)
rooms done (r ∷ rest) row whole low is =
    let tail = r ∷ (rest ++ row ∷ []) in
    let split = ap (λ (b : Bytes). length b) (rows_text-append done tail) ∙ length-append (rows_text done) (rows_text tail) in
    let front = ap (λ (b : Bytes). length b) (rows_text-append done (r ∷ rest)) ∙ length-append (rows_text done) (rows_text (r ∷ rest)) in
    let moved = append_assoc done (r ∷ []) rest in
    let again = append_assoc done (r ∷ []) (rest ++ row ∷ []) in
    both (has_room whole (rows_text tail)) (have_room whole (rest ++ row ∷ []))
    (within whole (length (rows_text tail)) (omega (arith, is, split, low, front)))
    (rooms (done ++ r ∷ []) rest row whole (subst (λ (rs : List Row). length (rows_text rs) < block_size) (sym moved) low) (is ∙ ap (λ (rs : List Row). length (rows_text rs)) (sym again)))
  where
    within : (w n : ℕ) → w - n < block_size → nat_lt (w - n) block_size ≡ true
    within w n h = grind (arith, nat_tests)

-- ---- a block

full-push : (closed : List (List Row)) (rows : List Row) → AreFull closed → IsFullBlock rows → AreFull (closed ++ rows ∷ [])
full-push [] rows h k = (k, tt)
full-push (b ∷ closed) rows h k = (h.0, full-push closed rows h.1 k)

ends_some : (rows : List Row) (row : Row) → rows ++ row ∷ [] ≢ []
ends_some [] row e = absurd (cc)
ends_some (r ∷ rows) row e = absurd (cc)

block_with : (waiting : List Row) (row : Row) → length (rows_text waiting) < block_size → IsBlock (waiting ++ row ∷ [])
block_with waiting row low = record { some = ends_some waiting row; room = rooms [] waiting row (length (rows_text (waiting ++ row ∷ []))) low refl }

-- ---- filling

pub none_in : AreIn nothing_filled []
none_in = record { full = tt; waiting = record { low = omega arith; room = refl }; whole = refl }

in_with : (f : Filled) (rows now : List Row) (row : Row) → AreFull f.closed → length (rows_text f.waiting) < block_size → rows ≡ joined_blocks f.closed ++ f.waiting → now ≡ f.waiting ++ row ∷ [] → (b : Bool) → is_full now ≡ b
    → AreIn (cond b (record { closed = f.closed ++ now ∷ []; waiting = [] }) (record { closed = f.closed; waiting = now })) (rows ++ row ∷ [])
in_with f rows now row full low whole is true t =
    let block = subst IsBlock (sym is) (block_with f.waiting row low) in
    record {
      full = full-push f.closed now full (record { block = block; full = t });
      waiting = record { low = omega arith; room = refl };
      whole = ap (λ (rs : List Row). rs ++ row ∷ []) whole ∙ append_assoc (joined_blocks f.closed) f.waiting (row ∷ []) ∙ ap (λ (rs : List Row). joined_blocks f.closed ++ rs) (sym is ∙ sym (append-nil now)) ∙ sym (joined_blocks-append f.closed (now ∷ [])) ∙ sym (append-nil (joined_blocks (f.closed ++ now ∷ [])));
    }
in_with f rows now row full low whole is false t = record {
  full = full;
  waiting = record { low = open_low now t; room = subst (λ (rs : List Row). have_room (length (rows_text rs)) rs ≡ true) (sym is) (block_with f.waiting row low).room };
  whole = ap (λ (rs : List Row). rs ++ row ∷ []) whole ∙ append_assoc (joined_blocks f.closed) f.waiting (row ∷ []) ∙ ap (λ (rs : List Row). joined_blocks f.closed ++ rs) (sym is);
}
  where
    open_low : (rs : List Row) → is_full rs ≡ false → length (rows_text rs) < block_size
    open_low rs h = grind (arith, nat_tests)

pub in_with_row : (f : Filled) (rows : List Row) (row : Row) → AreIn f rows → AreIn (with_block_row f row) (rows ++ row ∷ [])
unfolding with_block_row
in_with_row f rows row h = in_with f rows (f.waiting ++ row ∷ []) row h.full h.waiting.low h.whole refl (is_full (f.waiting ++ row ∷ [])) refl

in_all : (f : Filled) (done rows : List Row) → AreIn f done → AreIn (fold with_block_row f rows) (done ++ rows)
in_all f done [] h = subst (AreIn f) (sym (append-nil done)) h
in_all f done (row ∷ rows) h = subst (AreIn (fold with_block_row (with_block_row f row) rows)) (append_assoc done (row ∷ []) rows) (in_all (with_block_row f row) (done ++ row ∷ []) rows (in_with_row f done row h))

pub in_filled : (rows : List Row) → AreIn (filled rows) rows
unfolding filled
in_filled rows = in_all nothing_filled [] rows none_in

-- one row more
pub filled-push : (rows : List Row) (row : Row) → filled (rows ++ row ∷ []) ≡ with_block_row (filled rows) row
unfolding filled
filled-push rows row = pushed nothing_filled rows
  where
    pushed : (f : Filled) (rs : List Row) → fold with_block_row f (rs ++ row ∷ []) ≡ with_block_row (fold with_block_row f rs) row
    pushed f [] = refl
    pushed f (r ∷ rs) = pushed (with_block_row f r) rs

-- ---- the blocks

blocks_then : (closed : List (List Row)) (last : List Row) → AreFull closed → IsBlock last → AreBlocks (closed ++ last ∷ [])
blocks_then [] last h k = k
blocks_then (rows ∷ []) last h k = (h.0, k)
blocks_then (rows ∷ next ∷ more) last h k = (h.0, blocks_then (next ∷ more) last h.1 k)

blocks_closed : (closed : List (List Row)) → AreFull closed → AreBlocks closed
blocks_closed [] h = tt
blocks_closed (rows ∷ []) h = h.0.block
blocks_closed (rows ∷ next ∷ more) h = (h.0, blocks_closed (next ∷ more) h.1)

closed_blocks : (closed : List (List Row)) (waiting : List Row) → AreFull closed → AreWaiting waiting → AreBlocks (close_last closed waiting)
closed_blocks closed [] h k = blocks_closed closed h
closed_blocks closed (row ∷ rows) h k = blocks_then closed (row ∷ rows) h (record { some = (λ e. absurd (cc)); room = k.room })

all_closed : (closed : List (List Row)) (waiting : List Row) → joined_blocks (close_last closed waiting) ≡ joined_blocks closed ++ waiting
all_closed closed [] = sym (append-nil (joined_blocks closed))
all_closed closed (row ∷ rows) = joined_blocks-append closed ((row ∷ rows) ∷ []) ∙ ap (λ (rs : List Row). joined_blocks closed ++ rs) (append-nil (row ∷ rows))

pub blocks_are : (rows : List Row) → AreBlocks (blocks rows)
unfolding blocks
blocks_are rows = let it = in_filled rows in closed_blocks (filled rows).closed (filled rows).waiting it.full it.waiting

pub blocks_whole : (rows : List Row) → joined_blocks (blocks rows) ≡ rows
unfolding blocks
blocks_whole rows = let it = in_filled rows in all_closed (filled rows).closed (filled rows).waiting ∙ sym it.whole
