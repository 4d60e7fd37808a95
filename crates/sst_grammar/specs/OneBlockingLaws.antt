-- Rows stand in blocks in one way.
use Rattle.std.proofs.Common.{◌≡◌, ◌≢◌, ℕ, ◌+◌, ◌-◌, ◌<◌, List, [], ◌∷◌, ◌++◌, refl, sym, ap, ◌∙◌, Bool, true, false, cond, length, append_assoc, append-nil, length-append, arith}
use Rattle.std.specs.Prelude.{nat_lt, nat_le, fold}
use Rattle.std.proofs.lemmas.Bool.Decides.{nat_tests}
use Rattle.kv_base.specs.Map.{Bytes}
use Rattle.kv_base.specs.InversionLaws.{both_first, both_second}
use Rattle.kv_base.specs.declared.row.Row.{Row}
use Rattle.sst_parts.specs.RowTexts.{rows_text}
use Rattle.sst_parts.specs.Blocks.{block_size, is_full, has_room, Filled, with_block_row, filled, close_last, blocks}
use Rattle.sst_parts.specs.BlockBodies.{have_room}
use Rattle.sst_parts.specs.BlockLists.{joined_blocks, IsBlock, AreBlocks}
use Rattle.sst_parts.specs.BlockListLaws.{rows_text-append}

abbrev so_far : List (List Row) → List Row → Filled
so_far closed waiting = record { closed = closed; waiting = waiting }

abbrev closing : Bool → List (List Row) → List Row → Filled
closing full closed rows = cond full (so_far (closed ++ rows ∷ []) []) (so_far closed rows)

not_full : (done : List Row) (row r : Row) (rs : List Row) (whole : ℕ) → whole ≡ length (rows_text (done ++ row ∷ r ∷ rs)) → has_room whole (rows_text (r ∷ rs)) ≡ true → is_full (done ++ row ∷ []) ≡ false
not_full done row r rs whole is room =
    let split = ap (λ (l : List Row). length (rows_text l)) (append_assoc done (row ∷ []) (r ∷ rs)) in
    let parts = ap (λ (b : Bytes). length b) (rows_text-append (done ++ row ∷ []) (r ∷ rs)) ∙ length-append (rows_text (done ++ row ∷ [])) (rows_text (r ∷ rs)) in
    below (length (rows_text (done ++ row ∷ []))) (length (rows_text (r ∷ rs))) whole (omega (arith, is, split, parts)) room
  where
    below : (a b w : ℕ) → w ≡ a + b → nat_lt (w - b) block_size ≡ true → nat_le block_size a ≡ false
    below a b w e h = let low : w - b < block_size = grind (arith, nat_tests) in let less : a < block_size = omega (arith, e, low) in grind (arith, nat_tests)

-- the rows of a block, one after the other
one_block : (closed : List (List Row)) (done : List Row) (row : Row) (rest : List Row) (whole : ℕ) → whole ≡ length (rows_text (done ++ row ∷ rest)) → have_room whole rest ≡ true
    → fold with_block_row (so_far closed done) (row ∷ rest) ≡ closing (is_full (done ++ row ∷ rest)) closed (done ++ row ∷ rest)
unfolding with_block_row
one_block closed done row [] whole is room = refl
one_block closed done row (r ∷ rs) whole is room =
    let open_still = not_full done row r rs whole is (both_first (has_room whole (rows_text (r ∷ rs))) (have_room whole rs) room) in
    let joined = append_assoc done (row ∷ []) (r ∷ rs) in
    ap (λ b. fold with_block_row (closing b closed (done ++ row ∷ [])) (r ∷ rs)) open_still
    ∙ one_block closed (done ++ row ∷ []) r rs whole (is ∙ ap (λ (l : List Row). length (rows_text l)) (sym joined)) (both_second (has_room whole (rows_text (r ∷ rs))) (have_room whole rs) room)
    ∙ ap (λ (l : List Row). closing (is_full l) closed l) joined

pub block_filled : (closed : List (List Row)) (rows : List Row) → IsBlock rows → fold with_block_row (so_far closed []) rows ≡ closing (is_full rows) closed rows
block_filled closed [] block = absurd (block.some refl)
block_filled closed (row ∷ rest) block =
    one_block closed [] row rest (length (rows_text (row ∷ rest))) refl (both_second (has_room (length (rows_text (row ∷ rest))) (rows_text (row ∷ rest))) (have_room (length (rows_text (row ∷ rest))) rest) block.room)

fold-append : (f : Filled) (rows more : List Row) → fold with_block_row f (rows ++ more) ≡ fold with_block_row (fold with_block_row f rows) more
fold-append f [] more = refl
fold-append f (row ∷ rows) more = fold-append (with_block_row f row) rows more

abbrev closed_at_last : Filled → List (List Row)
closed_at_last f = close_last f.closed f.waiting

last_closed : (full : Bool) (closed : List (List Row)) (rows : List Row) → rows ≢ [] → closed_at_last (closing full closed rows) ≡ closed ++ rows ∷ []
last_closed true closed rows some = refl
last_closed false closed [] some = absurd (some refl)
last_closed false closed (row ∷ rows) some = refl

refilled : (closed bs : List (List Row)) → AreBlocks bs → closed_at_last (fold with_block_row (so_far closed []) (joined_blocks bs)) ≡ closed ++ bs
refilled closed [] h = sym (append-nil closed)
refilled closed (rows ∷ []) h =
    ap (λ (l : List Row). closed_at_last (fold with_block_row (so_far closed []) l)) (append-nil rows)
    ∙ ap closed_at_last (block_filled closed rows h)
    ∙ last_closed (is_full rows) closed rows h.some
refilled closed (rows ∷ next ∷ more) h =
    ap closed_at_last (fold-append (so_far closed []) rows (joined_blocks (next ∷ more)))
    ∙ ap (λ f. closed_at_last (fold with_block_row f (joined_blocks (next ∷ more)))) (block_filled closed rows h.0.block ∙ ap (λ b. closing b closed rows) h.0.full)
    ∙ refilled (closed ++ rows ∷ []) (next ∷ more) h.1
    ∙ append_assoc closed (rows ∷ []) (next ∷ more)

-- blocks of which each but the last is full, and none has a row too many, are those of their rows
pub blocks_again : (bs : List (List Row)) → AreBlocks bs → blocks (joined_blocks bs) ≡ bs
unfolding blocks filled
blocks_again bs h = refilled [] bs h
