-- What is known of the bytes of a table file that was found to be on its grammar.
use Rattle.std.proofs.Common.{◌≡◌, ◌≢◌, ℕ, List, [], ◌∷◌, ◌++◌, refl, ap, subst, ◌∙◌, Bool, true, length, Option, Some, None, option_and_then, Result, Ok, Err, append-nil}
use Rattle.std.specs.Prelude.{◌&&◌, ◌||◌, not}
use Rattle.kv_base.specs.Map.{Bytes, same, same_is}
use Rattle.kv_base.specs.MetaValues.{is_empty}
use Rattle.kv_base.specs.Fields.{text, read_text}
use Rattle.kv_base.specs.FieldLaws.{only_text_is_read}
use Rattle.kv_base.specs.InversionLaws.{and_then_is, if_is, kept_is, both_first, both_second}
use Rattle.kv_base.specs.declared.row.Row.{Row}
use Rattle.sst_parts.specs.declared.index.Spot.{Spot}
use Rattle.sst_parts.specs.RowTexts.{rows_text}
use Rattle.sst_parts.specs.Blocks.{is_full, read_block_body, block_text}
use Rattle.sst_parts.specs.BlockBodies.{is_chain, last_row, have_room}
use Rattle.sst_parts.specs.BlockBodyLaws.{only_block_body_is_read, chain_joined}
use Rattle.sst_parts.specs.BlockLists.{joined_blocks, IsBlock, AreBlocks}
use Rattle.sst_parts.specs.Index.{last_raw}
use Rattle.sst_parts.specs.Seeking.{AreReadable}
use Rattle.sst_grammar.specs.Judging.{slice_at, or_off, then_judged, has_none, are_of_spot, whole_body, read_block, rows_in_front, judged_blocks}
use Rattle.sst_grammar.specs.Placing.{AreAt}

-- ---- verdicts

pub same_ok : {X Y : Type 0} (x y : X) → ◌≡◌ {A = Result X Y} (Ok x) (Ok y) → x ≡ y
same_ok x y e = cc

pub then_is : {X Y : Type 0} (r : Result X ℕ) (next : X → Result Y ℕ) (y : Y) → then_judged r next ≡ Ok y → (x : X) × (r ≡ Ok x) × (next x ≡ Ok y)
then_is (Err place) next y h = absurd (cc)
then_is (Ok x) next y h = (x, refl, h)

pub or_off_is : {X : Type 0} (place : ℕ) (o : Option X) (x : X) → or_off place o ≡ Ok x → o ≡ Some x
or_off_is place None x h = absurd (cc)
or_off_is place (Some y) x h = ap (λ z. Some z) (same_ok {Y = ℕ} y x h)

-- ---- one block

empty_is : (bytes : Bytes) → is_empty bytes ≡ true → bytes ≡ []
empty_is [] e = refl
empty_is (b ∷ bytes) e = absurd (cc)

not_none : (rows : List Row) → not (has_none rows) ≡ true → rows ≢ []
not_none [] h e = absurd (cc)
not_none (row ∷ rows) h e = absurd (cc)

pub record IsBlockAt (is_last : Bool) (before : Option Row) (spot : Spot) (block : Bytes) (rows : List Row) : Type 0 where
  pub spelled : block ≡ block_text rows
  pub last : last_raw [] rows ≡ spot.last
  pub some : rows ≢ []
  pub readable : AreReadable rows
  pub chain : is_chain before rows ≡ true
  pub room : have_room (length (rows_text rows)) rows ≡ true
  pub full : (is_last || is_full rows) ≡ true

pub block_is : (is_last : Bool) (before : Option Row) (spot : Spot) (block : Bytes) (rows : List Row) → read_block is_last before spot block ≡ Some rows → IsBlockAt is_last before spot block rows
unfolding read_block block_text
block_is is_last before spot block rows h =
    let passed = kept_is (are_of_spot is_last spot) (option_and_then (whole_body before) (read_text block)) rows h in
    let front = and_then_is (whole_body before) (read_text block) rows passed.0 in
    let body = front.0.0 in
    let test = if_is (is_empty front.0.1) (read_block_body before body) rows front.2 in
    let it = only_block_body_is_read before body rows test.1 in
    let spelled : block ≡ text body ++ front.0.1 = (only_text_is_read block body front.0.1 front.1).0 in
    let named = both_first (not (has_none rows) && same (last_raw [] rows) spot.last) (is_last || is_full rows) passed.1 in
    record {
      spelled = spelled ∙ ap (λ (b : Bytes). text body ++ b) (empty_is front.0.1 test.0) ∙ append-nil (text body) ∙ ap text it.spelled;
      last = same_is (last_raw [] rows) spot.last (both_second (not (has_none rows)) (same (last_raw [] rows) spot.last) named);
      some = not_none rows (both_first (not (has_none rows)) (same (last_raw [] rows) spot.last) named);
      readable = it.readable;
      chain = it.chain;
      room = subst (λ (b : Bytes). have_room (length b) rows ≡ true) it.spelled it.room;
      full = both_second (not (has_none rows) && same (last_raw [] rows) spot.last) (is_last || is_full rows) passed.1;
    }

-- ---- all blocks

in_front_is : (part rows : List Row) (r : Result (List Row) ℕ) → rows_in_front part r ≡ Ok rows → (more : List Row) × (r ≡ Ok more) × (part ++ more ≡ rows)
in_front_is part rows (Err place) h = absurd (cc)
in_front_is part rows (Ok more) h = (more, refl, same_ok {Y = ℕ} (part ++ more) rows h)

-- a block that is not the last is full
full_then : (spots : List Spot) (part : List Row) (more : List (List Row)) (bytes : Bytes) → AreAt spots more bytes → IsBlock part → (has_none spots || is_full part) ≡ true → AreBlocks more → AreBlocks (part ∷ more)
full_then spots part [] bytes placed block full behind = block
full_then [] part (next ∷ more) bytes placed block full behind = absurd placed
full_then (spot ∷ spots) part (next ∷ more) bytes placed block full behind = (record { block = block; full = full }, behind)

pub record AreBlocksAt (before : Option Row) (spots : List Spot) (bytes : Bytes) (rows : List Row) : Type 0 where
  pub blocks : List (List Row)
  pub whole : rows ≡ joined_blocks blocks
  pub placed : AreAt spots blocks bytes
  pub chain : is_chain before rows ≡ true
  pub full : AreBlocks blocks

pub blocks_at : (before : Option Row) (spots : List Spot) (bytes : Bytes) (rows : List Row) → judged_blocks before spots bytes ≡ Ok rows → AreBlocksAt before spots bytes rows
unfolding judged_blocks
blocks_at before [] bytes rows h =
    subst (λ (rs : List Row). AreBlocksAt before [] bytes rs) (same_ok {Y = ℕ} [] rows h) (record { blocks = []; whole = refl; placed = tt; chain = refl; full = tt })
blocks_at before (spot ∷ spots) bytes rows h =
    let slice = slice_at spot.place spot.bytes bytes in
    let first = then_is (or_off spot.place (read_block (has_none spots) before spot slice)) (λ part. rows_in_front part (judged_blocks (last_row before part) spots bytes)) rows h in
    let part = first.0 in
    let block = block_is (has_none spots) before spot slice part (or_off_is spot.place (read_block (has_none spots) before spot slice) part first.1) in
    let more = in_front_is part rows (judged_blocks (last_row before part) spots bytes) first.2 in
    let behind = blocks_at (last_row before part) spots bytes more.0 more.1 in
    subst (λ (rs : List Row). AreBlocksAt before (spot ∷ spots) bytes rs) more.2 (record {
      blocks = part ∷ behind.blocks;
      whole = ap (λ (rs : List Row). part ++ rs) behind.whole;
      placed = (block.spelled, block.last, block.some, block.readable, behind.placed);
      chain = chain_joined before part more.0 block.chain behind.chain;
      full = full_then spots part behind.blocks bytes behind.placed (record { some = block.some; room = block.room }) block.full behind.full;
    })
