-- The steps of a walk over the rows of a table, whose bytes may not be told.
use Rattle.std.proofs.Common.{◌≡◌, ℕ, suc, ◌-◌, ◌<◌, ◌≤◌, ◌^◌, List, [], ◌∷◌, ◌++◌, refl, sym, ap, subst, ◌∙◌, true, false, length, drop, get_or, Option, Some, None, IfSome, option_map, length-append, arith}
use Rattle.std.specs.Prelude.{not}
use Rattle.std.specs.List.{flat_map}
use Rattle.std.specs.List.Sorted.{IsPartitionPoint, IsPartitionedBy}
use Rattle.std.specs.Result.{result_ok}
use Rattle.std.proofs.lemmas.List.Elements.{filter-append}
use Rattle.kv_base.specs.Map.{Bytes}
use Rattle.kv_base.specs.declared.row.Row.{Row}
use Rattle.kv_base.specs.declared.name.TableId.{TableId}
use Rattle.kv_base.specs.declared.fault.StoreFault.{StoreFault}
use Rattle.kv_base.specs.declared.fault.StoreFault.TheVariants.{Failed, Damaged, NoMem}
use Rattle.kv_outside.specs.Causes.{IsCause}
use Rattle.kv_base.specs.declared.table.TableDesc.{TableDesc}
use Rattle.row_model.specs.RowOrder.{is_below, is_ordered}
use Rattle.merge_rows.specs.Cursors.{AreInOrder, Takes}
use Rattle.sst_parts.specs.declared.index.Spot.{Spot}
use Rattle.sst_parts.specs.RowTexts.{row_text, rows_text}
use Rattle.sst_parts.specs.RowTextLaws.{length-row}
use Rattle.sst_parts.specs.BlockLists.{joined_blocks}
use Rattle.sst_parts.specs.Seeking.{AreReadable}
use Rattle.sst_grammar.specs.Placing.{AreAt}
use Rattle.sst_file.specs.States.{AreTableParts, StandsForTable, off_where_untold, rows_of_table}
use Rattle.sst_file.specs.Searching.{HasBlock, ends_below}
use Rattle.sst_file.specs.SearchOrderLaws.{lasts_rise}
use Rattle.sst_file.specs.Walking.{rows_from, spelled_upto, spelled_rows, rows_of_block, rows_unread, bytes_ahead, AreAhead, AreBlocksAhead, IsBodyAt, IsNextTaken, IsOffIn}
use Rattle.sst_file.proofs.Walks.{ahead_is, order_back, next_leads, next_ahead, in_order_from, ArePassed, blocks_passed, passed_are_below, passed_ahead}
use Rattle.sst_file.proofs.InBlock.{damage_untold}
use Rattle.sst_file.proofs.SearchLoop.{drop_next, drop_end}

-- what is told of the rows that a walk has left
unread_told : (raw rest : Bytes) (next : ℕ) (spots : List Spot) (bytes : Bytes) (ahead : AreAhead rest (drop next spots) bytes)
    → rows_unread raw rest next spots (Some bytes) ≡ Some (rows_from raw (ahead.rows ++ joined_blocks ahead.blocks))
unread_told raw rest next spots bytes ahead = ap (λ (rs : List Row). Some (rows_from raw rs)) (ahead_is rest (drop next spots) bytes ahead)

-- ---- a row of the block that was read

-- what `take` tells
abbrev pub IsTakenOf : Bytes → Bytes → Option Row → Bytes → Type 0
IsTakenOf raw rest found now = (rows : List Row) → AreReadable rows → rest ≡ rows_text rows → IsNextTaken raw rows found now

module _ (raw rest now : Bytes) (next : ℕ) (spots : List Spot) where
  module _ (row : Row) (taken : IsTakenOf raw rest (Some row) now) where
    pub row_ahead : (held : Option Bytes) → IfSome held (AreAhead rest (drop next spots)) → IfSome held (AreAhead now (drop next spots))
    row_ahead None ahead = tt
    row_ahead (Some bytes) ahead = next_ahead raw rest (drop next spots) bytes row now ahead (taken ahead.rows ahead.readable ahead.spelled)

    pub row_takes : (held : Option Bytes) → IfSome held (AreAhead rest (drop next spots)) → Takes (rows_unread raw rest next spots held) (Some row) (rows_unread raw now next spots held)
    unfolding next_ahead
    row_takes None ahead = refl
    row_takes (Some bytes) ahead =
        let it = taken ahead.rows ahead.readable ahead.spelled in
        let behind = next_ahead raw rest (drop next spots) bytes row now ahead it in
        let all : rows_unread raw rest next spots (Some bytes) ≡ Some (row ∷ rows_from raw (it.more ++ joined_blocks ahead.blocks)) =
        unread_told raw rest next spots bytes ahead ∙ ap (λ (rs : List Row). Some rs) (next_leads raw ahead.rows (joined_blocks ahead.blocks) row now it) in
        subst (λ o. Takes o (Some row) (rows_unread raw now next spots (Some bytes))) (sym all) (refl, unread_told raw now next spots bytes behind)

  module _ (taken : IsTakenOf raw rest None now) where
    pub none_ahead : (held : Option Bytes) → IfSome held (AreAhead rest (drop next spots)) → IfSome held (AreBlocksAhead now (drop next spots))
    none_ahead None ahead = tt
    none_ahead (Some bytes) ahead =
        let it = taken ahead.rows ahead.readable ahead.spelled in
        record {
          none = it.1;
          ahead = record {
            rows = [];
            spelled = it.1;
            readable = tt;
            blocks = ahead.blocks;
            placed = ahead.placed;
            order = order_back ahead.rows (joined_blocks ahead.blocks) ahead.order;
          };
        }

    pub none_unread : (held : Option Bytes) → IfSome held (AreAhead rest (drop next spots)) → rows_unread raw now next spots held ≡ rows_unread raw rest next spots held
    unfolding none_ahead
    none_unread None ahead = refl
    none_unread (Some bytes) ahead =
        let it = taken ahead.rows ahead.readable ahead.spelled in
        unread_told raw now next spots bytes (none_ahead (Some bytes) ahead).ahead
        ∙ ap (λ (rs : List Row). Some (rs ++ rows_from raw (joined_blocks ahead.blocks))) (sym it.0)
        ∙ ap (λ (rs : List Row). Some rs) (sym (filter-append (λ r. not (is_below raw r)) ahead.rows (joined_blocks ahead.blocks)))
        ∙ sym (unread_told raw rest next spots bytes ahead)

-- ---- the next block

no_rows : (rows : List Row) → [] ≡ rows_text rows → rows ≡ []
no_rows [] is = refl
no_rows (row ∷ rows) is =
    let long = ap (λ (b : Bytes). length b) is in
    let parts = length-append (row_text row) (rows_text rows) in
    let some = length-row row in
    absurd (omega (arith, long, parts, some))

placed_first : (spot : Spot) (spots : List Spot) (blocks : List (List Row)) (bytes : Bytes) → AreAt (spot ∷ spots) blocks bytes → (rows : List Row) × (more : List (List Row)) × (blocks ≡ rows ∷ more) × AreAt (spot ∷ spots) (rows ∷ more) bytes
placed_first spot spots [] bytes placed = absurd placed
placed_first spot spots (rows ∷ more) bytes placed = (rows, more, refl, placed)

module _ (rest : Bytes) (at next : ℕ) (spots slice : List Spot) (spot : Spot) (same_place : next ≡ at) (is : slice ≡ spots) (there_in : spot ≡ get_or slice at spot) (low_in : at < length slice) where
  there : spot ≡ get_or spots next spot
  there = there_in ∙ (λ i. get_or (is i) (sym same_place i) spot)

  low : next < length spots
  low = let long = ap (λ (l : List Spot). length l) is in omega (arith, long, low_in, same_place)

  behind_at : (then : ℕ) → then ≡ suc at → then ≡ suc next
  behind_at then moved = moved ∙ ap (λ (n : ℕ). suc n) (sym same_place)

  at_spot : (bytes : Bytes) → AreBlocksAhead rest (drop next spots) bytes → AreBlocksAhead rest (spot ∷ drop (suc next) spots) bytes
  at_spot bytes = subst (λ (l : List Spot). AreBlocksAhead rest l bytes) (drop_next spots next spot there low)

  pub block_next : (held : Option Bytes) → IfSome held (AreBlocksAhead rest (drop next spots)) → IfSome held (HasBlock spot)
  block_next None ahead = tt
  block_next (Some bytes) ahead =
      let it = placed_first spot (drop (suc next) spots) (at_spot bytes ahead).ahead.blocks bytes (at_spot bytes ahead).ahead.placed in
      (it.0, it.3.3, it.3.0)

  entered : (now bytes : Bytes) → AreBlocksAhead rest (drop next spots) bytes → IsBodyAt spot now bytes → AreAhead now (drop (suc next) spots) bytes
  entered now bytes ahead body =
      let was = at_spot bytes ahead in
      let it = placed_first spot (drop (suc next) spots) was.ahead.blocks bytes was.ahead.placed in
      record {
        rows = it.0;
        spelled = body it.0 it.3.3 it.3.0;
        readable = it.3.3;
        blocks = it.1;
        placed = it.3.4;
        order = subst (λ (bs : List (List Row)). AreInOrder (joined_blocks bs)) it.2 (order_back was.ahead.rows (joined_blocks was.ahead.blocks) was.ahead.order);
      }

  pub block_ahead : (now : Bytes) (then : ℕ) → then ≡ suc at → (held : Option Bytes) → IfSome held (AreBlocksAhead rest (drop next spots)) → IfSome held (IsBodyAt spot now) → IfSome held (AreAhead now (drop then spots))
  block_ahead now then moved None ahead body = tt
  block_ahead now then moved (Some bytes) ahead body = subst (λ (n : ℕ). AreAhead now (drop n spots) bytes) (sym (behind_at then moved)) (entered now bytes ahead body)

  pub block_unread : (raw now : Bytes) (then : ℕ) → then ≡ suc at → (held : Option Bytes) → IfSome held (AreBlocksAhead rest (drop next spots)) → IfSome held (IsBodyAt spot now)
      → rows_unread raw now then spots held ≡ rows_unread raw rest next spots held
  unfolding entered placed_first
  block_unread raw now then moved None ahead body = refl
  block_unread raw now then moved (Some bytes) ahead body =
      let was = at_spot bytes ahead in
      let it = placed_first spot (drop (suc next) spots) was.ahead.blocks bytes was.ahead.placed in
      let new = entered now bytes ahead body in
      ap (λ (n : ℕ). rows_unread raw now n spots (Some bytes)) (behind_at then moved)
      ∙ unread_told raw now (suc next) spots bytes new
      ∙ ap (λ (bs : List (List Row)). Some (rows_from raw (joined_blocks bs))) (sym it.2)
      ∙ ap (λ (rs : List Row). Some (rows_from raw (rs ++ joined_blocks was.ahead.blocks))) (sym (no_rows was.ahead.rows (sym (was.none) ∙ was.ahead.spelled)))
      ∙ ap (λ (rs : List Row). Some (rows_from raw rs)) (sym (ahead_is rest (spot ∷ drop (suc next) spots) bytes was.ahead))
      ∙ ap (λ (l : List Spot). Some (rows_from raw (spelled_rows rest ++ flat_map (rows_of_block bytes) l))) (sym (drop_next spots next spot there low))

-- a block has fewer bytes than it counts
pub fewer_ahead : (first rest read now : Bytes) (begin next then : ℕ) (spots : List Spot) → then ≡ suc next → next < length spots → length read < 2 ^ 32 → length now ≤ length read → bytes_ahead rest next spots ≤ bytes_ahead first begin spots
    → bytes_ahead now then spots ≤ bytes_ahead first begin spots
fewer_ahead first rest read now begin next then spots moved low short fewer was =
    let one : length spots - next ≡ suc (length spots - then) = omega (arith, moved, low) in
    omega (arith, one, short, fewer, was)

pub low_is : (spots slice : List Spot) (next at : ℕ) → next ≡ at → slice ≡ spots → at < length slice → next < length spots
low_is spots slice next at same is low = let long = ap (λ (l : List Spot). length l) is in omega (arith, long, low, same)

-- ---- the end

pub ended : (spots slice : List Spot) (next at : ℕ) → next ≡ at → slice ≡ spots → length slice ≤ at → length spots ≤ next
ended spots slice next at same is high = let long = ap (λ (l : List Spot). length l) is in omega (arith, long, high, same)

pub end_takes : (raw rest : Bytes) (next : ℕ) (spots : List Spot) (held : Option Bytes) → length spots ≤ next → IfSome held (AreBlocksAhead rest (drop next spots)) → Takes (rows_unread raw rest next spots held) None (rows_unread raw rest next spots held)
unfolding spelled_upto
end_takes raw rest next spots None high ahead = refl
end_takes raw rest next spots (Some bytes) high ahead =
    subst (λ o. Takes o None o) (sym none) (refl, refl)
  where
    none : rows_unread raw rest next spots (Some bytes) ≡ Some []
    none = ap (λ (l : List Spot). Some (rows_from raw (spelled_rows rest ++ flat_map (rows_of_block bytes) l))) (drop_end spots next high)
        ∙ ap (λ (b : Bytes). Some (rows_from raw (spelled_rows b ++ []))) ahead.none

-- ---- what is told of all steps

pub unread_in_order : (raw rest : Bytes) (next : ℕ) (spots : List Spot) (held : Option Bytes) → IfSome held (AreAhead rest (drop next spots)) → IfSome (rows_unread raw rest next spots held) AreInOrder
unread_in_order raw rest next spots None ahead = tt
unread_in_order raw rest next spots (Some bytes) ahead =
    subst AreInOrder (ap (rows_from raw) (sym (ahead_is rest (drop next spots) bytes ahead))) (in_order_from raw (ahead.rows ++ joined_blocks ahead.blocks) ahead.order)

pub off_untold : (before now : ℕ) (id : TableId) (rest : Bytes) (spots : List Spot) (held : Option Bytes) (fault : StoreFault) → IfSome held (AreAhead rest spots) → IsOffIn id rest fault → IsCause before now (off_where_untold id held) fault
off_untold before now id rest spots held Failed ahead off = absurd off
off_untold before now id rest spots held NoMem ahead off = tt
off_untold before now id rest spots held (Damaged file place) ahead off =
    damage_untold before now id held place (Damaged file place) (ap (λ f. Damaged f place) off.0) (never held ahead)
  where
    never : (o : Option Bytes) → IfSome o (AreAhead rest spots) → IfSome o (λ bytes. ⊥)
    never None a = tt
    never (Some bytes) a = off.1 a.rows a.readable a.spelled

-- ---- where a walk begins

module _ (raw rest : Bytes) (n next : ℕ) (spots slice : List Spot) (bits : Bytes) (desc : TableDesc) (none : rest ≡ []) (moved : next ≡ n) (is : slice ≡ spots)
    (split : IsPartitionedBy (ends_below raw) slice → IsPartitionPoint (λ spot. ends_below raw spot ≡ true) (λ spot. ends_below raw spot ≡ false) slice n) where
  passed : (bytes : Bytes) (parts : AreTableParts spots bits desc bytes) → ArePassed raw (joined_blocks parts.blocks) (drop n spots) bytes
  passed bytes parts =
      let found : IsPartitionPoint (λ spot. ends_below raw spot ≡ true) (λ spot. ends_below raw spot ≡ false) spots n =
      subst (λ (l : List Spot). IsPartitionedBy (ends_below raw) l → IsPartitionPoint (λ spot. ends_below raw spot ≡ true) (λ spot. ends_below raw spot ≡ false) l n) is split (lasts_rise spots bits desc bytes raw parts) in
      blocks_passed raw n spots parts.blocks bytes parts.placed (subst (λ (rs : List Row). is_ordered rs ≡ true) parts.whole parts.order.0) (λ i d low in_range. found.0 i d (omega arith) low)

  begun : (bytes : Bytes) (parts : AreTableParts spots bits desc bytes) → AreAhead [] (drop n spots) bytes
  begun bytes parts = passed_ahead raw (joined_blocks parts.blocks) (drop n spots) bytes (subst AreInOrder parts.whole parts.order) (passed bytes parts)

  pub walk_begins : (held : Option Bytes) → StandsForTable spots bits desc held → IfSome held (AreAhead rest (drop next spots))
  walk_begins None stands = tt
  walk_begins (Some bytes) parts = subst (λ (b : Bytes). AreAhead b (drop next spots) bytes) (sym none) (subst (λ (k : ℕ). AreAhead [] (drop k spots) bytes) (sym moved) (begun bytes parts))

  pub walk_tells : (held : Option Bytes) (rows : Option (List Row)) → StandsForTable spots bits desc held → rows_of_table held ≡ rows → rows_unread raw rest next spots held ≡ option_map (rows_from raw) rows
  unfolding begun passed_ahead
  walk_tells None rows stands told = ap (option_map (rows_from raw)) told
  walk_tells (Some bytes) rows parts told =
      ap (λ (b : Bytes). rows_unread raw b next spots (Some bytes)) none
      ∙ ap (λ (k : ℕ). rows_unread raw [] k spots (Some bytes)) moved
      ∙ unread_told raw [] n spots bytes (begun bytes parts)
      ∙ ap (λ (rs : List Row). Some rs) (sym (ap (rows_from raw) parts.whole ∙ passed_are_below raw (joined_blocks parts.blocks) (drop n spots) bytes (passed bytes parts)))
      ∙ ap (option_map (rows_from raw)) (sym (ap result_ok parts.judged_is) ∙ told)
