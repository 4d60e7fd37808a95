-- The last raw keys of a table's blocks rise, so a binary search finds the first block that may have a raw key.
use Rattle.std.proofs.Common.{◌≡◌, ◌≢◌, ℕ, zero, suc, ◌<◌, ◌≤◌, List, [], ◌∷◌, ◌++◌, refl, sym, ap, subst, ◌∙◌, true, false, length, drop, get_or, arith, inl, inr}
use Rattle.std.specs.List.{Contains}
use Rattle.std.specs.List.Sorted.{IsPartitionedBy, IsPartitionPoint}
use Rattle.std.specs.declared.cmp.Ordering.{Ordering}
use Rattle.std.specs.declared.cmp.Ordering.TheVariants.{Less, Equal, Greater}
use Rattle.std.specs.Ordering.{is_lt}
use Rattle.kv_base.specs.Map.{Bytes, byte_cmp}
use Rattle.kv_base.specs.InversionLaws.{both_first, both_second}
use Rattle.kv_base.specs.declared.row.Row.{Row}
use Rattle.row_model.specs.RowLaws.{there_first, there_behind, there_cases, there_never}
use Rattle.row_model.specs.RowOrder.{leads, is_ordered}
use Rattle.row_model.specs.RowSearchLaws.{leads_each}
use Rattle.sst_parts.specs.declared.index.Spot.{Spot}
use Rattle.sst_parts.specs.BlockLists.{joined_blocks}
use Rattle.sst_parts.specs.Index.{last_raw}
use Rattle.kv_base.specs.declared.table.TableDesc.{TableDesc}
use Rattle.sst_grammar.specs.Placing.{AreAt}
use Rattle.sst_file.specs.States.{AreTableParts}
use Rattle.sst_file.specs.Searching.{ends_below}
use Rattle.sst_file.specs.SearchLaws.{last_of, last_raw_is, key_below}
use Rattle.sst_file.specs.SearchStepLaws.{ordered_back, search_begins}
use Rattle.sst_file.specs.Searching.{AreBlocksLeft}

less : (o : Ordering) → is_lt o ≡ true → o ≡ Less
less Less h = refl
less Equal h = absurd (cc)
less Greater h = absurd (cc)

-- rows in front, and rows behind
there_front : (rows more : List Row) (row : Row) → Contains rows row → Contains (rows ++ more) row
there_front [] more row there = absurd (there_never row there)
there_front (r ∷ rows) more row there = elim (there_cases rows row r there) [
  | inl is ↦ subst (λ (x : Row). Contains (r ∷ (rows ++ more)) x) is (there_first (rows ++ more) r)
  | inr behind ↦ there_behind (rows ++ more) row r (there_front rows more row behind)
]

there_back : (rows more : List Row) (row : Row) → Contains more row → Contains (rows ++ more) row
there_back [] more row there = there
there_back (r ∷ rows) more row there = there_behind (rows ++ more) row r (there_back rows more row there)

last_there : (row : Row) (rows : List Row) → Contains (row ∷ rows) (last_of row rows)
unfolding last_of
last_there row [] = there_first [] row
last_there row (r ∷ rows) = there_behind (r ∷ rows) (last_of r rows) row (last_there r rows)

-- the last of some rows leads those behind them
last_leads : (row : Row) (rows more : List Row) → is_ordered ((row ∷ rows) ++ more) ≡ true → leads (last_of row rows) more ≡ true
unfolding last_of is_ordered
last_leads row [] more order = both_first (leads row more) (is_ordered more) order
last_leads row (r ∷ rows) more order = last_leads r rows more (both_second (leads row ((r ∷ rows) ++ more)) (is_ordered ((r ∷ rows) ++ more)) order)

-- a block's last row
record IsLastOf (rows : List Row) (last : Bytes) : Type 0 where
  pub row : Row
  pub there : Contains rows row
  pub key : row.raw ≡ last

last_row_of : (rows : List Row) (last : Bytes) → rows ≢ [] → last_raw [] rows ≡ last → IsLastOf rows last
last_row_of [] last some is = absurd (some refl)
last_row_of (row ∷ rows) last some is = record { row = last_of row rows; there = last_there row rows; key = sym (last_raw_is [] row rows) ∙ is }

last_at : (spots : List Spot) (blocks : List (List Row)) (bytes : Bytes) (j : ℕ) (d : Spot) → AreAt spots blocks bytes → j < length spots → IsLastOf (joined_blocks blocks) (get_or spots j d).last
last_at [] blocks bytes j d placed low = absurd (omega arith)
last_at (spot ∷ spots) [] bytes j d placed low = absurd placed
last_at (spot ∷ spots) (rows ∷ more) bytes zero d placed low =
    let it = last_row_of rows spot.last placed.2 placed.1 in
    record { row = it.row; there = there_front rows (joined_blocks more) it.row it.there; key = it.key }
last_at (spot ∷ spots) (rows ∷ more) bytes (suc j) d placed low =
    let it = last_at spots more bytes j d placed.4 (omega arith) in
    record { row = it.row; there = there_back rows (joined_blocks more) it.row it.there; key = it.key }

first_below : (rows : List Row) (others : List Row) (last next raw : Bytes) → rows ≢ [] → last_raw [] rows ≡ last → is_ordered (rows ++ others) ≡ true → IsLastOf others next → is_lt (byte_cmp next raw) ≡ true
    → is_lt (byte_cmp last raw) ≡ true
first_below [] others last next raw some is order later low = absurd (some refl)
first_below (row ∷ rows) others last next raw some is order later low =
    let order_is = leads_each (last_of row rows) others later.row (last_leads row rows others order) later.there in
    let below = key_below (last_of row rows) later.row raw order_is (ap (λ (k : Bytes). byte_cmp k raw) later.key ∙ less (byte_cmp next raw) low) in
    ap is_lt (ap (λ (k : Bytes). byte_cmp k raw) (sym is ∙ last_raw_is [] row rows) ∙ below)

falls_once : (spots : List Spot) (blocks : List (List Row)) (bytes raw : Bytes) → AreAt spots blocks bytes → is_ordered (joined_blocks blocks) ≡ true → (i j : ℕ) (d : Spot) → i ≤ j → j < length spots
    → ends_below raw (get_or spots j d) ≡ true → ends_below raw (get_or spots i d) ≡ true
falls_once [] blocks bytes raw placed order i j d le low h = absurd (omega arith)
falls_once (spot ∷ spots) [] bytes raw placed order i j d le low h = absurd placed
falls_once (spot ∷ spots) (rows ∷ more) bytes raw placed order zero zero d le low h = h
falls_once (spot ∷ spots) (rows ∷ more) bytes raw placed order zero (suc j) d le low h =
    first_below rows (joined_blocks more) spot.last (get_or spots j d).last raw placed.2 placed.1 order (last_at spots more bytes j d placed.4 (omega arith)) h
falls_once (spot ∷ spots) (rows ∷ more) bytes raw placed order (suc i) zero d le low h = absurd (omega arith)
falls_once (spot ∷ spots) (rows ∷ more) bytes raw placed order (suc i) (suc j) d le low h =
    falls_once spots more bytes raw placed.4 (ordered_back rows (joined_blocks more) order) i j d (omega arith) (omega arith) h

pub lasts_rise : (spots : List Spot) (bits : Bytes) (desc : TableDesc) (bytes raw : Bytes) → AreTableParts spots bits desc bytes → IsPartitionedBy (ends_below raw) spots
lasts_rise spots bits desc bytes raw parts i j d le low h =
    falls_once spots parts.blocks bytes raw parts.placed (subst (λ (rs : List Row). is_ordered rs ≡ true) parts.whole parts.order.0) i j d le low h

-- the search begins behind the blocks that a binary search passes over
pub search_from : (raw : Bytes) (s n : ℕ) (spots slice : List Spot) (bits : Bytes) (desc : TableDesc) (bytes : Bytes) → slice ≡ spots
    → (IsPartitionedBy (ends_below raw) slice → IsPartitionPoint (λ spot. ends_below raw spot ≡ true) (λ spot. ends_below raw spot ≡ false) slice n)
    → AreTableParts spots bits desc bytes → AreBlocksLeft raw s (drop n spots) bytes
search_from raw s n spots slice bits desc bytes is split parts =
    let found : IsPartitionPoint (λ spot. ends_below raw spot ≡ true) (λ spot. ends_below raw spot ≡ false) spots n =
    subst (λ (l : List Spot). IsPartitionedBy (ends_below raw) l → IsPartitionPoint (λ spot. ends_below raw spot ≡ true) (λ spot. ends_below raw spot ≡ false) l n) is split (lasts_rise spots bits desc bytes raw parts) in
    search_begins raw s n spots bits desc bytes parts (λ i d low in_range. found.0 i d (omega arith) low)
