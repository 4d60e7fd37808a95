-- A table as its parts are opened, one after the other.
use Rattle.std.proofs.Common.{◌≡◌, ℕ, ◌≤◌, List, [], ◌∷◌, refl, sym, ap, ◌∙◌, true, false, cond, length, Option, Some, None, IfSome, option_map, Result, Ok, Err, arith}
use Rattle.std.specs.Prelude.{◌==◌, not}
use Rattle.std.proofs.lemmas.Bool.Decides.{nat_tests}
use Rattle.kv_base.specs.Map.{Bytes, same, same_is}
use Rattle.kv_base.specs.declared.name.TableId.{TableId}
use Rattle.kv_base.specs.declared.fault.StoreFault.{StoreFault}
use Rattle.kv_base.specs.declared.fault.StoreFault.TheVariants.{Failed, Damaged, NoMem}
use Rattle.kv_outside.specs.CauseLaws.{rose_since, rose_until}
use Rattle.kv_base.specs.declared.row.Row.{Row}
use Rattle.sst_parts.specs.declared.index.Spot.{Spot}
use Rattle.sst_parts.specs.declared.foot.Foot.{Foot}
use Rattle.sst_parts.specs.declared.key_hash.KeyHash.{KeyHash}
use Rattle.sst_parts.specs.BlockBodies.{last_row}
use Rattle.sst_parts.specs.BlockBodyLaws.{chain_ordered, chain_texts}
use Rattle.sst_parts.specs.Filter.{filter_of, filter_bits}
use Rattle.sst_parts.specs.Index.{last_raw}
use Rattle.sst_parts.specs.Tables.{raw_keys_of}
use Rattle.kv_base.specs.declared.table.TableDesc.{TableDesc}
use Rattle.sst_grammar.specs.Judging.{then_judged, foot_place, judged_foot, judged_index, judged_filter, judged_blocks, judged_whole, after_filter, after_index, after_foot, judged_table}
use Rattle.sst_grammar.specs.JudgedPartLaws.{blocks_at}
use Rattle.sst_file.specs.BlockReads.{AreAllRead}
use Rattle.sst_file.specs.Opening.{IsBlame, ThreeParts}
use Rattle.sst_file.specs.States.{AreTableParts}
use Rattle.sst_sums.specs.Summing.{bare_row, first_raw}

-- ---- blame

-- what is to blame in one stage is to blame in all
pub blame_leads : {X Y : Type 0} (first before now last : ℕ) (id : TableId) (held : Option Bytes) (judge : Bytes → Result X ℕ) (whole : Bytes → Result Y ℕ) (fault : StoreFault) → first ≤ before → now ≤ last
    → IfSome held (λ bytes. (place : ℕ) → judge bytes ≡ Err place → whole bytes ≡ Err place) → IsBlame before now id held judge fault → IsBlame first last id held whole fault
blame_leads first before now last id held judge whole Failed p q leads blame = rose_until first now last (rose_since first before now p blame) q
blame_leads first before now last id None judge whole (Damaged file place) p q leads blame = (blame.0, tt)
blame_leads first before now last id (Some bytes) judge whole (Damaged file place) p q leads blame = (blame.0, leads place blame.1)
blame_leads first before now last id held judge whole NoMem p q leads blame = tt

pub foot_to_blame : (bytes : Bytes) (place : ℕ) → judged_foot bytes ≡ Err place → judged_table bytes ≡ Err place
unfolding judged_table
foot_to_blame bytes place h = ap (λ r. then_judged r (after_foot bytes)) h

pub index_to_blame : (bytes : Bytes) (foot : Foot) (place : ℕ) → judged_foot bytes ≡ Ok foot → judged_index foot bytes ≡ Err place → judged_table bytes ≡ Err place
unfolding judged_table
index_to_blame bytes foot place f h = ap (λ r. then_judged r (after_foot bytes)) f ∙ ap (λ r. then_judged r (after_index bytes foot)) h

pub filter_to_blame : (bytes : Bytes) (foot : Foot) (spots : List Spot) (place : ℕ) → judged_foot bytes ≡ Ok foot → judged_index foot bytes ≡ Ok spots → judged_filter foot bytes ≡ Err place → judged_table bytes ≡ Err place
unfolding judged_table
filter_to_blame bytes foot spots place f i h =
    ap (λ r. then_judged r (after_foot bytes)) f ∙ ap (λ r. then_judged r (after_index bytes foot)) i ∙ ap (λ r. then_judged r (after_filter bytes foot spots)) h

judged_by_blocks : (foot : Foot) (spots : List Spot) (bits bytes : Bytes) → ThreeParts foot spots bits bytes → judged_table bytes ≡ after_filter bytes foot spots bits
unfolding judged_table
judged_by_blocks foot spots bits bytes parts =
    ap (λ r. then_judged r (after_foot bytes)) parts.foot_is ∙ ap (λ r. then_judged r (after_index bytes foot)) parts.index_is ∙ ap (λ r. then_judged r (after_filter bytes foot spots)) parts.filter_is

pub blocks_to_blame : (foot : Foot) (spots : List Spot) (bits bytes : Bytes) (place : ℕ) → ThreeParts foot spots bits bytes → judged_blocks None spots bytes ≡ Err place → judged_table bytes ≡ Err place
blocks_to_blame foot spots bits bytes place parts h = judged_by_blocks foot spots bits bytes parts ∙ ap (λ r. then_judged r (judged_whole bytes foot bits)) h

-- ---- all parts

module _ (foot : Foot) (spots : List Spot) (bits bytes : Bytes) (parts : ThreeParts foot spots bits bytes) (count : ℕ) (keys : List KeyHash) (least : Option Bytes) (last : Option Row) (read : AreAllRead spots count keys least last bytes) where
  judged_by_rows : judged_table bytes ≡ judged_whole bytes foot bits read.rows
  judged_by_rows = judged_by_blocks foot spots bits bytes parts ∙ ap (λ r. then_judged r (judged_whole bytes foot bits)) read.judged_is

  keys_are : filter_of keys ≡ filter_bits (raw_keys_of read.rows)
  unfolding filter_bits
  keys_are = ap filter_of read.sums.hashes

  differ : (n m : ℕ) → (n ≡ m → ⊥) → (n == m) ≡ false
  differ n m h = grind (arith, nat_tests)

  agree : (n m : ℕ) → n ≡ m → (n == m) ≡ true
  agree n m h = grind (arith, nat_tests)

  pub count_to_blame : (count ≡ foot.rows → ⊥) → judged_table bytes ≡ Err (foot_place bytes)
  unfolding judged_whole
  count_to_blame other =
      judged_by_rows
      ∙ ap (λ b. cond (not b) (Err (foot_place bytes)) (cond (same bits (filter_bits (raw_keys_of read.rows))) (Ok read.rows) (Err foot.filter))) (differ (length read.rows) foot.rows (λ e. other (read.sums.number ∙ e)))

  module _ (counted : count ≡ foot.rows) where
    judged_by_bits : judged_table bytes ≡ cond (same bits (filter_of keys)) (Ok read.rows) (Err foot.filter)
    unfolding judged_whole
    judged_by_bits =
        judged_by_rows
        ∙ ap (λ b. cond (not b) (Err (foot_place bytes)) (cond (same bits (filter_bits (raw_keys_of read.rows))) (Ok read.rows) (Err foot.filter))) (agree (length read.rows) foot.rows (sym read.sums.number ∙ counted))
        ∙ ap (λ (l : Bytes). cond (same bits l) (Ok read.rows) (Err foot.filter)) (sym keys_are)

    pub bits_to_blame : same bits (filter_of keys) ≡ false → judged_table bytes ≡ Err foot.filter
    bits_to_blame other = judged_by_bits ∙ ap (λ b. cond b (Ok read.rows) (Err foot.filter)) other

    pub parts_are : same bits (filter_of keys) ≡ true → (desc : TableDesc) (row : Row) → desc.rows ≡ count → desc.bytes ≡ length bytes → least ≡ Some desc.least → last ≡ Some row → desc.greatest ≡ row.raw → AreTableParts spots bits desc bytes
    parts_are matches desc row number size first ended greatest =
        let at = blocks_at None spots bytes read.rows read.judged_is in
        record {
          rows = read.rows;
          judged_is = judged_by_bits ∙ ap (λ b. cond b (Ok read.rows) (Err foot.filter)) matches;
          order = (chain_ordered None read.rows at.chain, chain_texts None read.rows at.chain);
          blocks = at.blocks;
          whole = at.whole;
          placed = at.placed;
          filter_is = same_is bits (filter_of keys) matches ∙ keys_are;
          count = number ∙ read.sums.number;
          size = size;
          least = led read.rows (sym first ∙ read.sums.first);
          greatest = greatest ∙ ends read.rows (sym ended ∙ read.sums.last_is);
        }
      where
        led : (rows : List Row) → Some desc.least ≡ first_raw rows → (r : Row) × (rest : List Row) × (rows ≡ r ∷ rest) × (desc.least ≡ r.raw)
        led [] h = absurd (cc)
        led (r ∷ rest) h = (r, rest, refl, cc)

        last_behind : (r : Row) (rows : List Row) → Some row ≡ option_map bare_row (last_row (Some r) rows) → row.raw ≡ last_raw r.raw rows
        last_behind r [] h = let e : row ≡ bare_row r = cc in ap (λ (x : Row). x.raw) e
        last_behind r (q ∷ rows) h = last_behind q rows h

        ends : (rows : List Row) → Some row ≡ option_map bare_row (last_row None rows) → row.raw ≡ last_raw [] rows
        ends [] h = absurd (cc)
        ends (r ∷ rows) h = last_behind r rows h
