-- The loop over the blocks of a table that is opened.
use Rattle.std.proofs.Common.{◌≡◌, ℕ, suc, ◌+◌, ◌<◌, ◌≤◌, List, ◌++◌, sym, ap, subst, ◌∙◌, Bool, length, get_or, Option, Some, None, IfSome, Err}
use Rattle.std.specs.Prelude.{◌==◌}
use Rattle.kv_base.specs.Map.{Bytes}
use Rattle.kv_outside.specs.ToldLaws.{told_leads}
use Rattle.kv_base.specs.declared.row.Row.{Row}
use Rattle.sst_parts.specs.declared.index.Spot.{Spot}
use Rattle.sst_parts.specs.declared.key_hash.KeyHash.{KeyHash}
use Rattle.sst_grammar.specs.Judging.{slice_at, or_off, read_block, judged_blocks}
use Rattle.sst_sums.specs.Summing.{AreSums}
use Rattle.sst_file.specs.BlockReads.{judged_block, IsBlockRead, AreRead, AreAllRead}
use Rattle.sst_file.specs.BlockReadLaws.{next_read, next_off, all_read}

pub block_found : (is_last : Bool) (spot : Spot) (count total : ℕ) (keys more : List KeyHash) (least first : Option Bytes) (last now before : Option Row) (held : Option Bytes) (block slice : Bytes) (o : Option (List Row)) (rows added : List Row)
    → slice ≡ block → IfSome held (λ bytes. block ≡ slice_at spot.place spot.bytes bytes) → before ≡ last → o ≡ read_block is_last before spot slice → o ≡ Some rows → added ≡ rows
    → ((done : List Row) → AreSums count keys least last done → AreSums total more first now (done ++ added)) → IfSome held (IsBlockRead is_last spot count total keys more least first last now)
block_found is_last spot count total keys more least first last now before held block slice o rows added same_bytes there kept_last read some same_rows sums =
    told_leads (λ bytes. block ≡ slice_at spot.place spot.bytes bytes) (IsBlockRead is_last spot count total keys more least first last now)
    (λ bytes at. record {
      rows = rows;
      judged_is = ap (or_off spot.place) ((λ i. read_block is_last (sym kept_last i) spot (sym (same_bytes ∙ at) i)) ∙ sym read ∙ some);
      sums = subst (λ (rs : List Row). (done : List Row) → AreSums count keys least last done → AreSums total more first now (done ++ rs)) same_rows sums;
    }) held there

module _ (spots : List Spot) (at : ℕ) (spot : Spot) (there : spot ≡ get_or spots at spot) (low : at < length spots) (is_last : Bool) (last_is : is_last ≡ (at + 1 == length spots))
    (count : ℕ) (keys : List KeyHash) (least : Option Bytes) (last : Option Row) where
  pub reads_on : (held : Option Bytes) (next total : ℕ) (more : List KeyHash) (first : Option Bytes) (now : Option Row) → next ≡ suc at → IfSome held (AreRead spots at count keys least last)
      → IfSome held (IsBlockRead is_last spot count total keys more least first last now) → IfSome held (AreRead spots next total more first now)
  reads_on None next total more first now moved read block = tt
  reads_on (Some bytes) next total more first now moved read block = next_read spots at spot there low is_last last_is count keys least last bytes read next total more first now moved block

  pub blames : (held : Option Bytes) → IfSome held (AreRead spots at count keys least last) → IfSome held (λ bytes. (place : ℕ) → judged_block is_last last spot bytes ≡ Err place → judged_blocks None spots bytes ≡ Err place)
  blames held read = told_leads (AreRead spots at count keys least last) (λ bytes. (place : ℕ) → judged_block is_last last spot bytes ≡ Err place → judged_blocks None spots bytes ≡ Err place)
      (λ bytes r. next_off spots at spot there low is_last last_is count keys least last bytes r) held read

pub reads_all : (spots : List Spot) (at count : ℕ) (keys : List KeyHash) (least : Option Bytes) (last : Option Row) (held : Option Bytes) → length spots ≤ at → IfSome held (AreRead spots at count keys least last) → IfSome held (AreAllRead spots count keys least last)
reads_all spots at count keys least last held high read =
    told_leads (AreRead spots at count keys least last) (AreAllRead spots count keys least last) (λ bytes r. all_read spots at count keys least last bytes high r) held read
