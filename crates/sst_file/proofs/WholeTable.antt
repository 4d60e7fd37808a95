-- A table whose parts were all opened.
use Rattle.std.proofs.Common.{◌≡◌, inl, inr, ℕ, ◌-◌, List, sym, ap, subst, ◌∙◌, length, Option, Some, None, IfSome, Err}
use Rattle.kv_base.specs.Map.{Bytes}
use Rattle.kv_base.specs.declared.name.TableId.{TableId}
use Rattle.kv_base.specs.declared.fault.StoreFault.{StoreFault}
use Rattle.kv_base.specs.declared.fault.StoreFault.TheVariants.{Failed, Damaged, NoMem}
use Rattle.kv_base.specs.declared.row.Row.{Row}
use Rattle.sst_parts.specs.declared.index.Spot.{Spot}
use Rattle.sst_parts.specs.declared.foot.Foot.{Foot}
use Rattle.sst_parts.specs.declared.key_hash.KeyHash.{KeyHash}
use Rattle.kv_base.specs.declared.table.TableDesc.{TableDesc}
use Rattle.sst_grammar.specs.Judging.{judged_blocks, judged_table}
use Rattle.sst_file.specs.BlockReads.{AreAllRead}
use Rattle.sst_file.specs.Opening.{ThreeParts}
use Rattle.sst_file.specs.OpenedPartLaws.{blocks_to_blame, count_to_blame, bits_to_blame, parts_are}
use Rattle.sst_file.specs.Opening.{DoAgree, IsBlame, IsDescOf, IsWholeBlame}
use Rattle.sst_file.specs.States.{AreTableParts, StandsForTable}

pub blocks_lead : (held : Option Bytes) (foot : Foot) (spots slice : List Spot) (bits : Bytes) → slice ≡ spots → IfSome held (ThreeParts foot spots bits) → IfSome held (λ bytes. (place : ℕ) → judged_blocks None slice bytes ≡ Err place → judged_table bytes ≡ Err place)
blocks_lead None foot spots slice bits is parts = tt
blocks_lead (Some bytes) foot spots slice bits is parts = λ place h. blocks_to_blame foot spots bits bytes place parts (ap (λ (l : List Spot). judged_blocks None l bytes) (sym is) ∙ h)

module _ (n : ℕ) (held : Option Bytes) (foot : Foot) (spots slice : List Spot) (bits : Bytes) (count : ℕ) (keys : List KeyHash) (least : Option Bytes) (last : Option Row) (is : slice ≡ spots) where
  pub whole_blame : (before now : ℕ) (id : TableId) (fault : StoreFault) → IfSome held (λ bytes. n ≡ length bytes) → IfSome held (ThreeParts foot spots bits) → IfSome held (AreAllRead slice count keys least last)
      → IsWholeBlame id n foot bits count keys fault → IsBlame before now id held judged_table fault
  whole_blame before now id Failed long parts read blame = absurd blame
  whole_blame before now id NoMem long parts read blame = tt
  whole_blame before now id (Damaged file place) long parts read blame = (blame.0, there held long parts read)
    where
      there : (o : Option Bytes) → IfSome o (λ bytes. n ≡ length bytes) → IfSome o (ThreeParts foot spots bits) → IfSome o (AreAllRead slice count keys least last) → IfSome o (λ bytes. judged_table bytes ≡ Err place)
      there None l p r = tt
      there (Some bytes) l p r =
          let all = subst (λ (s : List Spot). AreAllRead s count keys least last bytes) is r in
          elim blame.1 [
            | inl b ↦ count_to_blame foot spots bits bytes p count keys least last all b.0 ∙ ap (λ (k : ℕ). Err k) (ap (λ (k : ℕ). k - 36) (sym l) ∙ sym b.1)
            | inr b ↦ bits_to_blame foot spots bits bytes p count keys least last all b.0 b.1 ∙ ap (λ (k : ℕ). Err k) (sym b.2)
          ]

  pub parts_stand : (desc : TableDesc) (id : TableId) (own : List Spot) (own_bits : Bytes) → IfSome held (λ bytes. n ≡ length bytes) → IfSome held (ThreeParts foot spots bits) → IfSome held (AreAllRead slice count keys least last)
      → DoAgree foot bits count keys → IsDescOf desc id n count least last → own ≡ spots → own_bits ≡ bits → StandsForTable own own_bits desc held
  parts_stand desc id own own_bits long parts read agree of own_is bits_is = there held long parts read
    where
      there : (o : Option Bytes) → IfSome o (λ bytes. n ≡ length bytes) → IfSome o (ThreeParts foot spots bits) → IfSome o (AreAllRead slice count keys least last) → IfSome o (AreTableParts own own_bits desc)
      there None l p r = tt
      there (Some bytes) l p r =
          let all = subst (λ (s : List Spot). AreAllRead s count keys least last bytes) is r in
          let made = parts_are foot spots bits bytes p count keys least last all agree.number agree.filter desc of.row of.number (of.size ∙ l) of.first of.ended of.greatest in
          subst (λ (s : List Spot). AreTableParts s own_bits desc bytes) (sym own_is) (subst (λ (b : Bytes). AreTableParts spots b desc bytes) (sym bits_is) made)
