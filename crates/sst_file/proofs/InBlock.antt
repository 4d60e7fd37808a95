-- What is found in one block.
use Rattle.std.proofs.Common.{◌≡◌, ℕ, ◌<◌, ◌^◌, List, refl, sym, ap, subst, ◌∙◌, Bool, true, false, cond, length, Option, Some, None, IfSome, option_map, Result, arith}
use Rattle.std.specs.Prelude.{◌==◌, ◌&&◌, not, is_some}
use Rattle.std.specs.Result.{result_ok}
use Rattle.std.specs.declared.cmp.Ordering.{Ordering}
use Rattle.std.specs.Ordering.{is_eq}
use Rattle.std.proofs.lemmas.Bool.Decides.{nat_tests}
use Rattle.kv_base.specs.Map.{Bytes, byte_cmp}
use Rattle.kv_base.specs.Fields.{read_text}
use Rattle.kv_base.specs.Name.{same_name}
use Rattle.kv_base.specs.declared.name.FileName.{FileName}
use Rattle.kv_base.specs.declared.name.FileName.TheVariants.{Table}
use Rattle.kv_base.specs.declared.name.TableId.{TableId}
use Rattle.kv_base.specs.declared.fault.StoreFault.{StoreFault}
use Rattle.kv_base.specs.declared.fault.StoreFault.TheVariants.{Damaged}
use Rattle.kv_base.specs.declared.row.Row.{Row}
use Rattle.row_model.specs.Rows.{seen_at}
use Rattle.kv_outside.specs.Causes.{IsCause}
use Rattle.kv_outside.specs.CauseLaws.{cause_widens}
use Rattle.sst_parts.specs.declared.index.Spot.{Spot}
use Rattle.sst_parts.specs.RowTexts.{rows_text}
use Rattle.sst_parts.specs.Blocks.{block_text}
use Rattle.sst_parts.specs.Seeking.{AreReadable, first_from}
use Rattle.sst_parts.specs.Filter.{may_hold}
use Rattle.kv_base.specs.declared.table.TableDesc.{TableDesc}
use Rattle.sst_grammar.specs.Judging.{slice_at}
use Rattle.sst_file.specs.States.{StandsForTable, TableState, rows_of_table, off_where_untold, table_off}
use Rattle.sst_file.specs.Searching.{HasBlock, with_raw_key}
use Rattle.sst_file.specs.SearchLaws.{none_unheld}
use Rattle.sst_file.specs.Searching.{FoundIn}
use Rattle.sst_file.specs.SearchStepLaws.{body_read, body_there}

-- ---- damage

same_itself : (id : TableId) → same_name (Table id) (Table id) ≡ true
same_itself id = both (id.run == id.run) (id.part == id.part) (alike id.run) (alike id.part)
  where
    both : (a b : Bool) → a ≡ true → b ≡ true → (a && b) ≡ true
    both a b e f = rw (e, f) refl

    alike : (n : ℕ) → (n == n) ≡ true
    alike n = grind (arith, nat_tests)

-- a place is damaged only where the bytes are not told
pub damage_untold : (before now : ℕ) (id : TableId) (held : Option Bytes) (place : ℕ) (fault : StoreFault) → fault ≡ Damaged (Table id) place → IfSome held (λ bytes. ⊥) → IsCause before now (off_where_untold id held) fault
damage_untold before now id None place fault is never = subst (IsCause before now (off_where_untold id None)) (sym is) (same_itself id)
damage_untold before now id (Some bytes) place fault is never = absurd never

-- ---- the block as it was read

module _ (spot : Spot) (block slice : Bytes) (is : slice ≡ block) (short : length block < 2 ^ 32) where
  long : length slice < 2 ^ 32
  long = let same_length = ap (λ (b : Bytes). length b) is in omega (arith, same_length, short)

  whole : (bytes : Bytes) (rows : List Row) → block ≡ slice_at spot.place spot.bytes bytes → slice_at spot.place spot.bytes bytes ≡ block_text rows → slice ≡ block_text rows
  whole bytes rows there has = is ∙ there ∙ has

  pub never_cut : (held : Option Bytes) → IfSome held (HasBlock spot) → IfSome held (λ bytes. block ≡ slice_at spot.place spot.bytes bytes) → None ≡ read_text slice → IfSome held (λ bytes. ⊥)
  never_cut None has there none = tt
  never_cut (Some bytes) has there none = body_there has.0 slice (whole bytes has.0 there has.2) long (sym none)

  module _ (body rest : Bytes) (read : Some (body, rest) ≡ read_text slice) where
    pub never_off : (held : Option Bytes) → IfSome held (HasBlock spot) → IfSome held (λ bytes. block ≡ slice_at spot.place spot.bytes bytes) → ((rows : List Row) → AreReadable rows → body ≡ rows_text rows → ⊥) → IfSome held (λ bytes. ⊥)
    never_off None has there never = tt
    never_off (Some bytes) has there never = never has.0 has.1 (body_read has.0 slice body rest (whole bytes has.0 there has.2) long (sym read))

    pub table_found_in : (raw : Bytes) (s : ℕ) (found : Option (Option Row)) (held : Option Bytes) → IfSome held (λ bytes. block ≡ slice_at spot.place spot.bytes bytes)
        → ((rows : List Row) → AreReadable rows → body ≡ rows_text rows → found ≡ option_map (with_raw_key raw) (first_from raw s rows)) → IfSome held (FoundIn raw s spot found)
    table_found_in raw s found None there sought = tt
    table_found_in raw s found (Some bytes) there sought = λ rows readable has. sought rows readable (body_read rows slice body rest (whole bytes rows there has) long (sym read))

-- ---- what was sought

pub row_answers : (raw : Bytes) (first : Option Row) (row copy : Row) (o : Ordering) → first ≡ Some row → copy ≡ row → o ≡ byte_cmp raw row.raw → true ≡ is_eq o → Some (Some copy) ≡ option_map (with_raw_key raw) first
row_answers raw first row copy o is same_row order equal =
    ap (λ (r : Row). Some (Some r)) same_row
    ∙ ap (λ b. Some (cond b (Some row) None)) (equal ∙ ap is_eq order)
    ∙ ap (option_map (with_raw_key raw)) (sym is)

pub other_answers : (raw : Bytes) (first : Option Row) (row : Row) (o : Ordering) → first ≡ Some row → o ≡ byte_cmp raw row.raw → false ≡ is_eq o → Some None ≡ option_map (with_raw_key raw) first
other_answers raw first row o is order other =
    ap (λ b. Some (cond b (Some row) None)) (other ∙ ap is_eq order)
    ∙ ap (option_map (with_raw_key raw)) (sym is)

pub none_answers : (raw : Bytes) (first : Option Row) → first ≡ None → None ≡ option_map (with_raw_key raw) first
none_answers raw first is = ap (option_map (with_raw_key raw)) (sym is)

-- ---- a table

-- a raw key that the filter does not know
pub unheld : (spots : List Spot) (bits : Bytes) (desc : TableDesc) (held : Option Bytes) (raw : Bytes) (s : ℕ) (rows : Option (List Row)) → StandsForTable spots bits desc held → rows_of_table held ≡ rows → may_hold bits raw ≡ false
    → IfSome rows (λ rs. None ≡ seen_at rs s raw)
unheld spots bits desc None raw s rows stands is none = subst (λ (o : Option (List Row)). IfSome o (λ rs. None ≡ seen_at rs s raw)) is tt
unheld spots bits desc (Some bytes) raw s rows parts is none =
    let told : rows ≡ Some parts.rows = sym is ∙ ap result_ok parts.judged_is in
    subst (λ (o : Option (List Row)). IfSome o (λ rs. None ≡ seen_at rs s raw)) (sym told) (sym (none_unheld parts.rows raw s bits parts.filter_is none))

told_alike : (spots : List Spot) (bits : Bytes) (desc : TableDesc) (held : Option Bytes) → StandsForTable spots bits desc held → is_some held ≡ is_some (rows_of_table held)
told_alike spots bits desc None stands = refl
told_alike spots bits desc (Some bytes) parts = sym (ap (λ (r : Result (List Row) ℕ). is_some (result_ok r)) parts.judged_is)

pub off_alike : (spots : List Spot) (bits : Bytes) (desc : TableDesc) (held : Option Bytes) (table : TableState) → StandsForTable spots bits desc held → (record { desc = desc; rows = rows_of_table held }) ≡ table → (file : FileName) (place : ℕ)
    → off_where_untold desc.id held file place ≡ table_off table file place
off_alike spots bits desc held table stands is file place =
    ap (λ b. not b && same_name file (Table desc.id)) (told_alike spots bits desc held stands) ∙ ap (λ (t : TableState). table_off t file place) is

pub cause_alike : (before now : ℕ) (spots : List Spot) (bits : Bytes) (desc : TableDesc) (held : Option Bytes) (table : TableState) (fault : StoreFault) → StandsForTable spots bits desc held → (record { desc = desc; rows = rows_of_table held }) ≡ table
    → IsCause before now (off_where_untold desc.id held) fault → IsCause before now (table_off table) fault
cause_alike before now spots bits desc held table fault stands is cause =
    cause_widens before before now now (off_where_untold desc.id held) (table_off table) fault (omega arith) (omega arith) (λ file place off. sym (off_alike spots bits desc held table stands is file place) ∙ off) cause
