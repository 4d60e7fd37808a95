-- A file that was written whole is a table, and what is kept of it is the table's.
use Rattle.std.proofs.Common.{◌≡◌, ◌≢◌, ℕ, List, [], ◌∷◌, refl, sym, ap, subst, ◌∙◌, Option, Some, None, IfSome}
use Rattle.std.specs.Prelude.{is_some, true}
use Rattle.std.specs.Result.{result_ok}
use Rattle.kv_base.specs.Map.{Bytes}
use Rattle.kv_base.specs.declared.name.FileName.{FileName}
use Rattle.kv_base.specs.declared.name.TableId.{TableId}
use Rattle.kv_base.specs.declared.row.Row.{Row}
use Rattle.kv_base.specs.declared.table.TableDesc.{TableDesc}
use Rattle.kv_outside.specs.Disk.{Disk, CrashLeaves, IsDurable}
use Rattle.sst_parts.specs.declared.index.Spot.{Spot}
use Rattle.sst_parts.specs.declared.key_hash.KeyHash.{KeyHash}
use Rattle.sst_parts.specs.Blocks.{blocks}
use Rattle.sst_parts.specs.BlockBodyLaws.{chain_ordered, chain_texts}
use Rattle.sst_parts.specs.BlockListLaws.{blocks_whole}
use Rattle.sst_parts.specs.Index.{last_raw}
use Rattle.sst_parts.specs.Tables.{table_text, AreTableRows}
use Rattle.sst_grammar.specs.Judging.{judged_table}
use Rattle.sst_grammar.specs.Placing.{AreAt}
use Rattle.sst_grammar.specs.PlacedLaws.{blocks_are_placed}
use Rattle.sst_grammar.specs.WholeTableLaws.{table_is_judged}
use Rattle.sst_sums.specs.Summing.{first_raw}
use Rattle.sst_file.specs.Opening.{IsDescOf}
use Rattle.sst_file.specs.States.{AreTableParts, StandsForTable, TableState, rows_of_table}
use Rattle.sst_writer.specs.Cutting.{AreNext}
use Rattle.sst_writer.specs.EndingLaws.{raw_of_last}
use Rattle.sst_writer.specs.Written.{AreBehind, IsDescOfRows, IsNextTable, IsSealed, IsTableFor, IsTableOf}

led : (desc : TableDesc) (rows : List Row) → Some desc.least ≡ first_raw rows → (row : Row) × (rest : List Row) × (rows ≡ row ∷ rest) × (desc.least ≡ row.raw)
led desc [] h = absurd (cc)
led desc (row ∷ rest) h = (row, rest, refl, cc)

module _ (rows : List Row) (tail : Bytes) (spots : List Spot) (bits : Bytes) (size count : ℕ) (keys : List KeyHash) (least : Option Bytes) (last : Option Row) (held : Option Bytes) (sealed : IsSealed rows tail spots bits size count keys least last held)
    (desc : TableDesc) (id : TableId) (is : IsDescOf desc id size count least last) where
  first_is : Some desc.least ≡ first_raw rows
  first_is = sym is.first ∙ sealed.sums.first

  has_some : rows ≢ []
  has_some none = let e : Some desc.least ≡ None = first_is ∙ ap first_raw none in absurd (cc)

  last_of_rows : desc.greatest ≡ last_raw [] rows
  last_of_rows = is.greatest ∙ raw_of_last None rows is.row has_some (sym is.ended ∙ sealed.sums.last_is)

  pub are_table_rows : AreTableRows rows
  are_table_rows = record {
    some = has_some;
    order = chain_ordered None rows sealed.chain;
    grammar = chain_texts None rows sealed.chain;
    sequences = sealed.sequences;
    room = sealed.finished.room;
  }

  pub desc_of_rows : IsDescOfRows desc id rows
  desc_of_rows = record {
    id_is = is.id_is;
    number = is.number ∙ sealed.sums.number;
    size = is.size ∙ sealed.finished.size_is;
    least = sym first_is;
    greatest = last_of_rows;
  }

  parts_of_text : AreTableParts spots bits desc (table_text rows)
  parts_of_text = record {
    rows = rows;
    judged_is = table_is_judged rows are_table_rows;
    order = (are_table_rows.order, are_table_rows.grammar);
    blocks = blocks rows;
    whole = sym (blocks_whole rows);
    placed = subst (λ (s : List Spot). AreAt s (blocks rows) (table_text rows)) (sym sealed.finished.index) (blocks_are_placed (table_text rows) rows (table_is_judged rows are_table_rows));
    filter_is = sealed.finished.filter;
    count = is.number ∙ sealed.sums.number;
    size = is.size ∙ sealed.finished.size_is;
    least = led desc rows first_is;
    greatest = last_of_rows;
  }

  pub sealed_stands : StandsForTable spots bits desc held
  sealed_stands = there held sealed.file
    where
      there : (o : Option Bytes) → IfSome o (λ c. c ≡ table_text rows) → StandsForTable spots bits desc o
      there None file = tt
      there (Some c) file = subst (AreTableParts spots bits desc) (sym file) parts_of_text

-- ---- what is told of the table

pub rows_told : (rows : List Row) (held : Option Bytes) → AreTableRows rows → IfSome held (λ c. c ≡ table_text rows) → IfSome (rows_of_table held) (λ own. own ≡ rows)
rows_told rows None lawful file = tt
rows_told rows (Some c) lawful file =
    let it : rows_of_table (Some c) ≡ Some rows = ap (λ (b : Bytes). result_ok (judged_table b)) file ∙ ap result_ok (table_is_judged rows lawful) in
    subst (λ (o : Option (List Row)). IfSome o (λ own. own ≡ rows)) (sym it) refl

pub is_told : (rows : List Row) (held : Option Bytes) → AreTableRows rows → IfSome held (λ c. c ≡ table_text rows) → is_some held ≡ true → is_some (rows_of_table held) ≡ true
is_told rows None lawful file told = absurd (cc)
is_told rows (Some c) lawful file told =
    let it : rows_of_table (Some c) ≡ Some rows = ap (λ (b : Bytes). result_ok (judged_table b)) file ∙ ap result_ok (table_is_judged rows lawful) in
    ap is_some it

pub leaves_table : (name : FileName) (disk : Disk) (rows : List Row) (held : Option Bytes) (told : Option (List Row)) → AreTableRows rows → IfSome held (λ c. c ≡ table_text rows) → told ≡ rows_of_table held → IsDurable disk name held → CrashLeaves disk name (λ c. IsTableOf c told)
leaves_table name disk rows held told lawful file is durable = record { each = λ c image. from c (durable.only c image) }
  where
    from : (c : Bytes) → held ≡ Some c → IsTableOf c told
    from c same =
        let spelled : c ≡ table_text rows = subst (λ (o : Option Bytes). IfSome o (λ b. b ≡ table_text rows)) same file in
        record {
          own = rows;
          told = is ∙ ap rows_of_table same ∙ ap (λ (b : Bytes). result_ok (judged_table b)) spelled ∙ ap result_ok (table_is_judged rows lawful);
          is = record { lawful = lawful; spelled = spelled };
        }

-- ---- the next table

pub next_is : (id : TableId) (limit : Option ℕ) (done : List Row) (old now : Option (List Row)) (held : Option Bytes) (table : TableState) → AreNext limit done old now → IsTableFor id done held table → IfSome held (λ c. c ≡ table_text done)
    → IfSome old (λ rows. IsNextTable id limit rows table)
next_is id limit done None now held table taken is file = tt
next_is id limit done (Some rows) now held table taken is file =
    let same = taken.0 in
    let own : IfSome table.rows (λ o. o ≡ done) = subst (λ (o : Option (List Row)). IfSome o (λ own. own ≡ done)) (sym is.told) (rows_told done held is.lawful file) in
    record {
      desc = subst (IsDescOfRows table.desc id) same is.desc;
      lawful = subst AreTableRows same is.lawful;
      told = subst (λ (d : List Row). IfSome table.rows (λ own. own ≡ d)) same own;
    }

pub behind_is : (limit : Option ℕ) (done : List Row) (old now : Option (List Row)) → AreNext limit done old now → AreBehind limit old now
behind_is limit done None now taken = taken
behind_is limit done (Some rows) now taken = taken.1
