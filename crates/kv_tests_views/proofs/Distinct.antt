-- Rows in layers are distinct.
use Rattle.std.proofs.Common.{◌≡◌, ℕ, ◌<◌, ◌≤◌, List, [], ◌∷◌, ◌++◌, refl, sym, ap, subst, ◌∙◌, Bool, true, false, cond, map, append-nil, append_assoc, Option, Some, None, arith}
use Rattle.std.specs.Prelude.{◌&&◌, nat_lt, IfSome, IsTrue, filter, not}
use Rattle.std.proofs.lemmas.Bool.Decides.{nat_tests}
use Rattle.kv_base.specs.InversionLaws.{both_first, both_second}
use Rattle.kv_base.specs.Map.{Bytes}
use Rattle.kv_base.specs.declared.row.Row.{Row}
use Rattle.batch_codec.specs.Batches.{BatchEntry, Batch}
use Rattle.row_model.specs.Rows.{are_upto, batch_rows, entry_row}
use Rattle.row_model.specs.RowOrder.{is_ordered, is_below, merged}
use Rattle.row_model.specs.RowOrderLaws.{all_merged, upto_on}
use Rattle.merge_rows.specs.Merged.{AreDistinct, all_told_rows, told_rows}
use Rattle.mem_table.specs.Search.{rows_from}
use Rattle.kv_base.specs.declared.name.TableId.{TableId}
use Rattle.sst_file.specs.States.{TableState}
use Rattle.sst_writer.specs.Cutting.{cut_from, next_table}
use Rattle.sst_writer.specs.Written.{IsNextTable}
use Rattle.view_read.specs.DistinctLaws.{distinct_above, distinct_ordered}
use Rattle.view_read.specs.Sources.{source_rows}
use Rattle.kv_tests_views.specs.Over.{AreDistinctUpto, are_over}

both : (a b : Bool) → a ≡ true → b ≡ true → (a && b) ≡ true
both a b e f = rw (e, f) refl

entries_over : (last seq : ℕ) (es : List BatchEntry) → last < seq → are_over last (map (entry_row seq) es) ≡ true
entries_over last seq [] low = refl
entries_over last seq (e ∷ es) low = both (nat_lt last seq) (are_over last (map (entry_row seq) es)) (grind (arith, nat_tests)) (entries_over last seq es low)

-- a batch's rows alone are above what its sequence is above
pub over_batch : (last seq : ℕ) (batch : Batch) → last < seq → IsTrue (are_over last (merged [] (batch_rows seq batch)))
unfolding batch_rows
over_batch last seq batch low = all_merged (λ row. nat_lt last row.seq) [] (batch_rows seq batch) refl (entries_over last seq batch.entries low)

-- ---- the rows of a table that was written of them all

upto_filtered : (q : Row → Bool) (last : ℕ) (rows : List Row) → are_upto last rows ≡ true → are_upto last (filter q rows) ≡ true
upto_filtered q last [] h = refl
upto_filtered q last (row ∷ rows) h = by_test (q row) (upto_filtered q last rows (both_second (are_upto last (row ∷ [])) (are_upto last rows) (spread h)))
  where
    spread : are_upto last (row ∷ rows) ≡ true → (are_upto last (row ∷ []) && are_upto last rows) ≡ true
    spread h = both (are_upto last (row ∷ [])) (are_upto last rows) (both _ true (both_first _ (are_upto last rows) h) refl) (both_second _ (are_upto last rows) h)

    by_test : (b : Bool) → are_upto last (filter q rows) ≡ true → are_upto last (cond b (row ∷ filter q rows) (filter q rows)) ≡ true
    by_test true rest = both _ (are_upto last (filter q rows)) (both_first _ (are_upto last rows) h) rest
    by_test false rest = rest

whole_table : (done rows : List Row) → (cut_from None done rows).0 ≡ done ++ rows
unfolding cut_from
whole_table done [] = sym (append-nil done)
whole_table done (row ∷ rows) = whole_table (done ++ row ∷ []) rows ∙ append_assoc done (row ∷ []) rows

pub written_rows : (memory own : List Row) (raw : Bytes) (last : ℕ) → own ≡ (next_table None (rows_from raw memory)).0 → IsTrue (is_ordered (next_table None (rows_from raw memory)).0) → IsTrue (are_upto last memory) → AreDistinctUpto last own
written_rows memory own raw last is order low =
    let whole = is ∙ whole_table [] (rows_from raw memory) in (
      subst AreDistinct (sym is) (distinct_ordered (next_table None (rows_from raw memory)).0 order),
      ap (are_upto last) whole ∙ upto_filtered (λ row. not (is_below raw row)) last memory low,
    )

pub held_rows : (id : TableId) (memory : List Row) (raw : Bytes) (last : ℕ) (told : Option (List Row)) (found : Option TableState) (table : TableState) → told ≡ Some (rows_from raw memory) → found ≡ Some table
    → IfSome found (λ t. IfSome told (λ all. IsNextTable id None all t)) → IsTrue (are_upto last memory) → IfSome table.rows (AreDistinctUpto last)
held_rows id memory raw last told found table is there next low =
    let one : IsNextTable id None (rows_from raw memory) table = subst (λ (x : Option (List Row) × Option TableState). IfSome x.1 (λ t. IfSome x.0 (λ all. IsNextTable id None all t))) (λ i. (is i, there i)) next in
    by_rows table.rows one.told one.lawful.order
  where
    by_rows : (o : Option (List Row)) → IfSome o (λ own. own ≡ (next_table None (rows_from raw memory)).0) → IsTrue (is_ordered (next_table None (rows_from raw memory)).0) → IfSome o (AreDistinctUpto last)
    by_rows None own order = tt
    by_rows (Some rows) own order = written_rows memory rows raw last own order low

-- ---- all layers

upto_both : (last : ℕ) (rows others : List Row) → are_upto last rows ≡ true → are_upto last others ≡ true → are_upto last (rows ++ others) ≡ true
upto_both last [] others h k = k
upto_both last (row ∷ rows) others h k = both _ (are_upto last (rows ++ others)) (both_first _ (are_upto last rows) h) (upto_both last rows others (both_second _ (are_upto last rows) h) k)

older_rows : (low : ℕ) (rows : Option (List Row)) → IfSome rows (AreDistinctUpto low) → AreDistinctUpto low (told_rows rows ++ [])
older_rows low None h = ((λ row. omega arith), refl)
older_rows low (Some rows) h = (subst AreDistinct (sym (append-nil rows)) h.0, ap (are_upto low) (append-nil rows) ∙ h.1)

pub layers_apart : (memory frozen : List Row) (table : TableState) (levels : List (List TableState)) (high low : ℕ) → levels ≡ (table ∷ []) ∷ [] → IsTrue (is_ordered memory) → IsTrue (is_ordered frozen) → IsTrue (are_over high memory)
    → IsTrue (are_over low frozen) → IsTrue (are_upto high frozen) → IfSome table.rows (AreDistinctUpto low) → low ≤ high → AreDistinct (all_told_rows (source_rows (record { memory = memory; frozen = Some frozen; levels = levels })))
layers_apart memory frozen table levels high low is order frozen_order over frozen_over upto held le =
    let older = older_rows low table.rows held in
    let behind = told_rows table.rows ++ [] in
    subst (λ (ls : List (List TableState)). AreDistinct (all_told_rows (source_rows (record { memory = memory; frozen = Some frozen; levels = ls })))) (sym is)
    (distinct_above high memory (frozen ++ behind) (distinct_ordered memory order) (distinct_above low frozen behind (distinct_ordered frozen frozen_order) older.0 frozen_over older.1) over
    (upto_both high frozen behind upto (upto_on low high behind older.1 le)))
