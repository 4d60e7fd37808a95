-- A memtable's rows as one table.
use Rattle.std.proofs.Common.{◌≡◌, ℕ, ◌<◌, List, [], ◌∷◌, ◌++◌, length, refl, sym, ap, subst, cond, ◌∙◌, append_assoc, append-nil, false, arith}
use Rattle.std.specs.Prelude.{not, Option, Some, None, IfSome}
use Rattle.std.specs.Ordering.{is_lt}
use Rattle.kv_base.specs.Map.{Bytes, byte_cmp}
use Rattle.kv_base.specs.declared.row.Row.{Row}
use Rattle.mem_table.specs.Search.{rows_from}
use Rattle.sst_grammar.specs.Judging.{has_none}
use Rattle.sst_file.specs.States.{TableState}
use Rattle.sst_writer.specs.Cutting.{cut_from}
use Rattle.sst_writer.specs.Written.{IsNextTable}
use Rattle.compact_job.specs.Flushing.{IsFlushTable, flush_id}

no_less : (raw : Bytes) → is_lt (byte_cmp raw []) ≡ false
no_less [] = refl
no_less (byte ∷ raw) = refl

-- from the least raw key on stand all rows
pub all_from : (rows : List Row) → rows_from [] rows ≡ rows
all_from [] = refl
all_from (row ∷ rows) = ap (λ b. cond (not b) (row ∷ rows_from [] rows) (rows_from [] rows)) (no_less row.raw) ∙ ap (λ (rest : List Row). row ∷ rest) (all_from rows)

-- without a limit the table has all rows
cut_all : (done rows : List Row) → (cut_from None done rows).0 ≡ done ++ rows
unfolding cut_from
cut_all done [] = sym (append-nil done)
cut_all done (row ∷ rows) = cut_all (done ++ row ∷ []) rows ∙ append_assoc done (row ∷ []) rows

flush_table : (run : ℕ) (rows : List Row) (table : TableState) → IsNextTable (flush_id run) None (rows_from [] rows) table → IsFlushTable run rows table
flush_table run rows table next = subst (λ (own : List Row). IsFlushTable run own table) (cut_all [] (rows_from [] rows) ∙ all_from rows)
    (record { desc = next.desc; lawful = next.lawful; told = next.told })

-- and there is one
pub has_some_row : (rows : List Row) → 0 < length rows → has_none (rows_from [] rows) ≡ false
has_some_row rows some = ap has_none (all_from rows) ∙ not_none rows some
  where
    not_none : (rows : List Row) → 0 < length rows → has_none rows ≡ false
    not_none [] some = absurd (omega arith)
    not_none (row ∷ rows) some = refl

-- so the table that was written of a memtable's rows, from the least raw key on, is that of the flush
pub flushed : (run : ℕ) (rows seen : List Row) (told : Option (List Row)) (found : Option TableState) (table : TableState) → found ≡ Some table → told ≡ Some seen → seen ≡ rows_from [] rows
    → IfSome found (λ (t : TableState). IfSome told (λ (all : List Row). IsNextTable (flush_id run) None all t)) → IsFlushTable run rows table
flushed run rows seen told found table is is_told from next =
    let one : IfSome told (λ (all : List Row). IsNextTable (flush_id run) None all table) = subst (λ (o : Option TableState). IfSome o (λ (t : TableState). IfSome told (λ (all : List Row). IsNextTable (flush_id run) None all t))) is next in
    let two : IsNextTable (flush_id run) None seen table = subst (λ (o : Option (List Row)). IfSome o (λ (all : List Row). IsNextTable (flush_id run) None all table)) is_told one in
    flush_table run rows table (subst (λ (all : List Row). IsNextTable (flush_id run) None all table) from two)
