-- A row that a batch writes under a sequence.
use Rattle.std.proofs.Common.{◌≡◌, ℕ, List, [], ◌∷◌, refl, sym, ap, subst, ◌∙◌, Bool, true, false, cond, inl, inr}
use Rattle.std.specs.Prelude.{◌&&◌, ◌⊎◌, T, map, Some, None}
use Rattle.std.specs.List.{Contains}
use Rattle.std.specs.FinMap.Entries.{find, is_sorted, below_all}
use Rattle.std.specs.declared.cmp.Ordering.{Ordering}
use Rattle.std.specs.Ordering.{is_lt, is_eq}
use Rattle.kv_base.specs.TestLaws.{first, second, less}
use Rattle.kv_base.specs.Map.{Bytes, byte_cmp, same, same_is, same_itself, get}
use Rattle.batch_codec.specs.Batches.{BatchEntry, Batch}
use Rattle.kv_base.specs.declared.row.Row.{Row}
use Rattle.row_model.specs.Rows.{entry_row, batch_rows}
use Rattle.row_model.specs.RowLaws.{there_cases, there_never}

-- a raw key below all of a list is not found there
none_below : (q : Bytes) (es : List BatchEntry) → T (below_all byte_cmp q es) → find byte_cmp q es ≡ None
none_below q [] h = refl
none_below q (e ∷ es) h =
    ap (λ (r : Ordering). cond (is_eq r) (Some e.1) (find byte_cmp q es)) (less (byte_cmp q e.0) (first (is_lt (byte_cmp q e.0)) (below_all byte_cmp q es) h))
    ∙ none_below q es (second (is_lt (byte_cmp q e.0)) (below_all byte_cmp q es) h)

-- a row of a sorted list of entries is found at its raw key
found_entry : (seq : ℕ) (es : List BatchEntry) (row : Row) → T (is_sorted byte_cmp es) → Contains (map (entry_row seq) es) row → (row.seq ≡ seq) × (find byte_cmp row.raw es ≡ Some row.value)
found_entry seq [] row sorted there = absurd (there_never row there)
found_entry seq (e ∷ es) row sorted there =
    by_place (λ behind. found_entry seq es row (second (below_all byte_cmp e.0 es) (is_sorted byte_cmp es) sorted) behind) (there_cases (map (entry_row seq) es) row (entry_row seq e) there)
  where
    by_test : (b : Bool) → same row.raw e.0 ≡ b → find byte_cmp row.raw es ≡ Some row.value → cond b (Some e.1) (find byte_cmp row.raw es) ≡ Some row.value
    by_test true t there =
        let none : find byte_cmp row.raw es ≡ None = subst (λ (k : Bytes). find byte_cmp k es ≡ None) (sym (same_is row.raw e.0 t)) (none_below e.0 es (first (below_all byte_cmp e.0 es) (is_sorted byte_cmp es) sorted)) in
        absurd (cc)
    by_test false t there = there

    by_place : (Contains (map (entry_row seq) es) row → (row.seq ≡ seq) × (find byte_cmp row.raw es ≡ Some row.value)) → (entry_row seq e ≡ row) ⊎ Contains (map (entry_row seq) es) row
        → (row.seq ≡ seq) × (find byte_cmp row.raw (e ∷ es) ≡ Some row.value)
    by_place rest (inl is) = (
      sym (ap (λ (r : Row). r.seq) is),
      subst (λ (r : Row). find byte_cmp r.raw (e ∷ es) ≡ Some r.value) is (ap (λ (b : Bool). cond b (Some e.1) (find byte_cmp e.0 es)) (same_itself e.0)),
    )
    by_place rest (inr behind) = let found = rest behind in (found.0, by_test (same row.raw e.0) refl found.1)

-- it has the sequence, and its value is what the batch has at its raw key
pub batch_row_is : (seq : ℕ) (batch : Batch) (row : Row) → Contains (batch_rows seq batch) row → (row.seq ≡ seq) × (get batch row.raw ≡ Some row.value)
unfolding batch_rows get
batch_row_is seq batch row there = found_entry seq batch.entries row batch.sorted there
