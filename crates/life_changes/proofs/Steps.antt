-- One more row that is wanted, as loops over them meet it.
use Rattle.std.proofs.Common.{◌≡◌, ℕ, zero, suc, ◌+◌, ◌<◌, ◌≤◌, refl, sym, ap, subst, ◌∙◌, Bool, true, false, cond, List, [], ◌∷◌, length, take, get_or, arith}
use Rattle.std.proofs.Math.Seq.{take-length}
use Rattle.std.proofs.lemmas.List.Sums.{fold_more, sum_by_more}
use Rattle.std.proofs.lemmas.Option.{slice_get-get_or}
use Rattle.std.specs.Prelude.{Option, Some, None, IfSome, IsTrue, not, fold, filter, slice_get}
use Rattle.kv_base.specs.Map.{get, empty, insert, insert_all, from_list, same_entries_map, sorted-filter, keep, size}
use Rattle.kv_base.specs.InversionLaws.{both_first, both_second}
use Rattle.batch_codec.specs.Batches.{Batch, BatchEntry, is_row, are_rows}
use Rattle.batch_codec.specs.EntryListLaws.{entries_from_list}
use Rattle.lives_model.specs.Rows.{Rows}
use Rattle.lives_model.specs.Plans.{same_row}
use Rattle.plan_base.specs.LifeChanges.{row_differs, differing, adds_row, removes_row, added_rows, removed_rows}
use Rattle.life_changes.specs.declared.change.Changing.{Changing}
use Rattle.life_changes.specs.ChangeSteps.{with_differing, TakesWish, AreTaken}

-- an entry of rows on the grammar is on it
pub entry_fits : (es : List BatchEntry) (i : ℕ) (e : BatchEntry) → IsTrue (are_rows es) → Some e ≡ slice_get es i → IsTrue (is_row e)
entry_fits [] i e all is = absurd (cc)
entry_fits (x ∷ es) zero e all is = let same : e ≡ x = cc in ap is_row same ∙ both_first (is_row x) (are_rows es) all
entry_fits (x ∷ es) (suc i) e all is = entry_fits es i e (both_second (is_row x) (are_rows es) all) is

-- nothing is taken in at the start
pub taken_none : (rows : Option Rows) (now : Changing) → now.rows ≡ empty → now.added ≡ 0 → now.removed ≡ 0 → IfSome rows (λ c. AreTaken c [] now)
taken_none None now r a d = tt
taken_none (Some c) now r a d = record { rows = r; added = a; removed = d }

-- and then one row more
taken_one : (c : Rows) (es : List BatchEntry) (i : ℕ) (d : BatchEntry) (before after : Changing) → i < length es → AreTaken c (take i es) before
    → TakesWish (get c (get_or es i d).0) (get_or es i d) before after → AreTaken c (take (i + 1) es) after
taken_one c es i d before after low taken one = record {
  rows = one.rows ∙ ap (λ b. with_differing (get c (get_or es i d).0) b (get_or es i d)) taken.rows ∙ sym (fold_more (λ b e. with_differing (get c e.0) b e) empty es i d low);
  added = one.added ∙ ap (λ n. n + cond (adds_row c (get_or es i d)) 1 0) taken.added ∙ sym (sum_by_more (λ e. cond (adds_row c e) 1 0) es i d low);
  removed = one.removed ∙ ap (λ n. n + cond (removes_row c (get_or es i d)) 1 0) taken.removed ∙ sym (sum_by_more (λ e. cond (removes_row c e) 1 0) es i d low);
}

pub taken_next : (rows now : Option Rows) (wanted : Batch) (at : ℕ) (before after : Changing) → at < size wanted → now ≡ rows
    → IfSome rows (λ c. AreTaken c (take at wanted.entries) before)
    → IfSome now (λ c. IfSome (slice_get wanted.entries at) (λ e. TakesWish (get c e.0) e before after))
    → IfSome rows (λ c. AreTaken c (take (at + 1) wanted.entries) after)
unfolding size
taken_next None now wanted at before after low same taken one = tt
taken_next (Some c) now wanted at before after low same taken one =
    let here : IfSome (slice_get wanted.entries at) (λ e. TakesWish (get c e.0) e before after) = subst (λ (o : Option Rows). IfSome o (λ c. IfSome (slice_get wanted.entries at) (λ e. TakesWish (get c e.0) e before after))) same one in
    taken_one c wanted.entries at ([], None) before after low taken
    (subst (λ (o : Option BatchEntry). IfSome o (λ e. TakesWish (get c e.0) e before after)) (slice_get-get_or wanted.entries at ([], None) low) here)

-- what is kept of the rows is those that differ
kept_rows : (c : Rows) (b : Batch) (es : List BatchEntry) → fold (λ b e. with_differing (get c e.0) b e) b es ≡ insert_all b (filter (λ e. row_differs c e.0 e.1) es)
kept_rows c b [] = refl
kept_rows c b (e ∷ es) = by_test (same_row (get c e.0) e.1) (kept_rows c b es) (kept_rows c (insert b e.0 e.1) es)
  where
    by_test : (s : Bool) → fold (λ b e. with_differing (get c e.0) b e) b es ≡ insert_all b (filter (λ e. row_differs c e.0 e.1) es)
        → fold (λ b e. with_differing (get c e.0) b e) (insert b e.0 e.1) es ≡ insert_all (insert b e.0 e.1) (filter (λ e. row_differs c e.0 e.1) es)
        → fold (λ b e. with_differing (get c e.0) b e) (cond s b (insert b e.0 e.1)) es ≡ insert_all b (cond (not s) (e ∷ filter (λ e. row_differs c e.0 e.1) es) (filter (λ e. row_differs c e.0 e.1) es))
    by_test true without with_it = without
    by_test false without with_it = with_it

differing_rows : (c : Rows) (wanted : Batch) → fold (λ b e. with_differing (get c e.0) b e) empty wanted.entries ≡ differing c wanted
unfolding differing keep
differing_rows c wanted =
    kept_rows c empty wanted.entries
    ∙ same_entries_map (from_list (filter (λ e. row_differs c e.0 e.1) wanted.entries)) (keep (row_differs c) wanted)
    (entries_from_list (filter (λ e. row_differs c e.0 e.1) wanted.entries) (sorted-filter (λ e. row_differs c e.0 e.1) wanted.entries wanted.sorted))

-- all are taken in
all_taken : (c : Rows) (wanted : Batch) (at : ℕ) (now : Changing) → at ≤ size wanted → size wanted ≤ at → AreTaken c (take at wanted.entries) now → AreTaken c wanted.entries now
unfolding size
all_taken c wanted at now low high taken =
    let count : at ≡ length wanted.entries = omega arith in
    let all : take at wanted.entries ≡ wanted.entries = ap (λ n. take n wanted.entries) count ∙ take-length wanted.entries in
    subst (λ (es : List BatchEntry). AreTaken c es now) all taken

pub rows_done : (rows : Option Rows) (wanted : Batch) (at : ℕ) (now : Changing) (b : Batch) → at ≤ size wanted → size wanted ≤ at
    → IfSome rows (λ c. AreTaken c (take at wanted.entries) now) → b ≡ now.rows → IfSome rows (λ c. b ≡ differing c wanted)
rows_done None wanted at now b low high taken is = tt
rows_done (Some c) wanted at now b low high taken is = is ∙ (all_taken c wanted at now low high taken).rows ∙ differing_rows c wanted

pub added_done : (rows : Option Rows) (wanted : Batch) (at : ℕ) (now : Changing) (n : ℕ) → at ≤ size wanted → size wanted ≤ at
    → IfSome rows (λ c. AreTaken c (take at wanted.entries) now) → n ≡ now.added → IfSome rows (λ c. n ≡ added_rows c wanted)
unfolding added_rows
added_done None wanted at now n low high taken is = tt
added_done (Some c) wanted at now n low high taken is = is ∙ (all_taken c wanted at now low high taken).added

pub removed_done : (rows : Option Rows) (wanted : Batch) (at : ℕ) (now : Changing) (n : ℕ) → at ≤ size wanted → size wanted ≤ at
    → IfSome rows (λ c. AreTaken c (take at wanted.entries) now) → n ≡ now.removed → IfSome rows (λ c. n ≡ removed_rows c wanted)
unfolding removed_rows
removed_done None wanted at now n low high taken is = tt
removed_done (Some c) wanted at now n low high taken is = is ∙ (all_taken c wanted at now low high taken).removed
