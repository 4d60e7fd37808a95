-- Batches that are joined entry by entry.
use Rattle.std.proofs.Common.{◌≡◌, ℕ, zero, suc, ◌+◌, ◌<◌, ◌≤◌, true, List, [], ◌∷◌, length, refl, sym, ap, ◌∙◌, take, arith}
use Rattle.std.proofs.lemmas.Bool.Decides.{nat_tests}
use Rattle.std.proofs.lemmas.List.{take_all}
use Rattle.std.proofs.lemmas.List.Sums.{fold_more}
use Rattle.std.proofs.lemmas.Option.{slice_get-get_or, get_or_from_slice_get}
use Rattle.std.specs.Prelude.{◌==◌, Option, Some, None, IsTrue}
use Rattle.std.specs.List.{slice_get}
use Rattle.kv_base.specs.Map.{Bytes, empty, insert, insert_all, size, same_entries_map}
use Rattle.kv_base.specs.InversionLaws.{both_first, both_second}
use Rattle.batch_codec.specs.Batches.{Batch, joined, is_row, are_rows}
use Rattle.batch_codec.specs.EntryListLaws.{from_its_entries}

-- a batch with the first entries of a later one, so many
abbrev pub joined_first : Batch → Batch → ℕ → Batch
joined_first b later n = insert_all b (take n later.entries)

-- one entry more
pub joined_next : (b later : Batch) (i : ℕ) (raw : Bytes) (value : Option Bytes) → i < size later → Some (raw, value) ≡ slice_get later.entries i → joined_first b later (i + 1) ≡ insert (joined_first b later i) raw value
unfolding size
joined_next b later i raw value low is =
    fold_more (λ n e. insert n e.0 e.1) b later.entries i (raw, value) low
    ∙ ap (λ (e : Bytes × Option Bytes). insert (joined_first b later i) e.0 e.1) (get_or_from_slice_get later.entries i (raw, value) (raw, value) (sym is))

-- all of them
pub joined_all : (b later : Batch) (i : ℕ) → size later ≤ i → joined_first b later i ≡ joined b later
unfolding size joined
joined_all b later i h = ap (insert_all b) (take_all i later.entries h)

-- there is an entry at each place below the size
pub entry_there : (b : Batch) (i : ℕ) → i < size b → None ≡ slice_get b.entries i → ⊥
unfolding size
entry_there b i low e = let some = slice_get-get_or b.entries i ([], None) low in cc

-- and it is on the grammar where all are
pub row_there : (es : List (Bytes × Option Bytes)) (i : ℕ) (raw : Bytes) (value : Option Bytes) → IsTrue (are_rows es) → Some (raw, value) ≡ slice_get es i → IsTrue (is_row (raw, value))
row_there [] i raw value all is = absurd (cc)
row_there (e ∷ es) zero raw value all is =
    let same : (raw, value) ≡ e = cc in
    ap is_row same ∙ both_first (is_row e) (are_rows es) all
row_there (e ∷ es) (suc i) raw value all is = row_there es i raw value (both_second (is_row e) (are_rows es) all) is

-- a batch joined to nothing is itself
pub joined_nothing : (b later : Batch) → joined (joined empty b) later ≡ joined b later
unfolding joined
joined_nothing b later = ap (λ (n : Batch). insert_all n later.entries) (from_its_entries b)

-- where a batch has nothing, the later one is both
pub joined_to_none : (b later : Batch) → (size b == 0) ≡ true → later ≡ joined b later
unfolding size empty joined
joined_to_none b later none =
    let nothing : b ≡ empty = same_entries_map b empty (no_items b.entries (is_zero (length b.entries) none)) in
    sym (ap (λ (n : Batch). insert_all n later.entries) nothing ∙ from_its_entries later)
  where
    is_zero : (n : ℕ) → (n == 0) ≡ true → n ≡ 0
    is_zero n test = grind (arith, nat_tests)

    no_items : {X : Type 0} (xs : List X) → length xs ≡ 0 → xs ≡ []
    no_items [] e = refl
    no_items (x ∷ xs) e = let never : ⊥ = omega arith in absurd never
