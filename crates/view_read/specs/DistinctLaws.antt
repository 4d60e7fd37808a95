-- Rows of which no two have both raw key and sequence equal.
use Rattle.std.proofs.Common.{◌≡◌, ℕ, ◌+◌, ◌≤◌, List, [], ◌∷◌, ◌++◌, refl, ap, ◌∙◌, Bool, true, false, cond, arith}
use Rattle.std.specs.Prelude.{nat_lt, nat_le, IsTrue}
use Rattle.std.specs.List.{count_by, list_all}
use Rattle.std.specs.declared.cmp.Ordering.{Ordering}
use Rattle.std.specs.declared.cmp.Ordering.TheVariants.{Less, Equal, Greater}
use Rattle.std.specs.Ordering.{nat_cmp, is_lt, is_eq, ordering_then}
use Rattle.std.proofs.lemmas.Bool.Decides.{nat_tests}
use Rattle.std.proofs.lemmas.List.Sums.{sum_by-append, sum_by-cons}
use Rattle.kv_base.specs.InversionLaws.{both_first, both_second}
use Rattle.kv_base.specs.Map.{byte_cmp}
use Rattle.kv_base.specs.TestLaws.{less_is}
use Rattle.kv_base.specs.declared.row.Row.{Row}
use Rattle.row_model.specs.Rows.{are_upto}
use Rattle.row_model.specs.RowOrder.{row_cmp, leads, is_ordered}
use Rattle.row_model.specs.RowOrderLaws.{row_total}
use Rattle.merge_rows.specs.Merged.{AreDistinct}

-- ---- rows that stand in order

none_tied : (row x : Row) (xs : List Row) → row_cmp row x ≡ Equal → leads x xs ≡ true → count_by (λ other. is_eq (row_cmp row other)) xs ≡ 0
none_tied row x [] tied lead = refl
none_tied row x (y ∷ xs) tied lead =
    let order : row_cmp row y ≡ Less = row_total.congr row x y tied ∙ less_is (row_cmp x y) (both_first (is_lt (row_cmp x y)) (leads x xs) lead) in
    let rest = none_tied row x xs tied (both_second (is_lt (row_cmp x y)) (leads x xs) lead) in
    sum_by-cons (λ other. cond (is_eq (row_cmp row other)) 1 0) y xs ∙ (λ i. cond (is_eq (order i)) 1 0 + rest i)

-- no two of them tie
pub distinct_ordered : (rows : List Row) → is_ordered rows ≡ true → AreDistinct rows
unfolding is_ordered
distinct_ordered [] h row = omega arith
distinct_ordered (x ∷ xs) h row = by_order (row_cmp row x) refl (distinct_ordered xs (both_second (leads x xs) (is_ordered xs) h) row)
  where
    few : Ordering → ℕ
    few o = cond (is_eq o) 1 0 + count_by (λ other. is_eq (row_cmp row other)) xs

    whole : count_by (λ other. is_eq (row_cmp row other)) (x ∷ xs) ≡ few (row_cmp row x)
    whole = sum_by-cons (λ other. cond (is_eq (row_cmp row other)) 1 0) x xs

    by_order : (o : Ordering) → row_cmp row x ≡ o → count_by (λ other. is_eq (row_cmp row other)) xs ≤ 1 → count_by (λ other. is_eq (row_cmp row other)) (x ∷ xs) ≤ 1
    by_order Less e rest = let parts : count_by (λ other. is_eq (row_cmp row other)) (x ∷ xs) ≡ 0 + count_by (λ other. is_eq (row_cmp row other)) xs = whole ∙ ap few e in omega (arith, parts, rest)
    by_order Greater e rest = let parts : count_by (λ other. is_eq (row_cmp row other)) (x ∷ xs) ≡ 0 + count_by (λ other. is_eq (row_cmp row other)) xs = whole ∙ ap few e in omega (arith, parts, rest)
    by_order Equal e rest =
        let parts : count_by (λ other. is_eq (row_cmp row other)) (x ∷ xs) ≡ 1 + count_by (λ other. is_eq (row_cmp row other)) xs = whole ∙ ap few e in
        let none = none_tied row x xs e (both_first (leads x xs) (is_ordered xs) h) in
        omega (arith, parts, none)

-- ---- rows above a sequence, and rows up to it

untied_apart : (row other : Row) → is_eq (nat_cmp other.seq row.seq) ≡ false → is_eq (row_cmp row other) ≡ false
untied_apart row other apart = by_key (byte_cmp row.raw other.raw)
  where
    by_key : (o : Ordering) → is_eq (ordering_then o (nat_cmp other.seq row.seq)) ≡ false
    by_key Less = refl
    by_key Equal = apart
    by_key Greater = refl

none_passing : (row : Row) (p : Row → Bool) (rows : List Row) → ((other : Row) → p other ≡ true → is_eq (row_cmp row other) ≡ false) → list_all p rows ≡ true → count_by (λ other. is_eq (row_cmp row other)) rows ≡ 0
none_passing row p [] apart h = refl
none_passing row p (x ∷ rows) apart h =
    let here = apart x (both_first (p x) (list_all p rows) h) in
    let rest = none_passing row p rows apart (both_second (p x) (list_all p rows) h) in
    sum_by-cons (λ other. cond (is_eq (row_cmp row other)) 1 0) x rows ∙ (λ i. cond (here i) 1 0 + rest i)

-- none of these ties with one of those
pub distinct_above : (last : ℕ) (rows older : List Row) → AreDistinct rows → AreDistinct older → IsTrue (list_all (λ row. nat_lt last row.seq) rows) → IsTrue (are_upto last older) → AreDistinct (rows ++ older)
distinct_above last rows older h k high low = λ row. by_seq row (nat_lt last row.seq) refl (h row) (k row) (sum_by-append (λ other. cond (is_eq (row_cmp row other)) 1 0) rows older)
  where
    newer_apart : (row other : Row) → nat_lt last row.seq ≡ true → nat_le other.seq last ≡ true → is_eq (row_cmp row other) ≡ false
    newer_apart row other t e = let order : nat_cmp other.seq row.seq ≡ Less = grind (arith, nat_tests) in untied_apart row other (ap is_eq order)

    older_apart : (row other : Row) → nat_lt last row.seq ≡ false → nat_lt last other.seq ≡ true → is_eq (row_cmp row other) ≡ false
    older_apart row other t e = let order : nat_cmp other.seq row.seq ≡ Greater = grind (arith, nat_tests) in untied_apart row other (ap is_eq order)

    by_seq : (row : Row) (b : Bool) → nat_lt last row.seq ≡ b → count_by (λ other. is_eq (row_cmp row other)) rows ≤ 1 → count_by (λ other. is_eq (row_cmp row other)) older ≤ 1
        → count_by (λ other. is_eq (row_cmp row other)) (rows ++ older) ≡ count_by (λ other. is_eq (row_cmp row other)) rows + count_by (λ other. is_eq (row_cmp row other)) older → count_by (λ other. is_eq (row_cmp row other)) (rows ++ older) ≤ 1
    by_seq row true t few few_older sum = let none = none_passing row (λ other. nat_le other.seq last) older (λ other e. newer_apart row other t e) low in omega (arith, none, few, sum)
    by_seq row false t few few_older sum = let none = none_passing row (λ other. nat_lt last other.seq) rows (λ other e. older_apart row other t e) high in omega (arith, none, few_older, sum)
