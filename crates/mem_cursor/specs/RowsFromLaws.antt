-- Laws on the rows that pass a test, and on those from a raw key on.
use Rattle.std.proofs.Common.{◌≡◌, List, [], ◌∷◌, refl, Bool, true, false, cond}
use Rattle.std.specs.Prelude.{◌&&◌, filter, not}
use Rattle.std.specs.Ordering.{is_lt}
use Rattle.kv_base.specs.InversionLaws.{both_first, both_second}
use Rattle.kv_base.specs.Map.{Bytes}
use Rattle.kv_base.specs.declared.row.Row.{Row}
use Rattle.row_model.specs.Rows.{is_row_text, are_row_texts}
use Rattle.row_model.specs.RowOrder.{row_cmp, is_below, is_ordered, leads}
use Rattle.merge_rows.specs.Cursors.{AreInOrder}
use Rattle.mem_table.specs.Search.{rows_from}

both : (a b : Bool) → a ≡ true → b ≡ true → (a && b) ≡ true
both a b e f = rw (e, f) refl

module _ (q : Row → Bool) where
  leads_filtered : (row : Row) (xs : List Row) → leads row xs ≡ true → leads row (filter q xs) ≡ true
  leads_filtered row [] h = refl
  leads_filtered row (x ∷ xs) h = by_test (q x) (leads_filtered row xs (both_second (is_lt (row_cmp row x)) (leads row xs) h))
    where
      by_test : (b : Bool) → leads row (filter q xs) ≡ true → leads row (cond b (x ∷ filter q xs) (filter q xs)) ≡ true
      by_test true rest = both (is_lt (row_cmp row x)) (leads row (filter q xs)) (both_first (is_lt (row_cmp row x)) (leads row xs) h) rest
      by_test false rest = rest

  -- they stay in order
  pub ordered_filtered : (xs : List Row) → is_ordered xs ≡ true → is_ordered (filter q xs) ≡ true
  unfolding is_ordered
  ordered_filtered [] h = refl
  ordered_filtered (x ∷ xs) h = by_test (q x) (ordered_filtered xs (both_second (leads x xs) (is_ordered xs) h))
    where
      by_test : (b : Bool) → is_ordered (filter q xs) ≡ true → is_ordered (cond b (x ∷ filter q xs) (filter q xs)) ≡ true
      by_test true rest = both (leads x (filter q xs)) (is_ordered (filter q xs)) (leads_filtered x xs (both_first (leads x xs) (is_ordered xs) h)) rest
      by_test false rest = rest

  -- and on their grammar
  texts_filtered : (xs : List Row) → are_row_texts xs ≡ true → are_row_texts (filter q xs) ≡ true
  texts_filtered [] h = refl
  texts_filtered (x ∷ xs) h = by_test (q x) (texts_filtered xs (both_second (is_row_text x) (are_row_texts xs) h))
    where
      by_test : (b : Bool) → are_row_texts (filter q xs) ≡ true → are_row_texts (cond b (x ∷ filter q xs) (filter q xs)) ≡ true
      by_test true rest = both (is_row_text x) (are_row_texts (filter q xs)) (both_first (is_row_text x) (are_row_texts xs) h) rest
      by_test false rest = rest

pub in_order_from : (raw : Bytes) (rows : List Row) → is_ordered rows ≡ true → are_row_texts rows ≡ true → AreInOrder (rows_from raw rows)
in_order_from raw rows order texts = (ordered_filtered (λ row. not (is_below raw row)) rows order, texts_filtered (λ row. not (is_below raw row)) rows texts)
