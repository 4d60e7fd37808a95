-- How a row is sought from row to row.
use Rattle.std.proofs.Common.{◌≡◌, ℕ, List, [], ◌∷◌, refl, sym, ap, subst, ◌∙◌, true, false, cond, length, Option, Some, None, length-append, arith}
use Rattle.std.specs.Prelude.{◌==◌}
use Rattle.kv_base.specs.Map.{Bytes}
use Rattle.kv_base.specs.InversionLaws.{same_some, number_is}
use Rattle.kv_base.specs.declared.row.Row.{Row}
use Rattle.row_model.specs.RowOrder.{is_before}
use Rattle.sst_parts.specs.RowTexts.{row_text, rows_text, read_row}
use Rattle.sst_parts.specs.RowTextLaws.{row_text_is_read, length-row}
use Rattle.sst_parts.specs.Seeking.{first_from, AreReadable}

-- of the rows of a body, some are left, and of these the first that is sought is that of all
pub record AreLeft (raw : Bytes) (s : ℕ) (rows : List Row) (rest : Bytes) : Type 0 where
  pub left : List Row
  pub readable : AreReadable left
  pub spelled : rest ≡ rows_text left
  pub first : first_from raw s rows ≡ first_from raw s left

pub left_whole : (raw : Bytes) (s : ℕ) (rows : List Row) (body : Bytes) → AreReadable rows → body ≡ rows_text rows → AreLeft raw s rows body
left_whole raw s rows body readable is = record { left = rows; readable = readable; spelled = is; first = refl }

-- what the rows are where one of them is read
record IsFirst (rows : List Row) (front : Row × Bytes) : Type 0 where
  pub others : List Row
  pub is : rows ≡ front.0 ∷ others
  pub behind : front.1 ≡ rows_text others

first_read : (rows : List Row) (rest : Bytes) (front : Row × Bytes) → AreReadable rows → rest ≡ rows_text rows → (length rest == 0) ≡ false → read_row rest ≡ Some front → IsFirst rows front
first_read [] rest front readable is some h =
    let never : (length rest == 0) ≡ true = ap (λ (b : Bytes). length b == 0) is in
    absurd (cc)
first_read (row ∷ rows) rest front readable is some h =
    let same : (row, rows_text rows) ≡ front = same_some (row, rows_text rows) front (sym (row_text_is_read row (rows_text rows) readable.0 readable.1) ∙ sym (ap read_row is) ∙ h) in
    record { others = rows; is = ap (λ (f : Row × Bytes). f.0 ∷ rows) same; behind = ap (λ (f : Row × Bytes). f.1) (sym same) }

pub not_off : (raw : Bytes) (s : ℕ) (rows : List Row) (rest : Bytes) → AreLeft raw s rows rest → (length rest == 0) ≡ false → read_row rest ≡ None → ⊥
not_off raw s rows rest left some h = by_left left.left left.readable left.spelled
  where
    by_left : (rs : List Row) → AreReadable rs → rest ≡ rows_text rs → ⊥
    by_left [] readable is = let never : true ≡ false = sym (ap (λ (b : Bytes). length b == 0) is) ∙ some in absurd (cc)
    by_left (row ∷ rs) readable is =
        let read : ◌≡◌ {A = Option (Row × Bytes)} None (Some (row, rows_text rs)) = sym h ∙ ap read_row is ∙ row_text_is_read row (rows_text rs) readable.0 readable.1 in
        absurd (cc)

pub sought_here : (raw : Bytes) (s : ℕ) (rows : List Row) (rest : Bytes) (front : Row × Bytes) → AreLeft raw s rows rest → (length rest == 0) ≡ false → read_row rest ≡ Some front → is_before raw s front.0 ≡ false
    → first_from raw s rows ≡ Some front.0
unfolding first_from
sought_here raw s rows rest front left some h behind =
    let it = first_read left.left rest front left.readable left.spelled some h in
    left.first ∙ ap (first_from raw s) it.is ∙ ap (λ b. cond b (first_from raw s it.others) (Some front.0)) behind

pub sought_behind : (raw : Bytes) (s : ℕ) (rows : List Row) (rest : Bytes) (front : Row × Bytes) → AreLeft raw s rows rest → (length rest == 0) ≡ false → read_row rest ≡ Some front → is_before raw s front.0 ≡ true
    → AreLeft raw s rows front.1
unfolding first_from
sought_behind raw s rows rest front left some h before =
    let it = first_read left.left rest front left.readable left.spelled some h in
    let readable = subst AreReadable it.is left.readable in
    record {
      left = it.others;
      readable = readable.2;
      spelled = it.behind;
      first = left.first ∙ ap (first_from raw s) it.is ∙ ap (λ b. cond b (first_from raw s it.others) (Some front.0)) before;
    }

pub sought_nowhere : (raw : Bytes) (s : ℕ) (rows : List Row) (rest : Bytes) → AreLeft raw s rows rest → (length rest == 0) ≡ true → first_from raw s rows ≡ None
unfolding first_from
sought_nowhere raw s rows [] left none = left.first ∙ by_left left.left left.spelled
  where
    by_left : (rs : List Row) → [] ≡ rows_text rs → first_from raw s rs ≡ None
    by_left [] is = refl
    by_left (row ∷ rs) is =
        let long = ap (λ (b : Bytes). length b) is in
        let parts = length-append (row_text row) (rows_text rs) in
        let some = length-row row in
        absurd (omega (arith, long, parts, some))
sought_nowhere raw s rows (b ∷ rest) left none = absurd (let never : length (b ∷ rest) ≡ 0 = number_is (length (b ∷ rest)) 0 none in omega (arith, never))
