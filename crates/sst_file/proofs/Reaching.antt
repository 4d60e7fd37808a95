-- How the first row from a raw key on is reached, from row to row.
use Rattle.std.proofs.Common.{◌≡◌, ◌+◌, ◌-◌, ◌≤◌, List, [], ◌∷◌, ◌++◌, refl, sym, ap, subst, ◌∙◌, true, false, cond, length, drop, Option, Some, None, append_assoc, append-nil, length-append, arith}
use Rattle.std.specs.Prelude.{◌==◌, not}
use Rattle.std.proofs.lemmas.List.{drop_at, drop-drop}
use Rattle.std.proofs.lemmas.List.Elements.{filter-append}
use Rattle.kv_base.specs.Map.{Bytes}
use Rattle.kv_base.specs.InversionLaws.{same_some, number_is}
use Rattle.kv_base.specs.declared.row.Row.{Row}
use Rattle.row_model.specs.RowOrder.{is_below}
use Rattle.sst_parts.specs.RowTexts.{row_text, rows_text, read_row}
use Rattle.sst_parts.specs.RowTextLaws.{row_text_is_read, only_row_text_is_read, row_shortens, length-row}
use Rattle.sst_parts.specs.Seeking.{AreReadable}
use Rattle.sst_file.specs.Walking.{rows_from, IsNextReached, IsTail}

-- of the rows of a body some were passed, and the others are left
pub record AreLeftFrom (raw : Bytes) (rows : List Row) (rest : Bytes) : Type 0 where
  pub passed : List Row
  pub left : List Row
  pub are : rows ≡ passed ++ left
  pub below : rows_from raw passed ≡ []
  pub readable : AreReadable left
  pub spelled : rest ≡ rows_text left

-- the last bytes of a body
pub record IsEndOf (body rest : Bytes) : Type 0 where
  pub within : length rest ≤ length body
  pub is : rest ≡ drop (length body - length rest) body

pub record HasReached (raw body rest : Bytes) : Type 0 where
  pub left : (rows : List Row) → AreReadable rows → body ≡ rows_text rows → AreLeftFrom raw rows rest
  pub end : IsEndOf body rest

-- ---- a row is read

record IsReadFirst (rows : List Row) (front : Row × Bytes) : Type 0 where
  pub others : List Row
  pub are : rows ≡ front.0 ∷ others
  pub behind : front.1 ≡ rows_text others

read_first : (rows : List Row) (rest : Bytes) (front : Row × Bytes) → AreReadable rows → rest ≡ rows_text rows → Some front ≡ read_row rest → IsReadFirst rows front
unfolding read_row
read_first [] rest front readable is h = let never : Some front ≡ None = h ∙ ap read_row is in absurd (cc)
read_first (row ∷ rows) rest front readable is h =
    let same : (row, rows_text rows) ≡ front = same_some (row, rows_text rows) front (sym (row_text_is_read row (rows_text rows) readable.0 readable.1) ∙ sym (ap read_row is) ∙ sym h) in
    record { others = rows; are = ap (λ (f : Row × Bytes). f.0 ∷ rows) same; behind = ap (λ (f : Row × Bytes). f.1) (sym same) }

end_behind : (body rest : Bytes) (front : Row × Bytes) → IsEndOf body rest → Some front ≡ read_row rest → IsEndOf body front.1
end_behind body rest front end h =
    let it = only_row_text_is_read rest front (sym h) in
    let low = row_shortens rest front (sym h) in
    let all : length rest ≡ length (row_text front.0) + length front.1 = ap (λ (b : Bytes). length b) it.spelled ∙ length-append (row_text front.0) front.1 in
    let within = end.within in
    let place : (length body - length rest) + length (row_text front.0) ≡ length body - length front.1 = omega (arith, all, within) in
    record {
      within = omega (arith, within, low);
      is = sym (drop_at (row_text front.0) front.1 (length (row_text front.0)) refl)
          ∙ ap (λ (b : Bytes). drop (length (row_text front.0)) b) (sym it.spelled ∙ end.is)
          ∙ drop-drop (length (row_text front.0)) (length body - length rest) body
          ∙ ap (λ n. drop n body) place;
    }

pub tail_behind : (raw body rest : Bytes) (front : Row × Bytes) → HasReached raw body rest → Some front ≡ read_row rest → IsTail body front.1
tail_behind raw body rest front has h =
    let end = end_behind body rest front has.end h in
    let low = row_shortens rest front (sym h) in
    let within = has.end.within in
    (omega (arith, low, within), end.is)

-- a row below the raw key is passed
pub passes_row : (raw body rest : Bytes) (front : Row × Bytes) → HasReached raw body rest → Some front ≡ read_row rest → true ≡ is_below raw front.0 → HasReached raw body front.1
passes_row raw body rest front has h passes = record {
  left = λ rows readable is. behind rows (has.left rows readable is);
  end = end_behind body rest front has.end h;
}
  where
    behind : (rows : List Row) → AreLeftFrom raw rows rest → AreLeftFrom raw rows front.1
    behind rows left =
        let it = read_first left.left rest front left.readable left.spelled h in
        let readable = subst AreReadable it.are left.readable in
        record {
          passed = left.passed ++ front.0 ∷ [];
          left = it.others;
          are = left.are ∙ ap (λ (rs : List Row). left.passed ++ rs) it.are ∙ sym (append_assoc left.passed (front.0 ∷ []) it.others);
          below = filter-append (λ r. not (is_below raw r)) left.passed (front.0 ∷ [])
              ∙ (λ i. left.below i ++ cond (not (sym passes i)) (front.0 ∷ []) []);
          readable = readable.2;
          spelled = it.behind;
        }

-- one that is not is reached
pub reaches_row : (raw body rest : Bytes) (front : Row × Bytes) → HasReached raw body rest → Some front ≡ read_row rest → false ≡ is_below raw front.0
    → (rows : List Row) → AreReadable rows → body ≡ rows_text rows → IsNextReached raw rows front.0 front.1
reaches_row raw body rest front has h stops rows readable is =
    let left = has.left rows readable is in
    let it = read_first left.left rest front left.readable left.spelled h in
    record {
      passed = left.passed;
      more = it.others;
      are = left.are ∙ ap (λ (rs : List Row). left.passed ++ rs) it.are;
      below = left.below;
      reaches = sym stops;
      spelled = it.behind;
    }

pub never_cut_off : (raw body rest : Bytes) → HasReached raw body rest → false ≡ (length rest == 0) → None ≡ read_row rest → (rows : List Row) → AreReadable rows → body ≡ rows_text rows → ⊥
never_cut_off raw body rest has some h rows readable is = let left = has.left rows readable is in by_left left.left left.readable left.spelled
  where
    by_left : (rs : List Row) → AreReadable rs → rest ≡ rows_text rs → ⊥
    by_left [] readable is = let never : true ≡ false = sym (some ∙ ap (λ (b : Bytes). length b == 0) is) in absurd (cc)
    by_left (row ∷ rs) readable is =
        let read : ◌≡◌ {A = Option (Row × Bytes)} None (Some (row, rows_text rs)) = h ∙ ap read_row is ∙ row_text_is_read row (rows_text rs) readable.0 readable.1 in
        absurd (cc)

pub all_passed : (raw body rest : Bytes) → HasReached raw body rest → true ≡ (length rest == 0) → (rows : List Row) → AreReadable rows → body ≡ rows_text rows → rows_from raw rows ≡ []
all_passed raw body rest has none rows readable is =
    let left = has.left rows readable is in
    ap (rows_from raw) (left.are ∙ ap (λ (rs : List Row). left.passed ++ rs) (by_left left.left left.spelled) ∙ append-nil left.passed) ∙ left.below
  where
    by_left : (rs : List Row) → rest ≡ rows_text rs → rs ≡ []
    by_left [] is = refl
    by_left (row ∷ rs) is =
        let long = ap (λ (b : Bytes). length b) is in
        let parts = length-append (row_text row) (rows_text rs) in
        let low = length-row row in
        let zero_is = number_is (length rest) 0 (sym none) in
        absurd (omega (arith, long, parts, low, zero_is))
