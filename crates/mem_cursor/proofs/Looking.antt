-- Rows of which the first is looked at.
use Rattle.std.proofs.Common.{◌≡◌, List, [], ◌∷◌, drop, Option, Some, None, refl, sym, subst, ◌∙◌}
use Rattle.std.specs.List.{slice_get}
use Rattle.kv_base.specs.InversionLaws.{both_second}
use Rattle.kv_base.specs.declared.row.Row.{Row}
use Rattle.row_model.specs.Rows.{is_row_text, are_row_texts}
use Rattle.row_model.specs.RowOrder.{is_ordered, leads}
use Rattle.merge_rows.specs.Cursors.{AreInOrder}
use Rattle.mem_cursor.specs.NextRows.{IsNoneBehind, with_next}

whole : (rows : List Row) → with_next (slice_get rows 0) (drop 1 rows) ≡ rows
whole [] = refl
whole (row ∷ rows) = refl

ended : (rows : List Row) → IsNoneBehind (slice_get rows 0) (drop 1 rows)
ended [] = refl
ended (row ∷ rows) = tt

-- they stay in order
pub looked_at : (rows rest : List Row) (next : Option Row) → next ≡ slice_get rows 0 → rest ≡ drop 1 rows → AreInOrder rows → IsNoneBehind next rest × AreInOrder (with_next next rest)
looked_at rows rest next is behind order = (
  subst (λ (x : Option Row × List Row). IsNoneBehind x.0 x.1) (λ i. (sym is i, sym behind i)) (ended rows),
  subst AreInOrder (sym ((λ i. with_next (is i) (behind i)) ∙ whole rows)) order,
)

-- and those behind the first one too
pub behind_next : (next : Option Row) (rest : List Row) → AreInOrder (with_next next rest) → AreInOrder rest
unfolding is_ordered
behind_next None rest h = h
behind_next (Some row) rest h = (both_second (leads row rest) (is_ordered rest) h.0, both_second (is_row_text row) (are_row_texts rest) h.1)
