-- Where a search ends in rows in order.
use Rattle.std.proofs.Common.{◌≡◌, ℕ, zero, suc, ◌<◌, ◌≤◌, List, [], ◌∷◌, refl, sym, ap, ◌∙◌, Bool, true, false, cond, length, get_or, drop, Option, Some, None, arith}
use Rattle.std.specs.Prelude.{not, IsTrue}
use Rattle.std.specs.List.{prefix_len}
use Rattle.std.specs.List.Sorted.{IsPartitionPoint, IsPartitionedBy}
use Rattle.std.proofs.lemmas.List.Sums.{prefix_len_passes, prefix_len_stops}
use Rattle.kv_base.specs.Map.{Bytes}
use Rattle.kv_base.specs.declared.row.Row.{Row}
use Rattle.row_model.specs.RowOrder.{is_ordered, is_below}
use Rattle.row_model.specs.RowSearchLaws.{before_once, below_once}
use Rattle.mem_table.specs.Search.{is_short, rows_at, rows_from}

pub short_once : (raw : Bytes) (seq : Option ℕ) (rows : List Row) → IsTrue (is_ordered rows) → IsPartitionedBy (is_short raw seq) rows
short_once raw None rows h = below_once raw rows h
short_once raw (Some s) rows h = before_once raw s rows h

-- behind the short rows in front no row is short
pub short_split : (raw : Bytes) (seq : Option ℕ) (rows : List Row) → IsTrue (is_ordered rows)
    → IsPartitionPoint (λ row. is_short raw seq row ≡ true) (λ row. is_short raw seq row ≡ false) rows (prefix_len (is_short raw seq) rows)
short_split raw seq rows h = ((λ k d low high. prefix_len_passes (is_short raw seq) rows k d high), (λ k d low high. behind k d low high (is_short raw seq (get_or rows k d)) refl))
  where
    behind : (k : ℕ) (d : Row) → prefix_len (is_short raw seq) rows ≤ k → k < length rows → (b : Bool) → is_short raw seq (get_or rows k d) ≡ b → b ≡ false
    behind k d low high false e = refl
    behind k d low high true e =
        let never : true ≡ false = sym (short_once raw seq rows h (prefix_len (is_short raw seq) rows) k d low high e) ∙ prefix_len_stops (is_short raw seq) rows d (omega (arith, low, high)) in
        absurd (cc)

-- the rows from there on are those that are not short
pub from_place : (raw : Bytes) (seq : Option ℕ) (rows : List Row) (place : ℕ) → IsPartitionPoint (λ row. is_short raw seq row ≡ true) (λ row. is_short raw seq row ≡ false) rows place → drop place rows ≡ rows_at raw seq rows
from_place raw seq [] zero split = refl
from_place raw seq [] (suc place) split = refl
from_place raw seq (row ∷ rows) (suc place) split =
    from_place raw seq rows place ((λ k d low high. split.0 (suc k) d (omega arith) (omega arith)), (λ k d low high. split.1 (suc k) d (omega arith) (omega arith)))
    ∙ ap (λ b. cond (not b) (row ∷ rows_at raw seq rows) (rows_at raw seq rows)) (sym (split.0 0 row (omega arith) (omega arith)))
from_place raw seq (row ∷ rows) zero split =
    ap (λ (rs : List Row). row ∷ rs) (from_place raw seq rows zero ((λ k d low high. absurd (omega (arith, high))), (λ k d low high. split.1 (suc k) d (omega arith) (omega arith))))
    ∙ ap (λ b. cond (not b) (row ∷ rows_at raw seq rows) (rows_at raw seq rows)) (sym (split.1 0 row (omega arith) (omega arith)))

-- where the rows from a raw key on begin
pub record IsStart (raw : Bytes) (rows : List Row) (place : ℕ) : Type 0 where
  pub split : IsPartitionPoint (λ row. is_below raw row ≡ true) (λ row. is_below raw row ≡ false) rows place
  pub rest : drop place rows ≡ rows_from raw rows

pub start_of : (raw : Bytes) (rows : List Row) → IsTrue (is_ordered rows) → IsStart raw rows (prefix_len (is_below raw) rows)
start_of raw rows h = record {
  split = short_split raw None rows h;
  rest = from_place raw None rows (prefix_len (is_below raw) rows) (short_split raw None rows h);
}
