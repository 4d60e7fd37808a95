-- Rows that are put among others, each at its place.
use Rattle.std.proofs.Common.{◌≡◌, ℕ, ◌<◌, List, [], ◌∷◌, ◌++◌, refl, sym, ap, ◌∙◌, true, false, cond, Option, Some, None, arith}
use Rattle.std.specs.Prelude.{nat_lt}
use Rattle.std.specs.declared.cmp.Ordering.{Ordering}
use Rattle.std.specs.declared.cmp.Ordering.TheVariants.{Less, Equal, Greater}
use Rattle.std.specs.Ordering.{nat_cmp, is_le, ordering_then}
use Rattle.std.specs.Cmp.{tied_itself}
use Rattle.std.specs.Cmp.Lexicographic.{nat_list_cmp_total}
use Rattle.std.proofs.lemmas.Bool.Decides.{nat_tests}
use Rattle.kv_base.specs.Map.{Bytes, byte_cmp}
use Rattle.kv_base.specs.declared.row.Row.{Row}
use Rattle.row_model.specs.Rows.{shown_at, newer, seen_at}
use Rattle.row_model.specs.RowOrder.{row_cmp, placed, merged}
use Rattle.row_model.specs.RowLaws.{newer_none, newer_assoc, shown_is}

-- ---- what shows

pub swapped : (a b c : Option Row) → newer a b ≡ newer b a → newer b (newer a c) ≡ newer a (newer b c)
swapped a b c e = sym (newer_assoc b a c) ∙ ap (λ o. newer o c) (sym e) ∙ newer_assoc a b c

-- of two rows of one raw key the one behind is older
pub order_falls : (row other : Row) → row.raw ≡ other.raw → row_cmp row other ≡ Greater → row.seq < other.seq
order_falls row other is order =
    let key : byte_cmp row.raw other.raw ≡ Equal = ap (byte_cmp row.raw) (sym is) ∙ tied_itself nat_list_cmp_total row.raw in
    let falls : nat_cmp other.seq row.seq ≡ Greater = ap (λ o. ordering_then o (nat_cmp other.seq row.seq)) (sym key) ∙ order in
    grind (arith, nat_tests)

-- a row changes places with one that stands in front of it
commuted : (row other : Row) (s : ℕ) (raw : Bytes) → row_cmp row other ≡ Greater → newer (shown_at s raw row) (shown_at s raw other) ≡ newer (shown_at s raw other) (shown_at s raw row)
commuted row other s raw order = by_shown (shown_at s raw row) (shown_at s raw other) refl refl
  where
    by_shown : (a b : Option Row) → shown_at s raw row ≡ a → shown_at s raw other ≡ b → newer a b ≡ newer b a
    by_shown None b p q = sym (newer_none b)
    by_shown (Some x) None p q = refl
    by_shown (Some x) (Some y) p q =
        let one = shown_is s raw row x p in
        let two = shown_is s raw other y q in
        let key : row.raw ≡ other.raw = (λ i. (one.0 i).raw) ∙ one.1 ∙ sym two.1 ∙ (λ i. (sym two.0 i).raw) in
        let falls = order_falls row other key order in
        let first : row.seq ≡ x.seq = (λ i. (one.0 i).seq) in
        let second : other.seq ≡ y.seq = (λ i. (two.0 i).seq) in
        let low : x.seq < y.seq = omega (arith, falls) in
        let yes : nat_lt x.seq y.seq ≡ true = grind (arith, nat_tests) in
        let never : nat_lt y.seq x.seq ≡ false = grind (arith, nat_tests) in
        ap (λ b. cond b (Some y) (Some x)) yes ∙ sym (ap (λ b. cond b (Some x) (Some y)) never)

placed_by : (row other : Row) (rows : List Row) (s : ℕ) (raw : Bytes) → seen_at (placed row rows) s raw ≡ seen_at (row ∷ rows) s raw → (o : Ordering) → row_cmp row other ≡ o
    → seen_at (cond (is_le o) (row ∷ other ∷ rows) (other ∷ placed row rows)) s raw ≡ newer (shown_at s raw row) (newer (shown_at s raw other) (seen_at rows s raw))
unfolding seen_at
placed_by row other rows s raw behind Less e = refl
placed_by row other rows s raw behind Equal e = refl
placed_by row other rows s raw behind Greater e = ap (newer (shown_at s raw other)) behind ∙ swapped (shown_at s raw row) (shown_at s raw other) (seen_at rows s raw) (commuted row other s raw e)

pub seen_placed : (row : Row) (rows : List Row) (s : ℕ) (raw : Bytes) → seen_at (placed row rows) s raw ≡ seen_at (row ∷ rows) s raw
unfolding seen_at placed
seen_placed row [] s raw = refl
seen_placed row (other ∷ rows) s raw = placed_by row other rows s raw (seen_placed row rows s raw) (row_cmp row other) refl

pub seen_merged : (rows more : List Row) (s : ℕ) (raw : Bytes) → seen_at (merged rows more) s raw ≡ seen_at (more ++ rows) s raw
unfolding seen_at merged
seen_merged rows [] s raw = refl
seen_merged rows (row ∷ more) s raw = seen_placed row (merged rows more) s raw ∙ ap (newer (shown_at s raw row)) (seen_merged rows more s raw)
