-- Laws on what stands in `Heads.antt`.
use Rattle.std.proofs.Common.{◌≡◌, List, ◌∷◌, refl, sym, Option, Some, None}
use Rattle.std.specs.Coded.{Unit-prop}
use Rattle.std.proofs.Props.{props}
use Rattle.std.specs.declared.cmp.Ordering.TheVariants.{Less, Equal}
use Rattle.std.specs.Ordering.{ordering_reverse}
use Rattle.std.specs.Cmp.{IsTotalOrder, alike_right}
use Rattle.kv_base.specs.declared.row.Row.{Row}
use Rattle.row_model.specs.RowOrderLaws.{row_total}
use Rattle.merge_rows.specs.CursorLaws.{AreInOrder-prop}
use Rattle.merge_rows.specs.Heads.{head_cmp, IsHead}

pub IsHead-prop : (row : Option Row) (rows : Option (List Row)) → IsProp (IsHead row rows)
IsHead-prop row None = Unit-prop
IsHead-prop None (Some rest) = Prim.hlevel props
IsHead-prop (Some row) (Some rest) = AreInOrder-prop (row ∷ rest)

turned : (a b : Option Row) → head_cmp a b ≡ ordering_reverse (head_cmp b a)
turned None None = refl
turned None (Some y) = refl
turned (Some x) None = refl
turned (Some x) (Some y) = row_total.antisymm y x

chained : (a b c : Option Row) → head_cmp a b ≡ Less → head_cmp b c ≡ Less → head_cmp a c ≡ Less
chained None None c p q = absurd (cc)
chained None (Some y) None p q = absurd (cc)
chained None (Some y) (Some z) p q = refl
chained (Some x) None c p q = absurd (cc)
chained (Some x) (Some y) None p q = absurd (cc)
chained (Some x) (Some y) (Some z) p q = row_total.trans z y x q p

alike : (a b c : Option Row) → head_cmp a b ≡ Equal → head_cmp a c ≡ head_cmp b c
alike None None c p = refl
alike None (Some y) c p = absurd (cc)
alike (Some x) None c p = absurd (cc)
alike (Some x) (Some y) None p = refl
alike (Some x) (Some y) (Some z) p = sym (alike_right row_total y x z p)

pub head_total : IsTotalOrder head_cmp
head_total = record { antisymm = turned; trans = chained; congr = alike }
