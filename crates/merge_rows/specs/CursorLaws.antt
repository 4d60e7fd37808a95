-- Laws on what stands in `Cursors.antt`.
use Rattle.std.specs.Prelude.{List, ◌∷◌, Option, Some, None}
use Rattle.std.specs.Coded.{Unit-prop}
use Rattle.std.proofs.Props.{props}
use Rattle.kv_base.specs.declared.row.Row.{Row}
use Rattle.merge_rows.specs.Cursors.{AreInOrder, IsHeldBack}

-- ---- a row that was read and is not taken yet

pub AreInOrder-prop : (rows : List Row) → IsProp (AreInOrder rows)
AreInOrder-prop rows = Prim.hlevel props

pub IsHeldBack-prop : (held : Option Row) (rows : Option (List Row)) → IsProp (IsHeldBack held rows)
IsHeldBack-prop None rows = Unit-prop
IsHeldBack-prop (Some row) None = Unit-prop
IsHeldBack-prop (Some row) (Some rest) = AreInOrder-prop (row ∷ rest)
