-- Rows of which the first was looked at.
use Rattle.std.specs.Prelude.{◌≡◌, List, [], ◌∷◌, Option, Some, None}
use Rattle.kv_base.specs.declared.row.Row.{Row}

-- it stands in front of the others
abbrev pub with_next : Option Row → List Row → List Row
with_next None rest = rest
with_next (Some row) rest = row ∷ rest

-- where there is none, no other is left
abbrev pub IsNoneBehind : Option Row → List Row → Type 0
IsNoneBehind None rest = rest ≡ []
IsNoneBehind (Some row) rest = Unit {0}
