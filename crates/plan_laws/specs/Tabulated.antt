-- Rows that answer, at the raw keys of a list, what a function answers there.
use Rattle.std.proofs.Common.{◌≡◌, refl, sym, ap, ◌∙◌, Bool, true, false, cond, ◌||◌, List, [], ◌∷◌}
use Rattle.std.specs.Prelude.{if◌then◌else◌, Option, Some, None}
use Rattle.kv_base.specs.Map.{Bytes, same, same_is, get, empty, insert, get-empty, get-insert}
use Rattle.redis_model.specs.Keys.{among}
use Rattle.lives_model.specs.Rows.{Rows}

-- a row, if there is one, beside others
abbrev pub with_row : Option Bytes → Bytes → Rows → Rows
with_row None raw rows = rows
with_row (Some value) raw rows = insert rows raw value

-- at each raw key the row that the function gives it
unfoldable pub tabulated : (Bytes → Option Bytes) → List Bytes → Rows
tabulated f [] = empty
tabulated f (raw ∷ raws) = with_row (f raw) raw (tabulated f raws)

-- the row itself stands there
row_there : (o : Option Bytes) (raw q : Bytes) (rows : Rows) (b : Bool) → same q raw ≡ true → get rows q ≡ cond b o None → get (with_row o raw rows) q ≡ o
row_there None raw q rows true is e = e
row_there None raw q rows false is e = e
row_there (Some value) raw q rows b is e = get-insert rows raw value q ∙ ap (λ b. cond b (Some value) (get rows q)) is

-- elsewhere the others stand
row_elsewhere : (o : Option Bytes) (raw q : Bytes) (rows : Rows) → same q raw ≡ false → get (with_row o raw rows) q ≡ get rows q
row_elsewhere None raw q rows apart = refl
row_elsewhere (Some value) raw q rows apart = get-insert rows raw value q ∙ ap (λ b. cond b (Some value) (get rows q)) apart

-- the row of a function, and behind it those that it gives the others
tabulated_by : (f : Bytes → Option Bytes) (raw : Bytes) (raws : List Bytes) (q : Bytes) (rows : Rows) (b : Bool) → same q raw ≡ b → get rows q ≡ cond (among raws q) (f q) None
    → get (with_row (f raw) raw rows) q ≡ cond (b || among raws q) (f q) None
tabulated_by f raw raws q rows true is rest =
    let here : f q ≡ f raw = ap f (same_is q raw is) in
    row_there (f raw) raw q rows (among raws q) is (rest ∙ ap (λ o. cond (among raws q) o None) here) ∙ sym here
tabulated_by f raw raws q rows false is rest = row_elsewhere (f raw) raw q rows is ∙ rest

-- what stands at a raw key
pub get-tabulated : (f : Bytes → Option Bytes) (raws : List Bytes) (q : Bytes) → get (tabulated f raws) q ≡ (if among raws q then f q else None)
unfolding tabulated
get-tabulated f [] q = get-empty q
get-tabulated f (raw ∷ raws) q = tabulated_by f raw raws q (tabulated f raws) (same q raw) refl (get-tabulated f raws q)
