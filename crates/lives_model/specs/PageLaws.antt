-- A walk over pages: what a page and what is behind it come to.
use Rattle.std.proofs.Common.{◌≡◌, ℕ, ◌<◌, List, [], ◌∷◌, ◌++◌, length, take, drop, refl, sym, ap, ◌∙◌, append_assoc, arith}
use Rattle.std.proofs.lemmas.List.{take-append-drop, take_all, length-take}
use Rattle.kv_base.specs.Map.{Bytes}
use Rattle.lives_model.specs.Rows.{Rows}
use Rattle.lives_model.specs.Page.{page}
use Rattle.lives_model.specs.Passing.{passing, is_asked}
use Rattle.lives_model.specs.PassingLaws.{next_of}

-- a page has the first rows of those that are asked for
pub page_is : (c : Rows) (from prefix : Bytes) (limit : ℕ) → page c from prefix limit ≡ take limit (passing (is_asked from prefix) c)
unfolding page
page_is c from prefix limit = refl

-- fewer than were asked for are all
pub short_page : (c : Rows) (from prefix : Bytes) (limit : ℕ) → length (page c from prefix limit) < limit → page c from prefix limit ≡ passing (is_asked from prefix) c
unfolding page
short_page c from prefix limit few =
    let n = length-take limit (passing (is_asked from prefix) c) in
    take_all limit (passing (is_asked from prefix) c) (omega (arith, n))

-- behind a page with a last row stand the rows from its raw key and a byte on
pub page_then : (c : Rows) (from prefix : Bytes) (limit : ℕ) (front : List (Bytes × Bytes)) (k v : Bytes) → page c from prefix limit ≡ front ++ (k, v) ∷ []
    → passing (is_asked from prefix) c ≡ (front ++ (k, v) ∷ []) ++ passing (is_asked (k ++ 0 ∷ []) prefix) c
unfolding page
page_then c from prefix limit front k v is =
    let behind = drop limit (passing (is_asked from prefix) c) in
    let split : passing (is_asked from prefix) c ≡ (front ++ (k, v) ∷ []) ++ behind = sym (take-append-drop limit (passing (is_asked from prefix) c)) ∙ ap (λ es. es ++ behind) is in
    let next = next_of c from prefix front k v behind (split ∙ append_assoc front ((k, v) ∷ []) behind) in
    split ∙ ap (λ es. (front ++ (k, v) ∷ []) ++ es) next
