-- The parts of a merge: a cursor whose next row is read stays the part that it was.
use Rattle.std.proofs.Common.{◌≡◌, ℕ, ◌+◌, ◌<◌, ◌≤◌, List, [], ◌∷◌, ◌++◌, refl, sym, ap, subst, ◌∙◌, Bool, true, false, map, append_assoc, Option, Some, None, Result, Ok, Err, OnOk, cond, arith}
use Rattle.std.specs.Prelude.{◌||◌, IfSome, IsTrue}
use Rattle.std.specs.Result.{IsOk}
use Rattle.std.specs.List.{list_any}
use Rattle.std.specs.List.Sorted.{IsPermutation}
use Rattle.std.proofs.lemmas.List.{map-append}
use Rattle.std.proofs.lemmas.List.Sums.{sum_by_push}
use Rattle.std.proofs.lemmas.List.Sorted.{IsPermutation-append_right, IsPermutation-map, sum_by_pushed, list_any-IsPermutation}
use Rattle.kv_base.specs.declared.name.FileName.{FileName}
use Rattle.kv_base.specs.declared.row.Row.{Row}
use Rattle.merge_rows.specs.Cursors.{AreInOrder, Takes, with_held, held_count}
use Rattle.merge_rows.specs.Heads.{IsHead}
use Rattle.merge_rows.specs.Parts.{CursorPart, part_lists, is_off, cursor_parts, count_left}

-- the rows before a step, from those after it
pub takes_back : (old : Option (List Row)) (row : Option Row) (new : Option (List Row)) → Takes old row new → with_held row new ≡ old
takes_back None None new is = is
takes_back None (Some row) new is = ap (λ o. with_held (Some row) o) is
takes_back (Some []) None new is = is.1
takes_back (Some []) (Some row) new is = absurd (cc)
takes_back (Some (r ∷ rest)) None new is = absurd (cc)
takes_back (Some (r ∷ rest)) (Some row) new is = let same : row ≡ r = cc in ap (λ o. with_held (Some row) o) is.1 ∙ ap (λ (x : Row). Some (x ∷ rest)) same

pub takes_head : (old : Option (List Row)) (row : Option Row) (new : Option (List Row)) → Takes old row new → IfSome old AreInOrder → IsHead row new
takes_head None row new is order = subst (IsHead row) (sym is) tt
takes_head (Some []) None new is order = subst (IsHead None) (sym is.1) refl
takes_head (Some []) (Some row) new is order = absurd (cc)
takes_head (Some (r ∷ rest)) None new is order = absurd (cc)
takes_head (Some (r ∷ rest)) (Some row) new is order =
    let same : r ≡ row = cc in subst (IsHead (Some row)) (sym is.1) (subst (λ (x : Row). AreInOrder (x ∷ rest)) same order)

pub head_fewer : (row : Option Row) (old new : ℕ) → new ≤ old → IfSome row (λ _. new < old) → new + held_count row ≤ old
head_fewer None old new le near = omega (arith, le)
head_fewer (Some row) old new le near = omega (arith, near)

-- where no cursor is read (the list of heads gives their type)
module _ {X H : Type 0} (rows : X → Option (List Row)) (off : X → FileName → ℕ → Bool) (heads : List H) (row_of : H → Option Row) (cursor_of : H → X) where
  pub lists_none : (xs : List X) → part_lists (cursor_parts rows off xs [] row_of cursor_of) ≡ map rows xs
  lists_none [] = refl
  lists_none (x ∷ xs) = ap (λ (ls : List (Option (List Row))). rows x ∷ ls) (lists_none xs)

  pub off_none : (xs : List X) (file : FileName) (place : ℕ) → is_off (cursor_parts rows off xs [] row_of cursor_of) file place ≡ list_any (λ x. off x file place) xs
  off_none [] file place = refl
  off_none (x ∷ xs) file place = ap (λ b. off x file place || b) (off_none xs file place)

module _ {X H : Type 0} (rows : X → Option (List Row)) (off : X → FileName → ℕ → Bool) (left : X → ℕ) (row_of : H → Option Row) (cursor_of : H → X) where
  abbrev part : X → CursorPart
  part x = (rows x, off x)

  abbrev head_part : H → CursorPart
  head_part h = (with_held (row_of h) (rows (cursor_of h)), off (cursor_of h))

  front_parts : (front : List X) (x : X) (ready : List H) → cursor_parts rows off (front ++ x ∷ []) ready row_of cursor_of ≡ map part front ++ (part x ∷ map head_part ready)
  front_parts front x ready = ap (λ (ps : List CursorPart). ps ++ map head_part ready) (map-append part front (x ∷ [])) ∙ append_assoc (map part front) (part x ∷ []) (map head_part ready)

  -- the next row was read
  pub read_parts : (front : List X) (x y : X) (h : H) (ready now : List H) → head_part h ≡ part x → IsPermutation (h ∷ ready) now
      → IsPermutation (cursor_parts rows off (front ++ x ∷ []) ready row_of cursor_of) (cursor_parts rows off front now row_of cursor_of)
  read_parts front x y h ready now same pushed =
      subst (λ (ps : List CursorPart). IsPermutation ps (cursor_parts rows off front now row_of cursor_of)) (sym (front_parts front x ready))
      (IsPermutation-append_right (map part front) (part x ∷ map head_part ready) (map head_part now)
      (subst (λ (p : CursorPart). IsPermutation (p ∷ map head_part ready) (map head_part now)) same (IsPermutation-map head_part (h ∷ ready) now pushed)))

  pub read_left : (front : List X) (x : X) (h : H) (ready now : List H) → left (cursor_of h) + held_count (row_of h) ≤ left x → IsPermutation (h ∷ ready) now
      → count_left left front now row_of cursor_of ≤ count_left left (front ++ x ∷ []) ready row_of cursor_of
  read_left front x h ready now le pushed =
      let waiting = sum_by_push left front x in
      let heap = sum_by_pushed (λ h. left (cursor_of h) + held_count (row_of h)) h ready now pushed in
      omega (arith, le, waiting, heap)

  any-last : (front : List X) (x : X) (ready : List H) (file : FileName) (place : ℕ) → off x file place ≡ true → is_off (cursor_parts rows off (front ++ x ∷ []) ready row_of cursor_of) file place ≡ true
  any-last [] x ready file place is = ap (λ b. b || list_any (λ (p : CursorPart). p.1 file place) (map head_part ready)) is
  any-last (f ∷ front) x ready file place is = ap (λ b. off f file place || b) (any-last front x ready file place is) ∙ over (off f file place)
    where
      over : (b : Bool) → (b || true) ≡ true
      over true = refl
      over false = refl

  -- what is off for a cursor is off for them all
  pub off_within : (first : List CursorPart) (items front : List X) (x : X) (ready : List H) → items ≡ front ++ x ∷ [] → IsPermutation first (cursor_parts rows off items ready row_of cursor_of)
      → (file : FileName) (place : ℕ) → IsTrue (off x file place) → IsTrue (is_off first file place)
  off_within first items front x ready is moved file place t =
      list_any-IsPermutation (λ p. p.1 file place) first (cursor_parts rows off items ready row_of cursor_of) moved
      ∙ ap (λ (xs : List X). is_off (cursor_parts rows off xs ready row_of cursor_of) file place) is ∙ any-last front x ready file place t

-- what a call that is proved to succeed ensures
pub ok_gives : {T E : Type 0} (r : Result T E) (P : Type 0) → IsOk r → OnOk r P → P
ok_gives (Ok x) P is p = p
ok_gives (Err e) P is p = absurd (cc)

pub pushed : {X : Type 0} (b : Bool) (old new : List X) (x : X) → new ≡ cond b (old ++ x ∷ []) old → b ≡ true → new ≡ old ++ x ∷ []
pushed b old new x is ok = is ∙ ap (λ t. cond t (old ++ x ∷ []) old) ok
