-- The least of the next rows is the first of all rows.
use Rattle.std.proofs.Common.{◌≡◌, ℕ, ◌+◌, ◌<◌, ◌≤◌, List, [], ◌∷◌, ◌++◌, refl, sym, ap, subst, ◌∙◌, Bool, true, false, cond, length, map, Option, Some, None, arith}
use Rattle.std.specs.Prelude.{IfSome}
use Rattle.std.specs.List.{list_any, AllByRecursion}
use Rattle.std.specs.List.Sorted.{IsPermutation}
use Rattle.std.specs.Ordering.{is_lt}
use Rattle.std.proofs.lemmas.List.Sums.{sum_by-cons}
use Rattle.std.proofs.lemmas.List.Sorted.{IsPermutation-map, list_any-IsPermutation, sum_by_popped}
use Rattle.kv_base.specs.InversionLaws.{both_first, both_second}
use Rattle.kv_base.specs.declared.name.FileName.{FileName}
use Rattle.kv_base.specs.declared.row.Row.{Row}
use Rattle.row_model.specs.Rows.{is_row_text, are_row_texts}
use Rattle.row_model.specs.RowOrder.{leads, is_ordered, merged}
use Rattle.row_model.specs.RowOrderLaws.{is_untied}
use Rattle.merge_rows.specs.Cursors.{AreInOrder, Takes, with_held, held_count}
use Rattle.merge_rows.specs.Heads.{head_cmp, IsHead}
use Rattle.merge_rows.specs.Merged.{AreDistinct, rows_in_order, told_rows, is_untold, all_told_rows, merged_rows}
use Rattle.merge_rows.specs.MergedLaws.{first_untied, distinct_behind, distinct_permuted, merged_permuted, ordered_in_order, texts_in_order, untied_back, leads-append, lists_of, all_led, none_left, takes_first, merge_takes_none}
use Rattle.merge_rows.specs.Parts.{CursorPart, part_lists, is_off, cursor_parts, count_left}

-- ---- parts in another order

abbrev moved_lists : (ps qs : List CursorPart) → IsPermutation ps qs → IsPermutation (part_lists ps) (part_lists qs)
moved_lists ps qs moved = IsPermutation-map (λ (p : CursorPart). p.0) ps qs moved

pub distinct_moved : (ps qs : List CursorPart) → IsPermutation ps qs → AreDistinct (all_told_rows (part_lists ps)) → AreDistinct (all_told_rows (part_lists qs))
distinct_moved ps qs moved = distinct_permuted (part_lists ps) (part_lists qs) (moved_lists ps qs moved)

pub rows_moved : (ps qs : List CursorPart) → IsPermutation ps qs → AreDistinct (all_told_rows (part_lists ps)) → merged_rows (part_lists qs) ≡ merged_rows (part_lists ps)
rows_moved ps qs moved h = sym (merged_permuted (part_lists ps) (part_lists qs) (moved_lists ps qs moved) h)

pub off_moved : (ps qs : List CursorPart) → IsPermutation ps qs → is_off qs ≡ is_off ps
off_moved ps qs moved = λ i file place. sym (list_any-IsPermutation (λ (p : CursorPart). p.1 file place) ps qs moved) i

-- ---- all rows in order

pub merged_order : (ls : List (Option (List Row))) → AreDistinct (all_told_rows ls) → are_row_texts (all_told_rows ls) ≡ true → IfSome (merged_rows ls) AreInOrder
merged_order ls apart texts =
    elim (list_any is_untold ls) as (λ b. IfSome (cond b None (Some (rows_in_order (all_told_rows ls)))) AreInOrder) [
      | true ↦ tt
      | false ↦ (ordered_in_order (all_told_rows ls) apart, texts_in_order (all_told_rows ls) texts)
    ]

texts-append : (rows others : List Row) → are_row_texts rows ≡ true → are_row_texts others ≡ true → are_row_texts (rows ++ others) ≡ true
texts-append [] others h k = k
texts-append (r ∷ rows) others h k = rw (both_first (is_row_text r) (are_row_texts rows) h, texts-append rows others (both_second (is_row_text r) (are_row_texts rows) h) k) refl

nothing_in : (rest : List Row) → length rest ≡ 0 → rest ≡ []
nothing_in [] is = refl
nothing_in (r ∷ rest) is = absurd (omega (arith, is))

-- an untold rest leaves the next row untold, and takes it away from those that are told
rest_apart : (o : Option Row) (rest : Option (List Row)) (others : List (Option (List Row))) → AreDistinct (all_told_rows (with_held o rest ∷ others)) → AreDistinct (all_told_rows (rest ∷ others))
rest_apart None rest others h = h
rest_apart (Some row) None others h = h
rest_apart (Some row) (Some rest) others h = distinct_behind row (rest ++ all_told_rows others) h

module _ {X H : Type 0} (rows : X → Option (List Row)) (off : X → FileName → ℕ → Bool) (left : X → ℕ) (row_of : H → Option Row) (cursor_of : H → X) (good : (h : H) → IsHead (row_of h) (rows (cursor_of h))) where
  abbrev head_part : H → CursorPart
  head_part h = (with_held (row_of h) (rows (cursor_of h)), off (cursor_of h))

  abbrev rest_of : H → Option (List Row)
  rest_of h = rows (cursor_of h)

  same_lists : (hs : List H) → part_lists (map head_part hs) ≡ lists_of row_of rest_of good hs
  same_lists [] = refl
  same_lists (h ∷ hs) = ap (λ ls. with_held (row_of h) (rest_of h) ∷ ls) (same_lists hs)

  head_texts : (o : Option Row) (rest : Option (List Row)) → IsHead o rest → are_row_texts (told_rows (with_held o rest)) ≡ true
  head_texts None None h = refl
  head_texts (Some row) None h = refl
  head_texts None (Some rest) h = ap are_row_texts (nothing_in rest h)
  head_texts (Some row) (Some rest) h = h.1

  texts_of : (hs : List H) → are_row_texts (all_told_rows (part_lists (map head_part hs))) ≡ true
  texts_of [] = refl
  texts_of (h ∷ hs) = texts-append (told_rows (with_held (row_of h) (rest_of h))) (all_told_rows (part_lists (map head_part hs))) (head_texts (row_of h) (rest_of h) (good h)) (texts_of hs)

  pub heads_order : (hs : List H) → AreDistinct (all_told_rows (part_lists (map head_part hs))) → IfSome (merged_rows (part_lists (map head_part hs))) AreInOrder
  heads_order hs apart = merged_order (part_lists (map head_part hs)) apart (texts_of hs)

  -- the greatest head's row is the first one
  taken : (o : Option Row) (rest : Option (List Row)) (now : List H) → IsHead o rest → AllByRecursion (λ k. is_lt (head_cmp o (row_of k)) ≡ false) now
      → AreDistinct (all_told_rows (with_held o rest ∷ part_lists (map head_part now))) → Takes (merged_rows (with_held o rest ∷ part_lists (map head_part now))) o (merged_rows (rest ∷ part_lists (map head_part now)))
  unfolding is_ordered
  taken None rest now head top apart = merge_takes_none rest (part_lists (map head_part now)) (nothing rest head)
    where
      nothing : (rest : Option (List Row)) → IsHead None rest → all_told_rows (rest ∷ part_lists (map head_part now)) ≡ []
      nothing None head = ap all_told_rows (same_lists now) ∙ none_left row_of rest_of good now top
      nothing (Some rest) head = ap (λ (rs : List Row). rs ++ all_told_rows (part_lists (map head_part now))) (nothing_in rest head) ∙ ap all_told_rows (same_lists now) ∙ none_left row_of rest_of good now top
  taken (Some row) None now head top apart = refl
  taken (Some row) (Some rest) now head top apart =
      let untied = first_untied row (rest ++ all_told_rows (part_lists (map head_part now))) apart in
      takes_first row (Some rest) (part_lists (map head_part now))
      (leads-append row rest (all_told_rows (part_lists (map head_part now))) (own head.0)
      (subst (λ ls. leads row (all_told_rows ls) ≡ true) (sym (same_lists now))
      (all_led row_of rest_of good row now top (subst (λ ls. is_untied row (all_told_rows ls) ≡ true) (same_lists now) (untied_back row rest (all_told_rows (part_lists (map head_part now))) untied)))))
    where
      own : is_ordered (row ∷ rest) ≡ true → leads row rest ≡ true
      own h = both_first (leads row rest) (is_ordered rest) h

  module _ (h : H) (ready now : List H) (popped : IsPermutation ready (h ∷ now)) where
    abbrev moved : IsPermutation (map head_part ready) (head_part h ∷ map head_part now)
    moved = IsPermutation-map head_part ready (h ∷ now) popped

    -- the rows after it are those of its cursor and of the other heads
    pub popped_row : AllByRecursion (λ k. is_lt (head_cmp (row_of h) (row_of k)) ≡ false) now → AreDistinct (all_told_rows (part_lists (cursor_parts rows off [] ready row_of cursor_of)))
        → Takes (merged_rows (part_lists (cursor_parts rows off [] ready row_of cursor_of))) (row_of h) (merged_rows (part_lists (cursor_parts rows off (cursor_of h ∷ []) now row_of cursor_of)))
    popped_row top apart =
        subst (λ o. Takes o (row_of h) (merged_rows (part_lists (cursor_parts rows off (cursor_of h ∷ []) now row_of cursor_of)))) (rows_moved (map head_part ready) (head_part h ∷ map head_part now) moved apart)
        (taken (row_of h) (rest_of h) now (good h) top (distinct_moved (map head_part ready) (head_part h ∷ map head_part now) moved apart))

    pub popped_apart : AreDistinct (all_told_rows (part_lists (cursor_parts rows off [] ready row_of cursor_of))) → AreDistinct (all_told_rows (part_lists (cursor_parts rows off (cursor_of h ∷ []) now row_of cursor_of)))
    popped_apart apart = rest_apart (row_of h) (rest_of h) (part_lists (map head_part now)) (distinct_moved (map head_part ready) (head_part h ∷ map head_part now) moved apart)

    pub popped_off : is_off (cursor_parts rows off (cursor_of h ∷ []) now row_of cursor_of) ≡ is_off (cursor_parts rows off [] ready row_of cursor_of)
    popped_off = off_moved (map head_part ready) (head_part h ∷ map head_part now) moved

    pub popped_left : count_left left (cursor_of h ∷ []) now row_of cursor_of + held_count (row_of h) ≡ count_left left [] ready row_of cursor_of
    popped_left =
        let one = sum_by-cons left (cursor_of h) [] in
        let heap = sum_by_popped (λ k. left (cursor_of k) + held_count (row_of k)) h ready now popped in
        omega (arith, one, heap)

  -- a whole step: the waiting ones were read, the greatest head was popped, and its cursor waits
  module _ (first : List CursorPart) (apart : AreDistinct (all_told_rows (part_lists first))) (waiting after : List X) (h : H) (ready now : List H) (read : waiting ≡ [])
      (moved : IsPermutation first (cursor_parts rows off waiting ready row_of cursor_of)) (popped : IsPermutation ready (h ∷ now)) (waits : after ≡ cursor_of h ∷ []) where
    base : IsPermutation first (cursor_parts rows off [] ready row_of cursor_of)
    base = subst (λ (xs : List X). IsPermutation first (cursor_parts rows off xs ready row_of cursor_of)) read moved

    still : AreDistinct (all_told_rows (part_lists (cursor_parts rows off [] ready row_of cursor_of)))
    still = distinct_moved first (cursor_parts rows off [] ready row_of cursor_of) base apart

    pub step_row : AllByRecursion (λ k. is_lt (head_cmp (row_of h) (row_of k)) ≡ false) now → Takes (merged_rows (part_lists first)) (row_of h) (merged_rows (part_lists (cursor_parts rows off after now row_of cursor_of)))
    step_row top =
        subst (λ (xs : List X). Takes (merged_rows (part_lists first)) (row_of h) (merged_rows (part_lists (cursor_parts rows off xs now row_of cursor_of)))) (sym waits)
        (subst (λ o. Takes o (row_of h) (merged_rows (part_lists (cursor_parts rows off (cursor_of h ∷ []) now row_of cursor_of)))) (rows_moved first (cursor_parts rows off [] ready row_of cursor_of) base apart) (popped_row h ready now popped top still))

    pub step_apart : AreDistinct (all_told_rows (part_lists (cursor_parts rows off after now row_of cursor_of)))
    step_apart = subst (λ (xs : List X). AreDistinct (all_told_rows (part_lists (cursor_parts rows off xs now row_of cursor_of)))) (sym waits) (popped_apart h ready now popped still)

    pub step_off : is_off (cursor_parts rows off after now row_of cursor_of) ≡ is_off first
    step_off = ap (λ (xs : List X). is_off (cursor_parts rows off xs now row_of cursor_of)) waits ∙ popped_off h ready now popped ∙ off_moved first (cursor_parts rows off [] ready row_of cursor_of) base

    pub step_left : count_left left after now row_of cursor_of + held_count (row_of h) ≡ count_left left waiting ready row_of cursor_of
    step_left =
        ap (λ (xs : List X). count_left left xs now row_of cursor_of + held_count (row_of h)) waits ∙ popped_left h ready now popped ∙ ap (λ (xs : List X). count_left left xs ready row_of cursor_of) (sym read)

    pub step_order : IfSome (merged_rows (part_lists first)) AreInOrder
    step_order = subst (λ o. IfSome o AreInOrder) (rows_moved first (cursor_parts rows off [] ready row_of cursor_of) base apart) (heads_order ready still)

  -- no cursor at all
  module _ (first : List CursorPart) (apart : AreDistinct (all_told_rows (part_lists first))) (waiting : List X) (ready now : List H) (read : waiting ≡ []) (none : ready ≡ []) (same : now ≡ ready)
      (moved : IsPermutation first (cursor_parts rows off waiting ready row_of cursor_of)) where
    bare : (λ (ps : List CursorPart). IsPermutation first ps) []
    bare = subst (λ (ps : List CursorPart). IsPermutation first ps) (λ i. cursor_parts rows off (read i) (none i) row_of cursor_of) moved

    nothing_given : Takes (merged_rows (part_lists [])) None (merged_rows (part_lists []))
    unfolding merged
    nothing_given = (refl, refl)

    pub empty_row : Takes (merged_rows (part_lists first)) None (merged_rows (part_lists (cursor_parts rows off waiting now row_of cursor_of)))
    empty_row =
        subst (λ (ps : List CursorPart). Takes (merged_rows (part_lists first)) None (merged_rows (part_lists ps))) (λ i. cursor_parts rows off (sym read i) ((sym none ∙ sym same) i) row_of cursor_of)
        (subst (λ o. Takes o None (merged_rows (part_lists []))) (rows_moved first [] bare apart) nothing_given)

    pub empty_order : IfSome (merged_rows (part_lists first)) AreInOrder
    empty_order = subst (λ o. IfSome o AreInOrder) (rows_moved first [] bare apart) (merged_order [] (λ row. omega arith) refl)

pub held_nearer : (o : Option Row) (new mid old : ℕ) → new + held_count o ≡ mid → mid ≤ old → IfSome o (λ _. new < old)
held_nearer None new mid old is le = tt
held_nearer (Some row) new mid old is le = omega (arith, is, le)

pub none_of : {X : Type 0} (xs : List X) → length xs ≡ 0 → xs ≡ []
none_of [] is = refl
none_of (x ∷ xs) is = absurd (omega (arith, is))
