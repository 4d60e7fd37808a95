-- Which batch makes the rows of a list those of another one: items are pushed at an end, cut at an end, or one is set.
use Rattle.std.proofs.Common.{ℕ, zero, suc, ◌≡◌, ◌+◌, ◌-◌, ◌<◌, ◌≤◌, ◌^◌, refl, sym, ap, subst, ◌∙◌, Bool, true, false, cond, List, [], ◌∷◌, ◌++◌, length, take, drop, append-nil, append_assoc, arith}
use Rattle.std.proofs.lemmas.Bool.Decides.{nat_tests}
use Rattle.std.proofs.lemmas.List.{length-take-le, length-drop, length-append, take-append-drop, take-append-le}
use Rattle.std.proofs.lemmas.Grind.{reverse_onto}
use Rattle.std.proofs.Math.Seq.{take-length}
use Rattle.std.specs.Prelude.{Option, Some, None, IsTrue, not, fold, reverse, slice_get, slice_set, ◌==◌, nat_le, nat_lt}
use Rattle.kv_base.specs.Map.{Bytes, same, same_is, kept, get, empty, insert, get-empty, get-insert, get-keep, same_map}
use Rattle.kv_base.specs.Fields.{u64}
use Rattle.kv_base.specs.RawKeys.{is_key, is_version}
use Rattle.batch_codec.specs.Batches.{Batch}
use Rattle.redis_model.specs.declared.command.End.{End}
use Rattle.redis_model.specs.declared.command.End.TheVariants.{Left, Right}
use Rattle.redis_model.specs.Lists.{pushed, popped}
use Rattle.lives_model.specs.Moved.{head_pushed, head_popped}
use Rattle.lives_model.specs.Rows.{Rows, Elements, row_key}
use Rattle.lives_model.specs.Plans.{same_row}
use Rattle.plan_base.specs.LifeChanges.{row_differs, differing, WantsRows}
use Rattle.plan_base.specs.LifeChangeLaws.{wants_nothing, wants_one, with_element}
use Rattle.life_plans.specs.WantedRows.{Wish, with_wish, wanted}
use Rattle.list_plans.specs.declared.sight.ListSight.{ListSight}
use Rattle.list_plans.specs.ListLives.{item_rows}
use Rattle.list_plans.specs.ListRows.{end_index, end_has_room, puts_before, puts_from, pushes, cuts_from, cuts_before, trims, set_row, ChangesRows}
use Rattle.list_plans.specs.ListIndexLaws.{index_is_key, index_row, one_row, at_index, before_head, from_tail, at_list_place, item_there, one_before, one_behind, first_gone, last_gone, one_set}

-- ---- lists

-- one more that is turned
reverse_more : (v : Bytes) (vs now : List Bytes) → reverse vs ++ v ∷ now ≡ reverse (v ∷ vs) ++ now
reverse_more v vs now = sym (ap (λ l. l ++ now) (reverse_onto vs v []) ∙ append_assoc (reverse vs) (v ∷ []) now)

-- all of them
whole : (now : List Bytes) → take (length now - 0) now ≡ now
whole now =
    let all : length now - 0 ≡ length now = omega arith in
    ap (λ (n : ℕ). take n now) all ∙ take-length now

-- a list of one item
one_item : (l : List Bytes) → length l ≡ 1 → (v : Bytes) × (l ≡ v ∷ [])
one_item [] e = absurd (omega (arith, e))
one_item (v ∷ []) e = (v, refl)
one_item (v ∷ w ∷ l) e = absurd (omega (arith, e))

-- the last item, and those before it
pub split_last : (now : List Bytes) → 0 < length now → (v : Bytes) × (now ≡ take (length now - 1) now ++ v ∷ [])
split_last now some =
    let left = length-drop (length now - 1) now in
    let last = one_item (drop (length now - 1) now) (omega (arith, some, left)) in
    (last.0, sym (take-append-drop (length now - 1) now) ∙ ap (λ l. take (length now - 1) now ++ l) last.1)

-- those before the last n + 1 are those before the last n of those before the last one
take_less : (now : List Bytes) (n : ℕ) → suc n ≤ length now → take (length (take (length now - 1) now) - n) (take (length now - 1) now) ≡ take (length now - suc n) now
take_less now n few =
    let front : List Bytes = take (length now - 1) now in
    let long = length-take-le (length now - 1) now (omega arith) in
    let left : length front - n ≡ length now - suc n = omega (arith, long, few) in
    ap (λ (m : ℕ). take m front) left
    ∙ sym (take-append-le (length now - suc n) front (drop (length now - 1) now) (omega (arith, long, few)))
    ∙ ap (take (length now - suc n)) (take-append-drop (length now - 1) now)

-- ---- numbers, and entries in order

low_enough : (a b : ℕ) → nat_le a b ≡ true → a ≤ b
low_enough a b h = grind (arith, nat_tests)

below_end : (a b : ℕ) → nat_lt a b ≡ true → a < b
below_end a b h = grind (arith, nat_tests)

pub fold-append : {A B : Type 0} (f : B → A → B) (a : B) (xs ys : List A) → fold f a (xs ++ ys) ≡ fold f (fold f a xs) ys
fold-append f a [] ys = refl
fold-append f a (x ∷ xs) ys = fold-append f (f a x) xs ys

-- a row that is the same as one with these bytes is that one
same_some_row : (row : Option Bytes) (v : Bytes) → same_row row (Some v) ≡ true → row ≡ Some v
same_some_row None v h = absurd (cc)
same_some_row (Some x) v h = ap (λ y. Some y) (same_is x v h)

-- ---- batches

-- of no entry nothing differs
differing_nothing : (c : Rows) → differing c empty ≡ empty
unfolding differing
differing_nothing c = same_map (differing c empty) empty (λ q. get-keep (row_differs c) empty q ∙ ap (kept (row_differs c q)) (get-empty q) ∙ sym (get-empty q))

-- an entry that differs is one more that does
differing_one : (c : Rows) (b : Batch) (raw : Bytes) (row : Option Bytes) → row_differs c raw row ≡ true → differing c (insert b raw row) ≡ insert (differing c b) raw row
unfolding differing
differing_one c b raw row h = same_map _ _ (λ q.
    get-keep (row_differs c) (insert b raw row) q
    ∙ ap (kept (row_differs c q)) (get-insert b raw row q)
    ∙ by_test q (same q raw) refl
    ∙ ap (λ o. cond (same q raw) (Some row) o) (sym (get-keep (row_differs c) b q))
    ∙ sym (get-insert (differing c b) raw row q))
  where
    by_test : (q : Bytes) (s : Bool) → same q raw ≡ s → kept (row_differs c q) (cond s (Some row) (get b q)) ≡ cond s (Some row) (kept (row_differs c q) (get b q))
    by_test q true is = ap (λ d. cond d (Some row) None) (ap (λ x. row_differs c x row) (same_is q raw is) ∙ h)
    by_test q false is = refl

-- ---- rows that change

-- none
pub changes_nothing : (c : Rows) (k : Bytes) (version : ℕ) (rows : Bytes → Option Bytes) → ((subkey : Bytes) → get c (row_key Elements k version subkey) ≡ rows subkey) → ChangesRows c k version empty rows
changes_nothing c k version rows there = record { wanted = empty; wants = wants_nothing c k version rows there; differ = differing_nothing c }

module _ (c : Rows) (k : Bytes) (version : ℕ) (short : IsTrue (is_key k)) (fits : IsTrue (is_version version)) where
  -- one more, under an index
  changes_one : (b : Batch) (rows next : Bytes → Option Bytes) (i : ℕ) (row : Option Bytes) → row_differs c (row_key Elements k version (u64 i)) row ≡ true
      → ((subkey : Bytes) → next subkey ≡ with_element (u64 i) row rows subkey) → ChangesRows c k version b rows → ChangesRows c k version (insert b (row_key Elements k version (u64 i)) row) next
  changes_one b rows next i row differs is ch =
      let w = wants_one c k version ch.wanted rows (u64 i) row short fits (index_is_key i) ch.wants in
      record {
        wanted = insert ch.wanted (row_key Elements k version (u64 i)) row;
        wants = record { only = w.only; after = λ subkey. w.after subkey ∙ sym (is subkey) };
        differ = differing_one c ch.wanted (row_key Elements k version (u64 i)) row differs ∙ ap (λ d. insert d (row_key Elements k version (u64 i)) row) ch.differ;
      }

  -- ---- of the rows of a list

  module _ (items : List Bytes) (head : ℕ) (low : head + length items < 2 ^ 64) (there : (subkey : Bytes) → get c (row_key Elements k version subkey) ≡ item_rows items head subkey) where
    -- a row is put where none stands
    put_differs : (i : ℕ) (v : Bytes) → i < 2 ^ 64 → at_index items head i ≡ None → row_differs c (row_key Elements k version (u64 i)) (Some v) ≡ true
    put_differs i v fit none = ap (λ o. not (same_row o (Some v))) (there (u64 i) ∙ index_row items head i fit ∙ none)

    -- and one is taken away where an item stands
    cut_differs : (i : ℕ) → i < length items → row_differs c (row_key Elements k version (u64 (head + i))) None ≡ true
    cut_differs i within =
        let v = item_there items i within in
        ap (λ o. not (same_row o None)) (there (u64 (head + i)) ∙ index_row items head (head + i) (omega arith) ∙ at_list_place items head i ∙ v.1)

    -- items are put before the head
    pub before_changes : (vs now : List Bytes) (at : ℕ) (b : Batch) → length vs ≤ at → at ≤ head → ChangesRows c k version b (item_rows now at)
        → ChangesRows c k version (fold (with_wish k version) b (puts_before at vs)) (item_rows (reverse vs ++ now) (at - length vs))
    before_changes [] now at b room start ch = subst (λ (h : ℕ). ChangesRows c k version b (item_rows now h)) (omega arith) ch
    before_changes (v ∷ vs) now at b room start ch =
        let one = changes_one b (item_rows now at) (item_rows (v ∷ now) (at - 1)) (at - 1) (Some v)
        (put_differs (at - 1) v (omega arith) (before_head items head (at - 1) (omega arith)))
        (one_row now (v ∷ now) at (at - 1) (at - 1) (Some v) (omega arith) (λ n. one_before v now at n (omega arith))) ch in
        let rest = before_changes vs (v ∷ now) (at - 1) (insert b (row_key Elements k version (u64 (at - 1))) (Some v)) (omega arith) (omega arith) one in
        let turned : reverse vs ++ v ∷ now ≡ reverse (v ∷ vs) ++ now = reverse_more v vs now in
        let ends : (at - 1) - length vs ≡ at - length (v ∷ vs) = omega arith in
        subst (λ (h : ℕ). ChangesRows c k version (fold (with_wish k version) b (puts_before at (v ∷ vs))) (item_rows (reverse (v ∷ vs) ++ now) h)) ends
        (subst (λ (l : List Bytes). ChangesRows c k version (fold (with_wish k version) b (puts_before at (v ∷ vs))) (item_rows l ((at - 1) - length vs))) turned rest)

    -- and from the tail on
    pub from_changes : (vs now : List Bytes) (at : ℕ) (b : Batch) → at ≡ head + length now → length items ≤ length now → at + length vs < 2 ^ 64 → ChangesRows c k version b (item_rows now head)
        → ChangesRows c k version (fold (with_wish k version) b (puts_from at vs)) (item_rows (now ++ vs) head)
    from_changes [] now at b ends more room ch = subst (λ (l : List Bytes). ChangesRows c k version b (item_rows l head)) (sym (append-nil now)) ch
    from_changes (v ∷ vs) now at b ends more room ch =
        let one = changes_one b (item_rows now head) (item_rows (now ++ v ∷ []) head) at (Some v)
        (put_differs at v (omega arith) (from_tail items head at (omega arith)))
        (one_row now (now ++ v ∷ []) head head at (Some v) (omega arith) (λ n. one_behind v now head n ∙ ap (λ (h : ℕ). cond (n == h) (Some v) (at_index now head n)) (sym ends))) ch in
        let long = length-append now (v ∷ []) in
        subst (λ (l : List Bytes). ChangesRows c k version (fold (with_wish k version) b (puts_from at (v ∷ vs))) (item_rows l head)) (append_assoc now (v ∷ []) vs)
        (from_changes vs (now ++ v ∷ []) (at + 1) (insert b (row_key Elements k version (u64 at)) (Some v)) (omega (arith, ends, long)) (omega (arith, more, long)) (omega arith) one)

    -- items go from the head on
    pub cut_from_changes : (n gone : ℕ) (now : List Bytes) (at : ℕ) (b : Batch) → at ≡ head + gone → gone + n ≤ length items → n ≤ length now → ChangesRows c k version b (item_rows now at)
        → ChangesRows c k version (fold (with_wish k version) b (cuts_from at n)) (item_rows (drop n now) (at + n))
    cut_from_changes zero gone now at b ends within few ch = subst (λ (h : ℕ). ChangesRows c k version b (item_rows now h)) (omega arith) ch
    cut_from_changes (suc n) gone [] at b ends within few ch = absurd (omega arith)
    cut_from_changes (suc n) gone (v ∷ now) at b ends within few ch =
        let one = changes_one b (item_rows (v ∷ now) at) (item_rows now (at + 1)) at None
        (subst (λ (i : ℕ). row_differs c (row_key Elements k version (u64 i)) None ≡ true) (sym ends) (cut_differs gone (omega arith)))
        (one_row (v ∷ now) now at (at + 1) at None (omega arith) (first_gone v now at)) ch in
        subst (λ (h : ℕ). ChangesRows c k version (fold (with_wish k version) b (cuts_from at (suc n))) (item_rows (drop n now) h)) (omega arith)
        (cut_from_changes n (gone + 1) now (at + 1) (insert b (row_key Elements k version (u64 at)) None) (omega arith) (omega arith) (omega arith) one)

    -- and before the tail; the first of those that stay has the index `start`
    pub cut_before_changes : (n start : ℕ) (now : List Bytes) (at : ℕ) (b : Batch) → at ≡ start + length now → head ≤ start → at ≤ head + length items → n ≤ length now → ChangesRows c k version b (item_rows now start)
        → ChangesRows c k version (fold (with_wish k version) b (cuts_before at n)) (item_rows (take (length now - n) now) start)
    cut_before_changes zero start now at b ends begins within few ch =
        subst (λ (l : List Bytes). ChangesRows c k version b (item_rows l start)) ((sym (whole now))) ch
    cut_before_changes (suc n) start now at b ends begins within few ch =
        let last = split_last now (omega arith) in
        let long : length now ≡ length (take (length now - 1) now) + 1 = omega (arith, length-take-le (length now - 1) now (omega arith), few) in
        let front : List Bytes = take (length now - 1) now in
        let one = changes_one b (item_rows now start) (item_rows front start) (at - 1) None
        (subst (λ (i : ℕ). row_differs c (row_key Elements k version (u64 i)) None ≡ true) (omega (arith, ends, begins, few)) (cut_differs ((at - 1) - head) (omega (arith, ends, begins, within, few))))
        (subst (λ (l : List Bytes). (subkey : Bytes) → item_rows front start subkey ≡ with_element (u64 (at - 1)) None (item_rows l start) subkey) (sym last.1)
        (one_row (front ++ last.0 ∷ []) front start start (at - 1) None (omega (arith, ends, within, few))
        (λ m. last_gone last.0 front start m ∙ ap (λ (h : ℕ). cond (m == h) None (at_index (front ++ last.0 ∷ []) start m)) (omega (arith, ends, long)))))
        ch in
        subst (λ (l : List Bytes). ChangesRows c k version (fold (with_wish k version) b (cuts_before at (suc n))) (item_rows l start)) (take_less now n (omega arith))
        (cut_before_changes n start front (at - 1) (insert b (row_key Elements k version (u64 (at - 1))) None) (omega (arith, ends, long)) begins (omega arith) (omega (arith, few, long)) one)

    -- ---- of what a command does

    -- the item at an end goes
    pub pop_changes : (end : End) (list : ListSight) → list.head ≡ head → list.tail ≡ head + length items → 0 < length items
        → ChangesRows c k version (insert empty (row_key Elements k version (u64 (end_index end list))) None) (item_rows (popped end items).1 (head_popped end head))
    pop_changes Left list begins ends some =
        subst (λ (h : ℕ). ChangesRows c k version (insert empty (row_key Elements k version (u64 h)) None) (item_rows (drop 1 items) (head + 1))) (sym begins)
        (cut_from_changes 1 0 items head empty (omega arith) (omega arith) (omega arith) (changes_nothing c k version (item_rows items head) there))
    pop_changes Right list begins ends some =
        subst (λ (h : ℕ). ChangesRows c k version (insert empty (row_key Elements k version (u64 (h - 1))) None) (item_rows (take (length items - 1) items) head)) (sym ends)
        (cut_before_changes 1 head items (head + length items) empty refl (omega arith) (omega arith) (omega arith) (changes_nothing c k version (item_rows items head) there))

    -- items are pushed at an end
    pub push_changes : (end : End) (list : ListSight) (vs : List Bytes) → list.head ≡ head → list.tail ≡ head + length items → IsTrue (end_has_room end list (length vs))
        → ChangesRows c k version (wanted k version (pushes end list vs)) (item_rows (pushed end items vs) (head_pushed end (length vs) head))
    unfolding wanted
    push_changes Left list vs begins ends room =
        let some : length vs ≤ head = subst (λ (h : ℕ). length vs ≤ h) begins (low_enough (length vs) list.head room) in
        subst (λ (h : ℕ). ChangesRows c k version (fold (with_wish k version) empty (puts_before h vs)) (item_rows (reverse vs ++ items) (head - length vs))) (sym begins)
        (before_changes vs items head empty some (omega arith) (changes_nothing c k version (item_rows items head) there))
    push_changes Right list vs begins ends room =
        let some : (head + length items) + length vs < 2 ^ 64 = subst (λ (h : ℕ). h + length vs < 2 ^ 64) ends (below_end (list.tail + length vs) (2 ^ 64) room) in
        subst (λ (h : ℕ). ChangesRows c k version (fold (with_wish k version) empty (puts_from h vs)) (item_rows (items ++ vs) head)) (sym ends)
        (from_changes vs items (head + length items) empty refl (omega arith) some (changes_nothing c k version (item_rows items head) there))

    -- all but the items from one place to another are cut
    pub trim_changes : (list : ListSight) (from end : ℕ) → list.head ≡ head → list.tail ≡ head + length items → from ≤ end → end ≤ length items
        → ChangesRows c k version (wanted k version (trims list from end)) (item_rows (take (end - from) (drop from items)) (head + from))
    unfolding wanted
    trim_changes list from end begins ends low high =
        let start = cut_from_changes from 0 items head empty (omega arith) (omega arith) (omega arith) (changes_nothing c k version (item_rows items head) there) in
        let left = length-drop from items in
        let cut : (list.tail - list.head) - end ≡ length items - end = omega (arith, begins, ends) in
        let stay : length (drop from items) - (length items - end) ≡ end - from = omega (arith, left, low, high) in
        let done = cut_before_changes (length items - end) (head + from) (drop from items) (head + length items) (fold (with_wish k version) empty (cuts_from head from)) (omega (arith, left, low, high)) (omega arith) (omega arith) (omega (arith, left, low, high)) start in
        subst (λ b. ChangesRows c k version b (item_rows (take (end - from) (drop from items)) (head + from)))
        (sym (ap (λ wishes. fold (with_wish k version) empty wishes) (trims_are list from end begins ends cut) ∙ fold-append (with_wish k version) empty (cuts_from head from) (cuts_before (head + length items) (length items - end))))
        (subst (λ (n : ℕ). ChangesRows c k version (fold (with_wish k version) (fold (with_wish k version) empty (cuts_from head from)) (cuts_before (head + length items) (length items - end))) (item_rows (take n (drop from items)) (head + from))) stay done)
      where
        trims_are : (list : ListSight) (from end : ℕ) → list.head ≡ head → list.tail ≡ head + length items → (list.tail - list.head) - end ≡ length items - end
            → trims list from end ≡ cuts_from head from ++ cuts_before (head + length items) (length items - end)
        trims_are list from end begins ends cut = (λ i. cuts_from (begins i) from ++ cuts_before (ends i) (cut i))

    -- another item is put in the place of one, where it differs
    pub set_changes : (i : ℕ) (v : Bytes) → i < length items
        → ChangesRows c k version (set_row (get c (row_key Elements k version (u64 (head + i)))) (row_key Elements k version (u64 (head + i))) v) (item_rows (slice_set items i v) head)
    set_changes i v within = by_test (same_row (get c (row_key Elements k version (u64 (head + i)))) (Some v)) refl
      where
        nothing : ChangesRows c k version empty (item_rows items head)
        nothing = changes_nothing c k version (item_rows items head) there

        rows_are : (subkey : Bytes) → item_rows (slice_set items i v) head subkey ≡ with_element (u64 (head + i)) (Some v) (item_rows items head) subkey
        rows_are = one_row items (slice_set items i v) head head (head + i) (Some v) (omega arith) (λ n. one_set items i v head n within)

        stands : same_row (get c (row_key Elements k version (u64 (head + i)))) (Some v) ≡ true → (subkey : Bytes) (s : Bool) → same subkey (u64 (head + i)) ≡ s
            → get c (row_key Elements k version subkey) ≡ cond s (Some v) (item_rows items head subkey)
        stands is subkey true e = ap (λ x. get c (row_key Elements k version x)) (same_is subkey (u64 (head + i)) e) ∙ same_some_row (get c (row_key Elements k version (u64 (head + i)))) v is
        stands is subkey false e = there subkey

        by_test : (b : Bool) → same_row (get c (row_key Elements k version (u64 (head + i)))) (Some v) ≡ b
            → ChangesRows c k version (cond b empty (insert empty (row_key Elements k version (u64 (head + i))) (Some v))) (item_rows (slice_set items i v) head)
        by_test true is = changes_nothing c k version (item_rows (slice_set items i v) head) (λ subkey. stands is subkey (same subkey (u64 (head + i))) refl ∙ sym (rows_are subkey))
        by_test false is = changes_one empty (item_rows items head) (item_rows (slice_set items i v) head) (head + i) (Some v) (ap not is) rows_are nothing
