-- Which rows change where an item leaves a list, comes to one, or goes from one end of a list to the other.
use Rattle.std.proofs.Common.{ℕ, zero, suc, ◌≡◌, ◌+◌, ◌-◌, ◌<◌, ◌^◌, refl, sym, ap, subst, ◌∙◌, Bool, true, false, cond, List, [], ◌∷◌, ◌++◌, length, take, drop, length-append, arith}
use Rattle.std.specs.Prelude.{Option, Some, None, IsTrue, reverse, slice_get, option_map}
use Rattle.kv_base.specs.InversionLaws.{same_some}
use Rattle.kv_base.specs.Map.{Bytes, same, get, empty, insert, get-empty, get-insert, same_map}
use Rattle.kv_base.specs.RawKeys.{is_key, is_version}
use Rattle.batch_codec.specs.Batches.{Batch, joined, over}
use Rattle.batch_codec.specs.BatchLaws.{get-joined}
use Rattle.redis_model.specs.declared.command.End.{End}
use Rattle.redis_model.specs.declared.command.End.TheVariants.{Left, Right}
use Rattle.redis_model.specs.Lists.{pushed, popped}
use Rattle.lives_model.specs.Moved.{head_pushed, head_popped}
use Rattle.lives_model.specs.Rows.{Rows, Elements}
use Rattle.life_plans.specs.WantedRows.{wanted}
use Rattle.list_plans.specs.declared.sight.ListSight.{ListSight}
use Rattle.list_plans.specs.ListLives.{item_rows, IsListAt}
use Rattle.list_plans.specs.ListRows.{end_index, end_has_room, ChangesRows}
use Rattle.list_plans.specs.ListRowLaws.{before_changes, cut_from_changes, pop_changes, push_changes, changes_nothing}
use Rattle.list_changes.specs.Ends.{sight_popped}
use Rattle.list_changes.specs.Found.{item_raw}
use Rattle.list_changes.specs.ItemLaws.{room_before}
use Rattle.list_moves.specs.Planned.{next_index, turned_rows}

-- ---- an item that is put back

-- behind the other items
last_back : (items : List Bytes) (n : ℕ) (v : Bytes) → length items ≡ n + 1 → slice_get items n ≡ Some v → take n items ++ v ∷ [] ≡ items
last_back [] n v long there = absurd (omega (arith, long))
last_back (x ∷ []) zero v long there = ap (λ y. y ∷ []) (sym (same_some x v there))
last_back (x ∷ y ∷ items) zero v long there = absurd (omega (arith, long))
last_back (x ∷ items) (suc n) v long there = ap (λ l. x ∷ l) (last_back items n v (omega (arith, long)) there)

-- before them
first_back : (items : List Bytes) (v : Bytes) → slice_get items 0 ≡ Some v → reverse (v ∷ []) ++ drop 1 items ≡ items
first_back [] v there = absurd (cc)
first_back (x ∷ items) v there = ap (λ y. y ∷ items) (sym (same_some x v there))

-- at the end from which it came it makes the list that was there
pub put_back : (end : End) (items : List Bytes) (v : Bytes) → 0 < length items → (popped end items).0 ≡ Some v → pushed end (popped end items).1 (v ∷ []) ≡ items
put_back Left items v some there = first_back items v there
put_back Right items v some there = last_back items (length items - 1) v (omega (arith, some)) there

-- the first item of a longer list goes
first_goes : (items : List Bytes) (v : Bytes) → 0 < length items → drop 1 (items ++ v ∷ []) ≡ drop 1 items ++ v ∷ []
first_goes [] v some = absurd (omega (arith, some))
first_goes (x ∷ items) v some = refl

-- ---- rows

module _ (c : Rows) (k : Bytes) (short : IsTrue (is_key k)) (list : ListSight) (items : List Bytes) (fits : IsTrue (is_version list.version)) (is : IsListAt c k list items) where
  -- the index behind the last item has 64 bits
  low_end : list.head + length items < 2 ^ 64
  low_end =
      let ends = is.ends in
      let low = is.low in
      omega (arith, ends, low)

  -- the item at an end goes
  pub taken_changes : (end : End) → 0 < length items → ChangesRows c k list.version (insert empty (item_raw k list (end_index end list)) None) (item_rows (popped end items).1 (head_popped end list.head))
  taken_changes end some = pop_changes c k list.version short fits items list.head low_end (λ subkey. is.rows Elements subkey) end list refl is.ends some

  -- an item comes to an end
  pub brought_changes : (end : End) (v : Bytes) → IsTrue (end_has_room end list 1) → ChangesRows c k list.version (insert empty (item_raw k list (next_index end list)) (Some v)) (item_rows (pushed end items (v ∷ [])) (head_pushed end 1 list.head))
  unfolding wanted
  brought_changes Left v room = push_changes c k list.version short fits items list.head low_end (λ subkey. is.rows Elements subkey) Left list (v ∷ []) refl is.ends room
  brought_changes Right v room = push_changes c k list.version short fits items list.head low_end (λ subkey. is.rows Elements subkey) Right list (v ∷ []) refl is.ends room

  -- from an end to the same one nothing changes
  same_end : (end : End) (v : Bytes) (head : ℕ) → 0 < length items → (popped end items).0 ≡ Some v → head ≡ list.head → ChangesRows c k list.version empty (item_rows (pushed end (popped end items).1 (v ∷ [])) head)
  same_end end v head some there here =
      subst (λ (h : ℕ). ChangesRows c k list.version empty (item_rows (pushed end (popped end items).1 (v ∷ [])) h)) (sym here)
      (subst (λ (l : List Bytes). ChangesRows c k list.version empty (item_rows l list.head)) (sym (put_back end items v some there))
      (changes_nothing c k list.version (item_rows items list.head) (λ subkey. is.rows Elements subkey)))

  -- an item goes from an end to an end
  pub turned_changes : (from to : End) (v : Bytes) → 0 < length items → (popped from items).0 ≡ Some v → IsTrue (end_has_room to (sight_popped from list) 1)
      → ChangesRows c k list.version (turned_rows k from to list v) (item_rows (pushed to (popped from items).1 (v ∷ [])) (head_pushed to 1 (head_popped from list.head)))
  turned_changes Left Left v some there room = same_end Left v ((list.head + 1) - 1) some there (omega arith)
  turned_changes Right Right v some there room = same_end Right v list.head some there refl
  turned_changes Left Right v some there room =
      let long = length-append items (v ∷ []) in
      let after = cut_from_changes c k list.version short fits items list.head low_end (λ subkey. is.rows Elements subkey) 1 0 (items ++ v ∷ []) list.head (insert empty (item_raw k list list.tail) (Some v)) (omega arith) (omega (arith, some)) (omega (arith, long)) (brought_changes Right v room) in
      subst (λ (l : List Bytes). ChangesRows c k list.version (turned_rows k Left Right list v) (item_rows l (list.head + 1))) (first_goes items v some) after
  turned_changes Right Left v some there room =
      before_changes c k list.version short fits items list.head low_end (λ subkey. is.rows Elements subkey) (v ∷ []) (take (length items - 1) items) list.head (insert empty (item_raw k list (list.tail - 1)) None)
      (room_before 1 list.head room) (omega arith) (taken_changes Right some)

-- ---- rows of two keys

-- to put two rows into a batch is to join it with a batch of both
pub joined_two : (b : Batch) (p q : Bytes) (x y : Option Bytes) → joined b (insert (insert empty p x) q y) ≡ insert (insert b p x) q y
joined_two b p q x y = same_map (joined b (insert (insert empty p x) q y)) (insert (insert b p x) q y) (λ raw.
    get-joined b (insert (insert empty p x) q y) raw
    ∙ ap (λ o. over (option_map (λ z. Some z) o) (get b raw))
    (get-insert (insert empty p x) q y raw ∙ ap (cond (same raw q) (Some y)) (get-insert empty p x raw ∙ ap (cond (same raw p) (Some x)) (get-empty raw)))
    ∙ by_tests (same raw q) (same raw p) (get b raw)
    ∙ sym (get-insert (insert b p x) q y raw ∙ ap (cond (same raw q) (Some y)) (get-insert b p x raw)))
  where
    by_tests : (s u : Bool) (old : Option (Option Bytes)) → over (option_map (λ z. Some z) (cond s (Some y) (cond u (Some x) None))) old ≡ cond s (Some y) (cond u (Some x) old)
    by_tests true u old = refl
    by_tests false true old = refl
    by_tests false false old = refl
