-- Where a list ends from which an item was taken, and which item that is.
use Rattle.std.proofs.Common.{ℕ, ◌≡◌, ◌+◌, ◌-◌, ◌<◌, ◌^◌, ◌∙◌, refl, Bool, true, false, List, length, arith}
use Rattle.std.proofs.lemmas.Bool.Decides.{nat_tests}
use Rattle.std.specs.Prelude.{Some, IsTrue, IsFalse, ◌||◌, not, nat_lt}
use Rattle.kv_base.specs.Map.{Bytes, get}
use Rattle.redis_model.specs.declared.command.End.{End}
use Rattle.redis_model.specs.declared.command.End.TheVariants.{Left, Right}
use Rattle.redis_model.specs.Value.{max_size}
use Rattle.redis_model.specs.Lists.{popped}
use Rattle.lives_model.specs.Rows.{Rows}
use Rattle.list_plans.specs.declared.sight.ListSight.{ListSight}
use Rattle.list_plans.specs.ListLives.{IsSightWithin, IsListAt}
use Rattle.list_plans.specs.ListIndexLaws.{item_there}
use Rattle.list_plans.specs.ListRows.{tail_popped, end_index, end_has_room}
use Rattle.list_changes.specs.Ends.{IsSightOn, sight_popped, is_too_long}
use Rattle.list_changes.specs.EndLaws.{end_item, room_is}
use Rattle.list_changes.specs.Found.{item_raw}
use Rattle.list_changes.specs.ItemLaws.{room_before, room_behind}

-- ---- limits

-- without one of its items a list may be a new one
pub popped_on : (end : End) (list : ListSight) → IsSightWithin list → IsSightOn (sight_popped end list)
popped_on Left list within =
    let some = within.some in
    let few = within.few in
    record { version = within.version; ends = omega (arith, some); few = omega (arith, few); low = within.low }
popped_on Right list within =
    let some = within.some in
    let few = within.few in
    let low = within.low in
    record { version = within.version; ends = omega (arith, some); few = omega (arith, few); low = omega (arith, low) }

pub popped_low : (end : End) (list : ListSight) → list.tail < 2 ^ 64 → tail_popped end list.tail < 2 ^ 64
popped_low Left list low = low
popped_low Right list low = omega (arith, low)

-- ---- room

-- a list with room at both ends has it without one of its items
pub popped_room : (from to : End) (list : ListSight) → IsTrue (end_has_room Left list 1) → IsTrue (end_has_room Right list 1) → IsTrue (end_has_room to (sight_popped from list) 1)
popped_room Left to list before behind =
    let low = room_behind 1 list.tail behind in
    room_is to (sight_popped Left list) 1 (omega arith) low
popped_room Right to list before behind =
    let low = room_behind 1 list.tail behind in
    room_is to (sight_popped Right list) 1 (room_before 1 list.head before) (omega (arith, low))

not_large : (n : ℕ) → n < 2 ^ 32 → nat_lt max_size n ≡ false
not_large n h = grind (arith, nat_tests)

-- so an item that was taken does not come back to too many
pub turned_short : (from to : End) (list : ListSight) → IsSightWithin list → IsTrue (end_has_room to (sight_popped from list) 1) → IsFalse (is_too_long to (sight_popped from list) 1)
turned_short from to list within room =
    by_tests (nat_lt max_size (((sight_popped from list).tail - (sight_popped from list).head) + 1)) (end_has_room to (sight_popped from list) 1)
    (not_large (((sight_popped from list).tail - (sight_popped from list).head) + 1) (one_back from)) room
  where
    by_tests : (a b : Bool) → a ≡ false → b ≡ true → (a || not b) ≡ false
    by_tests false true e f = refl
    by_tests true b e f = absurd (cc)
    by_tests false false e f = absurd (cc)

    one_back : (from : End) → ((sight_popped from list).tail - (sight_popped from list).head) + 1 < 2 ^ 32
    one_back Left =
        let some = within.some in
        let few = within.few in
        omega (arith, some, few)
    one_back Right =
        let some = within.some in
        let few = within.few in
        omega (arith, some, few)

-- ---- the item at an end

-- a list with items has one there
popped_some : (end : End) (items : List Bytes) → 0 < length items → (v : Bytes) × ((popped end items).0 ≡ Some v)
popped_some Left items some = item_there items 0 some
popped_some Right items some = item_there items (length items - 1) (omega (arith, some))

-- and it is looked up
pub popped_there : (c : Rows) (k : Bytes) (list : ListSight) (items : List Bytes) (end : End) → IsListAt c k list items → 0 < length items
    → (v : Bytes) × ((popped end items).0 ≡ Some v) × (get c (item_raw k list (end_index end list)) ≡ Some v)
popped_there c k list items end is some =
    let v = popped_some end items some in
    (v.0, v.1, end_item c k list items end is some ∙ v.1)
