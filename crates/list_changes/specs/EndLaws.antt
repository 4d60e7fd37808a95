-- Laws on the ends of a list: how many items it has after they moved, and which item stands there.
use Rattle.std.proofs.Common.{ℕ, ◌≡◌, ◌+◌, ◌-◌, ◌<◌, ◌≤◌, ◌^◌, refl, ap, subst, ◌∙◌, Bool, true, false, List, length, length-append, length-drop, arith}
use Rattle.std.proofs.lemmas.Bool.Decides.{nat_tests}
use Rattle.std.proofs.lemmas.List.{length-reverse, length-take-le}
use Rattle.std.specs.Prelude.{Option, Some, None, Ok, IsTrue, IsFalse, reverse, nat_le, nat_lt, not, ◌||◌, ◌==◌}
use Rattle.kv_base.specs.Map.{Bytes, get}
use Rattle.kv_base.specs.Fields.{u64}
use Rattle.kv_base.specs.RawKeys.{is_version}
use Rattle.kv_base.specs.MetaValues.{MetaValue, ListValue}
use Rattle.redis_model.specs.declared.command.Command.{Command}
use Rattle.redis_model.specs.declared.command.Cmds.TheVariants.{One}
use Rattle.redis_model.specs.declared.command.End.{End}
use Rattle.redis_model.specs.declared.command.End.TheVariants.{Left, Right}
use Rattle.redis_model.specs.Deadlines.{keys_in}
use Rattle.redis_model.specs.Keys.{among}
use Rattle.redis_model.specs.Lists.{pushed, popped}
use Rattle.redis_model.specs.Value.{max_size}
use Rattle.lives_model.specs.Rows.{Rows, Elements, row_key}
use Rattle.lives_model.specs.Clean.{live_at}
use Rattle.lives_model.specs.Moved.{head_pushed, head_popped}
use Rattle.lives_model.specs.Plans.{HasRoom, IsReady, words}
use Rattle.list_plans.specs.declared.sight.ListSight.{ListSight}
use Rattle.list_plans.specs.ListLives.{list_found, list_on, IsFoundWithin, IsSightWithin, IsListAt}
use Rattle.list_plans.specs.ListLifeLaws.{list_meta}
use Rattle.list_plans.specs.ListReadLaws.{item_is_there}
use Rattle.list_plans.specs.ListRows.{end_index, end_has_room, tail_pushed, tail_popped}
use Rattle.list_changes.specs.Ends.{IsSightOn, sight_pushed, sight_popped, is_too_long}
use Rattle.list_changes.specs.Found.{item_raw}

-- ---- how many items there are

-- what is pushed is added
pub pushed_size : (end : End) (items vs : List Bytes) → length (pushed end items vs) ≡ length items + length vs
pushed_size Left items vs = let all = length-append (reverse vs) items in let turned = length-reverse vs in omega (arith, all, turned)
pushed_size Right items vs = length-append items vs

-- and what is popped is one less
pub popped_size : (end : End) (items : List Bytes) → length (popped end items).1 ≡ length items - 1
popped_size Left items = length-drop 1 items
popped_size Right items = length-take-le (length items - 1) items (omega arith)

-- ---- where the tail is then

low_enough : (a b : ℕ) → nat_le a b ≡ true → a ≤ b
low_enough a b h = grind (arith, nat_tests)

below_end : (a b : ℕ) → nat_lt a b ≡ true → a < b
below_end a b h = grind (arith, nat_tests)

pub pushed_tail : (end : End) (list : ListSight) (items vs : List Bytes) → list.tail ≡ list.head + length items → IsTrue (end_has_room end list (length vs))
    → tail_pushed end (length vs) list.tail ≡ head_pushed end (length vs) list.head + length (pushed end items vs)
pushed_tail Left list items vs ends room =
    let size = pushed_size Left items vs in
    let fits = low_enough (length vs) list.head room in
    omega (arith, ends, size, fits)
pushed_tail Right list items vs ends room =
    let size = pushed_size Right items vs in
    omega (arith, ends, size)

pub popped_tail : (end : End) (list : ListSight) (items : List Bytes) → list.tail ≡ list.head + length items → 0 < length items
    → tail_popped end list.tail ≡ head_popped end list.head + length (popped end items).1
popped_tail Left list items ends some =
    let size = popped_size Left items in
    omega (arith, ends, size, some)
popped_tail Right list items ends some =
    let size = popped_size Right items in
    omega (arith, ends, size, some)

-- so these are the lists that are left
pub pushed_sight : (end : End) (list : ListSight) (items vs : List Bytes) → list.tail ≡ list.head + length items → IsTrue (end_has_room end list (length vs))
    → sight_pushed end (length vs) list
    ≡ record { version = list.version; head = head_pushed end (length vs) list.head; tail = head_pushed end (length vs) list.head + length (pushed end items vs) }
pushed_sight end list items vs ends room =
    let tail = pushed_tail end list items vs ends room in
    λ i. record { version = list.version; head = head_pushed end (length vs) list.head; tail = tail i }

pub popped_sight : (end : End) (list : ListSight) (items : List Bytes) → list.tail ≡ list.head + length items → 0 < length items
    → sight_popped end list ≡ record { version = list.version; head = head_popped end list.head; tail = head_popped end list.head + length (popped end items).1 }
popped_sight end list items ends some =
    let tail = popped_tail end list items ends some in
    λ i. record { version = list.version; head = head_popped end list.head; tail = tail i }

-- ---- the item at an end

-- it is the one that is popped there
pub end_item : (c : Rows) (k : Bytes) (list : ListSight) (items : List Bytes) (end : End) → IsListAt c k list items → 0 < length items
    → get c (item_raw k list (end_index end list)) ≡ (popped end items).0
end_item c k list items Left is some =
    let here : list.head ≡ list.head + 0 = omega arith in
    ap (λ (h : ℕ). get c (row_key Elements k list.version (u64 h))) here ∙ item_is_there c k list items 0 is some
end_item c k list items Right is some =
    let ends = is.ends in
    let here : list.tail - 1 ≡ list.head + (length items - 1) = omega (arith, ends, some) in
    ap (λ (h : ℕ). get c (row_key Elements k list.version (u64 h))) here ∙ item_is_there c k list items (length items - 1) is (omega (arith, some))

-- ---- room

-- indices that do not run out leave room
pub room_is : (end : End) (list : ListSight) (n : ℕ) → n ≤ list.head → list.tail + n < 2 ^ 64 → IsTrue (end_has_room end list n)
room_is Left list n low high = grind (arith, nat_tests)
room_is Right list n low high = grind (arith, nat_tests)

-- a store sees to it that there is some for the items of a command
pub room_ready : (c : Rows) (t fresh : ℕ) (d : Command) (k : Bytes) (end : End) (found : Option ListSight) (n : ℕ) → IsReady c t fresh (One d) → IsTrue (among (keys_in (One d)) k)
    → list_found (live_at c t k) ≡ Ok found → n ≤ words d → n < 2 ^ 63 → IsTrue (end_has_room end (list_on fresh found) n)
room_ready c t fresh d k end None n ready named is few low = room_is end (list_on fresh None) n (omega (arith, low)) (omega (arith, low))
room_ready c t fresh d k end (Some list) n ready named is few low =
    let meta = list_meta (live_at c t k) list is in
    let room : HasRoom (words d) (Some (ListValue meta.0 list.version list.head list.tail)) = subst (λ (o : Option MetaValue). HasRoom (words d) o) meta.1 (ready.room k named) in
    let before = room.0 in
    let behind = room.1 in
    room_is end list n (omega (arith, before, few)) (omega (arith, behind, few))

-- ---- within the limits

-- a tail to which items were added has 64 bits
pub pushed_low : (end : End) (list : ListSight) (n : ℕ) → list.tail < 2 ^ 64 → IsTrue (end_has_room end list n) → tail_pushed end n list.tail < 2 ^ 64
pushed_low Left list n low room = low
pushed_low Right list n low room = below_end (list.tail + n) (2 ^ 64) room

-- a list that was found, or a new one
pub on_within : (fresh : ℕ) (found : Option ListSight) → IsTrue (is_version fresh) → IsFoundWithin found → IsSightOn (list_on fresh found)
on_within fresh None fits within = record { version = fits; ends = omega arith; few = omega arith; low = omega arith }
on_within fresh (Some list) fits within =
    let some = within.some in
    record { version = within.version; ends = omega (arith, some); few = within.few; low = within.low }

-- one that was found is within them
pub sight_is_on : (list : ListSight) → IsSightWithin list → IsSightOn list
sight_is_on list within = let some = within.some in record { version = within.version; ends = omega (arith, some); few = within.few; low = within.low }

size_fits : (size : ℕ) (r : Bool) → (nat_lt max_size size || not r) ≡ false → size < 2 ^ 32
size_fits size r h = by_test (nat_lt max_size size) refl h
  where
    by_test : (b : Bool) → nat_lt max_size size ≡ b → (b || not r) ≡ false → size < 2 ^ 32
    by_test true e h = absurd (cc)
    by_test false e h = grind (arith, nat_tests)

room_fits : (b r : Bool) → (b || not r) ≡ false → r ≡ true
room_fits false true h = refl
room_fits false false h = absurd (cc)
room_fits true r h = absurd (cc)

-- where they are not too many there is room for them
pub long_room : (end : End) (list : ListSight) (n : ℕ) → IsFalse (is_too_long end list n) → IsTrue (end_has_room end list n)
long_room end list n short = room_fits (nat_lt max_size ((list.tail - list.head) + n)) (end_has_room end list n) short

-- after a push that is not too long
pub pushed_within : (end : End) (list : ListSight) (n : ℕ) → IsSightOn list → 0 < n → IsFalse (is_too_long end list n) → IsSightWithin (sight_pushed end n list)
pushed_within Left list n within some short =
    let size = size_fits ((list.tail - list.head) + n) (nat_le n list.head) short in
    let room = low_enough n list.head (long_room Left list n short) in
    let ends = within.ends in
    record { version = within.version; some = omega (arith, some, room, ends); few = omega (arith, size, room, ends); low = within.low }
pushed_within Right list n within some short =
    let size = size_fits ((list.tail - list.head) + n) (nat_lt (list.tail + n) (2 ^ 64)) short in
    let ends = within.ends in
    record { version = within.version; some = omega (arith, some, ends); few = omega (arith, size, ends); low = below_end (list.tail + n) (2 ^ 64) (long_room Right list n short) }

-- and after a pop of one of several items
pub popped_within : (end : End) (list : ListSight) → IsSightWithin list → IsFalse (list.tail - list.head == 1) → IsSightWithin (sight_popped end list)
popped_within end list within more = by_end end
  where
    several : list.head + 1 < list.tail
    several = let some = within.some in grind (arith, nat_tests, some, more)

    by_end : (end : End) → IsSightWithin (sight_popped end list)
    by_end Left = let few = within.few in record { version = within.version; some = several; few = omega (arith, few); low = within.low }
    by_end Right =
        let few = within.few in
        let low = within.low in
        record { version = within.version; some = omega (arith, several); few = omega (arith, few); low = omega (arith, low) }
