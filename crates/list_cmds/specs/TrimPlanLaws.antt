-- The plan of LTRIM.
use Rattle.std.proofs.Common.{ℕ, ◌≡◌, ◌+◌, ◌-◌, ◌<◌, ◌≤◌, ◌^◌, refl, sym, ap, subst, ◌∙◌, Bool, true, false, cond, List, [], length, take, drop, length-drop, arith}
use Rattle.std.proofs.Math.Seq.{take-length}
use Rattle.std.proofs.lemmas.Bool.Decides.{nat_tests}
use Rattle.std.proofs.lemmas.List.{length-take-le}
use Rattle.std.specs.Prelude.{◌&&◌, ◌==◌, nat_le, Option, Some, None, Ok, IsTrue, option_and_then, ℤ}
use Rattle.kv_base.specs.Map.{Bytes, same, same_is, get, insert, get-insert, same_map}
use Rattle.kv_base.specs.InversionLaws.{both_first, both_second}
use Rattle.kv_base.specs.RawKeys.{is_key}
use Rattle.redis_model.specs.declared.reply.Reply.TheVariants as reply
use Rattle.redis_model.specs.declared.command.Command.TheVariants as cmd
use Rattle.redis_model.specs.declared.command.Cmds.TheVariants.{One}
use Rattle.redis_model.specs.Value.{Value, Str, Hash, ListOf, SetOf, ZSet, Entry, RedisMap, deadline_at, max_size}
use Rattle.redis_model.specs.Outcome.{Outcome, lists, as_list, seen, at_key, change}
use Rattle.redis_model.specs.Apply.{carried_out}
use Rattle.redis_model.specs.Limits.{IsWithin}
use Rattle.redis_model.specs.Lists.{trim}
use Rattle.redis_model.specs.Strings.{start_at, end_at, range}
use Rattle.lives_model.specs.Rows.{Rows, Elements}
use Rattle.lives_model.specs.Clean.{live_at}
use Rattle.lives_model.specs.Means.{Means}
use Rattle.lives_model.specs.Moved.{items_of, head_after}
use Rattle.lives_model.specs.Plans.{IsReady}
use Rattle.plan_base.specs.KeyLimitLaws.{key_is_short}
use Rattle.plan_base.specs.Carries.{Carries}
use Rattle.plan_base.specs.KeyPlanLaws.{remove_nothing}
use Rattle.plan_base.specs.LifePlans.{answering}
use Rattle.plan_base.specs.Seen.{deadline_in}
use Rattle.life_plans.specs.WantedRows.{wanted}
use Rattle.list_plans.specs.declared.sight.ListSight.{ListSight}
use Rattle.list_plans.specs.ListLives.{list_found, IsListAt, IsListOf}
use Rattle.list_plans.specs.ListLifeLaws.{found_within}
use Rattle.list_plans.specs.ListPlans.{list_plan, gone_plan}
use Rattle.list_plans.specs.ListRows.{trims}
use Rattle.list_plans.specs.ListRowLaws.{trim_changes}
use Rattle.list_plans.specs.ListChangeLaws.{list_changing, list_left, list_gone, left_there, left_gone, changing_is, touched_longer}
use Rattle.list_changes.specs.Found.{found_at}
use Rattle.list_cmds.specs.Planned.{trimming_to, trimming, l_trim_plan}
use Rattle.list_cmds.specs.ReadPlanLaws.{items_are_many, end_within, none_between}
use Rattle.list_cmds.specs.ChangeParts.{PlansOn, is_named, none_there, wrong_type, left_alone}

-- ---- what is at the key

-- its items are those of the list
items_seen : (o : Option Entry) (items : List Bytes) → seen lists o ≡ Ok items → items_of o ≡ items
items_seen None items h = cc
items_seen (Some e) items h = by_value e.value h
  where
    by_value : (v : Value) → as_list v ≡ Ok items → items_of (Some (record { value = v; deadline = e.deadline })) ≡ items
    by_value (ListOf l) h = cc
    by_value (Str g) h = absurd (cc)
    by_value (Hash g) h = absurd (cc)
    by_value (SetOf g) h = absurd (cc)
    by_value (ZSet g) h = absurd (cc)

-- what is put at a key again leaves the map
put_again : (m : RedisMap) (k : Bytes) (e : Entry) → get m k ≡ Some e → insert m k e ≡ m
put_again m k e there = same_map (insert m k e) m (λ q. get-insert m k e q ∙ by_test q (same q k) refl)
  where
    by_test : (q : Bytes) (s : Bool) → same q k ≡ s → cond s (Some e) (get m q) ≡ get m q
    by_test q true is = sym (ap (get m) (same_is q k is) ∙ there)
    by_test q false is = refl

list_is : (v : Value) (items : List Bytes) → as_list v ≡ Ok items → v ≡ ListOf items
list_is (ListOf l) items h = cc
list_is (Str g) items h = absurd (cc)
list_is (Hash g) items h = absurd (cc)
list_is (SetOf g) items h = absurd (cc)
list_is (ZSet g) items h = absurd (cc)

-- and so does the list that is there
list_again : (m : RedisMap) (k : Bytes) (items : List Bytes) → at_key lists m k ≡ Ok items → 0 < length items → insert m k (record { value = ListOf items; deadline = deadline_at m k }) ≡ m
list_again m k items at some = put_again m k (record { value = ListOf items; deadline = deadline_at m k }) (by_entry (get m k) refl at)
  where
    nothing : (items : List Bytes) → seen lists None ≡ Ok items → items ≡ []
    nothing items h = cc

    by_entry : (o : Option Entry) → get m k ≡ o → seen lists o ≡ Ok items → get m k ≡ Some (record { value = ListOf items; deadline = deadline_at m k })
    by_entry None e h = let none = ap length (nothing items h) in absurd (omega (arith, none, some))
    by_entry (Some x) e h =
        e ∙ ap (λ (v : Value). Some (record { value = v; deadline = x.deadline })) (list_is x.value items h)
        ∙ ap (λ (dl : Option ℕ). Some (record { value = ListOf items; deadline = dl })) (sym (ap (option_and_then (λ e. e.deadline)) e))

-- ---- the places

no_place : (from : ℕ) → (from == 0) ≡ true → from ≡ 0
no_place from h = grind (arith, nat_tests)

same_number : (a b : ℕ) → (a == b) ≡ true → a ≡ b
same_number a b h = grind (arith, nat_tests)

-- a range that is not the whole list is shorter
shorter : (from end n : ℕ) → ((from == 0) && (end == n)) ≡ false → from < end → end ≤ n → end - from < n
shorter from end n h some within = by_test (from == 0) refl h
  where
    by_test : (b : Bool) → (from == 0) ≡ b → (b && (end == n)) ≡ false → end - from < n
    by_test true first h = grind (arith, nat_tests, h, within, some)
    by_test false later h = grind (arith, nat_tests, later, within, some)

-- ---- LTRIM

module _ (c : Rows) (t fresh : ℕ) (k : Bytes) (a b : ℤ) (w : ℕ) (short : IsTrue (is_key k)) where
  -- where there is no key
  nothing_trimmed : (m : RedisMap) (items : List Bytes) → Means c t m → list_found (live_at c t k) ≡ Ok None → items ≡ [] → at_key lists m k ≡ Ok items
      → PlansOn c t fresh m (cmd.LTrim k a b w) (answering t (deadline_in (live_at c t k)) reply.Ok)
  unfolding carried_out
  nothing_trimmed m items means is none at =
      left_alone fresh (cmd.LTrim k a b w) k reply.Ok means refl
      (changing_is m k (trim a b) items (range items a b) reply.Ok (Ok m) at refl
      (left_gone m k (range items a b) (sym (none_between (end_at (length items) b - start_at (length items) a) (start_at (length items) a) items none)) ∙ ap ok (remove_nothing m k (none_there means k is))))
      refl
    where
      ok : RedisMap → Outcome RedisMap
      ok n = Ok n

  module _ (m : RedisMap) (list : ListSight) (items : List Bytes) (means : Means c t m) (ready : IsReady c t fresh (One (cmd.LTrim k a b w))) (is : list_found (live_at c t k) ≡ Ok (Some list)) (there : IsListAt c k list items)
      (at : at_key lists m k ≡ Ok items) where
    -- where the items that stay begin and end
    abbrev from : ℕ
    from = start_at (length items) a

    abbrev end : ℕ
    end = end_at (length items) b

    some : 0 < length items
    some = let ends = there.ends in let more = (found_within c t k list is).some in omega (arith, ends, more)

    few : length items ≤ max_size
    few = let ends = there.ends in let small = (found_within c t k list is).few in omega (arith, ends, small)

    -- all items stay
    whole_left : from ≡ 0 → end ≡ length items → PlansOn c t fresh m (cmd.LTrim k a b w) (answering t (deadline_in (live_at c t k)) reply.Ok)
    unfolding carried_out
    whole_left first last =
        left_alone fresh (cmd.LTrim k a b w) k reply.Ok means refl
        (changing_is m k (trim a b) items (range items a b) reply.Ok (Ok m) at refl (ap (change lists m k) all ∙ left_there m k items some few ∙ ap ok (list_again m k items at some)))
        refl
      where
        all : take (end - from) (drop from items) ≡ items
        all =
            let count : length items - 0 ≡ length items = omega arith in
            (λ i. take (last i - first i) (drop (first i) items)) ∙ ap (λ (n : ℕ). take n items) count ∙ take-length items

        ok : RedisMap → Outcome RedisMap
        ok n = Ok n

    -- none stays
    none_left : nat_le end from ≡ true → PlansOn c t fresh m (cmd.LTrim k a b w) (gone_plan t k (deadline_in (live_at c t k)) reply.Ok)
    unfolding carried_out
    none_left past =
        let nothing : end - from ≡ 0 = grind (arith, nat_tests, past) in
        list_gone fresh (cmd.LTrim k a b w) k means refl short list reply.Ok is
        (changing_is m k (trim a b) items (range items a b) reply.Ok _ at refl (left_gone m k (range items a b) (ap (λ (n : ℕ). take n (drop from items)) nothing)))

    -- some stay
    some_left : ((from == 0) && (end == length items)) ≡ false → nat_le end from ≡ false
        → PlansOn c t fresh m (cmd.LTrim k a b w)
        (list_plan t k (deadline_in (live_at c t k)) (record { version = list.version; head = list.head + from; tail = list.head + end }) (wanted k list.version (trims list from end)) reply.Ok)
    unfolding carried_out head_after
    some_left parts before =
        let order : from < end = grind (arith, nat_tests, before) in
        let within : end ≤ length items = end_within (length items) b in
        let ends = there.ends in
        let tail_low = there.low in
        let next : List Bytes = take (end - from) (drop from items) in
        let rest = length-drop from items in
        let size : length next ≡ end - from = length-take-le (end - from) (drop from items) (omega (arith, rest, order, within)) in
        let less = shorter from end (length items) parts order within in
        let n : RedisMap = insert m k (record { value = ListOf next; deadline = deadline_at m k }) in
        let more : 0 < length next = omega (arith, size, order) in
        let most = few in
        let small : length next ≤ max_size = omega (arith, size, less, most) in
        let tail : (list.head + from) + length next ≡ list.head + end = omega (arith, size, order) in
        let low : (list.head + from) + length next < 2 ^ 64 = omega (arith, tail, within, ends, tail_low) in
        subst (PlansOn c t fresh m (cmd.LTrim k a b w))
        (λ j. list_plan t k (deadline_in (live_at c t k)) (record { version = list.version; head = list.head + from; tail = tail j }) (wanted k list.version (trims list from end)) reply.Ok)
        (list_left fresh (cmd.LTrim k a b w) k means refl short (Some list) items next (list.head + from) (wanted k list.version (trims list from end)) reply.Ok n
        ready.fits (ready.above k (is_named (cmd.LTrim k a b w) k refl)) is there at refl
        (ap (λ (l : List Bytes). list.head + start_at (length l) a) (items_seen (get m k) items at)) refl
        (changing_is m k (trim a b) items next reply.Ok (Ok n) at refl (left_there m k next more small))
        (touched_longer m (cmd.LTrim k a b w) k items next (deadline_at m k) at (λ e. absurd (omega (arith, e, size, less))))
        more small low
        (trim_changes c k list.version short (found_within c t k list is).version items list.head (subst (λ (n : ℕ). n < 2 ^ 64) ends tail_low) (λ subkey. there.rows Elements subkey) list from end refl ends (omega (arith, order)) within))

    trimmed : PlansOn c t fresh m (cmd.LTrim k a b w) (trimming_to t k (deadline_in (live_at c t k)) list (start_at (list.tail - list.head) a) (end_at (list.tail - list.head) b))
    unfolding trimming_to
    trimmed =
        subst (λ (n : ℕ). PlansOn c t fresh m (cmd.LTrim k a b w) (cond ((start_at n a == 0) && (end_at n b == n)) (answering t (deadline_in (live_at c t k)) reply.Ok)
        (cond (nat_le (end_at n b) (start_at n a)) (gone_plan t k (deadline_in (live_at c t k)) reply.Ok)
        (list_plan t k (deadline_in (live_at c t k)) (record { version = list.version; head = list.head + start_at n a; tail = list.head + end_at n b }) (wanted k list.version (trims list (start_at n a) (end_at n b))) reply.Ok))))
        (sym (items_are_many c k list items there))
        (by_tests ((from == 0) && (end == length items)) refl (nat_le end from) refl)
      where
        by_tests : (p : Bool) → ((from == 0) && (end == length items)) ≡ p → (q : Bool) → nat_le end from ≡ q
            → PlansOn c t fresh m (cmd.LTrim k a b w) (cond p (answering t (deadline_in (live_at c t k)) reply.Ok)
            (cond q (gone_plan t k (deadline_in (live_at c t k)) reply.Ok)
            (list_plan t k (deadline_in (live_at c t k)) (record { version = list.version; head = list.head + from; tail = list.head + end }) (wanted k list.version (trims list from end)) reply.Ok)))
        by_tests true all q e = whole_left (no_place from (both_first (from == 0) (end == length items) all)) (same_number end (length items) (both_second (from == 0) (end == length items) all))
        by_tests false parts true past = none_left past
        by_tests false parts false before = some_left parts before

  trims_on : (m : RedisMap) (found : Option ListSight) (items : List Bytes) → Means c t m → IsReady c t fresh (One (cmd.LTrim k a b w)) → list_found (live_at c t k) ≡ Ok found → IsListOf c k found items → at_key lists m k ≡ Ok items
      → PlansOn c t fresh m (cmd.LTrim k a b w) (trimming t k (deadline_in (live_at c t k)) a b found)
  trims_on m None items means ready is there at = nothing_trimmed m items means is there at
  trims_on m (Some list) items means ready is there at = trimmed m list items means ready is there at

pub l_trim_carries : (c : Rows) (t fresh : ℕ) (k : Bytes) (a b : ℤ) (w : ℕ) → IsWithin (cmd.LTrim k a b w) → Carries c t fresh (cmd.LTrim k a b w) (l_trim_plan t (found_at c t k) k a b)
unfolding carried_out l_trim_plan
l_trim_carries c t fresh k a b w within =
    list_changing c t fresh (cmd.LTrim k a b w) k (trimming t k (deadline_in (live_at c t k)) a b) refl (key_is_short k within.names) (λ m e at. wrong_type m k (trim a b) e at)
    (trims_on c t fresh k a b w (key_is_short k within.names))
