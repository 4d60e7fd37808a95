-- The plan of LSET.
use Rattle.std.proofs.Common.{ℕ, ◌≡◌, ◌+◌, ◌-◌, ◌<◌, ◌≤◌, ◌^◌, refl, sym, ap, subst, ◌∙◌, Bool, true, false, cond, List, length, arith}
use Rattle.std.proofs.lemmas.List.{length-set}
use Rattle.std.specs.Prelude.{Option, Some, None, Ok, Err, IsTrue, is_some, slice_set, ℤ}
use Rattle.kv_base.specs.Map.{Bytes, get, has, insert}
use Rattle.kv_base.specs.RawKeys.{is_key}
use Rattle.redis_model.specs.declared.reply.Reply.TheVariants as reply
use Rattle.redis_model.specs.declared.reply.ReplyError.TheVariants.{NoSuchKey, IndexRange}
use Rattle.redis_model.specs.declared.command.Command.TheVariants as cmd
use Rattle.redis_model.specs.declared.command.Cmds.TheVariants.{One}
use Rattle.redis_model.specs.Value.{ListOf, RedisMap, deadline_at, max_size}
use Rattle.redis_model.specs.Outcome.{lists, at_key, changing}
use Rattle.redis_model.specs.Apply.{carried_out}
use Rattle.redis_model.specs.Limits.{IsWithin}
use Rattle.redis_model.specs.Lists.{place, with_item, set_item}
use Rattle.lives_model.specs.Rows.{Rows, Elements}
use Rattle.lives_model.specs.Clean.{live_at}
use Rattle.lives_model.specs.Means.{Means}
use Rattle.lives_model.specs.Moved.{head_after}
use Rattle.lives_model.specs.Plans.{IsReady}
use Rattle.plan_base.specs.KeyLimitLaws.{key_is_short, among_itself}
use Rattle.plan_base.specs.Carries.{Carries}
use Rattle.plan_base.specs.KeyStepLaws.{touched_again}
use Rattle.plan_base.specs.Seen.{deadline_in}
use Rattle.list_plans.specs.declared.sight.ListSight.{ListSight}
use Rattle.list_plans.specs.ListLives.{list_found, IsListAt, IsListOf}
use Rattle.list_plans.specs.ListLifeLaws.{found_within}
use Rattle.list_plans.specs.ListPlans.{list_plan}
use Rattle.list_plans.specs.ListRows.{set_row}
use Rattle.list_plans.specs.ListRowLaws.{set_changes}
use Rattle.list_plans.specs.ListChangeLaws.{list_changing, list_left, list_refused, left_there, changing_is}
use Rattle.list_changes.specs.Found.{found_at, item_of, item_at_place, item_found, item_raw}
use Rattle.list_cmds.specs.Planned.{setting, setting_at, l_set_plan}
use Rattle.list_cmds.specs.ReadPlanLaws.{place_within, items_are_many}
use Rattle.list_cmds.specs.ChangeParts.{PlansOn, is_named, list_has, none_there, wrong_has, wrong_type, wrong_place}

module _ (c : Rows) (t fresh : ℕ) (k : Bytes) (at : ℤ) (v : Bytes) (w : ℕ) (short : IsTrue (is_key k)) where
  -- what it comes to, where there is a key and where there is none
  by_has : (m : RedisMap) (b h : Bool) → b ≡ h → cond b (changing lists m k (set_item at v)) (Err NoSuchKey) ≡ cond h (changing lists m k (set_item at v)) (Err NoSuchKey)
  by_has m b h e = ap (λ b. cond b (changing lists m k (set_item at v)) (Err NoSuchKey)) e

  -- an item that is there becomes another one
  item_set : (m : RedisMap) (list : ListSight) (items : List Bytes) (i : ℕ) → Means c t m → IsReady c t fresh (One (cmd.LSet k at v w)) → list_found (live_at c t k) ≡ Ok (Some list) → IsListAt c k list items → at_key lists m k ≡ Ok items
      → place (length items) at ≡ Some i
      → PlansOn c t fresh m (cmd.LSet k at v w) (list_plan t k (deadline_in (live_at c t k)) list (set_row (get c (item_raw k list (list.head + i))) (item_raw k list (list.head + i)) v) reply.Ok)
  unfolding carried_out head_after
  item_set m list items i means ready is there stands e =
      let within = found_within c t k list is in
      let few = within.few in
      let more = within.some in
      let ends = there.ends in
      let tail_low = there.low in
      let next : List Bytes = slice_set items i v in
      let same : length next ≡ length items = length-set items i v in
      let n : RedisMap = insert m k (record { value = ListOf next; deadline = deadline_at m k }) in
      let some : 0 < length next = omega (arith, same, ends, more) in
      let size : length next ≤ max_size = omega (arith, same, ends, few) in
      let low : list.head + length next < 2 ^ 64 = omega (arith, same, ends, tail_low) in
      let tail : list.head + length next ≡ list.tail = omega (arith, same, ends) in
      subst (PlansOn c t fresh m (cmd.LSet k at v w))
      (λ j. list_plan t k (deadline_in (live_at c t k)) (record { version = list.version; head = list.head; tail = tail j }) (set_row (get c (item_raw k list (list.head + i))) (item_raw k list (list.head + i)) v) reply.Ok)
      (list_left fresh (cmd.LSet k at v w) k means refl short (Some list) items next list.head (set_row (get c (item_raw k list (list.head + i))) (item_raw k list (list.head + i)) v) reply.Ok n
      ready.fits (ready.above k (is_named (cmd.LSet k at v w) k refl)) is there stands refl refl refl
      (by_has m (has m k) true (list_has means k list is) ∙ changing_is m k (set_item at v) items next reply.Ok (Ok n) stands (ap (λ o. with_item items o v) e) (left_there m k next some size))
      (touched_again m n (cmd.LSet k at v w) k (among_itself k))
      some size low
      (set_changes c k list.version short within.version items list.head (subst (λ (n : ℕ). n < 2 ^ 64) ends tail_low) (λ subkey. there.rows Elements subkey) i v (place_within (length items) at i e)))

  -- by the place
  set_at : (m : RedisMap) (list : ListSight) (items : List Bytes) (o : Option ℕ) → Means c t m → IsReady c t fresh (One (cmd.LSet k at v w)) → list_found (live_at c t k) ≡ Ok (Some list) → IsListAt c k list items → at_key lists m k ≡ Ok items
      → place (length items) at ≡ o → PlansOn c t fresh m (cmd.LSet k at v w) (setting_at t k (deadline_in (live_at c t k)) (item_at_place c k list o) v list o)
  unfolding carried_out
  set_at m list items None means ready is there stands e =
      list_refused fresh (cmd.LSet k at v w) k means refl short IndexRange
      (by_has m (has m k) true (list_has means k list is) ∙ wrong_place m k (set_item at v) items IndexRange stands (ap (λ o. with_item items o v) e))
  set_at m list items (Some i) means ready is there stands e = item_set m list items i means ready is there stands e

  sets : (m : RedisMap) (found : Option ListSight) (items : List Bytes) → Means c t m → IsReady c t fresh (One (cmd.LSet k at v w)) → list_found (live_at c t k) ≡ Ok found → IsListOf c k found items → at_key lists m k ≡ Ok items
      → PlansOn c t fresh m (cmd.LSet k at v w) (setting t k (deadline_in (live_at c t k)) (item_found (item_of c k at) (list_found (live_at c t k))) at v found)
  unfolding carried_out
  sets m None items means ready is there stands =
      list_refused fresh (cmd.LSet k at v w) k means refl short NoSuchKey (by_has m (has m k) false (ap is_some (none_there means k is)))
  sets m (Some list) items means ready is there stands =
      subst (λ (o : Option Bytes). PlansOn c t fresh m (cmd.LSet k at v w) (setting_at t k (deadline_in (live_at c t k)) o v list (place (list.tail - list.head) at))) (sym (ap (item_found (item_of c k at)) is))
      (subst (λ (n : ℕ). PlansOn c t fresh m (cmd.LSet k at v w) (setting_at t k (deadline_in (live_at c t k)) (item_at_place c k list (place n at)) v list (place n at))) (sym (items_are_many c k list items there))
      (set_at m list items (place (length items) at) means ready is there stands refl))

pub l_set_carries : (c : Rows) (t fresh : ℕ) (k : Bytes) (at : ℤ) (v : Bytes) (w : ℕ) → IsWithin (cmd.LSet k at v w)
    → Carries c t fresh (cmd.LSet k at v w) (l_set_plan t (found_at c t k) k at v (item_found (item_of c k at) (found_at c t k).list))
unfolding carried_out l_set_plan
l_set_carries c t fresh k at v w within =
    list_changing c t fresh (cmd.LSet k at v w) k (setting t k (deadline_in (live_at c t k)) (item_found (item_of c k at) (list_found (live_at c t k))) at v) refl (key_is_short k within.names)
    (λ m e wrong. by_has c t fresh k at v w (key_is_short k within.names) m (has m k) true (wrong_has (get m k) e wrong) ∙ wrong_type m k (set_item at v) e wrong)
    (sets c t fresh k at v w (key_is_short k within.names))
