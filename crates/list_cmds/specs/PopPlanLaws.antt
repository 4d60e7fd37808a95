-- The plans of LPOP and RPOP.
use Rattle.std.proofs.Common.{ℕ, ◌≡◌, ◌+◌, ◌-◌, ◌<◌, ◌≤◌, ◌^◌, refl, sym, ap, subst, ◌∙◌, Bool, true, false, cond, List, [], ◌∷◌, length, arith}
use Rattle.std.proofs.lemmas.Bool.Decides.{nat_tests}
use Rattle.std.specs.Prelude.{◌==◌, Option, Some, None, Ok, IsTrue, IsFalse}
use Rattle.kv_base.specs.Map.{Bytes, empty, insert}
use Rattle.kv_base.specs.RawKeys.{is_key}
use Rattle.redis_model.specs.declared.reply.Reply.TheVariants as reply
use Rattle.redis_model.specs.declared.command.Command.{Command}
use Rattle.redis_model.specs.declared.command.Command.TheVariants as cmd
use Rattle.redis_model.specs.declared.command.Cmds.TheVariants.{One}
use Rattle.redis_model.specs.declared.command.End.{End}
use Rattle.redis_model.specs.declared.command.End.TheVariants.{Left, Right}
use Rattle.redis_model.specs.Value.{ListOf, RedisMap, deadline_at, max_size}
use Rattle.redis_model.specs.Outcome.{Outcome, bulk_or_null, lists, at_key}
use Rattle.redis_model.specs.About.{keys_of}
use Rattle.redis_model.specs.Apply.{carried_out}
use Rattle.redis_model.specs.Limits.{IsWithin}
use Rattle.redis_model.specs.Lists.{popped, pop_item, pop}
use Rattle.redis_model.specs.Touched.{written_again}
use Rattle.lives_model.specs.Rows.{Rows, Elements}
use Rattle.lives_model.specs.Clean.{live_at}
use Rattle.lives_model.specs.Means.{Means}
use Rattle.lives_model.specs.Moved.{head_popped, head_after}
use Rattle.lives_model.specs.Plans.{IsReady, is_store}
use Rattle.plan_base.specs.KeyLimitLaws.{key_is_short}
use Rattle.plan_base.specs.Carries.{Carries}
use Rattle.plan_base.specs.KeyPlanLaws.{remove_nothing}
use Rattle.plan_base.specs.Seen.{deadline_in}
use Rattle.list_plans.specs.declared.sight.ListSight.{ListSight}
use Rattle.list_plans.specs.ListLives.{list_found, IsListAt, IsListOf}
use Rattle.list_plans.specs.ListLifeLaws.{found_within}
use Rattle.list_plans.specs.ListPlans.{list_plan, gone_plan}
use Rattle.list_plans.specs.ListRows.{end_index}
use Rattle.list_plans.specs.ListRowLaws.{pop_changes}
use Rattle.list_plans.specs.ListChangeLaws.{list_changing, list_left, list_gone, left_there, left_gone, changing_is, touched_longer}
use Rattle.list_changes.specs.Ends.{sight_popped}
use Rattle.list_changes.specs.EndLaws.{popped_size, popped_sight, end_item}
use Rattle.list_changes.specs.Found.{found_at, item_at_end, item_found, item_raw}
use Rattle.list_cmds.specs.Planned.{popping, pop_plan}
use Rattle.list_cmds.specs.ChangeParts.{PlansOn, is_named, none_there, wrong_type, left_alone, no_items}

-- ---- a pop

-- of nothing
none_popped : (end : End) → pop_item end [] ≡ Ok (reply.Null, [])
none_popped Left = refl
none_popped Right = refl

one_item : (n : ℕ) → (n == 1) ≡ true → n ≡ 1
one_item n h = grind (arith, nat_tests)

more_items : (n : ℕ) → 0 < n → (n == 1) ≡ false → 1 < n
more_items n some h = grind (arith, nat_tests)

module _ (c : Rows) (t fresh : ℕ) (d : Command) (k : Bytes) (end : End) (one : keys_of d ≡ k ∷ []) (short : IsTrue (is_key k)) (no_store : IsFalse (is_store d))
    (moves : (m : RedisMap) (head : ℕ) → head_after m d k head ≡ head_popped end head) (quiet : (m : RedisMap) → written_again m m d ≡ []) (done : (m : RedisMap) → carried_out m t d ≡ pop m k end) where
  -- where there is no key
  nothing_popped : (m : RedisMap) → Means c t m → list_found (live_at c t k) ≡ Ok None → at_key lists m k ≡ Ok []
      → PlansOn c t fresh m d (popping t k (deadline_in (live_at c t k)) end reply.Null None)
  nothing_popped m means is at =
      left_alone fresh d k reply.Null means one
      (done m ∙ changing_is m k (pop_item end) [] [] reply.Null (Ok m) at (none_popped end) (left_gone m k [] refl ∙ ap ok (remove_nothing m k (none_there means k is))))
      (quiet m)
    where
      ok : RedisMap → Outcome RedisMap
      ok n = Ok n

  -- the last item goes
  last_popped : (m : RedisMap) (list : ListSight) (items : List Bytes) → Means c t m → list_found (live_at c t k) ≡ Ok (Some list) → at_key lists m k ≡ Ok items → length items ≡ 1
      → PlansOn c t fresh m d (gone_plan t k (deadline_in (live_at c t k)) (bulk_or_null (popped end items).0))
  last_popped m list items means is at single =
      let left = popped_size end items in
      list_gone fresh d k means one short list (bulk_or_null (popped end items).0) is
      (done m ∙ changing_is m k (pop_item end) items (popped end items).1 (bulk_or_null (popped end items).0) _ at refl (left_gone m k (popped end items).1 (no_items (popped end items).1 (omega (arith, left, single)))))

  -- one of several
  one_popped : (m : RedisMap) (list : ListSight) (items : List Bytes) → Means c t m → IsReady c t fresh (One d) → list_found (live_at c t k) ≡ Ok (Some list) → IsListAt c k list items → at_key lists m k ≡ Ok items → 1 < length items
      → PlansOn c t fresh m d (list_plan t k (deadline_in (live_at c t k)) (sight_popped end list) (insert empty (item_raw k list (end_index end list)) None) (bulk_or_null (popped end items).0))
  one_popped m list items means ready is there at several =
      let left = popped_size end items in
      let ends = there.ends in
      let within = found_within c t k list is in
      let few = within.few in
      let some : 0 < length items = omega (arith, several) in
      let next : List Bytes = (popped end items).1 in
      let head : ℕ = head_popped end list.head in
      let n : RedisMap = insert m k (record { value = ListOf next; deadline = deadline_at m k }) in
      let more : 0 < length next = omega (arith, left, several) in
      let low : length next ≤ max_size = omega (arith, left, ends, few) in
      let sight = popped_sight end list items ends some in
      subst (PlansOn c t fresh m d) (λ i. list_plan t k (deadline_in (live_at c t k)) (sym sight i) (insert empty (item_raw k list (end_index end list)) None) (bulk_or_null (popped end items).0))
      (list_left fresh d k means one short (Some list) items next head (insert empty (item_raw k list (end_index end list)) None) (bulk_or_null (popped end items).0) n ready.fits (ready.above k (is_named d k one)) is there at
      no_store (moves m list.head) refl
      (done m ∙ changing_is m k (pop_item end) items next (bulk_or_null (popped end items).0) (Ok n) at refl (left_there m k next more low))
      (touched_longer m d k items next (deadline_at m k) at (λ e. absurd (omega (arith, e, left, several))))
      more low (tail_low end list items there.ends there.low some)
      (pop_changes c k list.version short within.version items list.head (subst (λ (n : ℕ). n < 2 ^ 64) ends there.low) (λ subkey. there.rows Elements subkey) end list refl ends some))
    where
      tail_low : (end : End) (list : ListSight) (items : List Bytes) → list.tail ≡ list.head + length items → list.tail < 2 ^ 64 → 0 < length items → head_popped end list.head + length (popped end items).1 < 2 ^ 64
      tail_low Left list items ends low some = let left = popped_size Left items in omega (arith, left, ends, low, some)
      tail_low Right list items ends low some = let left = popped_size Right items in omega (arith, left, ends, low, some)

  pops : (m : RedisMap) (found : Option ListSight) (items : List Bytes) → Means c t m → IsReady c t fresh (One d) → list_found (live_at c t k) ≡ Ok found → IsListOf c k found items → at_key lists m k ≡ Ok items
      → PlansOn c t fresh m d (popping t k (deadline_in (live_at c t k)) end (bulk_or_null (item_found (item_at_end c k end) (list_found (live_at c t k)))) found)
  pops m None items means ready is there at = nothing_popped m means is (subst (λ (l : List Bytes). at_key lists m k ≡ Ok l) there at)
  pops m (Some list) items means ready is there at =
      subst (λ (o : Option Bytes). PlansOn c t fresh m d (popping t k (deadline_in (live_at c t k)) end (bulk_or_null o) (Some list)))
      (sym (ap (item_found (item_at_end c k end)) is ∙ end_item c k list items end there some))
      (by_count (list.tail - list.head == 1) refl)
    where
      count : list.tail - list.head ≡ length items
      count = let ends = there.ends in omega (arith, ends)

      some : 0 < length items
      some = let ends = there.ends in let more = (found_within c t k list is).some in omega (arith, ends, more)

      by_count : (b : Bool) → (list.tail - list.head == 1) ≡ b
          → PlansOn c t fresh m d (cond b (gone_plan t k (deadline_in (live_at c t k)) (bulk_or_null (popped end items).0))
          (list_plan t k (deadline_in (live_at c t k)) (sight_popped end list) (insert empty (item_raw k list (end_index end list)) None) (bulk_or_null (popped end items).0)))
      by_count true e = last_popped m list items means is at (sym count ∙ one_item (list.tail - list.head) e)
      by_count false e = one_popped m list items means ready is there at (more_items (length items) some (ap (λ (n : ℕ). n == 1) (sym count) ∙ e))

  pop_carries : Carries c t fresh d (pop_plan t (found_at c t k) k end (item_found (item_at_end c k end) (found_at c t k).list))
  unfolding pop_plan
  pop_carries =
      list_changing c t fresh d k (popping t k (deadline_in (live_at c t k)) end (bulk_or_null (item_found (item_at_end c k end) (list_found (live_at c t k))))) one short
      (λ m e at. done m ∙ wrong_type m k (pop_item end) e at)
      pops

-- ---- the commands

pub l_pop_carries : (c : Rows) (t fresh : ℕ) (k : Bytes) (w : ℕ) → IsWithin (cmd.LPop k w)
    → Carries c t fresh (cmd.LPop k w) (pop_plan t (found_at c t k) k Left (item_found (item_at_end c k Left) (found_at c t k).list))
unfolding carried_out head_after
l_pop_carries c t fresh k w within = pop_carries c t fresh (cmd.LPop k w) k Left refl (key_is_short k within.names) refl (λ m head. refl) (λ m. refl) (λ m. refl)

pub r_pop_carries : (c : Rows) (t fresh : ℕ) (k : Bytes) (w : ℕ) → IsWithin (cmd.RPop k w)
    → Carries c t fresh (cmd.RPop k w) (pop_plan t (found_at c t k) k Right (item_found (item_at_end c k Right) (found_at c t k).list))
unfolding carried_out head_after
r_pop_carries c t fresh k w within = pop_carries c t fresh (cmd.RPop k w) k Right refl (key_is_short k within.names) refl (λ m head. refl) (λ m. refl) (λ m. refl)
