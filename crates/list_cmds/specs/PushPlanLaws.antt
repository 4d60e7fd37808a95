-- The plans of LPUSH, RPUSH, LPUSHX and RPUSHX.
use Rattle.std.proofs.Common.{ℕ, ◌≡◌, ◌+◌, ◌-◌, ◌<◌, ◌≤◌, ◌^◌, refl, sym, ap, subst, ◌∙◌, Bool, true, false, cond, List, [], ◌∷◌, length, arith}
use Rattle.std.proofs.lemmas.Bool.Decides.{nat_tests}
use Rattle.std.specs.Prelude.{◌||◌, not, nat_lt, Option, Some, None, Ok, Err, IsTrue, IsFalse, is_some}
use Rattle.kv_base.specs.Map.{Bytes, get, has, insert}
use Rattle.kv_base.specs.RawKeys.{is_key, is_version}
use Rattle.redis_model.specs.declared.reply.Reply.TheVariants as reply
use Rattle.redis_model.specs.declared.reply.ReplyError.TheVariants.{TooLarge}
use Rattle.redis_model.specs.declared.command.Command.{Command}
use Rattle.redis_model.specs.declared.command.Command.TheVariants as cmd
use Rattle.redis_model.specs.declared.command.Cmds.TheVariants.{One}
use Rattle.redis_model.specs.declared.command.End.{End}
use Rattle.redis_model.specs.declared.command.End.TheVariants.{Left, Right}
use Rattle.redis_model.specs.Value.{ListOf, RedisMap, deadline_at, max_size}
use Rattle.redis_model.specs.Outcome.{number, lists, at_key}
use Rattle.redis_model.specs.About.{keys_of}
use Rattle.redis_model.specs.Apply.{carried_out}
use Rattle.redis_model.specs.Limits.{IsWithin, max_words}
use Rattle.redis_model.specs.Lists.{pushed, push_items, push, push_x}
use Rattle.redis_model.specs.Touched.{written_again}
use Rattle.lives_model.specs.Rows.{Rows, Elements}
use Rattle.lives_model.specs.Clean.{live_at}
use Rattle.lives_model.specs.Means.{Means}
use Rattle.lives_model.specs.Moved.{head_pushed, head_after}
use Rattle.lives_model.specs.Plans.{IsReady, is_store, words}
use Rattle.plan_base.specs.KeyLimitLaws.{key_is_short}
use Rattle.plan_base.specs.Carries.{Carries}
use Rattle.plan_base.specs.LifePlans.{answering}
use Rattle.plan_base.specs.Seen.{deadline_in}
use Rattle.life_plans.specs.WantedRows.{wanted}
use Rattle.list_plans.specs.declared.sight.ListSight.{ListSight}
use Rattle.list_plans.specs.ListLives.{list_found, list_on, IsListAt, IsListOf}
use Rattle.list_plans.specs.ListLifeLaws.{list_stands, found_within}
use Rattle.list_plans.specs.ListPlans.{list_plan}
use Rattle.list_plans.specs.ListRows.{end_has_room, pushes}
use Rattle.list_plans.specs.ListRowLaws.{push_changes}
use Rattle.list_plans.specs.ListChangeLaws.{list_changing, list_left, list_refused, left_there, left_large, changing_is, touched_longer}
use Rattle.list_changes.specs.Ends.{sight_pushed}
use Rattle.list_changes.specs.EndLaws.{pushed_size, pushed_tail, pushed_sight, pushed_low, room_ready}
use Rattle.list_changes.specs.Found.{found_at}
use Rattle.list_cmds.specs.Planned.{pushing, push_plan, pushing_x, push_x_plan}
use Rattle.list_cmds.specs.ChangeParts.{PlansOn, is_named, list_has, none_there, wrong_has, wrong_type, left_alone}

above : (a b : ℕ) → nat_lt a b ≡ true → a < b
above a b h = grind (arith, nat_tests)

not_above : (a b : ℕ) → nat_lt a b ≡ false → b ≤ a
not_above a b h = grind (arith, nat_tests)

contrary : true ≡ false → ⊥
contrary e = cc

-- ---- a push

module _ (c : Rows) (t fresh : ℕ) (d : Command) (k : Bytes) (end : End) (vs : List Bytes) (one : keys_of d ≡ k ∷ []) (short : IsTrue (is_key k)) (no_store : IsFalse (is_store d))
    (moves : (m : RedisMap) (head : ℕ) → head_after m d k head ≡ head_pushed end (length vs) head) (some : 0 < length vs) (few : length vs ≤ max_words) (worded : length vs ≤ words d) where
  -- a command that pushes to the list that was found, or to a new one
  pushes_on : (m : RedisMap) (found : Option ListSight) (items : List Bytes) → Means c t m → IsReady c t fresh (One d) → list_found (live_at c t k) ≡ Ok found → IsListOf c k found items → at_key lists m k ≡ Ok items
      → carried_out m t d ≡ push m k end vs → PlansOn c t fresh m d (pushing t k (deadline_in (live_at c t k)) end vs (list_on fresh found))
  unfolding pushing
  pushes_on m found items means ready is there at done = by_tests (nat_lt max_size ((list.tail - list.head) + length vs)) refl (end_has_room end list (length vs)) refl
    where
      old : Option ℕ
      old = deadline_in (live_at c t k)

      list : ListSight
      list = list_on fresh found

      next : List Bytes
      next = pushed end items vs

      head : ℕ
      head = head_pushed end (length vs) list.head

      stands : IsListAt c k list items
      stands = list_stands c k fresh found items there ready.fits (ready.above k (is_named d k one))

      room : IsTrue (end_has_room end list (length vs))
      room = room_ready c t fresh d k end found (length vs) ready (is_named d k one) is worded (omega (arith, few))

      size : (list.tail - list.head) + length vs ≡ length next
      size = let ends = stands.ends in let all = pushed_size end items vs in omega (arith, ends, all)

      fits : IsTrue (is_version list.version)
      fits = by_found found is
        where
          by_found : (found : Option ListSight) → list_found (live_at c t k) ≡ Ok found → IsTrue (is_version (list_on fresh found).version)
          by_found None e = ready.fits
          by_found (Some there) e = (found_within c t k there e).version

      low : head + length next < 2 ^ 64
      low = subst (λ (n : ℕ). n < 2 ^ 64) (pushed_tail end list items vs stands.ends room) (pushed_low end list (length vs) stands.low room)

      too_large : nat_lt max_size ((list.tail - list.head) + length vs) ≡ true → PlansOn c t fresh m d (answering t old (reply.Error TooLarge))
      too_large large =
          let many = above max_size ((list.tail - list.head) + length vs) large in
          list_refused fresh d k means one short TooLarge
          (done ∙ changing_is m k (push_items end vs) items next (number (length next)) (Err TooLarge) at refl (left_large m k next (omega (arith, many, size))))

      left : nat_lt max_size ((list.tail - list.head) + length vs) ≡ false
          → PlansOn c t fresh m d (list_plan t k old (sight_pushed end (length vs) list) (wanted k list.version (pushes end list vs)) (number ((list.tail - list.head) + length vs)))
      left small =
          let most = not_above max_size ((list.tail - list.head) + length vs) small in
          let all = pushed_size end items vs in
          let sight = pushed_sight end list items vs stands.ends room in
          let n : RedisMap = insert m k (record { value = ListOf next; deadline = deadline_at m k }) in
          let more : 0 < length next = omega (arith, all, some) in
          let within : length next ≤ max_size = omega (arith, most, size) in
          subst (PlansOn c t fresh m d) (λ i. list_plan t k old (sym sight i) (wanted k list.version (pushes end list vs)) (number (sym size i)))
          (list_left fresh d k means one short found items next head (wanted k list.version (pushes end list vs)) (number (length next)) n ready.fits (ready.above k (is_named d k one)) is there at
          no_store (moves m list.head) refl
          (done ∙ changing_is m k (push_items end vs) items next (number (length next)) (Ok n) at refl (left_there m k next more within))
          (touched_longer m d k items next (deadline_at m k) at (λ e. absurd (omega (arith, e, all, some))))
          more within low
          (push_changes c k list.version short fits items list.head (subst (λ (n : ℕ). n < 2 ^ 64) stands.ends stands.low) (λ subkey. stands.rows Elements subkey) end list vs refl stands.ends room))

      by_tests : (b : Bool) → nat_lt max_size ((list.tail - list.head) + length vs) ≡ b → (r : Bool) → end_has_room end list (length vs) ≡ r
          → PlansOn c t fresh m d (cond (b || not r) (answering t old (reply.Error TooLarge))
          (list_plan t k old (sight_pushed end (length vs) list) (wanted k list.version (pushes end list vs)) (number ((list.tail - list.head) + length vs))))
      by_tests true large r e = too_large large
      by_tests false small true e = left small
      by_tests false small false e = absurd (contrary (sym room ∙ e))

  -- LPUSH and RPUSH
  push_carries : ((m : RedisMap) → carried_out m t d ≡ push m k end vs) → Carries c t fresh d (push_plan t fresh (found_at c t k) k end vs)
  unfolding push_plan
  push_carries done =
      list_changing c t fresh d k (λ found. pushing t k (deadline_in (live_at c t k)) end vs (list_on fresh found)) one short
      (λ m e at. done m ∙ wrong_type m k (push_items end vs) e at)
      (λ m found items means ready is there at. pushes_on m found items means ready is there at (done m))

  -- LPUSHX and RPUSHX
  push_x_carries : ((m : RedisMap) → carried_out m t d ≡ push_x m k end vs) → ((m : RedisMap) → written_again m m d ≡ []) → Carries c t fresh d (push_x_plan t (found_at c t k) k end vs)
  unfolding push_x_plan
  push_x_carries done quiet =
      list_changing c t fresh d k (pushing_x t k (deadline_in (live_at c t k)) end vs) one short
      (λ m e at. done m ∙ by_has m (has m k) true (wrong_has (get m k) e at) ∙ wrong_type m k (push_items end vs) e at)
      by_found
    where
      by_has : (m : RedisMap) (b h : Bool) → b ≡ h → cond b (push m k end vs) (Ok (number 0, m)) ≡ cond h (push m k end vs) (Ok (number 0, m))
      by_has m b h e = ap (λ b. cond b (push m k end vs) (Ok (number 0, m))) e

      by_found : (m : RedisMap) (found : Option ListSight) (items : List Bytes) → Means c t m → IsReady c t fresh (One d) → list_found (live_at c t k) ≡ Ok found → IsListOf c k found items → at_key lists m k ≡ Ok items
          → PlansOn c t fresh m d (pushing_x t k (deadline_in (live_at c t k)) end vs found)
      by_found m None items means ready is there at = left_alone fresh d k (number 0) means one (done m ∙ by_has m (has m k) false (ap is_some (none_there means k is))) (quiet m)
      by_found m (Some list) items means ready is there at = pushes_on m (Some list) items means ready is there at (done m ∙ by_has m (has m k) true (list_has means k list is))

-- ---- the commands

pub l_push_carries : (c : Rows) (t fresh : ℕ) (k : Bytes) (vs : List Bytes) (w : ℕ) → IsWithin (cmd.LPush k vs w) → Carries c t fresh (cmd.LPush k vs w) (push_plan t fresh (found_at c t k) k Left vs)
unfolding carried_out head_after
l_push_carries c t fresh k vs w within =
    push_carries c t fresh (cmd.LPush k vs w) k Left vs refl (key_is_short k within.names) refl (λ m head. refl) within.fields.0 within.few (omega arith) (λ m. refl)

pub r_push_carries : (c : Rows) (t fresh : ℕ) (k : Bytes) (vs : List Bytes) (w : ℕ) → IsWithin (cmd.RPush k vs w) → Carries c t fresh (cmd.RPush k vs w) (push_plan t fresh (found_at c t k) k Right vs)
unfolding carried_out head_after
r_push_carries c t fresh k vs w within =
    push_carries c t fresh (cmd.RPush k vs w) k Right vs refl (key_is_short k within.names) refl (λ m head. refl) within.fields.0 within.few (omega arith) (λ m. refl)

pub l_push_x_carries : (c : Rows) (t fresh : ℕ) (k : Bytes) (vs : List Bytes) (w : ℕ) → IsWithin (cmd.LPushX k vs w) → Carries c t fresh (cmd.LPushX k vs w) (push_x_plan t (found_at c t k) k Left vs)
unfolding carried_out head_after
l_push_x_carries c t fresh k vs w within =
    push_x_carries c t fresh (cmd.LPushX k vs w) k Left vs refl (key_is_short k within.names) refl (λ m head. refl) within.fields.0 within.few (omega arith) (λ m. refl) (λ m. refl)

pub r_push_x_carries : (c : Rows) (t fresh : ℕ) (k : Bytes) (vs : List Bytes) (w : ℕ) → IsWithin (cmd.RPushX k vs w) → Carries c t fresh (cmd.RPushX k vs w) (push_x_plan t (found_at c t k) k Right vs)
unfolding carried_out head_after
r_push_x_carries c t fresh k vs w within =
    push_x_carries c t fresh (cmd.RPushX k vs w) k Right vs refl (key_is_short k within.names) refl (λ m head. refl) within.fields.0 within.few (omega arith) (λ m. refl) (λ m. refl)
