-- A command that moves an item has the plan of `Planned.antt`.
use Rattle.std.proofs.Common.{ℕ, ◌≡◌, ◌≢◌, ◌+◌, ◌-◌, ◌<◌, ◌≤◌, ◌^◌, refl, sym, ap, subst, ◌∙◌, Bool, true, false, cond, List, [], ◌∷◌, length, arith}
use Rattle.std.proofs.lemmas.Bool.Decides.{nat_tests}
use Rattle.std.proofs.lemmas.List.Elements.{All-head, All-tail}
use Rattle.std.specs.Prelude.{Option, Some, None, Ok, Err, IsTrue, IsFalse, ◌||◌, ◌==◌, not, nat_lt, is_some, option_and_then, All}
use Rattle.kv_base.specs.InversionLaws.{number_is}
use Rattle.kv_base.specs.Map.{Bytes, same, same_is, same_itself, get, has, empty, insert, remove, get-remove, get-insert}
use Rattle.kv_base.specs.MetaValues.{MetaValue}
use Rattle.kv_base.specs.RawKeys.{is_key, is_version}
use Rattle.batch_codec.specs.Batches.{Batch}
use Rattle.redis_model.specs.declared.reply.Reply.{Reply}
use Rattle.redis_model.specs.declared.reply.Reply.TheVariants as reply
use Rattle.redis_model.specs.declared.reply.ReplyError.{ReplyError}
use Rattle.redis_model.specs.declared.reply.ReplyError.TheVariants.{TooLarge}
use Rattle.redis_model.specs.declared.command.Command.{Command}
use Rattle.redis_model.specs.declared.command.Command.TheVariants as cmd
use Rattle.redis_model.specs.declared.command.Cmds.TheVariants.{One}
use Rattle.redis_model.specs.declared.command.End.{End}
use Rattle.redis_model.specs.declared.command.End.TheVariants.{Left, Right}
use Rattle.redis_model.specs.Value.{ListOf, Entry, RedisMap, lives, deadline_at, max_size}
use Rattle.redis_model.specs.Outcome.{Outcome, ◌>>=◌, lists, at_key, change}
use Rattle.redis_model.specs.Keys.{among}
use Rattle.redis_model.specs.Lists.{pushed, popped, moved, move_to}
use Rattle.redis_model.specs.Limits.{IsWithin, IsName}
use Rattle.redis_model.specs.About.{keys_of}
use Rattle.redis_model.specs.Apply.{carried_out}
use Rattle.redis_model.specs.Touched.{written_again}
use Rattle.lives_model.specs.declared.plan.Plan.{Plan}
use Rattle.lives_model.specs.Rows.{Rows, meta_key}
use Rattle.lives_model.specs.Clean.{live_at}
use Rattle.lives_model.specs.Means.{Means}
use Rattle.lives_model.specs.Moved.{head_after, head_pushed, head_popped}
use Rattle.lives_model.specs.Plans.{IsPlanOf, IsReady, least_above, touches, is_store}
use Rattle.plan_base.specs.Ahead.{seen_deadlines}
use Rattle.plan_base.specs.Carries.{Carries}
use Rattle.plan_base.specs.KeyLimitLaws.{name_is_key}
use Rattle.plan_base.specs.KeyPlanLaws.{refused_plan, still_plan, found_deadline_fits, live_is_found}
use Rattle.plan_base.specs.KeyStepLaws.{touched_again}
use Rattle.plan_base.specs.MetaRows.{meta_batch}
use Rattle.plan_base.specs.MetaRowLaws.{deadline_is_back}
use Rattle.plan_base.specs.Seen.{deadline_in}
use Rattle.plan_base.specs.SeenLaws.{seen_there, seen_deadline}
use Rattle.life_plans.specs.KeyParts.{PlansKey}
use Rattle.life_plans.specs.KeyPartLaws as parts
use Rattle.life_plans.specs.KeyPartLaws.{found_deadline_lives, unchanged_stays, named_is_touched, writes_part, gone_part, leaves_then, put_is, put_at, put_elsewhere, change_leaves, one_key_plan, two_keys_plan}
use Rattle.list_plans.specs.declared.sight.ListSight.{ListSight}
use Rattle.list_plans.specs.ListLives.{list_found, list_on, item_rows, IsListAt, SeesList}
use Rattle.list_plans.specs.ListLifeLaws.{sees_list, found_within, list_meta, none_meta, list_stands}
use Rattle.list_plans.specs.ListRows.{end_has_room, ChangesRows, end_index, tail_pushed, tail_popped}
use Rattle.list_plans.specs.ListPlans.{list_batch, list_plan, sight_text}
use Rattle.list_plans.specs.ListChangeLaws.{left_there, left_gone, left_large, list_goes_on, list_writes}
use Rattle.list_changes.specs.Ends.{sight_pushed, sight_popped, is_too_long}
use Rattle.list_changes.specs.EndLaws.{popped_size, pushed_size, popped_tail, pushed_tail, pushed_low, room_ready}
use Rattle.list_changes.specs.Found.{item_raw, item_at_end, item_found}
use Rattle.list_moves.specs.Moves.{Moves}
use Rattle.list_moves.specs.Planned.{leaving, next_index, turned_rows, sight_turned, turning, brought, moving, moving_item, by_lists, move_plan}
use Rattle.list_moves.specs.MoveEndLaws.{popped_low, popped_room, turned_short, popped_there}
use Rattle.list_moves.specs.MoveRowLaws.{taken_changes, brought_changes, turned_changes, joined_two}

-- ---- numbers and keys

-- a key of another type is there
list_there : (o : Option MetaValue) (e : ReplyError) → list_found o ≡ Err e → is_some o ≡ true
list_there None e h = absurd (cc)
list_there (Some meta) e h = refl

-- a number that is not above another one
not_above : (n : ℕ) → nat_lt max_size n ≡ false → n ≤ max_size
not_above n h = grind (arith, nat_tests)

above : (n : ℕ) → nat_lt max_size n ≡ true → max_size < n
above n h = grind (arith, nat_tests)

other_number : (n m : ℕ) → (n == m) ≡ false → n ≡ m → ⊥
other_number n m apart is = let yes : (n == m) ≡ true = grind (arith, nat_tests, is) in cc

-- a list of no items is empty
no_items : (items : List Bytes) → length items ≡ 0 → items ≡ []
no_items [] none = refl
no_items (v ∷ items) none = absurd (omega (arith, none))

-- two keys are apart, whichever comes first
apart_turned : (a b : Bytes) → same a b ≡ false → same b a ≡ false
apart_turned a b apart = by_test (same b a) refl
  where
    by_test : (s : Bool) → same b a ≡ s → s ≡ false
    by_test true e = let yes : same a b ≡ true = ap (same a) (same_is b a e) ∙ same_itself a in absurd (cc)
    by_test false e = refl

first_among : (a b : Bytes) → IsTrue (among (a ∷ b ∷ []) a)
first_among a b = ap (λ s. s || (same a b || false)) (same_itself a)

second_among : (a b : Bytes) → IsTrue (among (a ∷ b ∷ []) b)
second_among a b = by_test (same b a)
  where
    by_test : (s : Bool) → (s || (same b b || false)) ≡ true
    by_test true = refl
    by_test false = ap (λ s. s || false) (same_itself b)

-- a pair of which the first is known
with_first : (p : Option Bytes × List Bytes) (v : Bytes) → p.0 ≡ Some v → p ≡ (Some v, p.1)
with_first p v is = ap (λ o. (o, p.1)) is

-- ---- a key at which a list is left

-- the version of a list that goes on, or begins, is one
on_fits : (c : Rows) (t fresh : ℕ) (k : Bytes) (found : Option ListSight) → list_found (live_at c t k) ≡ Ok found → IsTrue (is_version fresh) → IsTrue (is_version (list_on fresh found).version)
on_fits c t fresh k None is fits = fits
on_fits c t fresh k (Some list) is fits = (found_within c t k list is).version

-- what is put at a key stands there, and what is taken away does not
put_there : (m : RedisMap) (k : Bytes) (e : Entry) → get (insert m k e) k ≡ Some e
put_there m k e = get-insert m k e k ∙ ap (λ s. cond s (Some e) (get m k)) (same_itself k)

removed_there : (m : RedisMap) (k : Bytes) → get (remove m k) k ≡ None
removed_there m k = get-remove m k k ∙ ap (λ s. cond s None (get m k)) (same_itself k)

-- the rows of items that differ and its metadata are what the plan has to do there
list_part : {c : Rows} {t : ℕ} {m : RedisMap} (fresh : ℕ) (d : Command) (means : Means c t m) (k : Bytes) (short : IsTrue (is_key k)) (found : Option ListSight) (items next : List Bytes) (head : ℕ) (rows : Batch) (sight : ListSight) (n : RedisMap) (answer : Reply)
    → IsTrue (is_version fresh) → IsFalse (is_store d) → list_found (live_at c t k) ≡ Ok found → at_key lists m k ≡ Ok items → IsListAt c k (list_on fresh found) items
    → carried_out m t d ≡ Ok (answer, n) → get n k ≡ Some (record { value = ListOf next; deadline = deadline_at m k }) → IsTrue (touches m t d k) → head_after m d k (list_on fresh found).head ≡ head
    → 0 < length next → length next ≤ max_size → head + length next < 2 ^ 64 → ChangesRows c k (list_on fresh found).version rows (item_rows next head)
    → sight ≡ record { version = (list_on fresh found).version; head = head; tail = head + length next }
    → PlansKey c t fresh m d (list_batch k (deadline_in (live_at c t k)) sight rows) k
list_part {c} {t} {m} fresh d means k short found items next head rows sight n answer fits no_store is at stands done there touch moves some few low ch ends =
    subst (λ (s : ListSight). PlansKey c t fresh m d (list_batch k old s rows) k) (sym ends)
    (writes_part k short touch
    (parts.left_there means n d answer done k (record { value = ListOf next; deadline = deadline_at m k }) there (found_deadline_lives means k)
    ∙ ap (λ (dl : Option ℕ). Some (record { value = ListOf next; deadline = dl })) (seen_deadline means k))
    (list_goes_on means k fresh d found items next no_store is at ∙ ap (λ (h : ℕ). record { version = (list_on fresh found).version; head = h }) moves)
    (list_writes c k (list_on fresh found) items next head rows old short (deadline_is_back t old lives_on) (found_deadline_fits (live_at c t k) (live_is_found c t k)) (on_fits c t fresh k found is fits) stands some few low ch))
  where
    old : Option ℕ
    old = deadline_in (live_at c t k)

    lives_on : lives t old ≡ true
    lives_on = ap (lives t) (sym (seen_deadline means k)) ∙ found_deadline_lives means k

-- ---- the plan

module _ {c : Rows} {t : ℕ} (fresh : ℕ) {d : Command} {a b : Bytes} {from to : End} (moves : Moves t d a b from to) (short : IsTrue (is_key a)) (fit : IsTrue (is_key b)) {m : RedisMap} (means : Means c t m) (ready : IsReady c t fresh (One d)) where
  -- the deadlines of both keys
  abbrev old : Option ℕ
  old = deadline_in (live_at c t a)

  abbrev other : Option ℕ
  other = deadline_in (live_at c t b)

  -- a plan of the command
  abbrev Plans : Plan → Type 0
  Plans p = IsPlanOf c t fresh m d p.batch p.reply p.until

  -- one that looks ahead to the deadlines of its keys
  on_keys : (rows : Batch) (answer : Reply) → IsPlanOf c t fresh m d rows answer (least_above t (seen_deadlines c t (keys_of d))) → IsPlanOf c t fresh m d rows answer (least_above t (old ∷ other ∷ []))
  on_keys rows answer plan = subst (λ (ks : List Bytes). IsPlanOf c t fresh m d rows answer (least_above t (seen_deadlines c t ks))) moves.keys plan

  -- an error
  refused : (e : ReplyError) → carried_out m t d ≡ Err e → Plans (leaving t old other (reply.Error e))
  refused e is = on_keys empty (reply.Error e) (refused_plan fresh d e means is)

  -- what the command comes to, by whether the first key is there
  abbrev by_source : Bool → Outcome (Reply × RedisMap)
  by_source there = cond there (at_key lists m a >>= λ l. at_key lists m b >>= λ target. moved m a b to (popped from l) target) (Ok (reply.Null, m))

  -- without it nothing is moved
  not_there : live_at c t a ≡ None → Plans (leaving t old other reply.Null)
  not_there none =
      let gone : has m a ≡ false = seen_there means a ∙ ap is_some none in
      on_keys empty reply.Null
      (still_plan fresh d reply.Null means (moves.is m ∙ ap by_source gone) (moves.again m m ∙ ap (λ h. cond h (a ∷ b ∷ []) []) gone))

  -- with it what is at both keys decides
  comes_to : (x y : Outcome (List Bytes)) → has m a ≡ true → at_key lists m a ≡ x → at_key lists m b ≡ y → carried_out m t d ≡ (x >>= λ l. y >>= λ target. moved m a b to (popped from l) target)
  comes_to x y there e f = moves.is m ∙ ap by_source there ∙ (λ i. e i >>= λ l. f i >>= λ target. moved m a b to (popped from l) target)

  -- and both are touched
  again : (n : RedisMap) → has m a ≡ true → written_again m n d ≡ a ∷ b ∷ []
  again n there = moves.again m n ∙ ap (λ h. cond h (a ∷ b ∷ []) []) there

  is_named : (k : Bytes) → IsTrue (among (a ∷ b ∷ []) k) → IsTrue (among (keys_of d) k)
  is_named k named = ap (λ ks. among ks k) moves.keys ∙ named

  touched_key : (n : RedisMap) (answer : Reply) (k : Bytes) → has m a ≡ true → carried_out m t d ≡ Ok (answer, n) → IsTrue (among (a ∷ b ∷ []) k) → IsTrue (touches m t d k)
  touched_key n answer k there done named =
      named_is_touched m n t d answer k done (is_named k named) (touched_again m n d k (ap (λ ks. among ks k) (again n there) ∙ named))

  -- ---- a list with an item at the end

  module _ (list : ListSight) (items : List Bytes) (v : Bytes) (found : list_found (live_at c t a) ≡ Ok (Some list)) (at : at_key lists m a ≡ Ok items) (stands : IsListAt c a list items) (first : (popped from items).0 ≡ Some v) where
    -- it is within its limits
    some : 0 < length items
    some =
        let within = (found_within c t a list found).some in
        let ends = stands.ends in
        omega (arith, within, ends)

    few : length items ≤ max_size
    few =
        let within = (found_within c t a list found).few in
        let ends = stands.ends in
        omega (arith, within, ends)

    version : IsTrue (is_version list.version)
    version = (found_within c t a list found).version

    -- its key is there
    there : has m a ≡ true
    there = seen_there means a ∙ ap is_some (list_meta (live_at c t a) list found).1

    -- the items that are left
    abbrev rest : List Bytes
    rest = (popped from items).1

    -- what the command comes to, by whether it names one key twice
    abbrev by_keys : List Bytes → Bool → Outcome (Reply × RedisMap)
    by_keys target one = cond one (change lists m a (pushed to rest (v ∷ [])) >>= λ n. Ok (reply.Bulk v, n)) (move_to m a b rest v to target)

    -- where the list has an item, that decides
    item_moves : (target : List Bytes) → at_key lists m b ≡ Ok target → carried_out m t d ≡ by_keys target (same a b)
    item_moves target at_b = comes_to (Ok items) (Ok target) there at at_b ∙ ap (λ p. moved m a b to p target) (with_first (popped from items) v first)

    -- ---- one key

    module _ (target : List Bytes) (one : same a b ≡ true) (at_b : at_key lists m b ≡ Ok target) where
      -- the items afterwards
      abbrev next : List Bytes
      next = pushed to rest (v ∷ [])

      -- the map afterwards
      abbrev left : RedisMap
      left = insert m a (record { value = ListOf next; deadline = deadline_at m a })

      next_length : length next ≡ length items
      next_length =
          let less = popped_size from items in
          let more = pushed_size to rest (v ∷ []) in
          omega (arith, less, more, some)

      next_some : 0 < length next
      next_some = omega (arith, next_length, some)

      next_few : length next ≤ max_size
      next_few = omega (arith, next_length, few)

      -- what the command comes to
      turned_is : change lists m a next ≡ Ok left
      turned_is = left_there m a next next_some next_few

      turned_done : carried_out m t d ≡ Ok (reply.Bulk v, left)
      turned_done = item_moves target at_b ∙ ap (by_keys target) one ∙ ap (λ (x : Outcome RedisMap). x >>= λ n. Ok (reply.Bulk v, n)) turned_is

      -- how the ends move
      turned_head : head_after m d a list.head ≡ head_pushed to 1 (head_popped from list.head)
      turned_head =
          moves.head m a list.head
          ∙ (λ i. cond (one i) (head_pushed to 1 (cond (same_itself a i) (head_popped from list.head) list.head)) (cond (same_itself a i) (head_popped from list.head) list.head))

      turned_room : IsTrue (end_has_room to (sight_popped from list) 1)
      turned_room = popped_room from to list (room_at Left) (room_at Right)
        where
          room_at : (end : End) → IsTrue (end_has_room end list 1)
          room_at end = room_ready c t fresh d a end (Some list) 1 ready (is_named a (first_among a b)) found (omega arith) (omega arith)

      turned_tail : tail_pushed to 1 (tail_popped from list.tail) ≡ head_pushed to 1 (head_popped from list.head) + length next
      turned_tail = pushed_tail to (sight_popped from list) rest (v ∷ []) (popped_tail from list items stands.ends some) turned_room

      turned_low : head_pushed to 1 (head_popped from list.head) + length next < 2 ^ 64
      turned_low = subst (λ (n : ℕ). n < 2 ^ 64) turned_tail (pushed_low to (sight_popped from list) 1 (popped_low from list stands.low) turned_room)

      -- what the plan does at the key, and at no other
      turned_part : PlansKey c t fresh m d (list_batch a old (sight_turned from to list) (turned_rows a from to list v)) a
      turned_part =
          list_part fresh d means a short (Some list) items next (head_pushed to 1 (head_popped from list.head)) (turned_rows a from to list v) (sight_turned from to list) left (reply.Bulk v)
          ready.fits moves.no_store found at stands turned_done (put_there m a (record { value = ListOf next; deadline = deadline_at m a })) (touched_key left (reply.Bulk v) a there turned_done (first_among a b)) turned_head
          next_some next_few turned_low (turned_changes c a short list items version stands from to v some first turned_room)
          (ap (λ (n : ℕ). record { version = list.version; head = head_pushed to 1 (head_popped from list.head); tail = n }) turned_tail)

      turned_elsewhere : (q : Bytes) → same q a ≡ false → IsFalse (touches m t d q)
      turned_elsewhere q apart =
          unchanged_stays m left t d (reply.Bulk v) q turned_done
          (ap (λ ks. among ks q) (again left there) ∙ (λ i. apart i || (same q (sym (same_is a b one) i) || false)) ∙ ap (λ s. s || false) apart)
          (sym (get-insert m a (record { value = ListOf next; deadline = deadline_at m a }) q ∙ ap (λ s. cond s (Some (record { value = ListOf next; deadline = deadline_at m a })) (get m q)) apart))

      -- the list is turned
      turned_plan : Plans (turning t a old from to list v)
      turned_plan =
          subst (λ (r : Bool). Plans (cond r (leaving t old old (reply.Error TooLarge)) (list_plan t a old (sight_turned from to list) (turned_rows a from to list v) (reply.Bulk v))))
          (sym (turned_short from to list (found_within c t a list found) turned_room))
          (subst (λ (ks : List Bytes). IsPlanOf c t fresh m d (list_batch a old (sight_turned from to list) (turned_rows a from to list v)) (reply.Bulk v) (least_above t (seen_deadlines c t ks)))
          (moves.keys ∙ ap (λ x. a ∷ x ∷ []) (sym (same_is a b one)))
          (one_key_plan fresh d a (list_batch a old (sight_turned from to list) (turned_rows a from to list v)) (reply.Bulk v) left means turned_done turned_part turned_elsewhere
          (λ q named. change_leaves lists m left a next q turned_is)))

    -- ---- two keys

    module _ (found_b : Option ListSight) (target : List Bytes) (apart : same a b ≡ false) (is_b : list_found (live_at c t b) ≡ Ok found_b) (at_b : at_key lists m b ≡ Ok target) (stands_b : IsListAt c b (list_on fresh found_b) target) where
      -- the second list, and its items afterwards
      abbrev list_b : ListSight
      list_b = list_on fresh found_b

      abbrev more : List Bytes
      more = pushed to target (v ∷ [])

      room : end_has_room to list_b 1 ≡ true
      room = room_ready c t fresh d b to found_b 1 ready (is_named b (second_among a b)) is_b (omega arith) (omega arith)

      more_length : length more ≡ (list_b.tail - list_b.head) + 1
      more_length =
          let ends = stands_b.ends in
          let long = pushed_size to target (v ∷ []) in
          omega (arith, ends, long)

      -- what the command comes to, once the item is taken
      brings : (n : RedisMap) (x : Outcome RedisMap) → change lists m a rest ≡ Ok n → change lists n b more ≡ x → carried_out m t d ≡ (x >>= λ o. Ok (reply.Bulk v, o))
      brings n x is then =
          item_moves target at_b ∙ ap (by_keys target) apart
          ∙ ap (λ (y : Outcome RedisMap). y >>= λ n. change lists n b more >>= λ o. Ok (reply.Bulk v, o)) is
          ∙ ap (λ (y : Outcome RedisMap). y >>= λ o. Ok (reply.Bulk v, o)) then

      -- the plan of a move with these rows at the first key, by whether the second list becomes too long
      abbrev with_rows : Batch → Bool → Plan
      with_rows rows long = cond long (leaving t old other (reply.Error TooLarge)) (record { reply = reply.Bulk v; batch = brought b other to list_b v rows; until = least_above t (old ∷ other ∷ []) })

      module _ (n : RedisMap) (rows : Batch) (is : change lists m a rest ≡ Ok n)
          (part : (o : RedisMap) → carried_out m t d ≡ Ok (reply.Bulk v, o) → get o a ≡ get n a → IsTrue (touches m t d a) → PlansKey c t fresh m d rows a) where
        -- the deadline of the second key stays
        deadline_stays : deadline_at n b ≡ deadline_at m b
        deadline_stays = ap (option_and_then (λ e. e.deadline)) (put_elsewhere lists m n a rest (deadline_at m a) b (put_is lists m n a rest (deadline_at m a) is) (apart_turned a b apart))

        -- what the second key holds then
        abbrev entry : Entry
        entry = record { value = ListOf more; deadline = deadline_at n b }

        -- an item more is not too many
        fits_more : nat_lt max_size ((list_b.tail - list_b.head) + 1) ≡ false → Plans (with_rows rows false)
        fits_more small =
            on_keys (brought b other to list_b v rows) (reply.Bulk v)
            (subst (λ (q : Batch). IsPlanOf c t fresh m d q (reply.Bulk v) (least_above t (seen_deadlines c t (keys_of d))))
            (joined_two rows (item_raw b list_b (next_index to list_b)) (meta_key b) (Some v) (Some (sight_text other (sight_pushed to 1 list_b))))
            (two_keys_plan fresh d a b rows (brought b other to list_b v empty) (reply.Bulk v) (insert n b entry) means done moves.keys apart
            (part (insert n b entry) done (get-insert n b entry a ∙ ap (λ s. cond s (Some entry) (get n a)) apart) (touched_key (insert n b entry) (reply.Bulk v) a there done (first_among a b)))
            (list_part fresh d means b fit found_b target more (head_pushed to 1 list_b.head) (insert empty (item_raw b list_b (next_index to list_b)) (Some v)) (sight_pushed to 1 list_b) (insert n b entry) (reply.Bulk v)
            ready.fits moves.no_store is_b at_b stands_b done
            (put_there n b entry ∙ ap (λ (dl : Option ℕ). Some (record { value = ListOf more; deadline = dl })) deadline_stays)
            (touched_key (insert n b entry) (reply.Bulk v) b there done (second_among a b)) head_b
            more_some more_few (subst (λ (e : ℕ). e < 2 ^ 64) tail_b (pushed_low to list_b 1 stands_b.low room))
            (brought_changes c b fit list_b target (on_fits c t fresh b found_b is_b ready.fits) stands_b to v room)
            (ap (λ (e : ℕ). record { version = list_b.version; head = head_pushed to 1 list_b.head; tail = e }) tail_b))
            (λ q named. leaves_then m n (insert n b entry) q (change_leaves lists m n a rest q is) (change_leaves lists n (insert n b entry) b more q put_b))))
          where
            more_some : 0 < length more
            more_some = omega (arith, more_length)

            more_few : length more ≤ max_size
            more_few = subst (λ (e : ℕ). e ≤ max_size) (sym more_length) (not_above ((list_b.tail - list_b.head) + 1) small)

            put_b : change lists n b more ≡ Ok (insert n b entry)
            put_b = left_there n b more more_some more_few

            done : carried_out m t d ≡ Ok (reply.Bulk v, insert n b entry)
            done = brings n (Ok (insert n b entry)) is put_b

            head_b : head_after m d b list_b.head ≡ head_pushed to 1 list_b.head
            head_b =
                moves.head m b list_b.head
                ∙ (λ i. cond (same_itself b i) (head_pushed to 1 (cond (apart_turned a b apart i) (head_popped from list_b.head) list_b.head)) (cond (apart_turned a b apart i) (head_popped from list_b.head) list_b.head))

            tail_b : tail_pushed to 1 list_b.tail ≡ head_pushed to 1 list_b.head + length more
            tail_b = pushed_tail to list_b target (v ∷ []) stands_b.ends room

        -- by the tests of the plan
        by_tests : (l r : Bool) → nat_lt max_size ((list_b.tail - list_b.head) + 1) ≡ l → end_has_room to list_b 1 ≡ r → Plans (with_rows rows (l || not r))
        by_tests true r e f =
            refused TooLarge (brings n (Err TooLarge) is (left_large n b more (subst (λ (x : ℕ). max_size < x) (sym more_length) (above ((list_b.tail - list_b.head) + 1) e))))
        by_tests false true e f = fits_more e
        by_tests false false e f = let no : true ≡ false = sym room ∙ f in absurd (cc)

        moved_with : Plans (with_rows rows (is_too_long to list_b 1))
        moved_with = by_tests (nat_lt max_size ((list_b.tail - list_b.head) + 1)) (end_has_room to list_b 1) refl refl

      -- the rows of the items that stay at the first key
      abbrev rows_left : Batch
      rows_left = insert empty (item_raw a list (end_index from list)) None

      -- by whether it was the last item
      by_last : (last : Bool) → (list.tail - list.head == 1) ≡ last → Plans (with_rows (cond last (meta_batch a None) (list_batch a old (sight_popped from list) rows_left)) (is_too_long to list_b 1))
      by_last true e =
          moved_with (remove m a) (meta_batch a None) (left_gone m a rest none)
          (λ o done same touch. gone_part a short touch (parts.left_gone means o d (reply.Bulk v) done a (same ∙ removed_there m a)))
        where
          none : rest ≡ []
          none =
              let less = popped_size from items in
              let ends = stands.ends in
              let last : list.tail - list.head ≡ 1 = number_is (list.tail - list.head) 1 e in
              no_items rest (omega (arith, less, ends, last))
      by_last false e =
          moved_with (insert m a stays) (list_batch a old (sight_popped from list) rows_left) (left_there m a rest rest_some rest_few)
          (λ o done same touch.
          list_part fresh d means a short (Some list) items rest (head_popped from list.head) rows_left (sight_popped from list) o (reply.Bulk v)
          ready.fits moves.no_store found at stands done (same ∙ put_there m a stays) touch head_a
          rest_some rest_few (subst (λ (x : ℕ). x < 2 ^ 64) tail_a (popped_low from list stands.low))
          (taken_changes c a short list items version stands from some)
          (ap (λ (x : ℕ). record { version = list.version; head = head_popped from list.head; tail = x }) tail_a))
        where
          stays : Entry
          stays = record { value = ListOf rest; deadline = deadline_at m a }

          rest_some : 0 < length rest
          rest_some =
              let less = popped_size from items in
              let ends = stands.ends in
              let several : list.tail - list.head ≢ 1 = other_number (list.tail - list.head) 1 e in
              omega (arith, less, ends, several, some)

          rest_few : length rest ≤ max_size
          rest_few =
              let less = popped_size from items in
              omega (arith, less, few)

          tail_a : tail_popped from list.tail ≡ head_popped from list.head + length rest
          tail_a = popped_tail from list items stands.ends some

          head_a : head_after m d a list.head ≡ head_popped from list.head
          head_a =
              moves.head m a list.head
              ∙ (λ i. cond (apart i) (head_pushed to 1 (cond (same_itself a i) (head_popped from list.head) list.head)) (cond (same_itself a i) (head_popped from list.head) list.head))

      -- the item is taken from one list and brought to the other
      moved_plan : Plans (moving t a b old other from to list list_b v)
      moved_plan = by_last (list.tail - list.head == 1) refl

    -- by whether the command names one key twice
    by_same : (found_b : Option ListSight) (target : List Bytes) → list_found (live_at c t b) ≡ Ok found_b → at_key lists m b ≡ Ok target → IsListAt c b (list_on fresh found_b) target
        → (one : Bool) → same a b ≡ one → Plans (cond one (turning t a old from to list v) (moving t a b old other from to list (list_on fresh found_b) v))
    by_same found_b target is_b at_b stands_b true e = turned_plan target e at_b
    by_same found_b target is_b at_b stands_b false e = moved_plan found_b target e is_b at_b stands_b

  -- ---- what is found

  -- by what is found at both keys
  by_found : (s u : Outcome (Option ListSight)) (x y : Outcome (List Bytes)) → list_found (live_at c t a) ≡ s → list_found (live_at c t b) ≡ u → at_key lists m a ≡ x → at_key lists m b ≡ y → SeesList c a s x → SeesList c b u y
      → Plans (by_lists t old other (λ list target. moving_item t a b old other from to list (list_on fresh target) (item_found (item_at_end c a from) s)) s u)
  by_found (Err e) u (Err x) y is is_b at at_b sees sees_b =
      subst (λ (f : ReplyError). Plans (leaving t old other (reply.Error f))) (sym sees) (refused x (comes_to (Err x) y (seen_there means a ∙ list_there (live_at c t a) e is) at at_b))
  by_found (Err e) u (Ok items) y is is_b at at_b sees sees_b = absurd sees
  by_found (Ok found) u (Err x) y is is_b at at_b sees sees_b = absurd sees
  by_found (Ok None) u (Ok items) y is is_b at at_b sees sees_b = not_there (none_meta (live_at c t a) is)
  by_found (Ok (Some list)) (Err e) (Ok items) (Err y) is is_b at at_b sees sees_b =
      subst (λ (f : ReplyError). Plans (leaving t old other (reply.Error f))) (sym sees_b)
      (refused y (comes_to (Ok items) (Err y) (seen_there means a ∙ ap is_some (list_meta (live_at c t a) list is).1) at at_b))
  by_found (Ok (Some list)) (Err e) (Ok items) (Ok target) is is_b at at_b sees sees_b = absurd sees_b
  by_found (Ok (Some list)) (Ok found) (Ok items) (Err y) is is_b at at_b sees sees_b = absurd sees_b
  by_found (Ok (Some list)) (Ok found) (Ok items) (Ok target) is is_b at at_b sees sees_b =
      let within = (found_within c t a list is).some in
      let ends = sees.ends in
      let item = popped_there c a list items from sees (omega (arith, within, ends)) in
      subst (λ (o : Option Bytes). Plans (moving_item t a b old other from to list (list_on fresh found) o)) (sym item.2)
      (by_same list items item.0 is at sees item.1 found target is_b at_b (list_stands c b fresh found target sees_b ready.fits (ready.above b (is_named b (second_among a b)))) (same a b) refl)

-- A command that moves an item has this plan.
pub move_carries : (c : Rows) (t fresh : ℕ) (d : Command) (a b : Bytes) (from to : End) → Moves t d a b from to → IsTrue (is_key a) → IsTrue (is_key b) → Carries c t fresh d (move_plan c t fresh a b from to)
unfolding move_plan
move_carries c t fresh d a b from to moves short fit = record {
  plan = λ m means ready.
      by_found fresh moves short fit means ready (list_found (live_at c t a)) (list_found (live_at c t b)) (at_key lists m a) (at_key lists m b) refl refl refl refl (sees_list means a) (sees_list means b);
}

-- ---- both commands

r_pop_l_push_moves : (t : ℕ) (a b : Bytes) (w : ℕ) → Moves t (cmd.RPopLPush a b w) a b Right Left
unfolding carried_out head_after
r_pop_l_push_moves t a b w = record { keys = refl; no_store = refl; is = λ m. refl; again = λ m n. refl; head = λ m k h. refl }

l_move_moves : (t : ℕ) (a b : Bytes) (from to : End) (w : ℕ) → Moves t (cmd.LMove a b from to w) a b from to
unfolding carried_out head_after
l_move_moves t a b from to w = record { keys = refl; no_store = refl; is = λ m. refl; again = λ m n. refl; head = λ m k h. refl }

-- two names are keys
first_fits : (a b : Bytes) → All IsName (a ∷ b ∷ []) → IsTrue (is_key a)
first_fits a b names = name_is_key a (All-head IsName a (b ∷ []) names)

second_fits : (a b : Bytes) → All IsName (a ∷ b ∷ []) → IsTrue (is_key b)
second_fits a b names = name_is_key b (All-head IsName b [] (All-tail IsName a (b ∷ []) names))

pub r_pop_l_push_carries : (c : Rows) (t fresh : ℕ) (a b : Bytes) (w : ℕ) → IsWithin (cmd.RPopLPush a b w) → Carries c t fresh (cmd.RPopLPush a b w) (move_plan c t fresh a b Right Left)
r_pop_l_push_carries c t fresh a b w within =
    move_carries c t fresh (cmd.RPopLPush a b w) a b Right Left (r_pop_l_push_moves t a b w) (first_fits a b within.names) (second_fits a b within.names)

pub l_move_carries : (c : Rows) (t fresh : ℕ) (a b : Bytes) (from to : End) (w : ℕ) → IsWithin (cmd.LMove a b from to w) → Carries c t fresh (cmd.LMove a b from to w) (move_plan c t fresh a b from to)
l_move_carries c t fresh a b from to w within =
    move_carries c t fresh (cmd.LMove a b from to w) a b from to (l_move_moves t a b from to w) (first_fits a b within.names) (second_fits a b within.names)
