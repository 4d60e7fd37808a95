-- Laws on what stands in `IssuedLists.antt`.
use Rattle.std.proofs.Common.{◌≡◌, ℕ, ◌+◌, ◌-◌, ◌*◌, ◌^◌, ◌≤◌, List, [], ◌∷◌, refl, sym, ap, subst, ◌∙◌, Bool, true, false, cond, length, inl, inr, arith}
use Rattle.std.proofs.lemmas.List.Sums.{sum_by-cons}
use Rattle.std.specs.Prelude.{Option, Some, None, IfSome, not, ◌&&◌, sum_by}
use Rattle.kv_base.specs.Map.{Bytes, get, empty}
use Rattle.kv_base.specs.InversionLaws.{kept_is}
use Rattle.kv_base.specs.MetaValues.{MetaValue, StringValue, LifeValue, ListValue}
use Rattle.batch_codec.specs.Batches.{Batch, after, joined}
use Rattle.redis_model.specs.declared.reply.Reply.{Reply}
use Rattle.redis_model.specs.declared.command.Command.{Command}
use Rattle.redis_model.specs.declared.command.Cmds.{Cmds}
use Rattle.redis_model.specs.declared.command.Cmds.TheVariants.{One, Many}
use Rattle.redis_model.specs.Value.{Value, Str, Hash, ListOf, SetOf, ZSet, Entry, RedisMap, lives}
use Rattle.redis_model.specs.Apply.{apply}
use Rattle.redis_model.specs.Machine.{apply_alive}
use Rattle.lives_model.specs.Rows.{Rows}
use Rattle.lives_model.specs.Clean.{live_at}
use Rattle.lives_model.specs.Means.{Means, MeansAt, LifeAt, meta_for}
use Rattle.lives_model.specs.Moved.{items_in, items_of, head_after}
use Rattle.lives_model.specs.Plans.{version, is_store, same_type, holds_type, new_life, life_in, life_after, LeavesEntry, KeyPlan, IsStep, IsPlanFor, PlannedPart, AreParts, join_parts, words, AreAsked, touches}
use Rattle.lives_model.specs.Issued.{meta_at, IsNearMiddle, HasListsWithin, IsIssued}
use Rattle.lives_model.specs.StepLaws.{applied, get-alive, step_means}
use Rattle.lives_model.specs.JoinedBatchLaws.{after-empty, after-joined}
use Rattle.lives_model.specs.IssuedLaws.{live_is_meta, meta_still, meta_gone, meta_put, plan_issues_versions}
use Rattle.lives_model.specs.ListEndLaws.{items_at, head_low, tail_high, stored_no_items, stored_head}
use Rattle.lives_model.specs.IssuedLists.{IsLiveOrNew, IsMoved}

-- ---- how far the ends of a list move

-- a key's life goes on with the live list, or it starts with a new one
life_was : (c : Rows) (t fresh : ℕ) (k : Bytes) (o : Option Entry) (new : List Bytes) → MeansAt c t k o
    → IsLiveOrNew (live_at c t k) (cond (holds_type o (ListOf new)) (life_in (live_at c t k) (new_life fresh)) (new_life fresh)).head (length (items_of o))
life_was c t fresh k None new stands = inr (refl, refl)
life_was c t fresh k (Some e) new stands = by_value e.value stands.life stands.expire stands.meta
  where
    by_value : (v : Value) (life : LifeAt) (expire : ℕ) → live_at c t k ≡ Some (meta_for v life expire)
        → IsLiveOrNew (live_at c t k) (cond (same_type v (ListOf new)) (life_in (live_at c t k) (new_life fresh)) (new_life fresh)).head (length (items_in v))
    by_value (ListOf l) life expire meta = subst (λ (o : Option MetaValue). IsLiveOrNew o (life_in o (new_life fresh)).head (length l)) (sym meta) (inl (record { expire = expire; version = life.version; is = refl }))
    by_value (Str v) life expire meta = inr (refl, refl)
    by_value (Hash v) life expire meta = inr (refl, refl)
    by_value (SetOf v) life expire meta = inr (refl, refl)
    by_value (ZSet v) life expire meta = inr (refl, refl)

-- the ends of the list that a command leaves at a key that it touches have moved outwards by no more than it has words
pub list_moved : (c : Rows) (t fresh : ℕ) (m : RedisMap) (d : Command) (k : Bytes) (e : Entry) (l : List Bytes) → Means c t m → touches m t d k ≡ true → get (apply m t d).1 k ≡ Some e → e.value ≡ ListOf l
    → IsMoved (live_at c t k) (words d) (life_after c t fresh m d k (ListOf l)).head (length l)
unfolding life_after
list_moved c t fresh m d k e l means on there is = by_store (is_store d) refl
  where
    items : items_at k (apply m t d).1 ≡ length l
    items = ap (λ o. length (items_of o)) there ∙ ap (λ v. length (items_in v)) is

    by_store : (b : Bool) → is_store d ≡ b
        → IsMoved (live_at c t k) (words d) (head_after m d k (cond (not b && holds_type (get m k) (ListOf l)) (life_in (live_at c t k) (new_life fresh)) (new_life fresh)).head) (length l)
    by_store true store =
        let none : 0 ≡ length l = sym (stored_no_items m t d k store on) ∙ items in
        let head = stored_head m d k (2 ^ 63) store in
        record { old_head = 2 ^ 63; old_items = 0; was = inr (refl, refl); low = omega arith; high = omega arith }
    by_store false other =
        let head : ℕ = (cond (holds_type (get m k) (ListOf l)) (life_in (live_at c t k) (new_life fresh)) (new_life fresh)).head in
        let low = head_low m d k head in
        let high = tail_high m t d k e head on there in
        record { old_head = head; old_items = items_at k m; was = life_was c t fresh k (get m k) l (means.stands k); low = low; high = omega (arith, items, high) }

-- ---- near the middle

-- a list that was near the middle is no further from it than its ends have moved
moved_near : (distance n head items : ℕ) (live : Option MetaValue) → IfSome live (IsNearMiddle distance) → IsMoved live n head items → (2 ^ 63 ≤ head + (distance + n)) × (head + items ≤ 2 ^ 63 + (distance + n))
moved_near distance n head items live near moved = by_was moved.was
  where
    by_was : IsLiveOrNew live moved.old_head moved.old_items → (2 ^ 63 ≤ head + (distance + n)) × (head + items ≤ 2 ^ 63 + (distance + n))
    by_was (inl list) =
        let ends : (2 ^ 63 ≤ moved.old_head + distance) × (moved.old_head + moved.old_items ≤ 2 ^ 63 + distance) = subst (λ (o : Option MetaValue). IfSome o (IsNearMiddle distance)) list.is near in
        let low = moved.low in
        let high = moved.high in
        let start = ends.0 in
        let end = ends.1 in
        (omega arith, omega arith)
    by_was (inr (head_is, none)) =
        let low = moved.low in
        let high = moved.high in
        (omega arith, omega arith)

module _ (c : Rows) (distance : ℕ) (lists : HasListsWithin c distance) where
  -- a live list is near it
  live_near : (t : ℕ) (k : Bytes) → IfSome (live_at c t k) (IsNearMiddle distance)
  live_near t k = by_live (live_at c t k) refl
    where
      by_live : (o : Option MetaValue) → live_at c t k ≡ o → IfSome o (IsNearMiddle distance)
      by_live None e = tt
      by_live (Some meta) e = subst (λ (o : Option MetaValue). IfSome o (IsNearMiddle distance)) (live_is_meta c t k meta e) (lists.meta k)

  -- what a step leaves of a touched key's metadata
  leaves_near : (t fresh : ℕ) (m : RedisMap) (d : Command) (b : Batch) (k : Bytes) (o : Option Entry) → Means c t m → touches m t d k ≡ true → get (apply_alive m t d).1 k ≡ o → LeavesEntry c t fresh m d b k o
      → IfSome (meta_at (after c b) k) (IsNearMiddle (distance + words d))
  leaves_near t fresh m d b k None means on is l = subst (λ o. IfSome o (IsNearMiddle (distance + words d))) (sym (meta_gone c b k l.meta)) tt
  leaves_near t fresh m d b k (Some e) means on is l =
      subst (λ o. IfSome o (IsNearMiddle (distance + words d))) (sym (meta_put c b k _ l.meta l.fits)) (by_value e.value refl)
    where
      there : get (apply m t d).1 k ≡ Some e
      there = (kept_is (λ e. lives t e.deadline) (get (apply m t d).1 k) e
          (sym (get-alive (apply m t d).1 t k) ∙ ap (λ (r : Reply × RedisMap). get r.1 k) (sym (applied c t m d means)) ∙ is)).0

      by_value : (v : Value) → e.value ≡ v → IsNearMiddle (distance + words d) (meta_for v (life_after c t fresh m d k v) l.expire)
      by_value (ListOf items) value = moved_near distance (words d) _ (length items) (live_at c t k) (live_near t k) (list_moved c t fresh m d k e items means on there value)
      by_value (Str v) value = tt
      by_value (Hash v) value = tt
      by_value (SetOf v) value = tt
      by_value (ZSet v) value = tt

  -- metadata that is near the middle is no further from it than more
  nearer : (n : ℕ) (o : Option MetaValue) → IfSome o (IsNearMiddle distance) → IfSome o (IsNearMiddle (distance + n))
  nearer n None near = tt
  nearer n (Some (ListValue expire version head tail)) near = let low = near.0 in let high = near.1 in (omega arith, omega arith)
  nearer n (Some (StringValue expire payload)) near = tt
  nearer n (Some (LifeValue kind expire version size)) near = tt

  -- a step moves the ends of a list outwards by no more than its command has words
  pub step_near : (t fresh : ℕ) (m : RedisMap) (d : Command) (b : Batch) (answer : Reply) → Means c t m → IsStep c t fresh m d b answer → HasListsWithin (after c b) (distance + words d)
  step_near t fresh m d b answer means s = record { meta = λ k. by_plan k (s.keys k) }
    where
      by_plan : (k : Bytes) → KeyPlan c t fresh m d b k → IfSome (meta_at (after c b) k) (IsNearMiddle (distance + words d))
      by_plan k (inl p) = subst (λ o. IfSome o (IsNearMiddle (distance + words d))) (sym (meta_still c b k p.1.meta)) (nearer (words d) (meta_at c k) (lists.meta k))
      by_plan k (inr p) = leaves_near t fresh m d b k (get (apply_alive m t d).1 k) means p.0 refl p.1

-- lists within a distance are within a greater one
within_more : (c : Rows) (distance more : ℕ) → distance ≤ more → HasListsWithin c distance → HasListsWithin c more
within_more c distance more h lists =
    let e : distance + (more - distance) ≡ more = omega arith in
    subst (HasListsWithin c) e (record { meta = λ k. nearer c distance lists (more - distance) (meta_at c k) (lists.meta k) })

-- parts move the ends of a list by no more than their commands have words together
parts_near : (c : Rows) (distance t base i : ℕ) (m : RedisMap) (ds : List Command) (b : Batch) (ps : List PlannedPart) → HasListsWithin (after c b) distance → Means (after c b) t m → AreParts (after c b) t base i m ds ps
    → HasListsWithin (after c (join_parts b ps)) (distance + sum_by words ds)
parts_near c distance t base i m [] b [] lists means are = within_more (after c b) distance (distance + 0) (omega arith) lists
parts_near c distance t base i m [] b (p ∷ ps) lists means are = absurd are
parts_near c distance t base i m (d ∷ ds) b [] lists means are = absurd are
parts_near c distance t base i m (d ∷ ds) b (p ∷ ps) lists means are =
    let next = after-joined c b p.batch in
    let sum = sum_by-cons words d ds in
    within_more (after c (join_parts (joined b p.batch) ps)) ((distance + words d) + sum_by words ds) (distance + sum_by words (d ∷ ds)) (omega arith)
    (parts_near c (distance + words d) t base (i + 1) (apply_alive m t d).1 ds (joined b p.batch) ps
    (subst (λ (e : Rows). HasListsWithin e (distance + words d)) (sym next) (step_near (after c b) distance lists t (version base i) m d p.batch p.reply means are.0.step))
    (subst (λ (e : Rows). Means e t (apply_alive m t d).1) (sym next) (step_means (after c b) t (version base i) m d p.batch p.reply means are.0.step))
    (subst (λ (e : Rows). AreParts e t base (i + 1) (apply_alive m t d).1 ds ps) (sym next) are.1))

-- a plan moves the ends of a list outwards by 2^20 at most
pub plan_keeps_lists_near : (c : Rows) (t sequence distance : ℕ) (m : RedisMap) (ds : Cmds) (b : Batch) (answer : Reply) (until : Option ℕ) → AreAsked ds → Means c t m → HasListsWithin c distance
    → IsPlanFor c t sequence m ds b answer until → HasListsWithin (after c b) (distance + 2 ^ 20)
plan_keeps_lists_near c t sequence distance m (One d) b answer until asked means lists plan =
    let few = asked.0.few in
    within_more (after c b) (distance + words d) (distance + 2 ^ 20) (omega arith) (step_near c distance lists t (version sequence 0) m d b answer means plan.step)
plan_keeps_lists_near c t sequence distance m (Many ds) b answer until asked means lists plan =
    let start = after-empty c in
    let few = asked.2 in
    subst (λ (n : Batch). HasListsWithin (after c n) (distance + 2 ^ 20)) (sym plan.batch)
    (within_more (after c (join_parts empty plan.parts)) (distance + sum_by words ds) (distance + 2 ^ 20) (omega arith)
    (parts_near c distance t sequence 0 m ds empty plan.parts
    (subst (λ (e : Rows). HasListsWithin e distance) (sym start) lists)
    (subst (λ (e : Rows). Means e t m) (sym start) means)
    (subst (λ (e : Rows). AreParts e t sequence 0 m ds plan.parts) (sym start) plan.plans)))

-- so the rows after a plan are issued up to its sequence
pub plan_issues_rows : (c : Rows) (t sequence : ℕ) (m : RedisMap) (ds : Cmds) (b : Batch) (answer : Reply) (until : Option ℕ) → AreAsked ds → Means c t m → IsIssued c sequence
    → IsPlanFor c t sequence m ds b answer until → IsIssued (after c b) (sequence + 1)
plan_issues_rows c t sequence m ds b answer until asked means issued plan =
    let more : sequence * 2 ^ 20 + 2 ^ 20 ≡ (sequence + 1) * 2 ^ 20 = omega arith in record {
      versions = plan_issues_versions c t sequence m ds b answer until asked issued.versions plan;
      lists = subst (HasListsWithin (after c b)) more (plan_keeps_lists_near c t sequence (sequence * 2 ^ 20) m ds b answer until asked means issued.lists plan);
    }
